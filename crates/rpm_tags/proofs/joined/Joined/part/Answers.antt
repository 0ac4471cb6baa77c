use Rattle.std.proofs.Common.{arith}
use Rattle.rpm_tags.proofs.Parts.{part_here}
use Rattle.rpm_tags.proofs.joined.Joined.part.Goals as goal

pub returns-in-Text-clause-value : goal.returns-in-Text-clause-value
returns-in-Text-clause-value c =
    part_here c.self.inside.count c.args.k c.self.inside.parts _ _ _ c.self.view_is c.self.invariant.nine c.self.invariant.room (omega arith) c.in-Text.is

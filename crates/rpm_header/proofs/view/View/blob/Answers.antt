use Rattle.std.proofs.Common.{ap, ◌∙◌, Ok}
use Rattle.rpm_header.proofs.Cut.{again}
use Rattle.rpm_header.proofs.view.View.blob.Goals as goal

pub returns-clause-again : goal.returns-clause-again
returns-clause-again c = again c.self.inside.count c.self.inside.blob.now c.self.invariant ∙ ap Ok c.self.view_is

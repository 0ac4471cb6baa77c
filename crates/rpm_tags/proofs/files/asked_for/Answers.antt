use Rattle.std.proofs.Common.{◌+◌, arith, refl, sym, subst}
use Rattle.rpm_tags.proofs.Vocabulary.{AreAsked}
use Rattle.std.specs.Prelude.{List, ℕ}
use Rattle.rpm_tags.proofs.Asked.{are_asked}
use Rattle.rpm_tags.proofs.files.asked_for.Goals as goal

pub returns-then-high-count : goal.returns-then-high-count
returns-then-high-count c =
    subst (λ (asked : List (List ℕ)). AreAsked c.args.dirs asked c.args.indexes.now c.args.bases.now) (sym c.first.ensures)
    (are_asked c.args.dirs c.highest-high.result (c.highest-high.result + 1) c.args.indexes.now c.args.bases.now refl (omega arith)
    c.highest-high.ensures (omega arith))

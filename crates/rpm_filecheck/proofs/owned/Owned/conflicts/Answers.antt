use Rattle.std.proofs.Common.{ℕ, List, sym, ap, ◌∙◌}
use Rattle.std.specs.Prelude.{Vec}
use Rattle.rpm_filecheck.proofs.Vocabulary.{Conflict, conflicts_on, flat_map, Global, Owner, OwnedPaths}
use Rattle.std.proofs.lemmas.List.Folds.{flat_map-map}
use Rattle.std.proofs.lemmas.Result.{IfOk-weaker}
use Rattle.rpm_filecheck.proofs.owned.Owned.conflicts.Goals as goal

pub returns : goal.returns
returns c =
    let on : List ℕ × List Owner → List Conflict = λ e. conflicts_on e.0 e.1 in
    let shown : Vec ℕ Global × List Owner → List ℕ × List Owner = λ e. (e.0.items, e.1) in
    IfOk-weaker c.conflicts_in.result _ _ (λ v is.
    is ∙ sym (flat_map-map on shown c.self.inside.paths.entries) ∙ ap (λ (es : OwnedPaths). flat_map on es) c.self.view_is) c.conflicts_in.ensures

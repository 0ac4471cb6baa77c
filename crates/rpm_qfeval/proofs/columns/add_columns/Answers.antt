use Rattle.std.proofs.Common.{◌≡◌, ℕ, ◌<◌, List, length, Option, Some, get_or, sym, subst, ◌∙◌, arith}
use Rattle.std.specs.Prelude.{IfSome}
use Rattle.std.specs.List.{All}
use Rattle.std.proofs.lemmas.List.Elements.{All-get_or, All-push}
use Rattle.rpm_qfeval.specs.Prelude.{Found, IsValue}
use Rattle.rpm_qfeval.proofs.columns.add_columns.Goals as goal
use Rattle.rpm_qfeval.proofs.columns.add_columns.Goals.{in-Some+then-not-is_full, in-Some+else-not-is_full, in_default}

-- What is so of each value of a list is so of the one at a place.
held : {X : Type 0} (P : X → Type 0) (xs : List (Option X)) (k : ℕ) (o : Option X) (x : X) → k < length xs
    → All (λ (q : Option X). IfSome q P) xs → o ≡ get_or xs k o → o ≡ Some x → P x
held {X} P xs k o x below all at is =
    subst (λ (q : Option X). IfSome q P) (sym at ∙ is) (All-get_or (λ (q : Option X). IfSome q P) xs k o below all)

pub loop-found-preserved : goal.loop-found-preserved
loop-found-preserved g c = elim c.match-found.branch [
  | in-Some+then-not-is_full w ↦
      (let P = IsValue c.args.view.now c.args.number in
      let within : c.loop-found.found-index < length c.args.found.now = omega arith in
      let own : P w.in-Some.found =
      held P c.args.found.now c.loop-found.found-index c.found-item.result w.in-Some.found within c.requires.found c.found-item.is w.in-Some.is in
      rw (w.columns-is, w.push.ensures.items, w.new.ensures)
      (All-push (λ (q : Option Found). IfSome q P) c.loop-found.columns.items (Some w.in-Some.found) c.loop-found.invariant own))
  | in-Some+else-not-is_full w ↦ rw w.columns-is c.loop-found.invariant
  | in_default w ↦ rw w.columns-is c.loop-found.invariant
]

use Rattle.std.proofs.Common.{◌≡◌, ℕ, ◌<◌, ◌∷◌, [], List, length, get_or, inl, inr, ap, ◌∙◌, arith}
use Rattle.std.proofs.lemmas.Bool.{cases_lt}
use Rattle.std.proofs.lemmas.List.{get_or_default, get_or_append_left, get_or_push, length_push}
use Rattle.rpm_graph.proofs.Vocabulary.{least, row_lists}
use Rattle.rpm_graph.proofs.Steps.{row_read}
use Rattle.rpm_graph.proofs.grouping.least_numbers.Goals as goal

pub index-requires : goal.index-requires
index-requires c =
    let i = c.loop-class.class-index in
    let item = c.class-item.result in
    let lt : i < length c.args.members.now = omega arith in
    let row : item.items ≡ get_or (row_lists c.args.members.now) i [] = row_read c.args.members.now i item lt c.class-item.is in
    omega (arith, c.requires i lt, ap length row, item.ok.0)

pub loop-class-preserved : goal.loop-class-preserved
loop-class-preserved c =
    let i = c.loop-class.class-index in
    let members = c.args.members.now in
    let item = c.class-item.result in
    let lt : i < length members = omega arith in
    let row : item.items ≡ get_or (row_lists members) i [] = row_read members i item lt c.class-item.is in
    let some : 0 < length item.items = omega (arith, c.requires i lt, ap length row) in
    let x = c.index.result.now in
    let value : x ≡ least (get_or (row_lists members) i [])
    = c.index.ensures ∙ get_or_default item.items 0 x 0 some ∙ ap (λ (l : List ℕ). get_or l 0 0) row in
    let xs = c.loop-class.leasts.items in
    let long : length xs ≡ i = c.loop-class.invariant.sized in
    record {
      sized = omega (arith, ap length c.in_ok-push.ensures.items, length_push xs x, long);
      leasts = λ k less. rw c.in_ok-push.ensures.items (elim (cases_lt k i) [
        | inl before ↦ get_or_append_left xs (x ∷ []) 0 k (omega (arith, before, long)) ∙ c.loop-class.invariant.leasts k before
        | inr end ↦
            let here : i ≡ k = omega (arith, less, end) in
            get_or_push xs x 0 k (long ∙ here) ∙ value ∙ ap (λ j. least (get_or (row_lists members) j [])) here
      ]);
    }

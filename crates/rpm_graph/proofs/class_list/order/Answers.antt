use Rattle.std.proofs.Common.{◌≡◌, ℕ, ◌<◌, [], length, get_or, map, sym, ap, subst, ◌∙◌, arith}
use Rattle.std.proofs.lemmas.List.{length-map, get_or_default}
use Rattle.rpm_graph.proofs.Vocabulary.{AreFalling, AreLeastNumbers, AreWithin, HaveEnds, HaveMembers, IsListing, IsNetwork, IsOrder, IsSplit, least, row_lists}
use Rattle.rpm_graph.proofs.Bridge.{members_are_class}
use Rattle.rpm_graph.proofs.Classing.{ends_fall}
use Rattle.rpm_graph.proofs.Laws.{stand_once, edges_go_back}
use Rattle.rpm_graph.proofs.Only.{only_order}
use Rattle.rpm_graph.proofs.Ordering.{class_at, order_then}
use Rattle.rpm_graph.proofs.class_list.order.Goals as goal

pub find_classes-requires-clause-within : goal.find_classes-requires-clause-within
find_classes-requires-clause-within c = subst (λ l. AreWithin (row_lists l)) (sym c.deref.ensures.value) c.in_ok-rows.ensures.within

pub class_rows-requires-clause-within : goal.class_rows-requires-clause-within
class_rows-requires-clause-within c = subst (λ l. AreWithin (row_lists l)) (sym c.deref-2.ensures.value) c.in_ok-rows.ensures.within

pub least_numbers-requires : goal.least_numbers-requires
least_numbers-requires c = λ x lt.
    let g = c.args.graph.now in
    let net : IsNetwork g = c.numbers.ensures.network in
    let rows = row_lists c.in_ok-rows.rows.items in
    let have = c.in_ok-rows.ensures in
    let classes = c.in_ok-split.split.classes.items in
    let count = c.in_ok-split.split.count in
    let split = subst (λ l. IsSplit (row_lists l) classes count) c.deref.ensures.value c.in_ok-split.ensures in
    let members = row_lists c.in_ok-members.members.items in
    let grouped = subst (λ l. HaveMembers l classes (length l) members) c.numbers.ensures.numbers c.in_ok-members.ensures.members in
    let inside : x < count
    = omega (arith, lt, ap length c.deref-3.ensures.value, c.in_ok-members.ensures.sized, length-map c.in_ok-members.members.items (λ r. r.items)) in
    subst (λ l. 0 < length (get_or (row_lists l) x [])) (sym c.deref-3.ensures.value)
    (members_are_class g net rows have classes count split members grouped x inside).some

pub list_classes-requires-clause-falls : goal.list_classes-requires-clause-falls
list_classes-requires-clause-falls c =
    let rows = row_lists c.in_ok-rows.rows.items in
    let classes = c.in_ok-split.split.classes.items in
    let count = c.in_ok-split.split.count in
    let split = subst (λ l. IsSplit (row_lists l) classes count) c.deref.ensures.value c.in_ok-split.ensures in
    let ends = row_lists c.in_ok-ends.ends.items in
    let ended = subst (λ n. HaveEnds rows classes n ends) (sym (length-map c.in_ok-rows.rows.items (λ r. r.items)))
    (subst (λ l. HaveEnds (row_lists l) classes (length l) ends) c.deref-2.ensures.value c.in_ok-ends.ensures.ends) in
    subst (λ l. AreFalling (row_lists l)) (sym c.deref-4.ensures.value) (ends_fall rows classes count ends split ended)

pub invariant_of-result : goal.invariant_of-result
invariant_of-result c = λ k d lt.
    let within = (c.in_ok-order.ensures.each k lt).ready.within in
    omega (
      arith,
      within,
      get_or_default c.in_ok-order.order.items k d 0 lt,
      length-map c.deref-4.result.now (λ r. r.items),
      ap length c.deref-4.ensures.value,
      c.in_ok-ends.ensures.sized,
      c.in_ok-members.ensures.sized,
      length-map c.in_ok-members.members.items (λ r. r.items),
    )

pub returns : goal.returns
returns c =
    let g = c.args.graph.now in
    let net : IsNetwork g = c.numbers.ensures.network in
    let rows = row_lists c.in_ok-rows.rows.items in
    let have = c.in_ok-rows.ensures in
    let classes = c.in_ok-split.split.classes.items in
    let count = c.in_ok-split.split.count in
    let split = subst (λ l. IsSplit (row_lists l) classes count) c.deref.ensures.value c.in_ok-split.ensures in
    let members = row_lists c.in_ok-members.members.items in
    let grouped = subst (λ l. HaveMembers l classes (length l) members) c.numbers.ensures.numbers c.in_ok-members.ensures.members in
    let ends = row_lists c.in_ok-ends.ends.items in
    let ended = subst (λ n. HaveEnds rows classes n ends) (sym (length-map c.in_ok-rows.rows.items (λ r. r.items)))
    (subst (λ l. HaveEnds (row_lists l) classes (length l) ends) c.deref-2.ensures.value c.in_ok-ends.ensures.ends) in
    let leasts = c.in_ok-leasts.leasts.items in
    let order = c.in_ok-order.order.items in
    let sized : length ends ≡ count = length-map c.in_ok-ends.ends.items (λ r. r.items) ∙ c.in_ok-ends.ensures.sized in
    let read = subst (λ l. AreLeastNumbers (row_lists l) (length l) leasts) c.deref-3.ensures.value c.in_ok-leasts.ensures.leasts in
    let leasts_are : (x : ℕ) → x < count → get_or leasts x 0 ≡ least (get_or members x [])
    = λ x lt. read x (omega (arith, lt, c.in_ok-members.ensures.sized, length-map c.in_ok-members.members.items (λ r. r.items))) in
    let listing = subst (λ l. IsListing (row_lists l) leasts order) c.deref-4.ensures.value
    (subst (λ l. IsListing (row_lists c.deref-4.result.now) l order) c.deref-5.ensures.value c.in_ok-order.ensures) in
    let found : IsOrder g (map (class_at members) order)
    = order_then g net rows have classes count split members grouped ends sized ended leasts leasts_are order listing in
    record {
      order = found;
      only = λ other is. only_order g (map (class_at members) order) other found is;
      once = stand_once g (map (class_at members) order) found;
      back = edges_go_back g (map (class_at members) order) found;
    }

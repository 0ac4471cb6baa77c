use Rattle.std.proofs.Common.{◌≡◌, ℕ, ◌<◌, ◌++◌, ◌∷◌, [], true, false, suc, length, set, inl, inr, refl, sym, ap, subst, ◌∙◌, arith}
use Rattle.rpm_graph.proofs.Vocabulary.{Contains, IsReadyOrWaits, listed_at, Listing, row_lists}
use Rattle.std.proofs.lemmas.Bool.{cases_lt, cases_eq}
use Rattle.std.proofs.lemmas.List.{length-map}
use Rattle.std.proofs.lemmas.List.Elements.{Contains-append_left, Contains-push, Contains-push_cases}
use Rattle.rpm_graph.proofs.Beginning.{none_listed}
use Rattle.rpm_graph.proofs.Marking.{marked_there, marked_stays, marked_other, marked_fewer}
use Rattle.rpm_graph.proofs.Popping.{popped_class, popped_underway, popped_taken, popped_placed, is_least, least_more, all_listed}
use Rattle.rpm_graph.proofs.listing.list_classes.Goals.{After-listing-in-Some-1}
use Rattle.rpm_graph.proofs.listing.list_classes.Goals as goal

pub loop-first-init : goal.loop-first-init
loop-first-init c =
    let b = c.in_ok-listing.ensures in
    let n = length c.args.ends.now in
    let free : (x : ℕ) → listed_at c.in_ok-listing.listing.listed.items x ≡ false = λ x. ap (λ l. listed_at l x) b.listed ∙ none_listed n x in
    record {
      underway = b.underway;
      placed = b.placed;
      there = λ x has. absurd (omega (arith, has.1, ap length c.in_ok-order.ensures.items));
      back = λ x there. let waiting_still = free x in absurd (cc);
      each = λ k lt. absurd (omega (arith, lt, ap length c.in_ok-order.ensures.items));
    }

pub list-requires : goal.list-requires
list-requires c =
    let ends = row_lists c.args.ends.now in
    let leasts = c.args.leasts.now in
    let s = c.loop-first.listing in
    let t : Listing = record { checked = s.checked; waiting = s.waiting; listed = s.listed; ready = c.pop_first.new.self } in
    let inv = c.loop-first.invariant in
    let n = c.in-Some.first.0 in
    let class = c.in-Some.first.1 in
    let removed = c.in-Some.ensures.removal in
    let above = c.in-Some.ensures.all_above in
    let class_is = popped_class ends leasts s t inv.underway n class refl refl refl removed above in
    record {
      underway = popped_underway ends leasts s t inv.underway n class refl refl refl removed above;
      falls = c.requires.falls;
      inside = omega (arith, class_is.0, length-map c.args.ends.now (λ r. r.items));
      sized = c.requires.sized;
      unlisted = class_is.2;
      ends_listed = class_is.3;
      taken = popped_taken ends leasts s t inv.underway n class refl refl refl removed above;
      placed = λ x lt free. popped_placed ends leasts s t inv.underway n class refl refl refl removed above x (inv.placed x lt free);
    }

pub loop-first-smaller : goal.loop-first-smaller
loop-first-smaller c =
    let asked = list-requires (goal.at.loop-first-smaller c).After-listing-in-Some-1 in
    let listed = c.loop-first.listing.listed.items in
    let inside : c.in-Some.first.1 < length listed =
    omega (arith, asked.inside, length-map c.args.ends.now (λ r. r.items), c.loop-first.invariant.underway.listed_long) in
    rw c.in_ok-list.ensures.listed (marked_fewer listed c.in-Some.first.1 inside asked.unlisted)

pub loop-first-preserved : goal.loop-first-preserved
loop-first-preserved c =
    let ends = row_lists c.args.ends.now in
    let leasts = c.args.leasts.now in
    let s = c.loop-first.listing in
    let t : Listing = record { checked = s.checked; waiting = s.waiting; listed = s.listed; ready = c.pop_first.new.self } in
    let inv = c.loop-first.invariant in
    let class = c.in-Some.first.1 in
    let asked = list-requires (goal.at.loop-first-preserved c).After-listing-in-Some-1 in
    let inside : class < length s.listed.items = omega (arith, asked.inside, length-map c.args.ends.now (λ r. r.items), inv.underway.listed_long) in
    let placed : (x : ℕ) → x < length ends → listed_at s.listed.items x ≡ false → IsReadyOrWaits leasts s x
    = λ x lt free. inv.placed x (omega (arith, lt, length-map c.args.ends.now (λ r. r.items))) free in
    let order = c.loop-first.order.items in
    let e = c.in_ok-list.ensures in
    let more = c.in_ok-push.ensures.items in
    let next = is_least ends leasts s t inv.underway c.in-Some.first.0 class refl refl refl c.in-Some.ensures.removal c.in-Some.ensures.all_above order
    inv.there inv.back placed in
    record {
      underway = e.underway;
      placed = e.placed;
      there = λ x has. rw e.listed (elim (Contains-push_cases order class x (subst (λ l. Contains l x) more has)) [
        | inl old ↦ marked_stays s.listed.items class inside x (inv.there x old)
        | inr is ↦ subst (λ y. listed_at (set s.listed.items class true) y ≡ true) is (marked_there s.listed.items class inside)
      ]);
      back = λ x there. rw more (elim (cases_eq x class) [
        | inl is ↦ subst (λ y. Contains (order ++ class ∷ []) y) (sym is) (Contains-push order class)
        | inr differs ↦
            let now : listed_at (set s.listed.items class true) x ≡ true = subst (λ l. listed_at l x ≡ true) e.listed there in
            Contains-append_left order (class ∷ []) x (inv.back x (sym (marked_other s.listed.items class inside x differs) ∙ now))
      ]);
      each = rw more (least_more ends leasts order class inv.each next);
    }

pub returns : goal.returns
returns c =
    let ends = row_lists c.args.ends.now in
    let s = c.loop-first.listing in
    let inv = c.loop-first.invariant in
    let empty : length s.ready.keys ≡ 0 = elim (cases_lt 0 (length s.ready.keys)) [
      | inl some ↦ let never : false ≡ true = c.in_default.ensures.variant.1 some in absurd (cc)
      | inr none ↦ omega (arith, none)
    ] in
    let placed : (x : ℕ) → x < length ends → listed_at s.listed.items x ≡ false → IsReadyOrWaits c.args.leasts.now s x
    = λ x lt free. inv.placed x (omega (arith, lt, length-map c.args.ends.now (λ r. r.items))) free in
    record {
      each = inv.each;
      all = λ x lt. inv.back x (all_listed ends c.args.leasts.now s inv.underway c.requires.falls empty placed (suc x) x (omega arith) lt);
    }

use Rattle.std.proofs.Common.{◌≡◌, ℕ, ◌≤◌, ◌<◌, false, [], length, get_or, sym, ap, subst, ◌∙◌, arith, inl, inr}
use Rattle.rpm_graph.proofs.Vocabulary.{Contains, IsReadyOrWaits, listed_at, row_lists}
use Rattle.std.proofs.lemmas.Bool.{cases_lt}
use Rattle.std.proofs.lemmas.List.{length-map, get_or_default}
use Rattle.rpm_graph.proofs.Marking.{marked_underway, marked_placed, marked_only, waited}
use Rattle.rpm_graph.proofs.listing.Listing.list.Goals as goal

pub loop-other-init : goal.loop-other-init
loop-other-init c =
    let r = c.requires in
    let s = c.args.self.now in
    let t = c.mark-waited.new.self in
    let m = c.mark-waited.ensures.listed in
    let read = c.deref-other-items.ensures.value ∙ c.mark-waited.ensures.row in
    let ends = row_lists c.args.ends.now in
    let leasts = c.args.leasts.now in
    let class = c.args.class in
    let inside : class < length ends = omega (arith, r.inside, length-map c.args.ends.now (λ r. r.items)) in
    let listed_in : class < length s.listed.items = omega (arith, inside, r.underway.listed_long) in
    record {
      underway = marked_underway ends leasts s t r.underway class inside r.unlisted r.ends_listed r.taken m;
      listed = m.listed;
      placed = λ x lt free.
          let was = (marked_only s.listed.items class listed_in x (subst (λ l. listed_at l x ≡ false) m.listed free)).1 in
          elim (marked_placed ends leasts s t r.underway class inside r.unlisted r.ends_listed r.taken m x free (r.placed x lt was)) [
            | inl placed ↦ inl placed
            | inr has ↦ inr (subst (λ l. (i : ℕ) × (0 ≤ i) × (i < length l) × (get_or l i 0 ≡ x)) (sym read)
                (has.0, omega arith, has.1, get_or_default (get_or (row_lists s.waiting.items) class []) has.0 0 x has.1 ∙ has.2))
          ];
    }

pub loop-other-preserved : goal.loop-other-preserved
loop-other-preserved c =
    let e = c.in_ok-settle.ensures in
    let inv = c.loop-other.invariant in
    let i = c.loop-other.other-index in
    record {
      underway = e.underway;
      listed = e.same ∙ inv.listed;
      placed = λ x lt free. elim (inv.placed x lt (subst (λ l. listed_at l x ≡ false) e.same free)) [
        | inl placed ↦ inl (e.keeps x placed)
        | inr at ↦ elim (cases_lt i at.0) [
          | inl later ↦ inr (at.0, omega (arith, later), at.2, at.3)
          | inr end ↦
              let here : at.0 ≡ i = omega (arith, at.1, end) in
              let is : get_or c.deref-other-items.result.now i 0 ≡ x = ap (λ j. get_or c.deref-other-items.result.now j 0) (sym here) ∙ at.3 in
              inl (subst (λ y. IsReadyOrWaits c.args.leasts.now c.settle.new.self y) is e.placed)
        ]
      ];
    }

pub settle-requires : goal.settle-requires
settle-requires c =
    let r = c.requires in
    let s = c.args.self.now in
    let t = c.mark-waited.new.self in
    let m = c.mark-waited.ensures.listed in
    let inv = c.loop-other.invariant in
    let ends = row_lists c.args.ends.now in
    let class = c.args.class in
    let inside : class < length ends = omega (arith, r.inside, length-map c.args.ends.now (λ r. r.items)) in
    let xs = c.deref-other-items.result.now in
    let i = c.loop-other.other-index in
    let lt : i < length xs = omega arith in
    let other = get_or xs i 0 in
    let has : Contains (get_or (row_lists s.waiting.items) class []) other = subst (λ l. Contains l other)
    (c.deref-other-items.ensures.value ∙ c.mark-waited.ensures.row) (i, lt, get_or_default xs i other 0 lt) in
    let w = waited ends c.args.leasts.now s t r.underway class inside r.unlisted r.ends_listed r.taken m other has in
    record {
      underway = inv.underway;
      falls = r.falls;
      inside = omega (arith, w.0, length-map c.args.ends.now (λ r. r.items));
      sized = r.sized;
      unlisted = ap (λ l. listed_at l other) (inv.listed ∙ sym m.listed) ∙ w.1;
    }

pub returns-clause-placed : goal.returns-clause-placed
returns-clause-placed c = λ x lt free. elim (c.loop-other.invariant.placed x lt free) [
  | inl placed ↦ placed
  | inr at ↦ absurd (omega (arith, at.1, at.2, c.loop-other-test.false))
]

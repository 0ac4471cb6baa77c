-- The fields of a value once a blob was put.
use Rattle.std.proofs.Common.{◌≡◌, ◌≢◌, ◌⊎◌, inl, inr, ℕ, ◌+◌, ◌-◌, ◌^◌, ◌<◌, ◌≤◌, List, true, false, Option, Some, None, IsSome, refl, sym, ap, ◌∙◌, subst, arith, set, length-set}
use Rattle.std.specs.Prelude.{Contains}
use Rattle.std.proofs.lemmas.Bool.{cases_eq}
use Rattle.std.proofs.lemmas.Bool.Decides.{nat_tests}
use Rattle.rpm_pkgdb.proofs.Vocabulary.{MapWithOne, AreRangesOf, AreUsedTo, begins_in, Blocks, blocks_for, find_in, Forgets, ForgetsSlot, free, has_number}
use Rattle.rpm_pkgdb.proofs.Vocabulary.{HasStart, HasUsed, is_used, IsFreeIn, IsKept, IsPackageNumber, IsTarget, Pairs, Range, range_of_slot, HasRange, Slot}
use Rattle.rpm_pkgdb.proofs.Vocabulary.{slot_at, slot_for, Store, Target, UsedSlotOf, with_range, with_range_here, with_range_keeps, with_range_only, without}
use Rattle.rpm_pkgdb.proofs.Vocabulary.{without_keeps, without_only}
use Rattle.rpm_pkgdb.proofs.Facts.{cases_Bool, number_facts, has_it_from}
use Rattle.rpm_pkgdb.proofs.Pairwise.{used_below}
use Rattle.rpm_pkgdb.proofs.ClearLaws.{set_here, set_other}
use Rattle.rpm_pkgdb.proofs.RangeLaws.{other_start}
use Rattle.rpm_pkgdb.proofs.PlanLaws.{fits_to}
use Rattle.rpm_pkgdb.proofs.PutsLaws.{target_sound, number_le, other_number}

some_of : (o : Option ℕ) → IsSome o → (x : ℕ) × (o ≡ Some x)
some_of (Some x) is = (x, refl)
some_of None is = absurd (cc)

some_same : (o : Option ℕ) (x y : ℕ) → o ≡ Some x → o ≡ Some y → x ≡ y
some_same o x y e f = cc

module _ (numbers : Pairs) (v : Store) (target : Target) (is : IsTarget v target) (made : 1 ≤ v.pages) (kept : IsKept numbers v.pages v.slots) where
  abbrev k : ℕ
  k = target.place

  abbrev s : Slot
  s = slot_for target

  abbrev slots : List Slot
  slots = v.slots

  abbrev after : List Slot
  after = set v.slots target.place (slot_for target)

  new_at : slot_at after k ≡ s
  new_at = set_here v.pages (2 ^ 28) slots kept.sound k is.below s

  same_at : (j : ℕ) → j ≢ k → slot_at after j ≡ slot_at slots j
  same_at j differs = set_other v.pages (2 ^ 28) slots kept.sound k is.below s j differs

  pub above_all : target.is_new ≡ true → (m : ℕ) → IsSome (find_in numbers m) → m < target.number
  above_all new m there =
      let x = some_of (find_in numbers m) there in
      let o = kept.places.only m x.0 x.1 in
      let f = number_facts m (slot_at slots x.0) o.1 in
      let n = is.new new in
      omega (arith, n.0, f.number, number_le slots x.0 f.used)

  pub fits_free : (used : Option Blocks) (spare : ℕ) → HasUsed used spare slots → 1 ≤ spare → IsFreeIn s used
  fits_free None spare has room = absurd (omega arith)
  fits_free (Some b) spare has room =
      ((fits_to v.pages b.ranges slots kept.sound has.0 (blocks_for target.length) (omega arith) target.start is.start.fits).free, omega (arith, has.1))

  used_new : is_used s ≡ true
  used_new = (let low : target.start ≢ 0 = omega (arith, made, is.start.from_on) in grind (arith, nat_tests))

  -- ---- numbers

  held_here : target.is_new ≡ false → find_in numbers target.number ≡ Some k
  held_here not_new =
      let h = number_facts target.number (slot_at slots k) (is.held not_new) in
      ap (find_in numbers) (sym h.number) ∙ kept.places.each k is.below h.used

  -- what the map says after the put
  pub record Says (next : Pairs) : Type 0 where
    pub here : find_in next target.number ≡ Some k
    pub others : (m : ℕ) → m ≢ target.number → find_in next m ≡ find_in numbers m

  pub says : (next : Pairs) → (target.is_new ≡ true → MapWithOne (find_in numbers) (find_in next) target.number k) → (target.is_new ≡ false → next ≡ numbers)
      → Says next
  says next new held = elim (cases_Bool target.is_new) [
    | inl is_new ↦ (let a = new is_new in record { here = a.here; others = a.others })
    | inr not_new ↦ (let e = held not_new in record {
      here = ap (λ (l : Pairs). find_in l target.number) e
          ∙ held_here not_new;
      others = λ m differs. ap (λ (l : Pairs). find_in l m) e;
    })
  ]

  -- the slot that is replaced is free, or has the number
  at_place : (m : ℕ) → has_number m (slot_at slots k) ≡ true → m ≡ target.number
  at_place m has = elim (cases_Bool target.is_new) [
    | inl new ↦ absurd (let u = (is.new new).1.unused in let f = (number_facts m (slot_at slots k) has).used in let e : true ≡ false = sym f ∙ u in cc)
    | inr not_new ↦ sym (number_facts m (slot_at slots k) has).number ∙ (number_facts target.number (slot_at slots k) (is.held not_new)).number
  ]

  pub noted_kept : (next : Pairs) → Says next → IsKept next v.pages after
  noted_kept next now = record {
    places = record {
      each = λ j below used. elim (cases_eq j k) [
        | inl here ↦
            ap (λ (t : Slot). find_in next t.number) (ap (slot_at after) here ∙ new_at) ∙ now.here ∙ ap Some (sym here)
        | inr other ↦
            (let stays = same_at j other in
            let was : is_used (slot_at slots j) ≡ true = ap is_used (sym stays) ∙ used in
            let differs : (slot_at slots j).number ≢ target.number = λ same. other_number v target is (2 ^ 28) kept.sound j other was (sym same) in
            ap (λ (t : Slot). find_in next t.number) stays ∙ now.others (slot_at slots j).number differs ∙ kept.places.each j (used_below slots j was) was)
      ];
      only = λ m j found. elim (cases_eq m target.number) [
        | inl same ↦
            (let here : j ≡ k = some_same (find_in next target.number) j k (ap (find_in next) (sym same) ∙ found) now.here in
            (omega (arith, is.below, length-set slots k s), ap (has_number m) (ap (slot_at after) here ∙ new_at) ∙ has_it_from m s used_new (sym same)))
        | inr differs ↦
            (let o = kept.places.only m j (sym (now.others m differs) ∙ found) in
            let other : j ≢ k = λ here. differs (at_place m (ap (λ (i : ℕ). has_number m (slot_at slots i)) (sym here) ∙ o.1)) in
            (omega (arith, o.0, length-set slots k s), ap (has_number m) (same_at j other) ∙ o.1))
      ];
    };
    numbered = λ j below used. elim (cases_eq j k) [
      | inl here ↦ subst (λ (t : Slot). IsPackageNumber t.number) (sym (ap (slot_at after) here ∙ new_at)) is.number
      | inr other ↦
          (let stays = same_at j other in
          subst (λ (t : Slot). IsPackageNumber t.number) (sym stays)
          (kept.numbered j (omega (arith, below, length-set slots k s)) (ap is_used (sym stays) ∙ used)))
    ];
    sound = target_sound v target is made (2 ^ 28) is.start.fits.ends kept.sound;
    limit = kept.limit;
    count = length-set slots k s ∙ kept.count;
  }

  -- ---- the first free slot

  pub noted_taken : (from next : ℕ) → AreUsedTo slots from → (target.is_new ≡ true → next ≡ k + 1) → (target.is_new ≡ false → next ≡ from)
      → AreUsedTo after next
  noted_taken from next taken new held j below = elim (cases_eq j k) [
    | inl here ↦ ap is_used (ap (slot_at after) here ∙ new_at) ∙ used_new
    | inr other ↦ ap is_used (same_at j other) ∙ elim (cases_Bool target.is_new) [
      | inl is_new ↦ (is.new is_new).1.first j (omega (arith, below, new is_new))
      | inr not_new ↦ taken j (omega (arith, below, held not_new))
    ]
  ]

  -- ---- ranges

  module _ (old : Slot) (new : target.is_new ≡ true → old ≡ free) (held : target.is_new ≡ false → old ≡ slot_at slots k) where
    -- a used old slot is the one at the place
    old_is : is_used old ≡ true → old ≡ slot_at slots k
    old_is used = elim (cases_Bool target.is_new) [
      | inl is_new ↦ absurd (let e : is_used old ≡ is_used free = ap is_used (new is_new) in cc)
      | inr not_new ↦ held not_new
    ]

    -- and an unused one stands there
    old_unused : is_used old ≡ false → is_used (slot_at slots k) ≡ false
    old_unused unused = elim (cases_Bool target.is_new) [
      | inl is_new ↦ (is.new is_new).1.unused
      | inr not_new ↦ ap is_used (sym (held not_new)) ∙ unused
    ]

    pub has_old_start : (used mid : Option Blocks) (spare : ℕ) → HasUsed used spare slots → HasRange s used mid → is_used old ≡ true → HasStart mid old.offset
    has_old_start None mid spare has added used_old = absurd added
    has_old_start (Some b) None spare has added used_old = absurd added
    has_old_start (Some b) (Some d) spare has added used_old =
        let at = old_is used_old in
        let there : Contains b.ranges (range_of_slot old) =
        subst (λ (t : Slot). Contains b.ranges (range_of_slot t)) (sym at) (has.0.each k (ap is_used (sym at) ∙ used_old)) in
        begins_in d.ranges (range_of_slot old) (subst (λ (l : List Range). Contains l (range_of_slot old)) (sym added.0)
        (with_range_keeps (range_of_slot s) (range_of_slot old) b.ranges there))

    module _ (b d : Blocks) (are : AreRangesOf b.ranges slots) (added : d.ranges ≡ with_range (range_of_slot s) b.ranges) where
      there_new : Contains d.ranges (range_of_slot s)
      there_new = subst (λ (l : List Range). Contains l (range_of_slot s)) (sym added) (with_range_here (range_of_slot s) b.ranges)

      there_old : (j : ℕ) → is_used (slot_at slots j) ≡ true → Contains d.ranges (range_of_slot (slot_at slots j))
      there_old j used =
          subst (λ (l : List Range). Contains l (range_of_slot (slot_at slots j))) (sym added)
          (with_range_keeps (range_of_slot s) (range_of_slot (slot_at slots j)) b.ranges (are.each j used))

      from_there : (x : Range) → Contains d.ranges x → (x ≡ range_of_slot s) ⊎ UsedSlotOf slots x
      from_there x there = elim (with_range_only (range_of_slot s) x b.ranges (subst (λ (l : List Range). Contains l x) added there)) [
        | inl here ↦ inl here
        | inr old_one ↦ inr (are.only x old_one)
      ]

      by_new : (x : Range) → x ≡ range_of_slot s → UsedSlotOf after x
      by_new x e = record { at = k; used = ap is_used new_at ∙ used_new; is = e ∙ ap range_of_slot (sym new_at) }

      by_old : (x : Range) (u : UsedSlotOf slots x) → u.at ≢ k → UsedSlotOf after x
      by_old x u other = record { at = u.at; used = ap is_used (same_at u.at other) ∙ u.used; is = u.is ∙ ap range_of_slot (sym (same_at u.at other)) }

      noted_free : is_used (slot_at slots k) ≡ false → AreRangesOf d.ranges after
      noted_free unused = record {
        each = λ j used. elim (cases_eq j k) [
          | inl here ↦ subst (λ (t : Slot). Contains d.ranges (range_of_slot t)) (sym (ap (slot_at after) here ∙ new_at)) there_new
          | inr other ↦ subst (λ (t : Slot). Contains d.ranges (range_of_slot t)) (sym (same_at j other))
              (there_old j (ap is_used (sym (same_at j other)) ∙ used))
        ];
        only = λ x there. elim (from_there x there) [
          | inl here ↦ by_new x here
          | inr u ↦ by_old x u (λ here. (let e : true ≡ false = sym u.used ∙ ap (λ (i : ℕ). is_used (slot_at slots i)) here ∙ unused in cc))
        ];
      }

      module _ (e : Blocks) (used_k : is_used (slot_at slots k) ≡ true) (gone : e.ranges ≡ without (slot_at slots k).offset d.ranges) where
        start_differs : target.start ≢ (slot_at slots k).offset
        start_differs same = elim (is.start.fits.apart k used_k) [
          | inl l ↦ omega (arith, l)
          | inr r ↦ omega (arith, r, (kept.sound.placed k used_k).some)
        ]

        noted_held : AreRangesOf e.ranges after
        noted_held = record {
          each = λ j used. subst (λ (l : List Range). Contains l (range_of_slot (slot_at after j))) (sym gone) (elim (cases_eq j k) [
            | inl here ↦
                subst (λ (t : Slot). Contains (without (slot_at slots k).offset d.ranges) (range_of_slot t)) (sym (ap (slot_at after) here ∙ new_at))
                (without_keeps (slot_at slots k).offset (range_of_slot s) d.ranges start_differs there_new)
            | inr other ↦
                (let was : is_used (slot_at slots j) ≡ true = ap is_used (sym (same_at j other)) ∙ used in
                subst (λ (t : Slot). Contains (without (slot_at slots k).offset d.ranges) (range_of_slot t)) (sym (same_at j other))
                (without_keeps (slot_at slots k).offset (range_of_slot (slot_at slots j)) d.ranges (other_start v.pages slots kept.sound j k other was used_k)
                (there_old j was)))
          ]);
          only = λ x there.
              let w = without_only (slot_at slots k).offset x d.ranges (subst (λ (l : List Range). Contains l x) gone there) in
              elim (from_there x w.1) [
                | inl here ↦ by_new x here
                | inr u ↦ by_old x u (λ here. w.0 (ap (λ (r : Range). r.start) u.is ∙ ap (λ (i : ℕ). (slot_at slots i).offset) here))
              ];
        }

    pub noted_used : (used mid last : Option Blocks) (spare : ℕ) → HasUsed used spare slots → HasRange s used mid → ForgetsSlot old mid last
        → HasUsed last (spare - 1) after
    noted_used None mid last spare has added forgot = absurd added
    noted_used (Some b) None last spare has added forgot = absurd added
    noted_used (Some b) (Some d) last spare has added forgot = elim (cases_Bool (is_used old)) [
      | inr unused ↦ subst (λ (o : Option Blocks). HasUsed o (spare - 1) after) (sym (forgot.unused unused))
          (noted_free b d has.0 added.0 (old_unused unused), omega (arith, has.1, added.1))
      | inl used_old ↦ with_gone last (forgot.used used_old) used_old
    ]
      where
        with_gone : (o : Option Blocks) → Forgets old.offset (Some d) o → is_used old ≡ true → HasUsed o (spare - 1) after
        with_gone None gone used_old = absurd gone
        with_gone (Some e) gone used_old =
            let at = old_is used_old in (
              noted_held b d has.0 added.0 e (ap is_used (sym at) ∙ used_old) (subst (λ (t : Slot). e.ranges ≡ without t.offset d.ranges) at gone.0),
              omega (arith, has.1, added.1, gone.1),
            )

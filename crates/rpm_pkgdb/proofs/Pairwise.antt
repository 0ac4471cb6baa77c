-- Nothing is wrong with a table exactly where each slot is right by itself and any two used ones are apart.
use Rattle.std.proofs.Common.{◌≡◌, inl, inr, ℕ, zero, suc, ◌+◌, ◌-◌, ◌<◌, List, [], ◌∷◌, length, take, true, false, Option, Some, None, refl, sym, ap, ◌∙◌, subst, arith, codes}
use Rattle.rpm_pkgdb.proofs.Vocabulary.{AreSlotsApart, AreSound, begins_with_word, blank, damage_at, end_of, damage_of_slot, first_from, free, has_number, is_used, IsPlaced, list_any}
use Rattle.rpm_pkgdb.proofs.Vocabulary.{slots_meet, option_map, option_or, own_reason, shared_reason, Slot, slot_at, slot_fault, slot_of, slots_in}
use Rattle.rpm_pkgdb.proofs.Vocabulary.{table_fault, table_is_first, unit_at, Units, used_reason}
use Rattle.std.proofs.lemmas.List.{get_or-take, get_or_past, length-take}
use Rattle.std.proofs.lemmas.Bool.{cases_lt}
use Rattle.std.proofs.lemmas.Bool.Decides.{nat_tests}
use Rattle.rpm_pkgdb.proofs.Facts.{cases_Bool, none_at, no_place, number_facts, has_it_from, meet_facts, meet_from}
use Rattle.rpm_pkgdb.proofs.Sound.{placed, fresh_number, fresh_blocks, no_own, no_shared}

-- ---- the first of some faults

first_none : {X : Type 0} (f : ℕ → Option X) (a n : ℕ) → first_from f a n ≡ None → (k : ℕ) → k < n → f (a + k) ≡ None
first_none f a zero none k below = absurd (omega arith)
first_none f a (suc n) none k below = by_head (f a) refl none (λ rest later. ap f (omega arith) ∙ first_none f (a + 1) n rest (k - 1) (omega arith))
  where
    by_head : (o : Option _) → f a ≡ o → option_or o (first_from f (a + 1) n) ≡ None
        → (first_from f (a + 1) n ≡ None → 0 < k → f (a + k) ≡ None) → f (a + k) ≡ None
    by_head (Some x) is none again = absurd cc
    by_head None is none again = elim (cases_lt 0 k) [
      | inl later ↦ again none later
      | inr here ↦ ap f (omega arith) ∙ is
    ]

none_first : {X : Type 0} (f : ℕ → Option X) (a n : ℕ) → ((k : ℕ) → k < n → f (a + k) ≡ None) → first_from f a n ≡ None
none_first f a zero each = refl
none_first f a (suc n) each =
    let here : f a ≡ None = ap f (omega arith) ∙ each 0 (omega arith) in
    ap (λ (o : Option _). option_or o (first_from f (a + 1) n)) here
    ∙ none_first f (a + 1) n (λ k below. ap f (omega arith) ∙ each (suc k) (omega arith))

-- ---- the slots of units

pub slot_in : (us : Units) (k : ℕ) → k < length us → slot_at (slots_in us) k ≡ slot_of (unit_at us k)
unfolding slots_in
slot_in [] k below = absurd (omega arith)
slot_in (u ∷ us) zero below = refl
slot_in (u ∷ us) (suc k) below = slot_in us k (omega arith)

pub count_in : (us : Units) → length (slots_in us) ≡ length us
unfolding slots_in
count_in [] = refl
count_in (u ∷ us) = ap suc (count_in us)

pub used_below : (slots : List Slot) (k : ℕ) → is_used (slot_at slots k) ≡ true → k < length slots
used_below slots k used = elim (cases_lt k (length slots)) [
  | inl below ↦ below
  | inr past ↦ absurd (let e : is_used (slot_at slots k) ≡ is_used free = ap is_used (get_or_past slots k free past) in cc)
]

pub apart_swapped : (s t : Slot) → AreSlotsApart s t → AreSlotsApart t s
apart_swapped s t apart = record { numbers = λ same. apart.numbers (sym same); blocks = elim apart.blocks [ inl l ↦ inr l | inr r ↦ inl r ] }

-- ---- one slot

pub begins_from : (pages units : ℕ) (unit : List ℕ) → own_reason pages units unit ≡ None → begins_with_word (codes "Slot") unit ≡ true
unfolding own_reason
begins_from pages units unit none = grind (arith, nat_tests)

used_none : (pages units : ℕ) (s : Slot) → IsPlaced pages units s → used_reason pages units s ≡ None
used_none pages units s placed = grind (arith, nat_tests)

own_none : (pages units : ℕ) (unit : List ℕ) → begins_with_word (codes "Slot") unit ≡ true
    → (is_used (slot_of unit) ≡ true → IsPlaced pages units (slot_of unit))
    → own_reason pages units unit ≡ None
unfolding own_reason
own_none pages units unit magic placed = elim (cases_Bool (is_used (slot_of unit))) [
  | inl used ↦ (let none = used_none pages units (slot_of unit) (placed used) in rw (magic, used) none)
  | inr unused ↦ rw (magic, unused) refl
]

pub shared_none : (slots : List Slot) (s : Slot) → (is_used s ≡ true → (j : ℕ) → j < length slots → is_used (slot_at slots j) ≡ true
    → AreSlotsApart (slot_at slots j) s) → (is_used s ≡ true → 0 < s.count) → shared_reason slots s ≡ None
unfolding shared_reason
shared_none slots s apart some = elim (cases_Bool (is_used s)) [
  | inr unused ↦ rw unused refl
  | inl used ↦
      (let numbers : list_any (has_number s.number) slots ≡ false = no_place (has_number s.number) slots free (λ p.
      let facts = number_facts s.number (slot_at slots p.at) p.holds in
      (apart used p.at p.below facts.used).numbers facts.number) in
      let blocks : list_any (slots_meet s) slots ≡ false = no_place (slots_meet s) slots free (λ p.
      let facts = meet_facts s (slot_at slots p.at) p.holds in
      elim (apart used p.at p.below facts.used).blocks [ inl l ↦ omega (arith, facts.left, l) | inr r ↦ omega (arith, facts.right, r) ]) in
      rw (used, numbers, blocks) refl)
]

pub apart_from : (slots : List Slot) (s : Slot) (j : ℕ) → shared_reason slots s ≡ None → is_used s ≡ true → j < length slots
    → is_used (slot_at slots j) ≡ true → AreSlotsApart (slot_at slots j) s
apart_from slots s j none used below used_j =
    let t = slot_at slots j in
    let number : has_number s.number t ≡ false = none_at (has_number s.number) slots j free (fresh_number slots s none used) below in
    let meet : slots_meet s t ≡ false = none_at (slots_meet s) slots j free (fresh_blocks slots s none used) below in
    record {
      numbers = λ same. (let has = has_it_from s.number t used_j same in cc);
      blocks = elim (cases_lt s.offset (end_of t)) [
        | inr above ↦ inl above
        | inl left ↦ elim (cases_lt t.offset (end_of s)) [
          | inr below ↦ inr below
          | inl right ↦ absurd (let m = meet_from s t used_j left right in cc)
        ]
      ];
    }

-- ---- the table

neither_fault : {X Y : Type 0} (f : X → Y) (a b : Option X) → a ≡ None → b ≡ None → option_map f (option_or a b) ≡ None
neither_fault f a b one two = rw (one, two) refl

module _ (pages units : ℕ) (us : Units) where
  abbrev slots : List Slot
  slots = slots_in us

  abbrev before : ℕ → List Slot
  before k = slots_in (take k us)

  before_at : (j k : ℕ) → j < k → k < length us → slot_at (before k) j ≡ slot_at slots j
  before_at j k lt below =
      let long : length (take k us) ≡ k = omega (arith, length-take k us) in
      slot_in (take k us) j (omega arith) ∙ ap slot_of (get_or-take k us j blank lt) ∙ sym (slot_in us j (omega arith))

  length_before : (k : ℕ) → k < length us → length (before k) ≡ k
  length_before k below = omega (arith, count_in (take k us), length-take k us)

  faults_none : table_fault pages units us ≡ None → (k : ℕ) → k < length us → slot_fault pages units (before k) (unit_at us k) ≡ None
  unfolding damage_of_slot
  faults_none none k below =
      let at : damage_of_slot pages units us (0 + k) ≡ None =
      first_none (damage_of_slot pages units us) 0 (length us) (table_is_first pages units us ∙ none) k below in
      let e : 0 + k ≡ k = omega arith in
      subst (λ (i : ℕ). slot_fault pages units (slots_in (take i us)) (unit_at us i) ≡ None) e at

  none_faults : ((k : ℕ) → k < length us → slot_fault pages units (before k) (unit_at us k) ≡ None) → table_fault pages units us ≡ None
  unfolding damage_of_slot
  none_faults each = sym (table_is_first pages units us) ∙ none_first (damage_of_slot pages units us) 0 (length us) (λ k below.
      let e : k ≡ 0 + k = omega arith in
      subst (λ (i : ℕ). slot_fault pages units (slots_in (take i us)) (unit_at us i) ≡ None) e (each k below))

  -- each slot by itself begins as a slot does
  pub magics : table_fault pages units us ≡ None → (k : ℕ) → k < length us → begins_with_word (codes "Slot") (unit_at us k) ≡ true
  magics none k below = begins_from pages units (unit_at us k) (no_own pages units (before k) (unit_at us k) (faults_none none k below))

  placed_each : table_fault pages units us ≡ None → (k : ℕ) → is_used (slot_at slots k) ≡ true → IsPlaced pages units (slot_at slots k)
  placed_each none k used =
      let below : k < length us = omega (arith, used_below slots k used, count_in us) in
      let is : slot_at slots k ≡ slot_of (unit_at us k) = slot_in us k below in
      subst (IsPlaced pages units) (sym is) (placed pages units (unit_at us k) (no_own pages units (before k) (unit_at us k) (faults_none none k below))
      (ap is_used (sym is) ∙ used))

  apart_below : table_fault pages units us ≡ None → (j k : ℕ) → j < k → is_used (slot_at slots j) ≡ true → is_used (slot_at slots k) ≡ true
      → AreSlotsApart (slot_at slots j) (slot_at slots k)
  apart_below none j k lt used_j used_k =
      let below : k < length us = omega (arith, used_below slots k used_k, count_in us) in
      let is : slot_at slots k ≡ slot_of (unit_at us k) = slot_in us k below in
      let was : slot_at (before k) j ≡ slot_at slots j = before_at j k lt below in
      let shared = no_shared pages units (before k) (unit_at us k) (faults_none none k below) in
      let both =
      apart_from (before k) (slot_of (unit_at us k)) j shared (ap is_used (sym is) ∙ used_k) (omega (arith, length_before k below)) (ap is_used was
      ∙ used_j) in
      subst (λ (t : Slot). AreSlotsApart (slot_at slots j) t) (sym is) (subst (λ (t : Slot). AreSlotsApart t (slot_of (unit_at us k))) was both)

  pub sound_from : table_fault pages units us ≡ None → AreSound pages units slots
  sound_from none = record {
    placed = placed_each none;
    apart = λ j k differ used_j used_k. elim (cases_lt j k) [
      | inl below ↦ apart_below none j k below used_j used_k
      | inr above ↦ apart_swapped (slot_at slots k) (slot_at slots j) (apart_below none k j (omega arith) used_k used_j)
    ];
  }

  pub none_from : ((k : ℕ) → k < length us → begins_with_word (codes "Slot") (unit_at us k) ≡ true) → AreSound pages units slots
      → table_fault pages units us ≡ None
  none_from magic sound = none_faults (λ k below.
      let is : slot_at slots k ≡ slot_of (unit_at us k) = slot_in us k below in
      let placed_here : is_used (slot_of (unit_at us k)) ≡ true → IsPlaced pages units (slot_of (unit_at us k)) =
      λ used. subst (IsPlaced pages units) is (sound.placed k (ap is_used is ∙ used)) in
      let own = own_none pages units (unit_at us k) (magic k below) placed_here in
      let shared = shared_none (before k) (slot_of (unit_at us k)) (λ used j under used_j.
      let lt : j < k = omega (arith, length_before k below) in
      let was : slot_at (before k) j ≡ slot_at slots j = before_at j k lt below in
      let both = sound.apart j k (omega arith) (ap is_used (sym was) ∙ used_j) (ap is_used is ∙ used) in
      subst (λ (t : Slot). AreSlotsApart (slot_at (before k) j) t) is (subst (λ (t : Slot). AreSlotsApart t (slot_at slots k)) (sym was) both))
      (λ used. (placed_here used).some) in
      neither_fault (damage_at (2 + length (before k))) (own_reason pages units (unit_at us k)) (shared_reason (before k) (slot_of (unit_at us k))) own shared)

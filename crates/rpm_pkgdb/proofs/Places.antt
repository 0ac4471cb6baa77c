-- Which slot has a number, where slots are sound or one is set.
use Rattle.std.proofs.Common.{◌≡◌, inl, inr, ℕ, zero, suc, ◌<◌, List, [], ◌∷◌, length, get_or, true, false, Bool, Some, None, refl, sym, ap, ◌∙◌, arith, set, map, length-set}
use Rattle.rpm_pkgdb.proofs.Vocabulary.{AreSound, find, free, freed_slots, freed_slot, has_number, list_any, Slot, slot_at, slot_with}
use Rattle.std.proofs.lemmas.List.{get_or_default, same_lists}
use Rattle.std.proofs.lemmas.Bool.{cases_eq}
use Rattle.rpm_pkgdb.proofs.Facts.{cases_Bool, number_facts, none_at}
use Rattle.rpm_pkgdb.proofs.Pairwise.{used_below}
use Rattle.rpm_pkgdb.proofs.ClearLaws.{set_here, set_other}

find_none : {X : Type 0} (p : X → Bool) (xs : List X) → list_any p xs ≡ false → find p xs ≡ None
find_none p [] none = refl
find_none p (x ∷ xs) none = elim (cases_Bool (p x)) [
  | inl holds ↦ absurd (let any : list_any p (x ∷ xs) ≡ true = rw holds refl in cc)
  | inr fails ↦ rw fails (find_none p xs (rw fails at none))
]

-- a number has a slot, which is found, or none has it
pub data Search (n : ℕ) (slots : List Slot) : Type 0 where
  Here : (k : ℕ) → k < length slots → has_number n (slot_at slots k) ≡ true → slot_with n slots ≡ Some (slot_at slots k) → Search n slots
  Nowhere : ((k : ℕ) → k < length slots → has_number n (slot_at slots k) ≡ false) → slot_with n slots ≡ None → Search n slots

pub find_first : {X : Type 0} (p : X → Bool) (xs : List X) (d : X) → list_any p xs ≡ true
    → (k : ℕ) × (k < length xs) × (p (get_or xs k d) ≡ true) × (find p xs ≡ Some (get_or xs k d))
find_first p [] d any = absurd cc
find_first p (x ∷ xs) d any = elim (cases_Bool (p x)) [
  | inl holds ↦ (0, omega arith, holds, rw holds refl)
  | inr fails ↦ (let rest = find_first p xs d (rw fails at any) in (suc rest.0, omega (arith, rest.1), rest.2, rw fails rest.3))
]

pub search_for : (n : ℕ) (slots : List Slot) → Search n slots
search_for n slots = elim (cases_Bool (list_any (has_number n) slots)) [
  | inl any ↦ (let f = find_first (has_number n) slots free any in Here f.0 f.1 f.2 f.3)
  | inr none ↦ Nowhere (λ k below. none_at (has_number n) slots k free none below) (find_none (has_number n) slots none)
]

-- a slot that is set, where neither it nor the one before has the number
pub with_set_other : (n : ℕ) (slots : List Slot) (k : ℕ) (s : Slot) → has_number n s ≡ false → has_number n (slot_at slots k) ≡ false
    → slot_with n (set slots k s) ≡ slot_with n slots
with_set_other n [] k s new old = refl
with_set_other n (t ∷ ts) zero s new old = rw (new, old) refl
with_set_other n (t ∷ ts) (suc k) s new old = elim (cases_Bool (has_number n t)) [
  | inl holds ↦ rw holds refl
  | inr fails ↦ rw fails (with_set_other n ts k s new old)
]

module _ (pages units : ℕ) (slots : List Slot) (sound : AreSound pages units slots) where
  -- only one slot has a number
  pub one_place : (n j k : ℕ) → has_number n (slot_at slots j) ≡ true → has_number n (slot_at slots k) ≡ true → j ≡ k
  one_place n j k at_j at_k = elim (cases_eq j k) [
    | inl same ↦ same
    | inr other ↦
        (let one = number_facts n (slot_at slots j) at_j in
        let two = number_facts n (slot_at slots k) at_k in
        absurd ((sound.apart j k other one.used two.used).numbers (one.number ∙ sym two.number)))
  ]

  pub with_at : (n k : ℕ) → has_number n (slot_at slots k) ≡ true → slot_with n slots ≡ Some (slot_at slots k)
  with_at n k has = elim (search_for n slots) [
    | Here j below has_j is ↦ is ∙ ap (λ (i : ℕ). Some (slot_at slots i)) (one_place n j k has_j has)
    | Nowhere none is ↦ absurd (let used = number_facts n (slot_at slots k) has in let e = none k (used_below slots k used.used) in cc)
  ]

  -- the slot of a number is set free, and then none has it
  pub freed_absent : (n k : ℕ) → has_number n (slot_at slots k) ≡ true → slot_with n (set slots k free) ≡ None
  freed_absent n k has = absent (search_for n (set slots k free))
    where
      below : k < length slots
      below = used_below slots k (number_facts n (slot_at slots k) has).used

      absent : Search n (set slots k free) → slot_with n (set slots k free) ≡ None
      absent (Nowhere none is) = is
      absent (Here j lt has_j is) = absurd (elim (cases_eq j k) [
        | inl here ↦
            (let stays : slot_at (set slots k free) j ≡ free =
            ap (slot_at (set slots k free)) here ∙ set_here pages units slots sound k below free in
            let e : has_number n (slot_at (set slots k free) j) ≡ has_number n free = ap (has_number n) stays in
            cc)
        | inr differs ↦
            differs (one_place n j k (ap (has_number n) (sym (set_other pages units slots sound k below free j differs)) ∙ has_j) has)
      ])

  -- the slot of a number is set free at its place
  pub freed_is_set : (n k : ℕ) → has_number n (slot_at slots k) ≡ true → freed_slots n slots ≡ set slots k free
  freed_is_set n k has =
      same_lists (map (freed_slot n) slots) (set slots k free) (length_map slots ∙ sym (length-set slots k free)) (λ j d below.
      let lt : j < length slots = omega (arith, length_map slots) in
      map_at slots j d lt ∙ elim (cases_eq j k) [
        | inl here ↦
            (let h : has_number n (slot_at slots j) ≡ true = ap (λ (i : ℕ). has_number n (slot_at slots i)) here ∙ has in
            let kb : k < length slots = omega arith in
            rw h (sym (get_or_default (set slots k free) j d free (omega (arith, length-set slots k free)) ∙ ap (slot_at (set slots k free)) here
            ∙ set_here pages units slots sound k kb free)))
        | inr other ↦ elim (cases_Bool (has_number n (slot_at slots j))) [
          | inl also ↦ absurd (other (one_place n j k also has))
          | inr not ↦
              (let u = number_facts n (slot_at slots k) has in
              let kb : k < length slots = used_below slots k u.used in
              rw not (sym (get_or_default (set slots k free) j d free (omega (arith, length-set slots k free))
              ∙ set_other pages units slots sound k kb free j other)))
        ]
      ])
    where
      length_map : (l : List Slot) → length (map (freed_slot n) l) ≡ length l
      length_map [] = refl
      length_map (s ∷ l) = ap suc (length_map l)

      map_at : (l : List Slot) (j : ℕ) (d : Slot) → j < length l → get_or (map (freed_slot n) l) j d ≡ freed_slot n (slot_at l j)
      map_at [] j d below = absurd (omega arith)
      map_at (s ∷ l) zero d below = refl
      map_at (s ∷ l) (suc j) d below = map_at l j d (omega arith)

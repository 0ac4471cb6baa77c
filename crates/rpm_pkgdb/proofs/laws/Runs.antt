-- The first fault of some units after others, one unit after the other.
use Rattle.std.proofs.Common.{◌≡◌, ℕ, zero, suc, ◌+◌, List, [], ◌∷◌, ◌++◌, length, take, map, Option, Some, None, refl}
use Rattle.std.proofs.Common.{sym, ap, ◌∙◌, append_assoc, add-one}
use Rattle.std.specs.Option.{option_or}
use Rattle.std.specs.List.{range_with_len}
use Rattle.std.proofs.lemmas.List.{append-nil}
use Rattle.rpm_outside.specs.Files.{Units, unit_at}
use Rattle.rpm_pkgdb.specs.declared.slot.Slot.{Slot}
use Rattle.rpm_pkgdb.specs.declared.slot.Damage.{Damage}
use Rattle.rpm_pkgdb.specs.Slots.{slot_of, slots_in}
use Rattle.rpm_pkgdb.specs.Damages.{slot_fault, first_fault, table_fault}

-- numbers from one further on
pub range_next : {X : Type 0} (f : ℕ → X) (a n : ℕ)
    → map f (range_with_len (a + 1) n) ≡ map (λ (k : ℕ). f (k + 1)) (range_with_len a n)
range_next f a zero = refl
range_next f a (suc n) = ap (λ (xs : List _). f (a + 1) ∷ xs) (range_next f (a + 1) n)

pub same_map : {X : Type 0} (f g : ℕ → X) → ((k : ℕ) → f k ≡ g k) → (ks : List ℕ) → map f ks ≡ map g ks
same_map f g same [] = refl
same_map f g same (k ∷ ks) = ap (λ x. x ∷ map f ks) (same k) ∙ ap (λ xs. g k ∷ xs) (same_map f g same ks)

pub option_or-assoc : {X : Type 0} (a b c : Option X) → option_or (option_or a b) c ≡ option_or a (option_or b c)
option_or-assoc None b c = refl
option_or-assoc (Some x) b c = refl

-- the first of the values at so many places, from one on
abbrev pub first_from : {X : Type 0} → (ℕ → Option X) → ℕ → ℕ → Option X
first_from f a zero = None
first_from f a (suc n) = option_or (f a) (first_from f (a + 1) n)

-- values that stand one place further on
first_next : {X : Type 0} (f g : ℕ → Option X) → ((k : ℕ) → f (k + 1) ≡ g k) → (a n : ℕ) → first_from f (a + 1) n ≡ first_from g a n
first_next f g same a zero = refl
first_next f g same a (suc n) =
    ap (λ (o : Option _). option_or o (first_from f (a + 1 + 1) n)) (same a) ∙ ap (λ (o : Option _). option_or (g a) o) (first_next f g same (a + 1) n)

module _ (pages units : ℕ) where
  abbrev pub run : List Slot → Units → Option Damage
  run earlier us = first_fault pages units earlier us

  pub run-append : (earlier : List Slot) (us vs : Units)
      → run earlier (us ++ vs) ≡ option_or (run earlier us) (run (earlier ++ slots_in us) vs)
  unfolding slots_in
  run-append earlier [] vs = ap (λ (e : List Slot). run e vs) (sym (append-nil earlier))
  run-append earlier (u ∷ us) vs =
      ap (λ (r : Option Damage). option_or (slot_fault pages units earlier u) r)
      (run-append (earlier ++ slot_of u ∷ []) us vs)
      ∙ ap (λ (e : List Slot). option_or (slot_fault pages units earlier u)
      (option_or (run (earlier ++ slot_of u ∷ []) us) (run e vs)))
      (append_assoc earlier (slot_of u ∷ []) (map slot_of us))
      ∙ sym (option_or-assoc (slot_fault pages units earlier u) (run (earlier ++ slot_of u ∷ []) us)
      (run (earlier ++ slot_of u ∷ map slot_of us) vs))

  abbrev at : List Slot → Units → ℕ → Option Damage
  at earlier us k = slot_fault pages units (earlier ++ slots_in (take k us)) (unit_at us k)

  -- it is the first fault of all places
  first_is_run : (earlier : List Slot) (us : Units) → first_from (at earlier us) 0 (length us) ≡ run earlier us
  unfolding slots_in
  first_is_run earlier [] = refl
  first_is_run earlier (u ∷ us) =
      let here : at earlier (u ∷ us) 0 ≡ slot_fault pages units earlier u = ap
      (λ (e : List Slot). slot_fault pages units e u) (append-nil earlier) in
      let next = first_next (at earlier (u ∷ us)) (at (earlier ++ slot_of u ∷ []) us)
      (λ k. ap (at earlier (u ∷ us)) (add-one k) ∙ ap (λ (e : List Slot). slot_fault pages units e (unit_at us k))
      (sym (append_assoc earlier (slot_of u ∷ []) (map slot_of (take k us))))) 0 (length us) in
      ap (λ (x : Option Damage). option_or x (first_from (at earlier (u ∷ us)) 1 (length us))) here
      ∙ ap (λ (r : Option Damage). option_or (slot_fault pages units earlier u) r)
      (next ∙ first_is_run (earlier ++ slot_of u ∷ []) us)

  pub table_is_run : (us : Units) → table_fault pages units us ≡ run [] us
  unfolding table_fault
  table_is_run us = refl

  -- the fault of slot k of a table
  unfoldable pub damage_of_slot : Units → ℕ → Option Damage
  damage_of_slot slots k = slot_fault pages units (slots_in (take k slots)) (unit_at slots k)

  pub table_is_first : (us : Units) → first_from (damage_of_slot us) 0 (length us) ≡ table_fault pages units us
  unfolding table_fault damage_of_slot
  table_is_first us = first_is_run [] us

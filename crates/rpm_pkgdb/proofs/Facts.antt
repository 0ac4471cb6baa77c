-- What the tests on slots say, and where a test holds in a list.
use Rattle.std.proofs.Common.{◌≡◌, ℕ, ◌<◌, List, length, get_or, Bool, true, false, refl, ap, ◌∙◌, inl, inr, ◌⊎◌, arith}
use Rattle.rpm_pkgdb.proofs.Vocabulary.{end_of, has_number, is_used, list_any, slots_meet, Slot}
use Rattle.std.proofs.lemmas.List.{get_or_default}
use Rattle.std.proofs.lemmas.List.Folds.{Any-from_list_any, list_any_at}
use Rattle.std.proofs.lemmas.Bool.Decides.{nat_tests}

pub cases_Bool : (b : Bool) → (b ≡ true) ⊎ (b ≡ false)
cases_Bool true = inl refl
cases_Bool false = inr refl

pub none_at : {X : Type 0} (p : X → Bool) (xs : List X) (k : ℕ) (d : X) → list_any p xs ≡ false → k < length xs → p (get_or xs k d) ≡ false
none_at p xs k d none below = elim (cases_Bool (p (get_or xs k d))) [
  | inl holds ↦ absurd (let e = list_any_at p xs k d below holds in cc)
  | inr fails ↦ fails
]

-- a place where a test holds
pub record Place {X : Type 0} (p : X → Bool) (xs : List X) (d : X) : Type 0 where
  pub at : ℕ
  pub below : at < length xs
  pub holds : p (get_or xs at d) ≡ true

pub some_place : {X : Type 0} (p : X → Bool) (xs : List X) (d : X) → list_any p xs ≡ true → Place p xs d
some_place p xs d any =
    let a = Any-from_list_any p xs any in
    let same : get_or xs a.0 d ≡ a.1 = get_or_default xs a.0 d a.1 a.2 ∙ a.3 in
    record { at = a.0; below = a.2; holds = ap p same ∙ a.4 }

-- what the tests say
pub record IsUsedBy (n : ℕ) (t : Slot) : Type 0 where
  pub used : is_used t ≡ true
  pub number : t.number ≡ n

pub number_facts : (n : ℕ) (t : Slot) → has_number n t ≡ true → IsUsedBy n t
number_facts n t h = record { used = grind (arith, nat_tests); number = grind (arith, nat_tests) }

pub has_it_from : (n : ℕ) (t : Slot) → is_used t ≡ true → t.number ≡ n → has_number n t ≡ true
has_it_from n t used e = grind (arith, nat_tests)

pub record Meet (s t : Slot) : Type 0 where
  pub used : is_used t ≡ true
  pub left : s.offset < end_of t
  pub right : t.offset < end_of s

pub meet_facts : (s t : Slot) → slots_meet s t ≡ true → Meet s t
meet_facts s t h = record { used = grind (arith, nat_tests); left = grind (arith, nat_tests); right = grind (arith, nat_tests) }

pub meet_from : (s t : Slot) → is_used t ≡ true → s.offset < end_of t → t.offset < end_of s → slots_meet s t ≡ true
meet_from s t used left right = grind (arith, nat_tests)

pub no_place : {X : Type 0} (p : X → Bool) (xs : List X) (d : X) → (Place p xs d → ⊥) → list_any p xs ≡ false
no_place p xs d never = elim (cases_Bool (list_any p xs)) [
  | inl holds ↦ absurd (never (some_place p xs d holds))
  | inr fails ↦ fails
]

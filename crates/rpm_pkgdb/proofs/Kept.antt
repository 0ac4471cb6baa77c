-- The slot of a number, by a map to its place; and a lawful head.
use Rattle.std.proofs.Common.{◌≡◌, ℕ, zero, suc, ◌*◌, ◌^◌, ◌<◌, ◌≤◌, List, [], ◌∷◌, length, get_or, take, drop, Bool, true, false, Option, Some, None, IsSome, is_some, refl, sym, ap, ◌∙◌, arith, inl, inr, if◌then◌else◌}
use Rattle.rpm_pkgdb.proofs.Vocabulary.{find, free, greatest_number, has_number, HasPlaces, head_reason, is_used, IsGreatest, IsNextFound, IsPackageNumber}
use Rattle.rpm_pkgdb.proofs.Vocabulary.{list_any, Slot, slot_at, slot_with, unit_at, Units, word}
use Rattle.std.proofs.lemmas.List.Folds.{list_any_at}
use Rattle.std.proofs.lemmas.Bool.{cases_lt, cases_Bool}
use Rattle.std.proofs.lemmas.Bool.Decides.{nat_tests}
use Rattle.rpm_pkgdb.proofs.Facts.{number_facts}
use Rattle.rpm_pkgdb.proofs.Known.{place_known}

pub find_none : {X : Type 0} (p : X → Bool) (xs : List X) → list_any p xs ≡ false → find p xs ≡ None
find_none p [] none = refl
find_none p (x ∷ xs) none = elim (cases_Bool (p x)) [
  | inl holds ↦ absurd (let any : list_any p (x ∷ xs) ≡ true = rw holds refl in cc)
  | inr fails ↦ rw fails (find_none p xs (rw fails at none))
]

-- what is found, and where
pub record Found {X : Type 0} (p : X → Bool) (xs : List X) (d : X) : Type 0 where
  pub at : ℕ
  pub below : at < length xs
  pub holds : p (get_or xs at d) ≡ true
  pub is : find p xs ≡ Some (get_or xs at d)

pub find_some : {X : Type 0} (p : X → Bool) (xs : List X) (d : X) → list_any p xs ≡ true → Found p xs d
find_some p [] d any = absurd (cc)
find_some p (x ∷ xs) d any = elim (cases_Bool (p x)) [
  | inl holds ↦ record { at = 0; below = omega arith; holds = holds; is = rw holds refl }
  | inr fails ↦
      (let rest = find_some p xs d (rw fails at any) in
      record { at = suc rest.at; below = omega (arith, rest.below); holds = rest.holds; is = rw fails rest.is })
]

some_same : {X : Type 0} (o : Option X) (x y : X) → o ≡ Some x → o ≡ Some y → x ≡ y
some_same o x y e f = cc

module _ (f : ℕ → Option ℕ) (slots : List Slot) (has : HasPlaces f slots) where
  pub slot_missing : (n : ℕ) → f n ≡ None → slot_with n slots ≡ None
  slot_missing n missing = find_none (has_number n) slots (sym (place_known f slots free has n) ∙ ap is_some missing)

  pub slot_found : (n k : ℕ) → f n ≡ Some k → slot_with n slots ≡ Some (slot_at slots k)
  slot_found n k found =
      let o = has.only n k found in
      let any : list_any (has_number n) slots ≡ true = list_any_at (has_number n) slots k free o.0 o.1 in
      let it = find_some (has_number n) slots free any in
      let facts = number_facts n (slot_at slots it.at) it.holds in
      let also : f n ≡ Some it.at = ap f (sym facts.number) ∙ has.each it.at it.below facts.used in
      let same : it.at ≡ k = some_same (f n) it.at k also found in
      it.is ∙ ap (λ (j : ℕ). Some (slot_at slots j)) same

  pub next_kept : (n : ℕ) (r : Option ℕ) → IsNextFound f n r → IsNextFound (λ m. slot_with m slots) n r
  next_kept n None none = λ k above. slot_missing k (none k above)
  next_kept n (Some m) (above, found, none) = (above, known (f m) refl found, λ k over under. slot_missing k (none k over under))
    where
      known : (o : Option ℕ) → f m ≡ o → IsSome o → IsSome (slot_with m slots)
      known None e is = absurd (cc)
      known (Some k) e is = rw (slot_found m k e) refl

-- unit 0 has no fault
pub record IsLawful (units pages : ℕ) : Type 0 where
  pub some : 1 ≤ pages
  pub inside : 256 * pages ≤ units
  pub below : 256 * pages ≤ 2 ^ 28

pub lawful : (units : ℕ) (head : List ℕ) → head_reason units head ≡ None → IsLawful units (word 3 head)
unfolding head_reason
lawful units head none = record { some = grind (arith, nat_tests); inside = grind (arith, nat_tests); below = grind (arith, nat_tests) }

pub take_one : (us : Units) (k : ℕ) → k < length us → take 1 (drop k us) ≡ unit_at us k ∷ []
take_one [] k below = absurd (omega arith)
take_one (u ∷ us) zero below = refl
take_one (u ∷ us) (suc k) below = take_one us k (omega arith)

-- ---- the greatest number

greatest_number_ge : (slots : List Slot) (k : ℕ) → k < length slots → is_used (slot_at slots k) ≡ true → (slot_at slots k).number ≤ greatest_number slots
greatest_number_ge [] k below used = absurd (omega arith)
greatest_number_ge (s ∷ ss) zero below used = let e : (if is_used s then s.number else 0) ≡ s.number = rw used refl in omega arith
greatest_number_ge (s ∷ ss) (suc k) below used = let rest = greatest_number_ge ss k (omega arith) used in omega arith

greatest_number_le : (slots : List Slot) (m : ℕ) → ((k : ℕ) → k < length slots → is_used (slot_at slots k) ≡ true → (slot_at slots k).number ≤ m)
    → greatest_number slots ≤ m
greatest_number_le [] m each = omega arith
greatest_number_le (s ∷ ss) m each =
    let rest = greatest_number_le ss m (λ k below used. each (suc k) (omega arith) used) in
    elim (cases_Bool (is_used s)) [
      | inl used ↦ (let e : (if is_used s then s.number else 0) ≡ s.number = rw used refl in let here = each 0 (omega arith) used in omega arith)
      | inr unused ↦ (let e : (if is_used s then s.number else 0) ≡ 0 = rw unused refl in omega arith)
    ]

some_of : (o : Option ℕ) → IsSome o → (x : ℕ) × (o ≡ Some x)
some_of (Some x) is = (x, refl)
some_of None is = absurd (cc)

module _ (f : ℕ → Option ℕ) (slots : List Slot) (has : HasPlaces f slots) where
  pub greatest_none : IsGreatest f None → greatest_number slots ≡ 0
  greatest_none none =
      let le = greatest_number_le slots 0 (λ k below used. absurd (let e = has.each k below used in let g = none (slot_at slots k).number in cc)) in
      omega arith

  pub greatest_some : (m : ℕ) → IsGreatest f (Some m) → greatest_number slots ≡ m
  greatest_some m (found, none) =
      let le = greatest_number_le slots m (λ k below used. elim (cases_lt m (slot_at slots k).number) [
        | inl above ↦ absurd (let e = has.each k below used in let g = none (slot_at slots k).number above in cc)
        | inr under ↦ omega arith
      ]) in
      let v = some_of (f m) found in
      let o = has.only m v.0 v.1 in
      let facts = number_facts m (slot_at slots v.0) o.1 in
      let ge = greatest_number_ge slots v.0 o.0 facts.used in
      omega (arith, facts.number)

  pub greatest_below : (m limit : ℕ) → IsGreatest f (Some m)
      → ((k : ℕ) → k < length slots → is_used (slot_at slots k) ≡ true → (slot_at slots k).number < limit) → m < limit
  greatest_below m limit (found, none) each =
      let v = some_of (f m) found in
      let o = has.only m v.0 v.1 in
      let facts = number_facts m (slot_at slots v.0) o.1 in
      let lt = each v.0 o.0 facts.used in
      omega (arith, facts.number)

-- the number 0 is no package's
pub zero_absent : (slots : List Slot) → ((k : ℕ) → k < length slots → is_used (slot_at slots k) ≡ true → IsPackageNumber (slot_at slots k).number)
    → slot_with 0 slots ≡ None
zero_absent slots each = elim (cases_Bool (list_any (has_number 0) slots)) [
  | inr none ↦ find_none (has_number 0) slots none
  | inl some ↦
      (let f = find_some (has_number 0) slots free some in
      let facts = number_facts 0 (slot_at slots f.at) f.holds in
      let one = each f.at f.below facts.used in
      absurd (omega (arith, facts.number, one.0)))
]

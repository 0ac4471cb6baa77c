-- What a selection takes has one of the keys that it asks: selection by selection.
use Rattle.std.proofs.Common.{◌≡◌, ℕ, List, [], ◌∷◌, map, drop, Bool, true, false, ◌||◌, ◌==◌, Option, Some, None, refl}
use Rattle.std.proofs.Common.{sym, ap, inl, inr}
use Rattle.std.specs.Prelude.{◌⊎◌, slice_get}
use Rattle.std.specs.List.{list_any, zip}
use Rattle.std.specs.Option.{option_and_then}
use Rattle.std.specs.Str.{bytes_eq}
use Rattle.std.proofs.lemmas.Bool.{and_parts, eqb-true}
use Rattle.std.proofs.lemmas.Slice.Eq.{bytes_eq-Decides}
use Rattle.rpm_tags.specs.Keys.{number_key}
use Rattle.rpm_tags.specs.Wanted.{list_or_empty, beside, first_or, counts_for, base_name}
use Rattle.rpm_version.specs.Capability.{CapabilityParts}
use Rattle.rpm_version.specs.Range.{overlaps}
use Rattle.rpm_select.specs.Selections.{is_text_among}
use Rattle.rpm_select.specs.laws.Parts.{meets_capability, is_text}

pub or_left : (a b : Bool) → a ≡ true → (a || b) ≡ true
or_left true b is = refl
or_left false b is = absurd cc

pub or_right : (a b : Bool) → b ≡ true → (a || b) ≡ true
or_right true b is = refl
or_right false b is = is

-- one of two
pub or_cases : (a b : Bool) → (a || b) ≡ true → (a ≡ true) ⊎ (b ≡ true)
or_cases true b is = inl refl
or_cases false b is = inr is

pub same_bytes : (xs ys : List ℕ) → bytes_eq xs ys ≡ true → xs ≡ ys
same_bytes xs ys is = (bytes_eq-Decides xs ys).0 is

pub are_same : (xs ys : List ℕ) → xs ≡ ys → bytes_eq xs ys ≡ true
are_same xs ys is = (bytes_eq-Decides xs ys).1 is

pub turned : (xs ys : List ℕ) → bytes_eq xs ys ≡ true → bytes_eq ys xs ≡ true
turned xs ys is = are_same ys xs (sym (same_bytes xs ys is))

-- the first text is among the texts
pub first_among : (x : List ℕ) (o : Option (List (List ℕ)))
    → is_text x (option_and_then (λ ts. slice_get ts 0) o) ≡ true → is_text_among x (list_or_empty o) ≡ true
first_among x None is = absurd cc
first_among x (Some []) is = absurd cc
first_among x (Some (t ∷ ts)) is = or_left (bytes_eq x t) (is_text_among x ts) is

-- what is needed or given has its name among the names
pub named : (c : CapabilityParts) (names : List (List ℕ)) (flags : List ℕ) (versions : List (List ℕ))
    → list_any (meets_capability c) (beside names flags versions) ≡ true
    → is_text_among c.name names ≡ true
named c [] flags versions is = absurd cc
named c (name ∷ names) flags versions is =
    elim (or_cases (meets_capability c (record { name = name; flags = first_or 0 flags; version = first_or [] versions }))
    (list_any (meets_capability c) (beside names (drop 1 flags) (drop 1 versions))) is) [
      | inl first ↦ or_left (bytes_eq c.name name) (is_text_among c.name names) (turned name c.name
          (and_parts (bytes_eq name c.name) (overlaps (first_or 0 flags) (first_or [] versions) c.flags c.evr) first).0)
      | inr later ↦ or_right (bytes_eq c.name name) (is_text_among c.name names)
          (named c names (drop 1 flags) (drop 1 versions) later)
    ]

-- the name of a file that counts for a path is what the path ends in
pub zipped : (path : List ℕ) (files bases : List (List ℕ)) → list_any (counts_for path) (zip files bases) ≡ true
    → is_text_among (base_name path) bases ≡ true
zipped path [] bases is = absurd cc
zipped path (f ∷ fs) [] is = absurd cc
zipped path (f ∷ fs) (b ∷ bs) is =
    elim (or_cases (counts_for path (f, b)) (list_any (counts_for path) (zip fs bs)) is) [
      | inl first ↦
          or_left (bytes_eq (base_name path) b) (is_text_among (base_name path) bs)
          (turned b (base_name path) (and_parts (bytes_eq f path) (bytes_eq b (base_name path)) first).1)
      | inr later ↦ or_right (bytes_eq (base_name path) b) (is_text_among (base_name path) bs) (zipped path fs bs later)
    ]

-- a number is a key among the keys of numbers
pub numbered : (t : ℕ) (ns : List ℕ) → list_any (λ m. m == t) ns ≡ true
    → is_text_among (number_key t) (map number_key ns) ≡ true
numbered t [] is = absurd cc
numbered t (n ∷ ns) is = elim (or_cases (n == t) (list_any (λ m. m == t) ns) is) [
  | inl first ↦
      or_left (bytes_eq (number_key t) (number_key n)) (is_text_among (number_key t) (map number_key ns))
      (are_same (number_key t) (number_key n) (ap number_key (sym (eqb-true n t first))))
  | inr later ↦ or_right (bytes_eq (number_key t) (number_key n)) (is_text_among (number_key t) (map number_key ns))
      (numbered t ns later)
]

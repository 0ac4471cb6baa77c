-- The last entry of a tag, as a search from the back finds it.
use Rattle.std.proofs.Common.{◌≡◌, ℕ, zero, suc, ◌+◌, List, [], ◌∷◌, drop, map, true, false, Some, None, refl, arith, eq-eqb, ne_eqb, eqb}
use Rattle.std.specs.Prelude.{slice_get}
use Rattle.rpm_header.proofs.Vocabulary.{Item, last_of}

-- the loop names the place after the entry that it looks at
pub found_at : (tag : ℕ) (es : List Item) (i j : ℕ) (e : Item) → j ≡ i + 1 → slice_get es i ≡ Some e → slice_get (map (λ e. e.tag) es) i ≡ Some tag
    → last_of tag (drop j es) ≡ None → last_of tag es ≡ Some e
found_at tag [] i j e next at same none = absurd cc
found_at tag (x ∷ es) zero j e next at same none =
    let test : eqb x.tag tag ≡ true = eq-eqb x.tag tag cc in
    let behind : last_of tag es ≡ None = rw next at none in
    rw (behind, test) at
found_at tag (x ∷ es) (suc i) j e next at same none =
    let step : j ≡ suc (i + 1) = omega arith in
    rw (found_at tag es i (i + 1) e refl at same (rw step at none)) refl

pub not_at : (tag : ℕ) (es : List Item) (i j other : ℕ) → j ≡ i + 1 → slice_get (map (λ e. e.tag) es) i ≡ Some other → (other ≡ tag → ⊥)
    → last_of tag (drop j es) ≡ None → last_of tag (drop i es) ≡ None
not_at tag [] i j other next at differs none = absurd cc
not_at tag (x ∷ es) zero j other next at differs none =
    let test : eqb x.tag tag ≡ false = ne_eqb x.tag tag (λ same. differs cc) in
    let behind : last_of tag es ≡ None = rw next at none in
    rw (behind, test) refl
not_at tag (x ∷ es) (suc i) j other next at differs none =
    let step : j ≡ suc (i + 1) = omega arith in
    not_at tag es i (i + 1) other refl at differs (rw step at none)

-- A write in parts, one after the other.
use Rattle.std.proofs.Common.{◌≡◌, inl, inr, ℕ, zero, suc, ◌+◌, ◌-◌, ◌*◌, ◌/◌, ◌%◌, ◌≤◌, List, [], ◌∷◌, ◌++◌, length, take, drop, refl, sym, ap, ◌∙◌, arith, length-append, length-drop}
use Rattle.std.proofs.lemmas.Bool.{cases_lt}
use Rattle.std.proofs.lemmas.List.{get_or_append_left, get_or-append_right, take-append-le, drop-append-le, nil_from_length}
use Rattle.rpm_pkgdb.proofs.Vocabulary.{blank, cut_up, length-put, with_units, put_after, put_before, put_inside, same_units, unit_at, Units, units_of}

module _ (at : ℕ) (us vs file : Units) where
  abbrev first : Units
  first = with_units at us file

  at_each : (i : ℕ) → unit_at (with_units (at + length us) vs first) i ≡ unit_at (with_units at (us ++ vs) file) i
  at_each i =
      let long = length-append us vs in
      elim (cases_lt i at) [
        | inl below ↦ put_before (at + length us) vs first i (omega arith) ∙ put_before at us file i below ∙ sym (put_before at (us ++ vs) file i below)
        | inr from ↦ elim (cases_lt i (at + length us)) [
          | inl inside ↦
              (let k = i - at in
              put_before (at + length us) vs first i inside
              ∙ ap (unit_at first) (omega arith)
              ∙ put_inside at us file k (omega arith)
              ∙ sym (get_or_append_left us vs blank k (omega arith))
              ∙ sym (put_inside at (us ++ vs) file k (omega arith))
              ∙ ap (unit_at (with_units at (us ++ vs) file)) (omega arith))
          | inr past ↦ elim (cases_lt i (at + length us + length vs)) [
            | inl inside ↦
                (let k = i - (at + length us) in
                ap (unit_at (with_units (at + length us) vs first)) (omega arith)
                ∙ put_inside (at + length us) vs first k (omega arith)
                ∙ ap (unit_at vs) (omega arith)
                ∙ sym (get_or-append_right us vs (length us) (length us + k) blank refl (omega arith))
                ∙ sym (put_inside at (us ++ vs) file (length us + k) (omega arith))
                ∙ ap (unit_at (with_units at (us ++ vs) file)) (omega arith))
            | inr after ↦ put_after (at + length us) vs first i after ∙ put_after at us file i past ∙ sym (put_after at (us ++ vs) file i (omega arith))
          ]
        ]
      ]

  pub put_append : with_units (at + length us) vs first ≡ with_units at (us ++ vs) file
  put_append =
      same_units (with_units (at + length us) vs first) (with_units at (us ++ vs) file)
      (omega (arith, length-append us vs, length-put (at + length us) vs first, length-put at us file, length-put at (us ++ vs) file)) at_each

-- a write of nothing inside the file
pub put_nothing : (at : ℕ) (file : Units) → at ≤ length file → with_units at [] file ≡ file
put_nothing at file le = same_units (with_units at [] file) file (omega (arith, length-put at [] file)) (λ i. elim (cases_lt i at) [
  | inl below ↦ put_before at [] file i below
  | inr from ↦ put_after at [] file i (omega arith)
])

cut_up-append : (n m : ℕ) (a b : List ℕ) → length a ≡ 16 * n → cut_up (n + m) (a ++ b) ≡ cut_up n a ++ cut_up m b
cut_up-append zero m a b long =
    (let e : a ≡ [] = nil_from_length a (omega arith) in let z : 0 + m ≡ m = omega arith in ap (λ (k : ℕ). cut_up k (a ++ b)) z
    ∙ ap (λ (x : List ℕ). cut_up m (x ++ b)) e)
cut_up-append (suc n) m a b long =
    let s : suc n + m ≡ suc (n + m) = omega arith in
    let t : take 16 (a ++ b) ≡ take 16 a = take-append-le 16 a b (omega arith) in
    let d : drop 16 (a ++ b) ≡ drop 16 a ++ b = drop-append-le 16 a b (omega arith) in
    ap (λ (k : ℕ). cut_up k (a ++ b)) s ∙ ap (λ (u : List ℕ). u ∷ cut_up (n + m) (drop 16 (a ++ b))) t ∙ ap (λ (bs : List ℕ). take 16 a ∷ cut_up (n + m) bs) d
    ∙ ap (λ (us : Units). take 16 a ∷ us) (cut_up-append n m (drop 16 a) b (omega (arith, length-drop 16 a)))

-- bytes after whole units
pub units_of-append : (a b : List ℕ) → length a % 16 ≡ 0 → units_of (a ++ b) ≡ units_of a ++ units_of b
units_of-append a b whole =
    let n : length (a ++ b) / 16 ≡ length a / 16 + length b / 16 = omega (arith, length-append a b) in
    ap (λ (k : ℕ). cut_up k (a ++ b)) n ∙ cut_up-append (length a / 16) (length b / 16) a b (omega arith)

-- Files that count for a path, and names with what is beside them.
use Rattle.std.proofs.Common.{◌≡◌, ℕ, zero, suc, ◌+◌, List, [], ◌∷◌, ◌++◌, drop, Bool, true, false, ◌&&◌, ◌||◌, Some, refl, sym, ap, ◌∙◌, inl, inr, arith}
use Rattle.std.specs.Prelude.{slice_get}
use Rattle.rpm_tags.proofs.Vocabulary.{base_name, beside, bytes_eq, counts_for, file_name, file_names, first_or, list_any, zip}
use Rattle.std.proofs.lemmas.Bool.{cases_Bool}
use Rattle.std.proofs.lemmas.Slice.Eq.{bytes_eq-Decides}
use Rattle.std.proofs.lemmas.List.{append_cancel_right}
use Rattle.rpm_tags.proofs.Paths.{next_path}

-- ---- a path

same_bytes : (xs ys : List ℕ) → bytes_eq xs ys ≡ true → xs ≡ ys
same_bytes xs ys test = (bytes_eq-Decides xs ys).0 test

are_same : (xs ys : List ℕ) → xs ≡ ys → bytes_eq xs ys ≡ true
are_same xs ys same = (bytes_eq-Decides xs ys).1 same

same_front : (dir front base : List ℕ) → bytes_eq (dir ++ base) (front ++ base) ≡ bytes_eq dir front
same_front dir front base = elim (cases_Bool (bytes_eq dir front)) [
  | inl same ↦ are_same (dir ++ base) (front ++ base) (ap (λ (xs : List ℕ). xs ++ base) (same_bytes dir front same)) ∙ sym same
  | inr other ↦ elim (cases_Bool (bytes_eq (dir ++ base) (front ++ base))) [
    | inl both ↦ (let is : bytes_eq dir front ≡ true =
        are_same dir front (append_cancel_right dir front base (same_bytes (dir ++ base) (front ++ base) both)) in cc)
    | inr neither ↦ neither ∙ sym other
  ]
]

-- the name is compared first, and then the directory with what stands before the path's name
pub counts : (path front base dir b : List ℕ) → front ++ base ≡ path → base ≡ base_name path
    → counts_for path (dir ++ b, b) ≡ (bytes_eq b base && bytes_eq dir front)
counts path front base dir b whole is = elim (cases_Bool (bytes_eq b base)) [
  | inl same ↦ (let equal : b ≡ base = same_bytes b base same in rw (← is, ← whole, equal)
      (rw (are_same base base refl, same_front dir front base) (and_true (bytes_eq dir front))))
  | inr other ↦ rw (← is, other) (and_false (bytes_eq (dir ++ b) path))
]
  where
    and_true : (x : Bool) → (x && true) ≡ x
    and_true true = refl
    and_true false = refl

    and_false : (x : Bool) → (x && false) ≡ false
    and_false true = refl
    and_false false = refl

pub counts_then : (front base dir b : List ℕ) (dirs : List (List ℕ)) (n : ℕ) → base ≡ base_name (front ++ base) → slice_get dirs n ≡ Some dir
    → true ≡ bytes_eq b base → counts_for (front ++ base) (file_name dirs (n, b), b) ≡ bytes_eq dir front
counts_then front base dir b dirs n is at same =
    rw at (counts (front ++ base) front base dir b refl is ∙ ap (λ (x : Bool). x && bytes_eq dir front) (sym same))

-- the next file, and the others
pub next_counts : (path b : List ℕ) (dirs : List (List ℕ)) (indexes : List ℕ) (place n : ℕ) (bases bs : List (List ℕ)) (answer r : Bool) → bases ≡ b ∷ bs
    → slice_get indexes place ≡ Some n → answer ≡ counts_for path (file_name dirs (n, b), b)
    → list_any (counts_for path) (zip (file_names dirs (drop place indexes) bases) bases) ≡ r
    → (answer || list_any (counts_for path) (zip (file_names dirs (drop (place + 1) indexes) bs) bs)) ≡ r
next_counts path b dirs indexes place n bases bs answer r more at is before =
    let files : file_names dirs (drop place indexes) bases ≡ file_name dirs (n, b) ∷ file_names dirs (drop (place + 1) indexes) bs =
    next_path dirs indexes bases place n b bs more at in
    ap (λ (x : Bool). x || list_any (counts_for path) (zip (file_names dirs (drop (place + 1) indexes) bs) bs)) is
    ∙ sym (ap (λ (fs : List (List ℕ)). list_any (counts_for path) (zip fs bases)) files
    ∙ ap (λ (names : List (List ℕ)). list_any (counts_for path) (zip (file_name dirs (n, b) ∷ file_names dirs (drop (place + 1) indexes) bs) names))
    more)
    ∙ before

pub none_counts : (path : List ℕ) (files bases : List (List ℕ)) → bases ≡ [] → list_any (counts_for path) (zip files bases) ≡ false
none_counts path [] bases none = refl
none_counts path (f ∷ files) bases none = rw none refl

-- ---- names with what is beside them

pub first_is : (xs : List ℕ) (i n : ℕ) → slice_get xs i ≡ Some n → first_or 0 (drop i xs) ≡ n
first_is [] i n at = absurd cc
first_is (x ∷ xs) zero n at = cc
first_is (x ∷ xs) (suc i) n at = first_is xs i n at

drop_drop : {X : Type 0} (xs : List X) (i j : ℕ) → j ≡ i + 1 → drop 1 (drop i xs) ≡ drop j xs
drop_drop [] zero j next = rw next refl
drop_drop [] (suc i) j next =
    let step : j ≡ suc (i + 1) = omega arith in
    rw step refl
drop_drop (x ∷ xs) zero j next = rw next refl
drop_drop (x ∷ xs) (suc i) j next =
    let step : j ≡ suc (i + 1) = omega arith in
    rw step (drop_drop xs i (i + 1) refl)

first_beside : (xs : List (List ℕ)) (fs : List ℕ) (vs : List (List ℕ)) (x : List ℕ) → Some x ≡ slice_get xs 0
    → beside xs fs vs ≡ record { name = x; flags = first_or 0 fs; version = first_or [] vs } ∷ beside (drop 1 xs) (drop 1 fs) (drop 1 vs)
first_beside [] fs vs x at = absurd cc
first_beside (y ∷ xs) fs vs x at =
    let is : x ≡ y = cc in
    rw is refl

pub next_beside : (xs ys : List (List ℕ)) (fs : List ℕ) (vs ws : List (List ℕ)) (place n : ℕ) (x v : List ℕ) → Some x ≡ slice_get xs 0 → ys ≡ drop 1 xs
    → n ≡ first_or 0 (drop place fs) → v ≡ first_or [] vs → ws ≡ drop 1 vs
    → beside xs (drop place fs) vs ≡ record { name = x; flags = n; version = v } ∷ beside ys (drop (place + 1) fs) ws
next_beside xs ys fs vs ws place n x v at rest flags version left =
    rw (rest, flags, version, left, ← drop_drop fs place (place + 1) refl) (first_beside xs (drop place fs) vs x at)

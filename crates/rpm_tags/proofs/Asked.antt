-- The directories that files ask for.
use Rattle.std.proofs.Common.{◌≡◌, ℕ, zero, suc, ◌+◌, ◌<◌, ◌≤◌, max, List, [], ◌∷◌, length, take, Bool, true, false, ◌&&◌, Some, inl, inr, refl, sym, ap, ◌∙◌, arith, nat_lt}
use Rattle.std.specs.Prelude.{slice_get}
use Rattle.rpm_tags.proofs.Vocabulary.{AreAsked, file_names, list_all, text_at}
use Rattle.std.proofs.lemmas.Bool.{lt-ltb, le-ltb, ltb-true, cases_lt, eq-eqb}
use Rattle.std.proofs.lemmas.List.{length-take-le, take_all}
use Rattle.rpm_tags.proofs.Paths.{and_first, and_second}

-- ---- the highest of some numbers

and_all : (b : Bool) → (b && true) ≡ b
and_all true = refl
and_all false = refl

and_assoc : (a b c : Bool) → (a && (b && c)) ≡ ((a && b) && c)
and_assoc true b c = refl
and_assoc false b c = refl

all_more : (limit : ℕ) (xs : List ℕ) (i j n : ℕ) → j ≡ i + 1 → slice_get xs i ≡ Some n
    → list_all (λ k. nat_lt k limit) (take j xs) ≡ (list_all (λ k. nat_lt k limit) (take i xs) && nat_lt n limit)
all_more limit [] i j n next at = absurd cc
all_more limit (x ∷ xs) zero j n next at =
    let is : x ≡ n = cc in
    rw (next, is) (and_all (nat_lt n limit))
all_more limit (x ∷ xs) (suc i) j n next at =
    let step : j ≡ suc (i + 1) = omega arith in
    rw (step, all_more limit xs i (i + 1) n refl at) (and_assoc (nat_lt x limit) (list_all (λ k. nat_lt k limit) (take i xs)) (nat_lt n limit))

lt_both : (a b limit : ℕ) → (nat_lt a limit && nat_lt b limit) ≡ nat_lt (max a b) limit
lt_both a b limit = elim (cases_lt a limit) [
  | inl below ↦ (rw (lt-ltb a limit below) (elim (cases_lt b limit) [
    | inl second ↦ (lt-ltb b limit second ∙ sym (lt-ltb (max a b) limit (omega arith)))
    | inr past ↦ (le-ltb b limit past ∙ sym (le-ltb (max a b) limit (omega arith)))
  ]))
  | inr past ↦ (rw (le-ltb a limit past) (sym (le-ltb (max a b) limit (omega arith))))
]

pub highest_first : (limit : ℕ) (xs : List ℕ) (n : ℕ) → slice_get xs 0 ≡ Some n → list_all (λ k. nat_lt k limit) (take 1 xs) ≡ nat_lt n limit
highest_first limit xs n at = all_more limit xs 0 1 n refl at

pub highest_more : (limit : ℕ) (xs : List ℕ) (i high n next : ℕ) → next ≡ max high n → slice_get xs i ≡ Some n
    → list_all (λ k. nat_lt k limit) (take i xs) ≡ nat_lt high limit → list_all (λ k. nat_lt k limit) (take (i + 1) xs) ≡ nat_lt next limit
highest_more limit xs i high n next is at so_far =
    all_more limit xs i (i + 1) n refl at
    ∙ ap (λ (b : Bool). b && nat_lt n limit) so_far
    ∙ lt_both high n limit
    ∙ ap (λ (m : ℕ). nat_lt m limit) (sym is)

pub highest_all : (limit : ℕ) (xs : List ℕ) (i high : ℕ) → length xs ≤ i → list_all (λ k. nat_lt k limit) (take i xs) ≡ nat_lt high limit
    → list_all (λ k. nat_lt k limit) xs ≡ nat_lt high limit
highest_all limit xs i high past all = ap (λ (ys : List ℕ). list_all (λ k. nat_lt k limit) ys) (sym (take_all i xs past)) ∙ all

-- ---- the directories up to the last that is asked for

text_first : (dirs : List (List ℕ)) (n i : ℕ) → i < n → text_at (take n dirs) i ≡ text_at dirs i
text_first dirs zero i lt = absurd (omega arith)
text_first [] (suc n) i lt = refl
text_first (d ∷ dirs) (suc n) zero lt = refl
text_first (d ∷ dirs) (suc n) (suc i) lt = text_first dirs n i (omega arith)

names_first : (dirs : List (List ℕ)) (n : ℕ) (indexes : List ℕ) (bases : List (List ℕ)) → list_all (λ k. nat_lt k n) indexes ≡ true
    → file_names (take n dirs) indexes bases ≡ file_names dirs indexes bases
unfolding file_names
names_first dirs n [] bases all = refl
names_first dirs n (i ∷ indexes) [] all = refl
names_first dirs n (i ∷ indexes) (b ∷ bases) all =
    let below : i < n = ltb-true i n (and_first (nat_lt i n) (list_all (λ k. nat_lt k n) indexes) all) in
    let others = names_first dirs n indexes bases (and_second (nat_lt i n) (list_all (λ k. nat_lt k n) indexes) all) in
    rw (text_first dirs n i below, others) refl

pub are_asked : (dirs : List (List ℕ)) (high n : ℕ) (indexes : List ℕ) (bases : List (List ℕ)) → n ≡ high + 1 → length bases ≡ length indexes
    → ((limit : ℕ) → list_all (λ k. nat_lt k limit) indexes ≡ nat_lt high limit) → high < length dirs → AreAsked dirs (take n dirs) indexes bases
are_asked dirs high n indexes bases is same highest below =
    let each : list_all (λ k. nat_lt k n) indexes ≡ true = highest n ∙ lt-ltb high n (omega arith) in
    let size : length (take n dirs) ≡ n = length-take-le n dirs (omega arith) in
    record {
      all = rw (eq-eqb (length bases) (length indexes) same, highest (length dirs), lt-ltb high (length dirs) below) refl;
      matched = rw (eq-eqb (length bases) (length indexes) same, size, each) refl;
      same = names_first dirs n indexes bases each;
    }

-- Edges that are added to a graph.
use Rattle.std.proofs.Common.{◌≡◌, ℕ, ◌<◌, ◌≤◌, ◌+◌, ◌==◌, List, [], ◌∷◌, ◌++◌, map, length, get_or, drop, add-one, drop-cons, Bool, true, false, not, Result, Ok, Err, refl, sym, ap, ◌∙◌, subst, inl, inr, arith, append_assoc, append-nil}
use Rattle.std.specs.Prelude.{filter, is_ok, OnOk, OnErr}
use Rattle.rpm_check.proofs.Vocabulary.{All, among, AreAbove, BeginsBelow, BeginsUpTo, Edge, edge, is_end, is_in, IsEdgeBefore, IsBinarySearchResult, IsNumberRising}
use Rattle.rpm_check.proofs.Vocabulary.{Joins, nat_cmp, Network, not_among, or_left, or_right}
use Rattle.std.proofs.lemmas.Bool.{and_parts, cases_Bool, cases_lt, eq-eqb}
use Rattle.std.proofs.lemmas.List.Elements.{All-nil, All-cons, All-same, All-append, All-weaker}
use Rattle.std.proofs.lemmas.List.Sorted.{searched}
use Rattle.rpm_check.proofs.Members.{contained}

-- ---- what is searched

le_of_rising : (xs : List ℕ) → IsNumberRising xs → (i j : ℕ) → i ≤ j → j < length xs → get_or xs i 0 ≤ get_or xs j 0
le_of_rising xs rising i j le lt = elim (cases_lt i j) [
  | inl less ↦ omega (arith, rising i j less lt)
  | inr same ↦ (let is : i ≡ j = omega arith in omega (arith, ap (λ k. get_or xs k 0) is))
]

pub found_is : (xs : List ℕ) (x : ℕ) (r : Result ℕ ℕ) → IsNumberRising xs → IsBinarySearchResult (λ y. nat_cmp y x) xs r → is_ok r ≡ is_in x xs
found_is xs x (Ok i) rising position =
    let found = searched xs x (Ok i) position (le_of_rising xs rising) in
    sym (subst (λ (q : ℕ). is_in q xs ≡ true) found.1 (among xs i found.0))
found_is xs x (Err i) rising position =
    let found = searched xs x (Err i) position (le_of_rising xs rising) in
    sym (not_among x xs (λ k within is. elim (cases_lt k i) [
      | inl before ↦ (let low = found.1 k before in omega (arith, low, is))
      | inr behind ↦ (let high = found.2 k behind within in omega (arith, high, is))
    ]))

-- ---- one more edge

not_same : (n m : ℕ) → not (n == m) ≡ true → n ≡ m → ⊥
not_same n m other is = (let same : (n == m) ≡ true = eq-eqb n m is in (let both : false ≡ true = sym (ap not same) ∙ other in absurd cc))

pub joins_end : (numbers : List ℕ) (n m : ℕ) → is_in n numbers ≡ true → is_end numbers n m ≡ true → Joins numbers (edge n m)
joins_end numbers n m begins ends =
    let parts = and_parts (not (n == m)) (is_in m numbers) ends in
    record { begins = contained n numbers begins; ends = contained m numbers parts.1; differ = not_same n m parts.0 }

-- an edge stands before those from a number to each of these
abbrev pub IsBehind : ℕ → List ℕ → Edge → Type 0
IsBehind n ms e = (m : ℕ) → is_in m ms ≡ true → IsEdgeBefore e (edge n m)

pub behind_all : (n : ℕ) (ms : List ℕ) (es : List Edge) → All (BeginsBelow n) es → All (IsBehind n ms) es
behind_all n ms es low = All-weaker (BeginsBelow n) (IsBehind n ms) (λ e lt m is. inl lt) es low

pub behind_first : (n m : ℕ) (ms : List ℕ) (es : List Edge) → All (IsBehind n (m ∷ ms)) es → All (λ (e : Edge). IsEdgeBefore e (edge n m)) es
behind_first n m ms es behind =
    All-weaker (IsBehind n (m ∷ ms)) (λ (e : Edge). IsEdgeBefore e (edge n m)) (λ e is. is m (or_left (m == m) (is_in m ms) (eq-eqb m m refl))) es behind

behind_rest : (n m : ℕ) (ms : List ℕ) (es : List Edge) → All (IsBehind n (m ∷ ms)) es → All (IsBehind n ms) es
behind_rest n m ms es behind = All-weaker (IsBehind n (m ∷ ms)) (IsBehind n ms) (λ e is k in_ms. is k (or_right (m == k) (is_in k ms) in_ms)) es behind

-- ---- one of several ends

kept_all : (P : Edge → Type 0) (p : ℕ → Bool) (n m : ℕ) → P (edge n m) → All P (map (edge n) (filter p (m ∷ [])))
kept_all P p n m is = elim (cases_Bool (p m)) [
  | inl takes ↦ rw takes (All-cons P (edge n m) [] is (All-nil P))
  | inr other ↦ rw other (All-nil P)
]

split_first : (p : ℕ → Bool) (n m : ℕ) (ms : List ℕ)
    → map (edge n) (filter p (m ∷ [])) ++ map (edge n) (filter p ms) ≡ map (edge n) (filter p (m ∷ ms))
split_first p n m ms = elim (cases_Bool (p m)) [ inl takes ↦ rw takes refl | inr other ↦ rw other refl ]

module _ (p : ℕ → Bool) (n m : ℕ) (ms : List ℕ) (old new : List Edge) (is : new ≡ old ++ map (edge n) (filter p (m ∷ []))) where
  pub told_more : (whole : List Edge) → old ++ map (edge n) (filter p (m ∷ ms)) ≡ whole → new ++ map (edge n) (filter p ms) ≡ whole
  told_more whole so_far =
      ap (λ (es : List Edge). es ++ map (edge n) (filter p ms)) is
      ∙ append_assoc old (map (edge n) (filter p (m ∷ []))) (map (edge n) (filter p ms))
      ∙ ap (λ (es : List Edge). old ++ es) (split_first p n m ms) ∙ so_far

  all_more : (P : Edge → Type 0) → All P old → P (edge n m) → All P new
  all_more P before here = All-same P new _ is (All-append P old (map (edge n) (filter p (m ∷ []))) before (kept_all P p n m here))

  pub behind_more : AreAbove m ms → All (IsBehind n (m ∷ ms)) old → All (IsBehind n ms) new
  behind_more above behind = all_more (IsBehind n ms) (behind_rest n m ms old behind) (λ k in_ms. inr (refl, above k in_ms))

  pub low_more : All (BeginsUpTo n) old → All (BeginsUpTo n) new
  low_more low = all_more (BeginsUpTo n) low (omega arith)

-- none where it is no end
pub none_more : (p : ℕ → Bool) (n m : ℕ) (es : List Edge) → p m ≡ false → es ≡ es ++ map (edge n) (filter p (m ∷ []))
none_more p n m es other = rw other (sym (append-nil es))

one_more : (p : ℕ → Bool) (n m : ℕ) (es : List Edge) → p m ≡ true → es ++ edge n m ∷ [] ≡ es ++ map (edge n) (filter p (m ∷ []))
one_more p n m es takes = rw takes refl

-- what is left from a place on
pub next_drop : (xs : List ℕ) (k : ℕ) → k < length xs → drop k xs ≡ get_or xs k 0 ∷ drop (k + 1) xs
next_drop xs k within = rw (add-one, drop-cons xs k 0) refl

-- ---- an answer of a graph

module _ {E : Type 0} (old new : Network) where
  module _ (n m : ℕ) (p : ℕ → Bool) (takes : p m ≡ true) where
    pub numbers_stay : (r : Result (Unit {0}) E) → OnOk r (new ≡ record old { edges = old.edges ++ edge n m ∷ [] }) → OnErr r (new ≡ old)
        → new.numbers ≡ old.numbers
    numbers_stay (Ok done) is same = ap (λ (g : Network). g.numbers) is
    numbers_stay (Err fault) is same = ap (λ (g : Network). g.numbers) same

    pub edge_told : (r : Result (Unit {0}) E) → OnOk r (new ≡ record old { edges = old.edges ++ edge n m ∷ [] })
        → OnOk r (new.edges ≡ old.edges ++ map (edge n) (filter p (m ∷ [])))
    edge_told (Ok done) is = ap (λ (g : Network). g.edges) is ∙ one_more p n m old.edges takes
    edge_told (Err fault) is = tt

  pub edges_left : (r : Result (Unit {0}) E) → OnErr r (new ≡ old) → OnErr r (new.edges ≡ old.edges)
  edges_left (Ok done) same = tt
  edges_left (Err fault) same = ap (λ (g : Network). g.edges) same

-- Rows in order.
use Rattle.std.proofs.Common.{◌≡◌, ℕ, suc, ◌+◌, ◌≤◌, ◌<◌, Bool, true, false, nat_eq, List, [], ◌∷◌, drop, length, map, take, ◌++◌, cond, get_or, refl, sym, ap, ◌∙◌, subst, ◌⊎◌, inl, inr, arith, length-drop}
use Rattle.rpm_db.proofs.Vocabulary.{AreInOrder, AreNetted, is_row_before, nat_cmp, no_row, Row, RowChange, row_cmp, row_nth, row_of, same_row, SameRows, Standing, times, times-append}
use Rattle.rpm_db.proofs.Vocabulary.{times_none, times_one}
use Rattle.std.specs.Cmp.{IsTotalOrder, unsigned_tied}
use Rattle.std.specs.Cmp.Lexicographic.{slice_cmp}
use Rattle.std.specs.List.Sorted.{IsPermutation, IsSortedBy}
use Rattle.std.specs.declared.cmp.Ordering.{Ordering}
use Rattle.std.specs.declared.cmp.Ordering.TheVariants.{Less, Equal, Greater}
use Rattle.std.specs.Ordering.{is_lt, is_eq, ordering_reverse, ordering_then}
use Rattle.std.proofs.lemmas.Bool.{cases_Bool, cases_lt, and_from}
use Rattle.std.proofs.lemmas.Cmp.{nat_cmp_total, nat_list_cmp_total, on_total, then_total}
use Rattle.std.proofs.lemmas.List.{get_or_default, get_or-drop, get_or-map, length-map, map-append, take_more}
use Rattle.std.proofs.lemmas.List.Sorted.{IsPermutation-map, ranks_by, sorted_far, sum_by-IsPermutation}
use Rattle.std.proofs.lemmas.Map.Text.{is_eq-slice_cmp}
use Rattle.rpm_hindex.proofs.laws.RowLaws.{same_is}

row_total : IsTotalOrder row_cmp
row_total =
    then_total (on_total (λ (r : Row). r.number) nat_cmp_total)
    (then_total (on_total (λ (r : Row). r.kind) nat_cmp_total)
    (then_total (on_total (λ (r : Row). r.place) nat_cmp_total) (on_total (λ (r : Row). r.key) nat_list_cmp_total)))

-- ---- rows that do not come before each other are one

then_equal : (o p : Ordering) → ordering_then o p ≡ Equal → (o ≡ Equal) × (p ≡ Equal)
then_equal Less p is = absurd cc
then_equal Equal p is = (refl, is)
then_equal Greater p is = absurd cc

number_equal : (x y : ℕ) → nat_cmp x y ≡ Equal → nat_eq x y ≡ true
number_equal x y is = sym (unsigned_tied x y) ∙ ap is_eq is

equal_same : (a b : Row) → row_cmp a b ≡ Equal → same_row a b ≡ true
equal_same a b is =
    let p = then_equal (nat_cmp a.number b.number) _ is in
    let q = then_equal (nat_cmp a.kind b.kind) _ p.1 in
    let s = then_equal (nat_cmp a.place b.place) (slice_cmp nat_cmp a.key b.key) q.1 in
    and_from _ _ (number_equal a.kind b.kind q.0) (and_from _ _ (sym (is_eq-slice_cmp a.key b.key) ∙ ap is_eq s.1)
    (and_from _ _ (number_equal a.number b.number p.0) (number_equal a.place b.place s.0)))

turn : (d a : Row) (o : Ordering) → row_cmp d a ≡ o → is_lt o ≡ false → same_row d a ≡ false → is_row_before a d ≡ true
turn d a Less is behind other = absurd cc
turn d a Equal is behind other = absurd (let same = equal_same d a is in cc)
turn d a Greater is behind other = ap is_lt (row_total.antisymm a d ∙ ap ordering_reverse is)

-- a row that another is neither before nor the same as comes before it
pub turned : (d a : Row) → is_row_before d a ≡ false → same_row d a ≡ false → is_row_before a d ≡ true
turned d a behind other = turn d a (row_cmp d a) refl behind other

-- ---- a row that comes before row i is none of those from row i on

none_each : (r : Row) (rows : List Row) → ((j : ℕ) → j < length rows → same_row r (row_nth rows j) ≡ false) → times r rows ≡ 0
none_each r [] each = times_none r
none_each r (x ∷ xs) each =
    let none : times r (x ∷ []) ≡ 0 = times_one r x ∙ ap (λ (b : Bool). cond b 1 0) (each 0 (omega arith)) in
    let rest : times r xs ≡ 0 = none_each r xs (λ j below. each (suc j) (omega (arith, below))) in
    omega (arith, times-append r (x ∷ []) xs, none, rest)

apart_from : (r : Row) (rows : List Row) (i j : ℕ) → AreInOrder rows → i ≤ j → j < length rows → is_row_before r (row_nth rows i) ≡ true
    → same_row r (row_nth rows j) ≡ false
apart_from r rows i j order le within before = elim (cases_Bool (same_row r (row_nth rows j))) [
  | inr other ↦ other
  | inl same ↦
      let is : r ≡ row_nth rows j = same_is r (row_nth rows j) same in
      let far : is_row_before (row_nth rows j) (row_nth rows i) ≡ false =
      sorted_far (λ x y. is_lt (row_cmp x y)) (ranks_by row_total (λ x. x)) rows order i j no_row le within in
      let here : is_row_before (row_nth rows j) (row_nth rows i) ≡ true = subst (λ (q : Row). is_row_before q (row_nth rows i) ≡ true) is before in
      absurd (let both : true ≡ false = sym here ∙ far in cc)
]

pub none_from : (r : Row) (rows : List Row) (i : ℕ) → AreInOrder rows → i < length rows → is_row_before r (row_nth rows i) ≡ true → times r (drop i rows) ≡ 0
none_from r rows i order within before = none_each r (drop i rows) (λ j below.
    ap (same_row r) (get_or-drop i rows j no_row)
    ∙ apart_from r rows i (i + j) order (omega arith) (omega (arith, below, length-drop i rows, within)) before)

-- ---- rows that were sorted

module _ (all : List Standing) where
  sorted_at : IsSortedBy (λ x y. is_row_before (row_of x) (row_of y)) all → (d : Standing) → AreInOrder (map row_of all)
  sorted_at up d k e low high =
      let long : k + 1 < length all = omega (arith, high, length-map all row_of) in
      let first = get_or-map row_of all k d e (omega (arith, long)) in
      let second = get_or-map row_of all (k + 1) d e long in
      ap (λ (r : Row). is_row_before r (get_or (map row_of all) k e)) second
      ∙ ap (is_row_before (row_of (get_or all (k + 1) d))) first ∙ up k d low long

pub sorted_rows : (all : List Standing) → IsSortedBy (λ x y. is_row_before (row_of x) (row_of y)) all → AreInOrder (map row_of all)
sorted_rows [] up = λ k d low high. absurd (omega (arith, high))
sorted_rows (s ∷ ss) up = sorted_at (s ∷ ss) up s

pub moved_rows : (old new : List Standing) → IsPermutation old new → SameRows (map row_of old) (map row_of new)
unfolding times
moved_rows old new moves row =
    sum_by-IsPermutation (λ (x : Row). cond (same_row row x) 1 0) (map row_of old) (map row_of new) (IsPermutation-map row_of old new moves)

-- ---- going through rows

-- one row more is noted
pub noted_more : (old new : List Standing) (s : Standing) (rows : List Row) (i : ℕ) → i < length rows → new ≡ old ++ s ∷ [] → map row_of old ≡ take i rows
    → row_of s ≡ row_nth rows i → map row_of new ≡ take (i + 1) rows
noted_more old new s rows i below is before at =
    ap (map row_of) is ∙ map-append row_of old (s ∷ []) ∙ ap (λ (xs : List Row). xs ++ row_of s ∷ []) before
    ∙ ap (λ (r : Row). take i rows ++ r ∷ []) at ∙ sym (take_more rows i no_row below)

-- and put where it stands
pub placed_more : (all : List Standing) (i : ℕ) (d : Standing) (old new : List Row) → i < length all → old ≡ map row_of (take i all)
    → new ≡ old ++ row_of (get_or all i d) ∷ [] → new ≡ map row_of (take (i + 1) all)
placed_more all i d old new below before is =
    is ∙ ap (λ (xs : List Row). xs ++ row_of (get_or all i d) ∷ []) before ∙ sym (map-append row_of (take i all) (get_or all i d ∷ []))
    ∙ ap (map row_of) (sym (take_more all i d below))

-- none of the first i rows comes before the one in front of it
abbrev pub AreSoFar : List Row → ℕ → Type 0
AreSoFar rows i = (k : ℕ) → k + 1 < i → is_row_before (row_nth rows (k + 1)) (row_nth rows k) ≡ false

pub so_far_more : (rows : List Row) (i j : ℕ) → AreSoFar rows i → j + 1 ≡ i → is_row_before (row_nth rows i) (row_nth rows j) ≡ false → AreSoFar rows (i + 1)
so_far_more rows i j before at apart k lt = elim (cases_lt (k + 1) i) [
  | inl below ↦ before k below
  | inr here ↦
      let one : k + 1 ≡ i = omega (arith, here, lt) in
      let two : k ≡ j = omega (arith, one, at) in
      ap (λ (n : ℕ). is_row_before (row_nth rows n) (row_nth rows k)) one ∙ ap (λ (n : ℕ). is_row_before (row_nth rows i) (row_nth rows n)) two ∙ apart
]

pub so_far_all : (rows : List Row) (i : ℕ) → AreSoFar rows i → length rows ≤ i → AreInOrder rows
so_far_all rows i before all k d low high =
    ap (λ (r : Row). is_row_before r (get_or rows k d)) (get_or_default rows (k + 1) d no_row high)
    ∙ ap (is_row_before (row_nth rows (k + 1))) (get_or_default rows k d no_row (omega (arith, high))) ∙ before k (omega (arith, high, all))

pub none_in : (row : Row) (rows : List Row) → length rows ≡ 0 → times row rows ≡ 0
none_in row [] none = times_none row
none_in row (r ∷ rs) none = absurd (omega (arith, none))

-- ---- lists of which one has no rows, or that were put in order first

module _ (drops adds : List Row) where
  pub netted_none : (net : RowChange) → net ≡ record { drops = drops; adds = adds } → (length drops ≡ 0) ⊎ (length adds ≡ 0) → AreNetted drops adds net
  netted_none net is none =
      subst (AreNetted drops adds) (sym is) (elim none [
        | inl empty ↦ ((λ row. omega (arith, none_in row drops empty)), (λ row. omega (arith, none_in row drops empty)))
        | inr empty ↦ ((λ row. omega (arith, none_in row adds empty)), (λ row. omega (arith, none_in row adds empty)))
      ])

  pub netted_sorted : (gone new : List Row) (net : RowChange) → SameRows drops gone → SameRows adds new → AreNetted gone new net → AreNetted drops adds net
  netted_sorted gone new net one two both =
      ((λ row. omega (arith, both.0 row, one row, two row)), (λ row. omega (arith, both.1 row, one row, two row)))

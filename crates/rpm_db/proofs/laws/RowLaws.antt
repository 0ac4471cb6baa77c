-- The rows of a map, row by row.
use Rattle.std.proofs.Common.{◌≡◌, ℕ, ◌+◌, ◌-◌, List, [], ◌∷◌, ◌++◌, map, Bool, true, false, cond, ◌&&◌, ◌==◌, Option}
use Rattle.std.proofs.Common.{Some, None, Result, Ok, Err, refl, sym, ap, ◌∙◌, inl, inr, arith}
use Rattle.std.specs.Prelude.{T}
use Rattle.std.specs.List.{flat_map}
use Rattle.std.specs.Ordering.{nat_cmp, eq_by_cmp}
use Rattle.std.specs.Str.{bytes_eq}
use Rattle.rpm_tags.specs.Kinds.{code_of}
use Rattle.std.specs.Cmp.{unsigned_tied}
use Rattle.std.specs.FinMap as finite
use Rattle.std.specs.FinMap.Entries.{below_all}
use Rattle.std.proofs.lemmas.Bool.{cases_Bool, and_left}
use Rattle.std.proofs.lemmas.Bool.Decides.{nat_tests}
use Rattle.std.proofs.lemmas.Cmp.{nat_cmp_total}
use Rattle.std.proofs.lemmas.List.Sums.{sum_by-append}
use Rattle.rpm_header.specs.declared.form.HeaderFault.{HeaderFault}
use Rattle.rpm_header.specs.Header.{Header, header}
use Rattle.rpm_tags.specs.declared.kind.Kind.{Kind}
use Rattle.rpm_tags.specs.Keys.{keys}
use Rattle.rpm_hindex.specs.Rows.{Row, times, same_row}
use Rattle.rpm_hindex.specs.Plans.{HasChanged}
use Rattle.rpm_db.specs.State.{Package, Good, Bad}
use Rattle.rpm_db.specs.Rows.{kinds, header_rows, package_rows, rows_at, rows}
use Rattle.rpm_db.specs.laws.Parts.{key_row, kind_rows, rows_read, rows_in}
use Rattle.rpm_db.proofs.laws.Above.{both_true, none_below}

pub times-append : (r : Row) (xs ys : List Row) → times r (xs ++ ys) ≡ times r xs + times r ys
unfolding times
times-append r xs ys = sum_by-append (λ (x : Row). cond (same_row r x) 1 0) xs ys

pub times_none : (r : Row) → times r [] ≡ 0
unfolding times
times_none r = refl

pub times_one : (r s : Row) → times r (s ∷ []) ≡ cond (same_row r s) 1 0
unfolding times
times_one r s = omega arith

-- rows of one number alone
abbrev AreOf : ℕ → List Row → Type 0
AreOf n rows = (row : Row) → (row.number ≡ n → ⊥) → times row rows ≡ 0

of_none : (n : ℕ) → AreOf n []
of_none n row other = times_none row

of_both : (n : ℕ) (xs ys : List Row) → AreOf n xs → AreOf n ys → AreOf n (xs ++ ys)
of_both n xs ys first second row other = omega (arith, times-append row xs ys, first row other, second row other)

off : (a b : Bool) → b ≡ false → (a && b) ≡ false
off true b e = e
off false b e = refl

of_one : (n : ℕ) (k : Kind) (key : List ℕ × ℕ) → AreOf n (key_row n k key ∷ [])
of_one n k key row other = elim (cases_Bool (row.number == n)) [
  | inl same ↦ (let is : row.number ≡ n = grind (arith, nat_tests) in absurd (other is))
  | inr apart ↦
      (let none : same_row row (key_row n k key) ≡ false =
      off (row.kind == code_of k) (bytes_eq row.key key.0 && ((row.number == n) && (row.place == key.1)))
      (off (bytes_eq row.key key.0) ((row.number == n) && (row.place == key.1))
      (and_left (row.number == n) (row.place == key.1) apart)) in
      times_one row (key_row n k key) ∙ ap (λ (b : Bool). cond b 1 0) none)
]

of_keys : (n : ℕ) (k : Kind) (ks : List (List ℕ × ℕ)) → AreOf n (map (key_row n k) ks)
of_keys n k [] = of_none n
of_keys n k (key ∷ ks) = of_both n (key_row n k key ∷ []) (map (key_row n k) ks) (of_one n k key) (of_keys n k ks)

of_kinds : (n : ℕ) (h : Header) (ks : List Kind) → AreOf n (flat_map (kind_rows n h) ks)
of_kinds n h [] = of_none n
of_kinds n h (k ∷ ks) =
    of_both n (kind_rows n h k) (flat_map (kind_rows n h) ks) (of_keys n k (keys k h)) (of_kinds n h ks)

of_read : (n : ℕ) (r : Result Header HeaderFault) → AreOf n (rows_read n r)
unfolding header_rows
of_read n (Ok h) = of_kinds n h kinds
of_read n (Err fault) = of_none n

pub of_package : (n : ℕ) (p : Package) → AreOf n (package_rows n p)
of_package n (Good bytes) = of_read n (header bytes)
of_package n Bad = of_none n

-- ---- how often a row is among those of all packages: as often as among those of its number

times-rows_in : (row : Row) (es : List (ℕ × Package)) → T (finite.is_sorted nat_cmp es) → times row (rows_in es)
    ≡ times row (rows_at row.number (finite.find nat_cmp row.number es))
times-rows_in row [] t = refl
times-rows_in row (e ∷ es) t =
    let s = both_true (below_all nat_cmp e.0 es) (finite.is_sorted nat_cmp es) t in
    let rest = times-rows_in row es s.1 in
    let both = times-append row (package_rows e.0 e.1) (rows_in es) in
    elim (cases_Bool (row.number == e.0)) [
      | inl same ↦
          (let is : row.number ≡ e.0 = grind (arith, nat_tests) in
          let tied : eq_by_cmp nat_cmp row.number e.0 ≡ true = unsigned_tied row.number e.0 ∙ same in
          let none : finite.find nat_cmp row.number es ≡ None = none_below row.number e.0 es s.0 (omega arith) in
          let gone : times row (rows_in es) ≡ 0 = rest
          ∙ ap (λ (o : Option Package). times row (rows_at row.number o)) none ∙ times_none row in
          let same_package : times row (package_rows row.number e.1) ≡ times row (package_rows e.0 e.1) =
          ap (λ (n : ℕ). times row (package_rows n e.1)) is in
          let sum : times row (package_rows e.0 e.1) + times row (rows_in es)
          ≡ times row (package_rows row.number e.1) = omega arith in
          rw tied (both ∙ sum))
      | inr other ↦
          (let apart : row.number ≡ e.0 → ⊥ = λ is. grind (arith, nat_tests) in
          let tied : eq_by_cmp nat_cmp row.number e.0 ≡ false = unsigned_tied row.number e.0 ∙ other in
          let none = of_package e.0 e.1 row apart in
          let sum : times row (package_rows e.0 e.1) + times row (rows_in es)
          ≡ times row (rows_at row.number (finite.find nat_cmp row.number es)) = omega (arith, none, rest) in
          rw tied (both ∙ sum))
    ]

pub times-rows : (row : Row) (packages : finite.FinMap nat_cmp Package) → times row (rows packages)
    ≡ times row (rows_at row.number (finite.get packages row.number))
unfolding rows
times-rows row packages =
    times-rows_in row (finite.entries packages) (finite.entries_sorted packages)
    ∙ ap (λ (o : Option Package). times row (rows_at row.number o)) (sym (finite.get-entries packages row.number))

-- ---- a map in which one number changes

pub of_at : (n : ℕ) (o : Option Package) → AreOf n (rows_at n o)
of_at n None = of_none n
of_at n (Some p) = of_package n p

changed : (row : Row) (n : ℕ) (before after : Option Package) (old new : finite.FinMap nat_cmp Package)
    → finite.get old n ≡ before
    → ((q : ℕ) → finite.get new q ≡ cond (eq_by_cmp nat_cmp q n) after (finite.get old q))
    → times row (rows new) ≡ (times row (rows old) - times row (rows_at n before)) + times row (rows_at n after)
changed row n before after old new was is =
    let here = times-rows row old in
    let there = times-rows row new in
    elim (cases_Bool (row.number == n)) [
      | inl same ↦
          (let eq : row.number ≡ n = grind (arith, nat_tests) in
          let tied : eq_by_cmp nat_cmp row.number n ≡ true = unsigned_tied row.number n ∙ same in
          let now : finite.get new row.number ≡ after = is row.number
          ∙ ap (λ (b : Bool). cond b after (finite.get old row.number)) tied in
          let past : finite.get old row.number ≡ before = ap (finite.get old) eq ∙ was in
          let a : times row (rows new) ≡ times row (rows_at n after) =
          there ∙ ap (λ (o : Option Package). times row (rows_at row.number o)) now
          ∙ ap (λ (q : ℕ). times row (rows_at q after)) eq in
          let b : times row (rows old) ≡ times row (rows_at n before) =
          here ∙ ap (λ (o : Option Package). times row (rows_at row.number o)) past
          ∙ ap (λ (q : ℕ). times row (rows_at q before)) eq in
          omega (arith, a, b))
      | inr other ↦
          (let apart : row.number ≡ n → ⊥ = λ eq. grind (arith, nat_tests) in
          let tied : eq_by_cmp nat_cmp row.number n ≡ false = unsigned_tied row.number n ∙ other in
          let now : finite.get new row.number ≡ finite.get old row.number =
          is row.number ∙ ap (λ (b : Bool). cond b after (finite.get old row.number)) tied in
          let a : times row (rows new) ≡ times row (rows old) =
          there ∙ ap (λ (o : Option Package). times row (rows_at row.number o)) now ∙ sym here in
          omega (arith, a, of_at n before row apart, of_at n after row apart))
    ]

-- the rows with another package at a number: those of what it had go, and the new ones come
pub rows-insert : (n : ℕ) (p : Package) (packages : finite.FinMap nat_cmp Package)
    → HasChanged (rows_at n (finite.get packages n)) (package_rows n p)
    (rows packages) (rows (finite.insert packages n p))
rows-insert n p packages row = changed row n (finite.get packages n) (Some p) packages (finite.insert packages n p) refl
    (finite.get-insert nat_cmp_total packages n p)

-- and without a number
pub rows-remove : (n : ℕ) (packages : finite.FinMap nat_cmp Package)
    → HasChanged (rows_at n (finite.get packages n)) [] (rows packages)
    (rows (finite.remove packages n))
rows-remove n packages row = changed row n (finite.get packages n) None packages (finite.remove packages n) refl
    (finite.get-remove nat_cmp_total packages n)

-- Two lists of rows that are gone through side by side: what is taken from one isn't taken from the other.
use Rattle.std.proofs.Common.{◌≡◌, ◌⊎◌, ℕ, ◌+◌, ◌≤◌, ◌<◌, Bool, true, false, List, [], ◌∷◌, ◌++◌, take, drop, length, cond, ap, ◌∙◌, inl, inr, arith}
use Rattle.std.specs.Prelude.{min}
use Rattle.std.proofs.lemmas.Bool.{cases_Bool}
use Rattle.std.proofs.lemmas.List.{drop_all}
use Rattle.rpm_db.proofs.Vocabulary.{AreInOrder, AreWithout, is_row_before, Row, row_nth, same_row, times, times-append, times_none}
use Rattle.rpm_db.proofs.Vocabulary.{times_one}
use Rattle.rpm_db.proofs.Ordered.{none_from, turned}
use Rattle.rpm_hindex.proofs.laws.RowLaws.{same_is}
use Rattle.rpm_db.proofs.Shared.{times_from, times_rest}

-- what was taken from each list so far: no row is in one of them and in the other, or still to come there
abbrev pub NoneIsShared : List Row → List Row → List Row → List Row → Type 0
NoneIsShared gone new drops adds =
    (row : Row) → (min (times row gone) (times row new + times row adds) ≡ 0) × (min (times row new) (times row gone + times row drops) ≡ 0)

pub apart_none : (gone new drops adds : List Row) → gone ≡ [] → new ≡ [] → NoneIsShared gone new drops adds
apart_none gone new drops adds no_gone no_new row =
    let one : times row gone ≡ 0 = ap (times row) no_gone ∙ times_none row in
    let two : times row new ≡ 0 = ap (times row) no_new ∙ times_none row in
    (omega (arith, one), omega (arith, two))

-- a row goes over from one list, and stands in the other no more
moved : (row r : Row) (gone gone_then new here rest there : List Row) → gone_then ≡ gone ++ r ∷ []
    → times row here ≡ times row (r ∷ []) + times row rest → times r there ≡ 0 → min (times row gone) (times row new + times row there) ≡ 0
    → min (times row new) (times row gone + times row here) ≡ 0
    → (min (times row gone_then) (times row new + times row there) ≡ 0) × (min (times row new) (times row gone_then + times row rest) ≡ 0)
moved row r gone gone_then new here rest there is from none first second =
    let both : times row gone_then ≡ times row gone + times row (r ∷ []) = ap (times row) is ∙ times-append row gone (r ∷ []) in
    elim (cases_Bool (same_row row r)) [
      | inl same ↦
          (let nothing : times row there ≡ 0 = ap (λ (q : Row). times q there) (same_is row r same) ∙ none in
          let one : times row (r ∷ []) ≡ 1 = times_one row r ∙ ap (λ (b : Bool). cond b 1 0) same in
          (omega (arith, both, from, nothing, one, first, second), omega (arith, both, from, one, second)))
      | inr other ↦
          (let nil : times row (r ∷ []) ≡ 0 = times_one row r ∙ ap (λ (b : Bool). cond b 1 0) other in
          (omega (arith, both, nil, first), omega (arith, both, from, nil, second)))
    ]

module _ (drops adds : List Row) (i j : ℕ) (in_drops : i < length drops) (in_adds : j < length adds) (gone new : List Row) where
  abbrev d : Row
  d = row_nth drops i

  abbrev a : Row
  a = row_nth adds j

  pub apart_both : NoneIsShared gone new (drop i drops) (drop j adds) → NoneIsShared gone new (drop (i + 1) drops) (drop (j + 1) adds)
  apart_both apart row =
      let from = times_from row drops i in_drops in
      let there = times_from row adds j in_adds in
      (omega (arith, (apart row).0, there), omega (arith, (apart row).1, from))

  pub apart_drop : (gone_then : List Row) → gone_then ≡ gone ++ d ∷ [] → AreInOrder adds → is_row_before d a ≡ true
      → NoneIsShared gone new (drop i drops) (drop j adds) → NoneIsShared gone_then new (drop (i + 1) drops) (drop j adds)
  apart_drop gone_then is order before apart row =
      moved row d gone gone_then new (drop i drops) (drop (i + 1) drops) (drop j adds) is (times_from row drops i in_drops)
      (none_from d adds j order in_adds before) (apart row).0 (apart row).1

  pub apart_add : (new_then : List Row) → new_then ≡ new ++ a ∷ [] → AreInOrder drops → is_row_before d a ≡ false → same_row d a ≡ false
      → NoneIsShared gone new (drop i drops) (drop j adds) → NoneIsShared gone new_then (drop i drops) (drop (j + 1) adds)
  apart_add new_then is order behind other apart row =
      let both =
      moved row a new new_then gone (drop j adds) (drop (j + 1) adds) (drop i drops) is (times_from row adds j in_adds)
      (none_from a drops i order in_drops (turned d a behind other)) (apart row).1 (apart row).0 in
      (both.1, both.0)

-- the lists once one of them was gone through
module _ (drops adds : List Row) (i j : ℕ) (gone new gone_then new_then : List Row) (gone_is : gone_then ≡ gone ++ drop i drops)
    (new_is : new_then ≡ new ++ drop j adds) where
  gone_times : (row : Row) → times row gone_then ≡ times row gone + times row (drop i drops)
  gone_times row = ap (times row) gone_is ∙ times-append row gone (drop i drops)

  new_times : (row : Row) → times row new_then ≡ times row new + times row (drop j adds)
  new_times row = ap (times row) new_is ∙ times-append row new (drop j adds)

  balanced_end : ((row : Row) → times row (take i drops) + times row new ≡ times row (take j adds) + times row gone)
      → (row : Row) → times row drops + times row new_then ≡ times row adds + times row gone_then
  balanced_end balanced row =
      omega (arith, balanced row, gone_times row, new_times row, times_rest row drops i, times_rest row adds j)

  none_left : (length drops ≤ i) ⊎ (length adds ≤ j) → NoneIsShared gone new (drop i drops) (drop j adds) → (row : Row)
      → min (times row gone_then) (times row new_then) ≡ 0
  none_left (inl over) apart row =
      let nothing : times row (drop i drops) ≡ 0 = ap (times row) (drop_all i drops over) ∙ times_none row in
      omega (arith, (apart row).0, gone_times row, new_times row, nothing)
  none_left (inr over) apart row =
      let nothing : times row (drop j adds) ≡ 0 = ap (times row) (drop_all j adds over) ∙ times_none row in
      omega (arith, (apart row).1, gone_times row, new_times row, nothing)

  pub without_end : (length drops ≤ i) ⊎ (length adds ≤ j)
      → ((row : Row) → times row (take i drops) + times row new ≡ times row (take j adds) + times row gone)
      → NoneIsShared gone new (drop i drops) (drop j adds) → AreWithout adds drops gone_then × AreWithout drops adds new_then
  without_end over balanced apart = (
    (λ row. omega (arith, balanced_end balanced row, none_left over apart row)),
    (λ row. omega (arith, balanced_end balanced row, none_left over apart row)),
  )

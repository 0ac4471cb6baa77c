-- The first fit as a function is the least block at which so many fit.
use Rattle.std.proofs.Common.{◌≡◌, inl, inr, ℕ, zero, suc, ◌+◌, ◌-◌, ◌^◌, ◌<◌, ◌≤◌, List, [], ◌∷◌, length, map, min, true, false, nat_le, Option, Some, None, MatchOption, refl, sym, ap, ◌∙◌, arith}
use Rattle.std.specs.Prelude.{Contains}
use Rattle.rpm_pkgdb.proofs.Vocabulary.{end_of, filter, first_fit, FitsSlots, fits, FitsNowhere, free, IsLeast, list_any, slots_meet, reduce, Slot, slot_at}
use Rattle.std.proofs.lemmas.Bool.{cases_lt}
use Rattle.std.proofs.lemmas.Bool.Decides.{nat_tests}
use Rattle.rpm_pkgdb.proofs.Facts.{cases_Bool, some_place, no_place, none_at, meet_facts, meet_from}
use Rattle.rpm_pkgdb.proofs.Pairwise.{used_below}
use Rattle.rpm_pkgdb.proofs.FullLaws.{least_same}
use Rattle.rpm_pkgdb.proofs.Filtered.{behind, filter_keeps, filter_only, IsMin, reduce_min}

ends_there : (slots : List Slot) (k : ℕ) → k < length slots → Contains (map end_of slots) (end_of (slot_at slots k))
ends_there [] k below = absurd (omega arith)
ends_there (s ∷ slots) zero below = (0, omega arith, refl)
ends_there (s ∷ slots) (suc k) below = behind (end_of s) (end_of (slot_at slots k)) (map end_of slots) (ends_there slots k (omega arith))

-- ---- fits

module _ (slots : List Slot) (count : ℕ) where
  abbrev blocks : ℕ → Slot
  blocks start = record { number = 0; offset = start; count = count }

  fits_true : (start : ℕ) → FitsSlots slots count start → fits slots count start ≡ true
  fits_true start f =
      let none : list_any (slots_meet (blocks start)) slots ≡ false = no_place (slots_meet (blocks start)) slots free (λ p.
      let m = meet_facts (blocks start) (slot_at slots p.at) p.holds in
      elim (f.apart p.at m.used) [ inl below ↦ omega (arith, below, m.right) | inr above ↦ omega (arith, above, m.left) ]) in
      let ends = f.ends in
      rw none (grind (arith, nat_tests))

  fits_from : (start : ℕ) → fits slots count start ≡ true → FitsSlots slots count start
  fits_from start pass =
      let none : list_any (slots_meet (blocks start)) slots ≡ false = elim (cases_Bool (list_any (slots_meet (blocks start)) slots)) [
        | inl some ↦ absurd (let e = rw some at pass in grind (arith, nat_tests))
        | inr none ↦ none
      ] in
      record {
        ends = (let e = rw none at pass in grind (arith, nat_tests));
        apart = λ k used.
            let t = slot_at slots k in
            let apart = none_at (slots_meet (blocks start)) slots k free none (used_below slots k used) in
            elim (cases_lt start (end_of t)) [
              | inr above ↦ inr above
              | inl under ↦ elim (cases_lt t.offset (start + count)) [
                | inr below ↦ inl below
                | inl over ↦ absurd (let e : true ≡ false = sym (meet_from (blocks start) t used under over) ∙ apart in cc)
              ]
            ];
      }

  module _ (from : ℕ) where
    abbrev tries : List ℕ
    tries = from ∷ filter (nat_le from) (map end_of slots)

    record Below (block : ℕ) : Type 0 where
      at : ℕ
      there : Contains tries at
      fits_there : fits slots count at ≡ true
      le : at ≤ block

    -- a block after one where they don't fit is the end of a slot's blocks
    at_end : (before block : ℕ) → block ≡ before + 1 → from ≤ before → FitsSlots slots count block → fits slots count before ≡ false → Below block
    at_end before block next far f fails =
        let some : list_any (slots_meet (blocks before)) slots ≡ true = elim (cases_Bool (list_any (slots_meet (blocks before)) slots)) [
          | inl some ↦ some
          | inr none ↦ absurd (let ends : before + count ≤ 2 ^ 28 = omega (arith, f.ends, next) in let e = rw none at fails in grind (arith, nat_tests))
        ] in
        let p = some_place (slots_meet (blocks before)) slots free some in
        let t = slot_at slots p.at in
        let m = meet_facts (blocks before) t p.holds in
        let is : end_of t ≡ block = elim (f.apart p.at m.used) [
          | inl below ↦ absurd (omega (arith, below, m.right, next))
          | inr above ↦ omega (arith, above, m.left, next)
        ] in
        let passes : nat_le from (end_of t) ≡ true = (let far : from ≤ end_of t = omega arith in grind (arith, nat_tests)) in
        record {
          at = end_of t;
          there = behind from (end_of t) (filter (nat_le from) (map end_of slots))
              (filter_keeps (nat_le from) (end_of t) (map end_of slots) (ends_there slots p.at p.below) passes);
          fits_there = ap (fits slots count) is ∙ fits_true block f;
          le = omega (arith, is);
        }

    some_below : (e block : ℕ) → block ≡ from + e → FitsSlots slots count block → Below block
    some_below zero block is f =
        let here : from ≡ block = omega arith in
        record { at = from; there = (0, omega arith, refl); fits_there = ap (fits slots count) here ∙ fits_true block f; le = omega arith }
    some_below (suc e) block is f = elim (cases_Bool (fits slots count (from + e))) [
      | inl passes ↦
          (let b = some_below e (from + e) refl (fits_from (from + e) passes) in
          record { at = b.at; there = b.there; fits_there = b.fits_there; le = omega (arith, b.le, is) })
      | inr fails ↦ at_end (from + e) block (omega (arith, is)) (omega arith) f fails
    ]

    from_on : (m : ℕ) → Contains tries m → from ≤ m
    from_on m (zero, lt, is) = omega (arith, is)
    from_on m (suc i, lt, is) =
        let passes = (filter_only (nat_le from) m (map end_of slots) (i, omega arith, is)).passes in grind (arith, nat_tests)

    by_least : (r : Option ℕ) → MatchOption r (filter (fits slots count) tries ≡ []) (IsMin (filter (fits slots count) tries))
        → MatchOption r (FitsNowhere slots count from) (IsLeast slots count from)
    by_least None none = λ block le f.
        let b = some_below (block - from) block (omega arith) f in
        let there : Contains (filter (fits slots count) tries) b.at = filter_keeps (fits slots count) b.at tries b.there b.fits_there in
        let none_there : Contains [] b.at = rw none at there in
        omega (arith, none_there.1)
    by_least (Some m) is =
        let q = filter_only (fits slots count) m tries is.there in
        record {
          from_on = from_on m q.there;
          fits = fits_from m q.passes;
          least = λ block le lt f.
              let b = some_below (block - from) block (omega arith) f in
              omega (arith, b.le, is.least b.at (filter_keeps (fits slots count) b.at tries b.there b.fits_there));
        }

    first_fit_is : MatchOption (first_fit slots count from) (FitsNowhere slots count from) (IsLeast slots count from)
    unfolding first_fit
    first_fit_is = by_least (reduce min (filter (fits slots count) tries)) (reduce_min (filter (fits slots count) tries))

    some_is : (r : Option ℕ) → MatchOption r (FitsNowhere slots count from) (IsLeast slots count from) → (start : ℕ) → IsLeast slots count from start
        → r ≡ Some start
    some_is None none start least = absurd (none start least.from_on least.fits)
    some_is (Some m) is start least = ap Some (least_same slots count from m start is least)

    none_is : (r : Option ℕ) → MatchOption r (FitsNowhere slots count from) (IsLeast slots count from) → FitsNowhere slots count from → r ≡ None
    none_is None none nowhere = refl
    none_is (Some m) is nowhere = absurd (nowhere m is.from_on is.fits)

    pub first_fit_some : (start : ℕ) → IsLeast slots count from start → first_fit slots count from ≡ Some start
    first_fit_some = some_is (first_fit slots count from) first_fit_is

    pub first_fit_none : FitsNowhere slots count from → first_fit slots count from ≡ None
    first_fit_none = none_is (first_fit slots count from) first_fit_is

-- The date of a day number is the one that `jiff` finds.
use Rattle.std.proofs.Common.{◌≡◌, ℕ, zero, suc, ◌+◌, ◌-◌, ◌≤◌, ◌<◌, Bool, true, false, nat_le}
use Rattle.std.proofs.Common.{inl, inr, ℤ, pos, negsuc, unsigned_abs, ◌<ℤ◌, refl, sym, ap, ◌∙◌, arith}
use Rattle.std.proofs.lemmas.Bool.{cases_lt, le-leb, lt-leb}
use Rattle.rpm_qfeval.proofs.Vocabulary.{Date, day_count, day_number, day_of, days_from_civil, epoch_day, IsCivilDate, last_begun, month_of, year_of}
use Rattle.jiff_core.proofs.CalendarLemmas.{days_from_civil-day_count, day_count-epoch, day_count-day_of_year}
use Rattle.jiff_core.proofs.CalendarLemmas.{day_count-lt_year, day_count-lt_month, day_count-day}
use Rattle.jiff_core.proofs.MarchLemmas.{day_count-early}
use Rattle.jiff_core.proofs.SignedLemmas.{signed_arith}
use borrow.Author.Differences.{up, down}

-- ---- the last one that has begun

pub last_is : (begun : ℕ → Bool) (first n k : ℕ) → k ≤ n → begun (first + k) ≡ true → ((m : ℕ) → first + k < m → m ≤ first + n → begun m ≡ false)
    → last_begun begun first n ≡ first + k
last_is begun first zero zero h at none = omega arith
last_is begun first zero (suc k) h at none = absurd (omega arith)
last_is begun first (suc n) k h at none =
    elim (cases_lt k (suc n)) [
      | inl below ↦
          let over : begun (first + suc n) ≡ false = none (first + suc n) (omega arith) (omega arith) in
          rw over (last_is begun first n k (omega arith) at (λ m a b. none m a (omega arith)))
      | inr top ↦
          let e : k ≡ suc n = omega arith in
          let there : begun (first + suc n) ≡ true = ap (λ j. begun (first + j)) (sym e) ∙ at in
          rw there (ap (λ j. first + j) (sym e))
    ]

-- ---- day numbers from 1970 on

absolute : (z : ℤ) (count : ℕ) → up z + 4_371_953 ≡ down z + count → 4_371_953 ≤ count → unsigned_abs z + 4_371_953 ≡ count
absolute (pos n) count e h = omega (arith, e)
absolute (negsuc n) count e h = absurd (omega (arith, e))

pub number_is : (y m d : ℕ) → 4_371_953 ≤ day_count (pos y) m d → day_number y m d + 4_371_953 ≡ day_count (pos y) m d
number_is y m d h = absolute (days_from_civil (pos y) m d) (day_count (pos y) m d) (days_from_civil-day_count (pos y) m d) h

epoch : IsCivilDate (pos 1970) 1 1
epoch = search arith

-- the first of January is never later than a day of its year
from_january : (y m d : ℕ) → 1 ≤ d → day_count (pos y) 1 1 ≤ day_count (pos y) m d
from_january y m d h = omega (arith, day_count-day_of_year (pos y) m d h)

later_year : (y z : ℕ) → y < z → pos y <ℤ pos z
later_year y z h = omega (arith, signed_arith)

pub from_epoch : (y m d : ℕ) → 1970 ≤ y → 1 ≤ d → 4_371_953 ≤ day_count (pos y) m d
from_epoch y m d h first =
    elim (cases_lt 1970 y) [
      | inl later ↦ omega (arith, day_count-epoch, day_count-lt_year (pos 1970) 1 1 (pos y) m d epoch first (later_year 1970 y later))
      | inr same ↦ let e : y ≡ 1970 = omega arith in rw e (omega (arith, day_count-epoch, from_january 1970 m d first))
    ]

module _ (y m d day : ℕ) (civil : IsCivilDate (pos y) m d) (low : 1970 ≤ y) (high : y ≤ 2106) (is : day_count (pos y) m d ≡ day + 4_371_953) where
  first_day : 1 ≤ d
  first_day = civil.2.0

  begins : (z : ℕ) → y < z → nat_le (day_number z 1 1) day ≡ false
  begins z h =
      let count = number_is z 1 1 (from_epoch z 1 1 (omega arith) (omega arith)) in
      lt-leb (day_number z 1 1) day (omega (arith, count, is, day_count-lt_year (pos y) m d (pos z) 1 1 civil (omega arith) (later_year y z h)))

  pub year_is : year_of day ≡ y
  unfolding year_of
  year_is =
      let k : 1970 + (y - 1970) ≡ y = omega arith in
      let count = number_is y 1 1 (from_epoch y 1 1 low (omega arith)) in
      let begun : nat_le (day_number y 1 1) day ≡ true = le-leb (day_number y 1 1) day (omega (arith, count, is, from_january y m d first_day)) in
      last_is (λ z. nat_le (day_number z 1 1) day) 1970 136 (y - 1970) (omega arith) (rw k begun) (λ z a b. begins z (omega arith)) ∙ k

  month_begins : (z : ℕ) → m < z → nat_le (day_number y z 1) day ≡ false
  month_begins z h =
      let count = number_is y z 1 (from_epoch y z 1 low (omega arith)) in
      lt-leb (day_number y z 1) day (omega (arith, count, is, day_count-lt_month (pos y) m d z 1 civil (omega arith) h))

  of_month : day_number y m 1 + d ≡ day + 1
  of_month = omega (arith, number_is y m 1 (from_epoch y m 1 low (omega arith)), is, day_count-day (pos y) m d 1 first_day (omega arith))

  pub month_is : month_of day ≡ m
  unfolding month_of
  month_is =
      let k : 1 + (m - 1) ≡ m = omega (arith, civil.1.0) in
      let begun : nat_le (day_number y m 1) day ≡ true = le-leb (day_number y m 1) day (omega (arith, of_month, first_day)) in
      rw year_is (last_is (λ z. nat_le (day_number y z 1) day) 1 11 (m - 1) (omega (arith, civil.1.1)) (rw k begun) (λ z a b. month_begins z (omega arith)) ∙ k)

  pub day_is : day_of day ≡ d
  unfolding day_of
  day_is = rw (year_is, month_is) (omega (arith, of_month))

-- ---- the years of these days

pub last_of_them : IsCivilDate (pos 2106) 2 28
last_of_them = search arith

pub last_count : day_count (pos 2106) 2 28 ≡ 4_371_953 + 49_731
last_count = day_count-early (pos 2106) 12105 2 28 refl (omega arith) (omega arith) (omega arith)

pub year_within : (z : ℤ) (m d day : ℕ) → IsCivilDate z m d → day_count z m d ≡ day + 4_371_953 → day ≤ 49_710 → (y : ℕ) × (z ≡ pos y) × (1970 ≤ y) × (y ≤ 2106)
year_within (pos y) m d day civil is h = (
  y,
  refl,
  elim (cases_lt y 1970) [
    | inl less ↦ absurd (omega (arith, is, day_count-epoch, day_count-lt_year (pos y) m d (pos 1970) 1 1 civil (omega arith) (later_year y 1970 less)))
    | inr rest ↦ omega arith
  ],
  elim (cases_lt 2106 y) [
    | inl more ↦ absurd (omega (arith, is, last_count, day_count-lt_year (pos 2106) 2 28 (pos y) m d last_of_them civil.2.0 (later_year 2106 y more)))
    | inr rest ↦ omega arith
  ],
)
year_within (negsuc k) m d day civil is h =
    absurd (omega (arith, is, day_count-epoch, day_count-lt_year (negsuc k) m d (pos 1970) 1 1 civil (omega arith) (omega (arith, signed_arith))))

-- ---- a date that jiff has

pub record Found (d : Date) (day : ℕ) : Type 0 where
  pub year : ℕ
  pub is : d.year ≡ pos year
  pub high : year ≤ 2106
  pub of_year : year_of day ≡ year
  pub of_month : month_of day ≡ d.month
  pub of_day : day_of day ≡ d.day

found_at : (d : Date) (z : ℤ) (y day : ℕ) → z ≡ d.year → z ≡ pos y → IsCivilDate z d.month d.day → 1970 ≤ y → y ≤ 2106 → day_count z d.month d.day
    ≡ day + 4_371_953 → Found d day
found_at d z y day same year civil low high is =
    let here = rw year at civil in
    let count = rw year at is in
    record {
      year = y;
      is = sym same ∙ year;
      high = high;
      of_year = year_is y d.month d.day day here low high count;
      of_month = month_is y d.month d.day day here low high count;
      of_day = day_is y d.month d.day day here low high count;
    }

pub found : (d : Date) (day : ℕ) → epoch_day d ≡ pos day → day ≤ 49_710 → Found d day
found d day e h =
    let count : day_count d.year d.month d.day ≡ day + 4_371_953 = omega (arith, rw e at (days_from_civil-day_count d.year d.month d.day)) in
    let civil : IsCivilDate d.year d.month d.day = (d.year_in, d.month_in, d.day_in) in
    let y = year_within d.year d.month d.day day civil count h in
    found_at d d.year y.0 day refl y.1 civil y.2 y.3 count

-- The date of a day number is one of the calendar.
use Rattle.std.proofs.Common.{◌≡◌, ℕ, zero, suc, ◌+◌, ◌%◌, ◌≤◌, ◌<◌, [], Bool, true, false, nat_le, cond, pos, refl, ap, ◌∙◌, arith, leb-true, leb-false, inl, inr}
use Rattle.std.specs.Prelude.{slice_index_or}
use Rattle.std.proofs.lemmas.Bool.{cases_lt}
use Rattle.jiff_core.proofs.CalendarLemmas.{day_count-day, day_count-last_of_year, day_count-lt_month, day_count-next_month, day_count-next_year, weekday_number-parts}
use Rattle.jiff_core.proofs.SignedLemmas.{signed_arith}
use Rattle.jiff_core.specs.Calendar.{days_in_month, IsYear}
use Rattle.rpm_qfeval.proofs.Vocabulary.{day_count, day_number, day_of, HasDate, last_begun, month_of, weekday_name, weekday_names, year_of}
use Rattle.rpm_qfeval.proofs.Calendar.{number_is, from_epoch, last_count, last_of_them}
use Rattle.rpm_qfeval.proofs.DateLaw.{from_1970, from_first, month_begun}

-- ---- the last one that has begun

upto_by : (top rest : ℕ) (v : Bool) → rest ≤ top → cond v top rest ≤ top
upto_by top rest true h = omega arith
upto_by top rest false h = h

upto_last : (begun : ℕ → Bool) (first n : ℕ) → last_begun begun first n ≤ first + n
upto_last begun first zero = omega arith
upto_last begun first (suc n) =
    upto_by (first + suc n) (last_begun begun first n) (begun (first + suc n)) (omega (arith, upto_last begun first n))

-- the one after it hasn't, where it isn't the last of all
after_by : (begun : ℕ → Bool) (top rest : ℕ) (v : Bool) → begun top ≡ v → rest < top → (rest + 1 < top → begun (rest + 1) ≡ false)
    → cond v top rest < top → begun (cond v top rest + 1) ≡ false
after_by begun top rest true at low next less = absurd (omega (arith, less))
after_by begun top rest false at low next less = elim (cases_lt (rest + 1) top) [
  | inl below ↦ next below
  | inr here ↦ (let same : rest + 1 ≡ top = omega (arith, low, here) in ap begun same ∙ at)
]

after_last : (begun : ℕ → Bool) (first n : ℕ) → last_begun begun first n < first + n → begun (last_begun begun first n + 1) ≡ false
after_last begun first zero less = absurd (omega (arith, less))
after_last begun first (suc n) less =
    after_by begun (first + suc n) (last_begun begun first n) (begun (first + suc n)) refl (omega (arith, upto_last begun first n))
    (λ below. after_last begun first n (omega (arith, below))) less

-- ---- a day up to the last whose seconds have 32 bits

module _ (day : ℕ) where
  year_high : year_of day ≤ 2106
  unfolding year_of
  year_high = upto_last (λ y. nat_le (day_number y 1 1) day) 1970 136

  month_low : 1 ≤ month_of day
  unfolding month_of
  month_low = from_first (λ m. nat_le (day_number (year_of day) m 1) day) 1 11

  month_high : month_of day ≤ 12
  unfolding month_of
  month_high = upto_last (λ m. nat_le (day_number (year_of day) m 1) day) 1 11

  next_month : month_of day < 12 → nat_le (day_number (year_of day) (month_of day + 1) 1) day ≡ false
  unfolding month_of
  next_month less = after_last (λ m. nat_le (day_number (year_of day) m 1) day) 1 11 less

  next_year : year_of day < 2106 → nat_le (day_number (year_of day + 1) 1 1) day ≡ false
  unfolding year_of
  next_year less = after_last (λ y. nat_le (day_number y 1 1) day) 1970 136 less

  -- the number of the first of its month
  begins : day_number (year_of day) (month_of day) 1 + 4_371_953 ≡ day_count (pos (year_of day)) (month_of day) 1
  begins = number_is (year_of day) (month_of day) 1 (from_epoch (year_of day) (month_of day) 1 (from_1970 day) (omega arith))

  begun : day_number (year_of day) (month_of day) 1 ≤ day
  begun = leb-true (day_number (year_of day) (month_of day) 1) day (month_begun day)

  -- December ends with its year
  past_december : (y : ℕ) → day_count (pos y) (12 + 1) 1 ≡ day_count (pos (y + 1)) 1 1
  past_december y = omega (
    arith,
    day_count-next_month (pos y) 12 (omega arith),
    day_count-day (pos y) 12 31 1 (omega arith) (omega arith),
    day_count-last_of_year (pos y),
    day_count-next_year (pos y) (pos (y + 1)) (omega (arith, signed_arith)) (omega (arith, signed_arith)),
  )

  ends_year : month_of day ≡ 12 → year_of day < 2106 → day + 4_371_953 < day_count (pos (year_of day)) (month_of day + 1) 1
  ends_year last less =
      let y = year_of day in
      let count = number_is (y + 1) 1 1 (from_epoch (y + 1) 1 1 (omega (arith, from_1970 day)) (omega arith)) in
      let later = leb-false (day_number (y + 1) 1 1) day (next_year less) in
      rw last (omega (arith, count, later, past_december y))

  -- the month after it begins later
  ends : day ≤ 49_710 → day + 4_371_953 < day_count (pos (year_of day)) (month_of day + 1) 1
  ends h =
      let y = year_of day in
      let m = month_of day in
      elim (cases_lt m 12) [
        | inl less ↦
            let count = number_is y (m + 1) 1 (from_epoch y (m + 1) 1 (from_1970 day) (omega arith)) in
            omega (arith, count, leb-false (day_number y (m + 1) 1) day (next_month less))
        | inr more ↦
            let last : m ≡ 12 = omega (arith, more, month_high) in
            elim (cases_lt y 2106) [
              | inl less ↦ ends_year last less
              | inr top ↦
                  let same : y ≡ 2106 = omega (arith, top, year_high) in
                  let late = day_count-lt_month (pos 2106) 2 28 12 1 last_of_them (omega arith) (omega arith) in
                  let here : day_number y m 1 + 4_371_953 ≡ day_count (pos 2106) 12 1 = begins ∙ ap (λ (n : ℕ). day_count (pos n) m 1) same
                  ∙ ap (λ (n : ℕ). day_count (pos 2106) n 1) last in
                  absurd (omega (arith, here, late, last_count, begun, h))
            ]
      ]

  day_low : 1 ≤ day_of day
  unfolding day_of
  day_low = omega (arith, begun)

  day_high : day ≤ 49_710 → day_of day ≤ days_in_month (pos (year_of day)) (month_of day)
  unfolding day_of
  day_high h = omega (arith, begun, begins, ends h, day_count-next_month (pos (year_of day)) (month_of day) month_low)

  within_years : (y : ℕ) → y ≤ 2106 → IsYear (pos y)
  within_years y h = (omega (arith, signed_arith), omega (arith, h, signed_arith))

  pub is_civil : day ≤ 49_710 → HasDate day
  unfolding HasDate
  is_civil h = (within_years (year_of day) year_high, (month_low, month_high), (day_low, day_high h))

-- ---- the day of the week

pub weekday_is : (day : ℕ) → weekday_name day ≡ slice_index_or weekday_names ((day + 3) % 7) []
weekday_is day = ap (λ (n : ℕ). slice_index_or weekday_names n []) (omega (arith, weekday_number-parts (pos day)))

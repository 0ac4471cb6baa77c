-- A day number is that of its date.
use Rattle.std.proofs.Common.{◌≡◌, ℕ, zero, suc, ◌+◌, ◌-◌, ◌≤◌, Bool, true, false, nat_le, cond, pos, refl, arith, leb-true}
use Rattle.std.proofs.lemmas.Bool.{le-leb}
use Rattle.jiff_core.proofs.CalendarLemmas.{day_count-epoch, day_count-day}
use Rattle.rpm_qfeval.proofs.Vocabulary.{day_number, day_of, last_begun, month_of, year_of}
use Rattle.rpm_qfeval.proofs.Calendar.{number_is, from_epoch}

-- the last one that has begun has begun, where the first one has
has_by : (begun : ℕ → Bool) (top rest : ℕ) (v : Bool) → begun top ≡ v → begun rest ≡ true → begun (cond v top rest) ≡ true
has_by begun top rest true e h = e
has_by begun top rest false e h = h

begun_is : (begun : ℕ → Bool) (first n : ℕ) → begun first ≡ true → begun (last_begun begun first n) ≡ true
begun_is begun first zero h = h
begun_is begun first (suc n) h = has_by begun (first + suc n) (last_begun begun first n) (begun (first + suc n)) refl (begun_is begun first n h)

from_by : (first top rest : ℕ) (v : Bool) → first ≤ top → first ≤ rest → first ≤ cond v top rest
from_by first top rest true h k = h
from_by first top rest false h k = k

pub from_first : (begun : ℕ → Bool) (first n : ℕ) → first ≤ last_begun begun first n
from_first begun first zero = omega arith
from_first begun first (suc n) = from_by first (first + suc n) (last_begun begun first n) (begun (first + suc n)) (omega arith) (from_first begun first n)

module _ (day : ℕ) where
  epoch_begun : nat_le (day_number 1970 1 1) day ≡ true
  epoch_begun = le-leb (day_number 1970 1 1) day
      (omega (arith, number_is 1970 1 1 (from_epoch 1970 1 1 (omega arith) (omega arith)), day_count-epoch))

  year_begun : nat_le (day_number (year_of day) 1 1) day ≡ true
  unfolding year_of
  year_begun = begun_is (λ y. nat_le (day_number y 1 1) day) 1970 136 epoch_begun

  pub from_1970 : 1970 ≤ year_of day
  unfolding year_of
  from_1970 = from_first (λ y. nat_le (day_number y 1 1) day) 1970 136

  pub month_begun : nat_le (day_number (year_of day) (month_of day) 1) day ≡ true
  unfolding month_of
  month_begun = begun_is (λ m. nat_le (day_number (year_of day) m 1) day) 1 11 year_begun

  of_number : (y m d : ℕ) → 1970 ≤ y → day_number y m 1 ≤ day → d ≡ day + 1 - day_number y m 1 → day_number y m d ≡ day
  of_number y m d low begun e =
      let some : 1 ≤ d = omega arith in
      omega (
        arith,
        number_is y m 1 (from_epoch y m 1 low (omega arith)),
        number_is y m d (from_epoch y m d low some),
        day_count-day (pos y) m 1 d (omega arith) some,
      )

  pub date_is_day : day_number (year_of day) (month_of day) (day_of day) ≡ day
  unfolding day_of
  date_is_day = of_number (year_of day) (month_of day) (day + 1 - day_number (year_of day) (month_of day) 1) from_1970
      (leb-true (day_number (year_of day) (month_of day) 1) day month_begun) refl

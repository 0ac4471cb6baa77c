-- The date and the time of a number of seconds since 1970-01-01T00:00:00, in UTC. The calendar is that of `jiff`.
use Rattle.std.specs.Prelude.{ℕ, zero, suc, ◌+◌, ◌-◌, ◌/◌, ◌%◌, Bool, nat_lt, nat_le}
use Rattle.std.specs.Prelude.{List, [], ◌∷◌, ◌++◌, codes, pos, unsigned_abs, slice_index_or, if◌then◌else◌}
use Rattle.jiff_core.specs.Calendar.{days_from_civil, IsCivilDate, weekday_number}

-- ---- the date of a day number

-- the day number of a date from 1970 on
abbrev pub day_number : ℕ → ℕ → ℕ → ℕ
day_number y m d = unsigned_abs (days_from_civil (pos y) m d)

-- the last of so many numbers after the first that has begun; the first where none has
abbrev pub last_begun : (ℕ → Bool) → ℕ → ℕ → ℕ
last_begun begun first zero = first
last_begun begun first (suc n) = if begun (first + suc n) then first + suc n else last_begun begun first n

-- the last year up to 2106 that begins by this day
unfoldable pub year_of : ℕ → ℕ
year_of day = last_begun (λ y. nat_le (day_number y 1 1) day) 1970 136

-- the last month of that year that begins by this day
unfoldable pub month_of : ℕ → ℕ
month_of day = last_begun (λ m. nat_le (day_number (year_of day) m 1) day) 1 11

-- a day has this place in its month
unfoldable pub day_of : ℕ → ℕ
day_of day = day + 1 - day_number (year_of day) (month_of day) 1

-- the date of a day number is one of the calendar
unfoldable pub HasDate : ℕ → Type 0
HasDate day = IsCivilDate (pos (year_of day)) (month_of day) (day_of day)

-- ---- texts

-- the days of the week, from Monday on
abbrev pub weekday_names : List (List ℕ)
weekday_names = codes "Mon" ∷ codes "Tue" ∷ codes "Wed" ∷ codes "Thu" ∷ codes "Fri" ∷ codes "Sat" ∷ codes "Sun" ∷ []

-- the months, from January on
abbrev pub month_names : List (List ℕ)
month_names =
    codes "Jan" ∷ codes "Feb" ∷ codes "Mar" ∷ codes "Apr" ∷ codes "May" ∷ codes "Jun" ∷ codes "Jul" ∷ codes "Aug"
    ∷ codes "Sep" ∷ codes "Oct"
    ∷ codes "Nov" ∷ codes "Dec" ∷ []

-- the day of the week of a day number
abbrev pub weekday_name : ℕ → List ℕ
weekday_name day = slice_index_or weekday_names (weekday_number (pos day)) []

-- the name of a month from 1 to 12
abbrev pub month_name : ℕ → List ℕ
month_name month = slice_index_or month_names (month - 1) []

-- a number below 100 in two places, after a zero or a space
abbrev pub two : ℕ → List ℕ
two n = (48 + n / 10) ∷ (48 + n % 10) ∷ []

-- a number below 100 in two places, with a space in place of a zero in front
abbrev pub spaced_number : ℕ → List ℕ
spaced_number n = (if nat_lt n 10 then 32 else 48 + n / 10) ∷ (48 + n % 10) ∷ []

-- a number below 10,000 in four places
abbrev pub four : ℕ → List ℕ
four n = two (n / 100) ++ two (n % 100)

-- hours, minutes and seconds of the seconds of a day
abbrev pub clock : ℕ → List ℕ
clock s = two (s / 3600) ++ codes ":" ++ two (s / 60 % 60) ++ codes ":" ++ two (s % 60)

-- a day as `:day` shows it, as in `Thu Jan 01 1970`
abbrev pub day_text : ℕ → List ℕ
day_text day = weekday_name day ++ codes " " ++ month_name (month_of day) ++ codes " " ++ two (day_of day) ++ codes " "
    ++ four (year_of day)

-- a day and a second of it as `:date` shows them, as in `Thu Jan  1 00:00:00 1970`
abbrev pub date_text : ℕ → ℕ → List ℕ
date_text day second =
    weekday_name day ++ codes " " ++ month_name (month_of day) ++ codes " " ++ spaced_number (day_of day) ++ codes " "
    ++ clock second ++ codes " "
    ++ four (year_of day)

-- ---- the formatters

-- the text of a date, where its number of seconds has 32 bits
abbrev pub if_date : ℕ → List ℕ → List ℕ
if_date n text = if nat_lt 4294967295 n then codes "(not a date)" else text

-- what `:day` shows of a number of seconds
abbrev pub day : ℕ → List ℕ
day n = if_date n (day_text (n / 86400))

-- what `:date` shows of a number of seconds
abbrev pub date : ℕ → List ℕ
date n = if_date n (date_text (n / 86400) (n % 86400))

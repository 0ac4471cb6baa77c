-- The numbers that stand on a command line.
use Rattle.std.specs.Prelude.{ℕ, List, Option, Some, None, ◌&&◌, ◌^◌, nat_le, nat_lt, if◌then◌else◌, length}
use Rattle.std.specs.Option.{option_and_then}
use Rattle.std.specs.Str.{all_ascii_digits}
use Rattle.std.specs.Str.Parse.{digits_value}

-- the number that a text writes, if it is one: one to ten decimal digits, below 2 ^ 32
unfoldable pub number : List ℕ → Option ℕ
number text =
    if (nat_le 1 (length text) && nat_le (length text) 10 && all_ascii_digits text)
    && nat_lt (digits_value 10 text) (2 ^ 32)
    then Some (digits_value 10 text) else None

-- how many packages an exercise is with: a number from 1 to 100,000
abbrev pub exercise_number : List ℕ → Option ℕ
exercise_number text = option_and_then (λ n. if nat_le 1 n && nat_le n 100000 then Some n else None) (number text)

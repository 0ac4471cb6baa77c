-- The first member of a set of bytes.
use Rattle.std.specs.Prelude.{ℕ, List, length, Bool, ◌&&◌, ◌==◌, nat_lt, nat_le, slice_index, if◌then◌else◌}

-- a dash and one more stand after it
abbrev pub is_member_range : List ℕ → Bool
is_member_range members = nat_lt 2 (length members) && slice_index members 1 == 45

-- a byte belongs to the first member: within its range, or the same byte
abbrev pub first_has : ℕ → List ℕ → Bool
first_has b members =
    if is_member_range members then nat_le (slice_index members 0) b && nat_le b (slice_index members 2)
    else b == slice_index members 0

-- how many bytes write the first member
abbrev pub first_len : List ℕ → ℕ
first_len members = if is_member_range members then 3 else 1

-- How large an index is.
use Rattle.std.specs.Prelude.{ℕ, zero, suc, ◌+◌, ◌*◌, ◌/◌, ◌^◌, List, length, Bool, ◌==◌, nat_le, if◌then◌else◌}
use Rattle.std.specs.List.{sum_by, list_any, range_with_len}
use Rattle.rpm_hindex.specs.Rows.{Row}

-- the units of a key of so many bytes
abbrev pub key_units : ℕ → ℕ
key_units length = (length + 15) / 16

-- the first unit after so many bucket words
abbrev pub first_record : ℕ → ℕ
first_record buckets = 2 + buckets / 4

-- a power of two from 64 to 134217728
unfoldable pub is_bucket_count : ℕ → Bool
is_bucket_count buckets = list_any (λ k. buckets == 64 * 2 ^ k) (range_with_len 0 22)

-- a number, doubled until twice it is at least so many records; n is enough doublings
abbrev pub doubled_buckets : ℕ → ℕ → ℕ → ℕ
doubled_buckets zero buckets records = buckets
doubled_buckets (suc n) buckets records = if nat_le records (2 * buckets) then buckets
    else doubled_buckets n (2 * buckets) records

-- the least power of two that is at least 64 and at least half the records
unfoldable pub bucket_count : ℕ → ℕ
bucket_count records = doubled_buckets records 64 records

-- the units of the records of these rows: for each one, and those of its key
unfoldable pub live_of : List Row → ℕ
live_of rows = sum_by (λ (r : Row). 1 + key_units (length r.key)) rows

-- the units of an index of these rows, made from scratch
abbrev pub units_for : List Row → ℕ
units_for rows = first_record (bucket_count (length rows)) + live_of rows

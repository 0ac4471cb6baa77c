-- How many zero bytes stand in a list of bytes.
use Rattle.std.specs.Prelude.{◌≡◌, ℕ, zero, suc, ◌*◌, ◌≤◌, ◌<◌, List, length, take, drop, count_by, slice_index}
use Rattle.std.specs.List.{after_first}
use Rattle.rpm_header.specs.Bytes.{is_zero}
use Rattle.rpm_header.specs.Header.{max_data}

-- how many of the bytes are zero
unfoldable pub zeros : List ℕ → ℕ
zeros bytes = count_by is_zero bytes

-- one byte at least is zero from each place in front of this one on
abbrev pub HasZeroFrom : List ℕ → ℕ → Type 0
HasZeroFrom bytes behind = (k : ℕ) → k < behind → 0 < zeros (drop k bytes)

-- a table of sums has for each stride how many bytes from there on are zero; 4,095 strides pass the end
pub record IsSummed (bytes : List ℕ) (stride : ℕ) (sums : List ℕ) : Type 0 where
  pub wide : length bytes < 4095 * stride
  pub narrow : stride ≤ 16389
  pub small : length bytes ≤ max_data
  pub size : length sums ≡ 4096
  pub each : (k : ℕ) → k < 4096 → slice_index sums k ≡ zeros (drop (k * stride) bytes)

-- what stands after so many texts
unfoldable pub after_texts : ℕ → List ℕ → List ℕ
after_texts zero bytes = bytes
after_texts (suc n) bytes = after_texts n (after_first is_zero bytes)

-- a table of sums has for each stride how many bytes in front of it are zero
pub record AreCounted (bytes : List ℕ) (stride : ℕ) (sums : List ℕ) : Type 0 where
  pub some : 0 < length sums
  pub reach : (k : ℕ) → k < length sums → k * stride ≤ length bytes
  pub each : (k : ℕ) → k < length sums → slice_index sums k ≡ zeros (take (k * stride) bytes)

-- The keys that are left.
use Rattle.std.specs.Prelude.{ℕ, ◌+◌, ◌^◌, ◌<◌, List, [], map, length}
use Rattle.std.specs.List.{zip, range_with_len}
use Rattle.rpm_tags.specs.declared.key_iter.KeySource.{KeySource}
use Rattle.rpm_tags.specs.declared.key_iter.KeySource.TheVariants as source
use Rattle.rpm_tags.specs.declared.key_iter.KeyBytes.{KeyBytes}
use Rattle.rpm_tags.specs.declared.key_iter.KeyBytes.TheVariants as bytes
use Rattle.rpm_tags.specs.Keys.{number_key}

-- the bytes of a key
abbrev pub key_bytes : KeyBytes → List ℕ
key_bytes (bytes.Text text) = text.now
key_bytes (bytes.Number digits) = digits

abbrev pub keys_left : KeySource → List (List ℕ)
keys_left source.Nothing = []
keys_left (source.Texts texts) = texts
keys_left (source.Numbers numbers) = map number_key numbers

-- each with its place, from this one on
abbrev pub placed_keys : List (List ℕ) → ℕ → List (List ℕ × ℕ)
placed_keys keys n = zip keys (range_with_len n (length keys))

-- a place for each of them
abbrev pub KeysHavePlaces : KeySource → ℕ → Type 0
KeysHavePlaces left n = n + length (keys_left left) < 2 ^ 32

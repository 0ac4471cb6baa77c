-- Adler-32, as RFC 1950 tells it: two sums modulo 65521.
use Rattle.std.specs.Prelude.{ℕ, ◌+◌, ◌-◌, ◌*◌, ◌%◌, List, [], ◌∷◌, ◌++◌, length, take, map, Bool, ◌==◌, Option, sum}
use Rattle.std.specs.List.{range_with_len}
use Rattle.std.specs.Option.{option_map}
use Rattle.rpm_outside.specs.Files.{Units}
use Rattle.rpm_pkgdb.specs.Words.{word}
use Rattle.rpm_pkgdb.specs.Slots.{slot_with}
use Rattle.rpm_pkgdb.specs.Store.{Store}
use Rattle.rpm_pkgdb.specs.Blobs.{Frame, tail, frame_of}

-- the Adler-32 checksum: the first sum is of one and all bytes, the second of the first sums after each byte
unfoldable pub adler : List ℕ → ℕ
adler bytes =
    sum (map (λ k. 1 + sum (take k bytes)) (range_with_len 1 (length bytes))) % 65521 * 65536 + (1 + sum bytes) % 65521

-- the stored checksum is that of head, bytes and padding
unfoldable pub checksum_holds : Frame → Bool
checksum_holds f = word 0 (tail f.rest) == adler (f.head ++ take (length f.rest - 12) f.rest)

-- a number's checksum holds or not: None where no slot has the number, Some None where the framing is broken
abbrev pub checksums_hold : Units → Store → ℕ → Option (Option Bool)
checksums_hold file store n =
    option_map (option_map checksum_holds) (option_map (λ s. frame_of n s file) (slot_with n store.slots))

-- a checksum has two sums, which some bytes carry on
unfoldable pub sums : ℕ → ℕ → List ℕ → ℕ × ℕ
sums a b [] = (a, b)
sums a b (x ∷ xs) = sums ((a + x) % 65521) ((b + (a + x) % 65521) % 65521) xs

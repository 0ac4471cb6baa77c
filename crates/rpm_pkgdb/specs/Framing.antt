-- The blocks of a blob that is written.
use Rattle.std.specs.Prelude.{ℕ, ◌+◌, ◌-◌, ◌*◌, List, ◌++◌, length, replicate, codes}
use Rattle.rpm_outside.specs.Words.{bytes_of_word}
use Rattle.rpm_pkgdb.specs.Blobs.{blocks_for}
use Rattle.rpm_pkgdb.specs.Checksums.{adler}

-- unit 1: the next number, and zeros
unfoldable pub next_unit : ℕ → List ℕ
next_unit n = bytes_of_word n ++ replicate 12 0

-- the head of a blob of so many bytes
unfoldable pub head_of : ℕ → ℕ → ℕ → List ℕ
head_of n generation size = codes "BlbS" ++ bytes_of_word n ++ bytes_of_word generation ++ bytes_of_word size

-- zeros, so that with head and tail whole blocks are filled
abbrev pub padding : ℕ → List ℕ
padding size = replicate (16 * blocks_for size - (28 + size)) 0

-- the bytes that end a blob
unfoldable pub tail_of : ℕ → ℕ → List ℕ
tail_of sum size = bytes_of_word sum ++ bytes_of_word size ++ codes "BlbE"

-- what the checksum is of
abbrev pub summed_bytes : ℕ → ℕ → List ℕ → List ℕ
summed_bytes n generation blob = head_of n generation (length blob) ++ (blob ++ padding (length blob))

-- head, bytes, zeros and tail
abbrev pub framed_blob : ℕ → ℕ → List ℕ → List ℕ
framed_blob n generation blob =
    summed_bytes n generation blob ++ tail_of (adler (summed_bytes n generation blob)) (length blob)

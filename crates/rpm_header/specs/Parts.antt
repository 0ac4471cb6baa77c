-- The two parts of a header after its lengths.
use Rattle.std.specs.Prelude.{ℕ, ◌*◌, List, length, take, drop}
use Rattle.rpm_header.specs.Header.{Header, section_of}

-- a header's own index is what stands between its two lengths and its data
abbrev pub own_index : Header → List ℕ
own_index h = take (16 * length h.entries) (drop 8 h.blob)

-- a header's own data is what stands behind its index
abbrev pub own_data : Header → List ℕ
own_data h = section_of (length h.entries) h.blob

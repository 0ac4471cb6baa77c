-- The digest of the region with which a header begins.
use Rattle.std.specs.Prelude.{ℕ, ◌+◌, ◌-◌, ◌*◌, ◌/◌, ◌^◌, List, [], ◌∷◌, ◌++◌, take, false, ◌==◌, if◌then◌else◌}
use Rattle.std.specs.Prelude.{Option, Some, None}
use Rattle.std.specs.Int.{w32, to_be_bytes}
use Rattle.sha2.specs.Sha256.{sha256}
use Rattle.rpm_header.specs.Header.{main_region, Header, index_entry_at}
use Rattle.rpm_header.specs.Parts.{own_index, own_data}

-- the bytes that stand before a header in files
abbrev pub magic : List ℕ
magic = 0x8e ∷ 0xad ∷ 0xe8 ∷ 0x01 ∷ 0 ∷ 0 ∷ 0 ∷ 0 ∷ []

-- the region as a header of its own, as it stands in files: as many entries as its trailer counts, and the data up to
-- the trailer's end; the trailer stands in the data at the offset of the first entry, and its third number, read as
-- signed, is -16 × so many
abbrev pub region_in_file : Header → List ℕ
region_in_file h =
    let offset = (index_entry_at (own_index h) 0).offset in
    let n = (2 ^ 32 - (index_entry_at (own_data h) offset).offset) / 16 in
    magic ++ to_be_bytes w32 n ++ to_be_bytes w32 (offset + 16) ++ take (16 * n) (own_index h)
    ++ take (offset + 16) (own_data h)

-- a header that begins with a main header's region has the digest of that region: without a fault, a first entry of
-- this tag is a region
unfoldable pub immutable_digest : Header → Option (List ℕ)
immutable_digest h =
    if (elim h.entries [ [] ↦ false | e ∷ es ↦ e.tag == main_region ]) then Some (sha256 (region_in_file h)) else None

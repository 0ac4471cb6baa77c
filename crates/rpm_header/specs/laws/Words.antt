-- Parts of the definitions of a header under names of their own, which proofs cite.
use Rattle.std.specs.Prelude.{ℕ, suc, ◌+◌, ◌-◌, ◌*◌, ◌/◌, ◌^◌, List, [], ◌∷◌, ◌++◌, map, length}
use Rattle.std.specs.Prelude.{Bool, false, true, ◌==◌, Option, Result, Ok, Err}
use Rattle.std.specs.Int.{w32, to_be_bytes}
use Rattle.std.specs.List.{list_any, range_with_len}
use Rattle.std.specs.Option.{option_map_or}
use Rattle.rpm_header.specs.declared.form.HeaderFault.{HeaderFault}
use Rattle.rpm_header.specs.declared.index.IndexEntry.{IndexEntry}
use Rattle.rpm_header.specs.Digest.{magic}
use Rattle.rpm_header.specs.Header.{main_region, Header, Item, index_entry, index_entry_at, form_fault, form_of, section_of}
use Rattle.rpm_header.specs.Laid.{data_from, entry_bytes, index_bytes, index_from, kind_of, offset_of, region_item}
use Rattle.rpm_header.specs.Parts.{own_data, own_index}

-- what a function gives for each place from 0 on
abbrev pub each_below : {X : Type 0} → ℕ → (ℕ → X) → List X
each_below n f = map f (range_with_len 0 n)

-- the first fault where there is one, and otherwise the answer
abbrev pub unless : {X E : Type 0} → Option E → X → Result X E
unless fault x = option_map_or (λ e. Err e) fault (Ok x)

-- the fault of entry i as any entry may have it
unfoldable pub entry_fault : ℕ → List ℕ → ℕ → Option HeaderFault
entry_fault il blob i = form_fault (form_of (index_entry il blob i).kind) i (index_entry il blob i) (section_of il blob)

-- a region's trailer counts back by some r from 1 to il: the number is 2 ^ 32 - 16 × r, which is -16 × r where it is
-- read as signed
abbrev pub counts_back : ℕ → ℕ → Bool
counts_back il n = list_any (λ r. n + 16 * r == 2 ^ 32) (range_with_len 1 il)

-- where an entry's data end, after so many bytes of data
abbrev pub end_of_data : ℕ → Item → ℕ
end_of_data at e = offset_of at e + length (entry_bytes e)

-- an entry of the index for data that begin at an offset
abbrev pub entry_in_index : ℕ → Item → IndexEntry
entry_in_index offset e = record { tag = e.tag; kind = kind_of e.form; offset = offset; count = e.count }

-- the trailer of a region of n entries as an entry of the index
abbrev pub trailer_entry : ℕ → IndexEntry
trailer_entry n = record { tag = main_region; kind = 7; offset = 2 ^ 32 - 16 * n; count = 16 }

-- the region's entry stands first in the index
abbrev pub index_of : Bool → List Item → List ℕ
index_of false es = index_from 0 es
index_of true es =
    index_bytes (entry_in_index (length (data_from 0 es)) (region_item (suc (length es)))) ++ index_from 0 es

-- the dribbled items stand in the index after a header's own entries
abbrev pub dribbled_index : Header → List Item → List ℕ
dribbled_index h more = own_index h ++ index_from (length (own_data h)) more

-- the first entry has this tag
abbrev pub begins_with : ℕ → List Item → Bool
begins_with tag [] = false
begins_with tag (e ∷ es) = e.tag == tag

-- the first entry of the index
abbrev pub region_entry : Header → IndexEntry
region_entry h = index_entry_at (own_index h) 0

-- how many entries the region has, by the trailer
abbrev pub region_entries : Header → ℕ
region_entries h = (2 ^ 32 - (index_entry_at (own_data h) (region_entry h).offset).offset) / 16

-- a header of so many entries and bytes of data as it stands in files
abbrev pub header_in_file : ℕ → ℕ → List ℕ → List ℕ → List ℕ
header_in_file n size index section = magic ++ to_be_bytes w32 n ++ to_be_bytes w32 size ++ index ++ section

-- The header of a list of entries: each entry's data stand after those of the entries before it, at the least offset
-- that its form lets it have, with zeros between.
use Rattle.std.specs.Prelude.{ℕ, suc, ◌+◌, ◌-◌, ◌*◌, ◌^◌, List, [], ◌∷◌, ◌++◌, length, replicate}
use Rattle.std.specs.Prelude.{Bool, true, false, nat_lt, if◌then◌else◌, Result, Ok, Err}
use Rattle.std.specs.List.{flat_map}
use Rattle.std.specs.Int.{w32, to_be_bytes, next_multiple_of}
use Rattle.rpm_header.specs.declared.form.Form.{Form}
use Rattle.rpm_header.specs.declared.form.Form.TheVariants as form
use Rattle.rpm_header.specs.declared.index.IndexEntry.{IndexEntry}
use Rattle.rpm_header.specs.declared.laying.BuildFault.{BuildFault}
use Rattle.rpm_header.specs.declared.laying.BuildFault.TheVariants.{TooManyEntries, TooMuchData}
use Rattle.rpm_header.specs.declared.laying.Lengths.{Lengths}
use Rattle.rpm_header.specs.Header.{max_entries, max_data, main_region, Item, Nothing, Numbers, Texts, Bytes}
use Rattle.rpm_header.specs.Header.{width, alignment}

-- the type of a form
abbrev pub kind_of : Form → ℕ
kind_of form.Null = 0
kind_of form.Char = 1
kind_of form.Int8 = 2
kind_of form.Int16 = 3
kind_of form.Int32 = 4
kind_of form.Int64 = 5
kind_of form.Text = 6
kind_of form.Bin = 7
kind_of form.Texts = 8
kind_of form.I18n = 9

-- ---- the data

-- texts one after the other, each with a zero byte after it
abbrev pub joined_texts : List (List ℕ) → List ℕ
joined_texts ts = flat_map (λ t. t ++ 0 ∷ []) ts

-- the bytes of an entry in the data, where a zero byte stands after each text
unfoldable pub entry_bytes : Item → List ℕ
entry_bytes e = elim e.values [
  | Nothing ↦ []
  | Numbers ns ↦ flat_map (to_be_bytes (width e.form)) ns
  | Texts ts ↦ flat_map (λ t. t ++ 0 ∷ []) ts
  | Bytes bs ↦ bs
]

-- where an entry's data begin, after so many bytes of data
unfoldable pub offset_of : ℕ → Item → ℕ
offset_of at e = next_multiple_of at (alignment e.form)

-- the data of entries, after so many bytes of data
unfoldable pub data_from : ℕ → List Item → List ℕ
data_from at [] = []
data_from at (e ∷ es) =
    replicate (offset_of at e - at) 0 ++ entry_bytes e ++ data_from (offset_of at e + length (entry_bytes e)) es

-- ---- the index

-- an entry of the index is four numbers of four bytes
unfoldable pub index_bytes : IndexEntry → List ℕ
index_bytes i =
    to_be_bytes w32 i.tag ++ to_be_bytes w32 i.kind ++ to_be_bytes w32 i.offset ++ to_be_bytes w32 i.count

-- the index of entries, whose data stand after so many bytes of data
unfoldable pub index_from : ℕ → List Item → List ℕ
index_from at [] = []
index_from at (e ∷ es) =
    index_bytes (record { tag = e.tag; kind = kind_of e.form; offset = offset_of at e; count = e.count })
    ++ index_from (offset_of at e + length (entry_bytes e)) es

-- ---- the region

-- an entry of the index for a region, which its trailer in the data looks like: a Bin of 16 bytes at an offset
abbrev pub region_bytes : ℕ → List ℕ
region_bytes offset = index_bytes (record { tag = main_region; kind = 7; offset = offset; count = 16 })

-- the trailer of a region of n entries, its own with them, has -16 × n as a signed number for its offset
abbrev pub trailer : ℕ → List ℕ
trailer n = region_bytes (2 ^ 32 - 16 * n)

-- the entry of a region of n entries
abbrev pub region_item : ℕ → Item
region_item n = record { tag = main_region; form = form.Bin; count = 16; values = Bytes (trailer n) }

-- the entries as they are read again
abbrev pub with_region : Bool → List Item → List Item
with_region false es = es
with_region true es = region_item (suc (length es)) ∷ es

-- the data, with the trailer last where there is a region
abbrev pub data_of : Bool → List Item → List ℕ
data_of false es = data_from 0 es
data_of true es = data_from 0 es ++ trailer (suc (length es))

-- ---- all of it

-- two lengths, the index, the data
abbrev pub blob_of : ℕ → List ℕ → List ℕ → List ℕ
blob_of n index section = to_be_bytes w32 n ++ to_be_bytes w32 (length section) ++ index ++ section

-- the bytes of the header of these entries: where it has a region, the region's entry stands first in the index, and
-- its trailer last in the data, with -16 × n as a signed number for its offset
unfoldable pub laid_out : Bool → List Item → List ℕ
laid_out false es = blob_of (length es) (index_from 0 es) (data_from 0 es)
laid_out true es =
    let n = suc (length es) in
    let section = data_from 0 es in
    blob_of n (region_bytes (length section) ++ index_from 0 es) (section ++ region_bytes (2 ^ 32 - 16 * n))

-- a header has a count of entries and a size of data, or passes a limit: the first of the two
abbrev pub lengths_of : ℕ → ℕ → Result Lengths BuildFault
lengths_of n size =
    if nat_lt max_entries n then Err TooManyEntries
    else if nat_lt max_data size then Err TooMuchData
    else Ok (record { entries = n; size = size })

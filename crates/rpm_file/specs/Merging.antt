-- The entries of a signature header that join the main header after its own.
use Rattle.std.specs.Prelude.{◌≡◌, ℕ, ◌+◌, List, [], ◌∷◌, ◌++◌, length, map, All, Bool, true, false, ◌==◌, ◌&&◌, ◌||◌}
use Rattle.std.specs.Prelude.{nat_lt, nat_le, if◌then◌else◌, Option, Some, None, Result, Ok, Err}
use Rattle.std.specs.List.{list_any, filter_map}
use Rattle.std.specs.Option.{option_and_then}
use Rattle.rpm_header.specs.declared.form.Form.{Form}
use Rattle.rpm_header.specs.declared.form.Form.TheVariants as form
use Rattle.rpm_header.specs.Header.{max_data, max_entries, is_region_tag, Item, Header}
use Rattle.rpm_header.specs.Build.{numbers_item, with_tag}
use Rattle.rpm_header.specs.Dribbles.{dribbled_blob, dribbled_data}
use Rattle.rpm_file.specs.declared.fault.FileFault.{FileFault}
use Rattle.rpm_file.specs.declared.fault.FileFault.TheVariants.{TooLarge}
use Rattle.rpm_file.specs.declared.merging.Stamp.{Stamp}

-- the tag under which an entry of the signature header joins, by its own tag
abbrev pub joins_as : ℕ → Option ℕ
joins_as tag =
    if nat_le 256 tag && nat_le tag 999 then Some tag
    else if tag == 1000 then Some 257
    else if tag == 1004 then Some 261
    else if tag == 1007 then Some 1046
    else None

-- the form of an entry that never joins
abbrev pub is_null : Form → Bool
is_null form.Null = true
is_null _ = false

-- an entry joins under the tag that it gets, unless an entry of the main header has this tag
unfoldable pub dribble : List Item → Item → Option Item
dribble main e = if is_null e.form then None else option_and_then
    (λ tag. if list_any (λ own. own.tag == tag) main then None else Some (with_tag tag e)) (joins_as e.tag)

-- ---- entries of the caller's own

-- an entry of one number
abbrev pub stamp_item : Stamp → Item
stamp_item stamp = numbers_item stamp.tag form.Int32 (stamp.number ∷ [])

-- entries of one number each
abbrev pub stamp_items : List Stamp → List Item
stamp_items stamps = map stamp_item stamps

-- none of them is a region
abbrev pub AreStamps : List Stamp → Type 0
AreStamps stamps = All (λ stamp. is_region_tag stamp.tag ≡ false) stamps

-- ---- the header with all of them

-- a header with these entries after its own, unless it would have too many entries or too much data
abbrev pub header_with_entries : Header → List Item → Result Header FileFault
header_with_entries main more =
    if nat_lt max_entries (length main.entries + length more) || nat_lt max_data (length (dribbled_data main more))
    then Err TooLarge
    else Ok (record { blob = dribbled_blob main more; entries = main.entries ++ more })

-- a header that could be read gets more entries
abbrev pub and_entries : List Item → Result Header FileFault → Result Header FileFault
and_entries more (Ok h) = header_with_entries h more
and_entries more (Err fault) = Err fault

-- the main header with all that join it, in the order of the signature header
unfoldable pub merged_header : List Item → Header → Result Header FileFault
merged_header signature main = header_with_entries main (filter_map (dribble main.entries) signature)

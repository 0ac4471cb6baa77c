-- What a header says: its entries, or its first fault.
use Rattle.std.specs.Prelude.{◌≡◌, ℕ, ◌≤◌, ◌<◌, ◌+◌, ◌*◌, ◌%◌, ◌^◌, List, [], ◌∷◌, length, take, drop, Bool, true}
use Rattle.std.specs.Prelude.{false, not, ◌&&◌, ◌||◌, ◌==◌, nat_lt, if◌then◌else◌, Option, Some, None, Result, Ok, Err}
use Rattle.std.specs.Prelude.{slice_get, map, All}
use Rattle.std.specs.Option.{option_map_or, option_or}
use Rattle.std.specs.List.{list_any, range_with_len}
use Rattle.std.specs.Int.{Width, w8, w16, w32, w64, byte_len}
use Rattle.rpm_header.specs.declared.form.Form.{Form}
use Rattle.rpm_header.specs.declared.form.Form.TheVariants as form
use Rattle.rpm_header.specs.declared.form.HeaderFault.{HeaderFault}
use Rattle.rpm_header.specs.declared.form.HeaderFault.TheVariants.{Short, TooManyEntries, TooMuchData, BadType}
use Rattle.rpm_header.specs.declared.form.HeaderFault.TheVariants.{BadOffset, BadCount, NoEnd, BadRegion}
use Rattle.rpm_header.specs.declared.index.IndexEntry.{IndexEntry}
use Rattle.rpm_header.specs.Bytes.{number_at, numbers, texts, are_ended}

-- ---- the limits

-- the most entries of a header
abbrev pub max_entries : ℕ
max_entries = 65535

-- the most bytes of its data
abbrev pub max_data : ℕ
max_data = 67108864

-- the most bytes of its own, with the two lengths and the index
abbrev pub max_blob : ℕ
max_blob = 8 + 16 * max_entries + max_data

-- ---- what a header holds

-- the elements of an entry, by the class of its form
pub data Values : Type 0 where
  Nothing : Values
  Numbers : List ℕ → Values
  Texts : List (List ℕ) → Values
  Bytes : List ℕ → Values

-- an entry; the count is the stored number, which is the number of elements but for a Null
pub record Item : Type 0 where
  pub tag : ℕ
  pub form : Form
  pub count : ℕ
  pub values : Values

-- an entry's values have these numbers, and none where the values are of another class
abbrev pub numbers_of : Values → List ℕ
numbers_of v = elim v [ Numbers ns ↦ ns | _ ↦ [] ]

-- the texts of an entry, and none of another class
abbrev pub texts_of : Values → List (List ℕ)
texts_of v = elim v [ Texts ts ↦ ts | _ ↦ [] ]

-- the bytes of an entry that is a Bin, and none of another class
abbrev pub bin_bytes : Values → List ℕ
bin_bytes v = elim v [ Bytes bs ↦ bs | _ ↦ [] ]

-- a header's own bytes, without what follows them, and its entries
pub record Header : Type 0 where
  pub blob : List ℕ
  pub entries : List Item

-- ---- the index

-- an entry of the index is four numbers of four bytes
abbrev pub index_entry_at : List ℕ → ℕ → IndexEntry
index_entry_at bytes at = record {
  tag = number_at w32 bytes at;
  kind = number_at w32 bytes (at + 4);
  offset = number_at w32 bytes (at + 8);
  count = number_at w32 bytes (at + 12);
}

-- the form of a type from 0 to 9, and none above
abbrev pub form_of : ℕ → Option Form
form_of kind =
    slice_get (
    form.Null ∷ form.Char ∷ form.Int8 ∷ form.Int16 ∷ form.Int32 ∷ form.Int64 ∷ form.Text ∷ form.Bin ∷ form.Texts
    ∷ form.I18n ∷ []) kind

-- the width of a number, or of a byte
abbrev pub width : Form → Width
width f = elim f [ form.Int16 ↦ w16 | form.Int32 ↦ w32 | form.Int64 ↦ w64 | _ ↦ w8 ]

-- a multiple of this many bytes is where an entry's data may begin
abbrev pub alignment : Form → ℕ
alignment f = byte_len (width f)

-- the forms whose elements are texts
abbrev pub has_texts : Form → Bool
has_texts f = elim f [ form.Text ↦ true | form.Texts ↦ true | form.I18n ↦ true | _ ↦ false ]

-- the forms whose elements are numbers
abbrev pub has_numbers : Form → Bool
has_numbers form.Char = true
has_numbers form.Int8 = true
has_numbers form.Int16 = true
has_numbers form.Int32 = true
has_numbers form.Int64 = true
has_numbers _ = false

-- ---- the elements

-- the elements, in the data from the entry's offset on
abbrev pub values : Form → ℕ → List ℕ → Values
values form.Null count bytes = Nothing
values form.Bin count bytes = Bytes (take count bytes)
values form.Text count bytes = Texts (texts count bytes)
values form.Texts count bytes = Texts (texts count bytes)
values form.I18n count bytes = Texts (texts count bytes)
values f count bytes = Numbers (numbers (width f) count bytes)

-- the values are a count of numbers
abbrev pub AreNumbers : ℕ → Values → Type 0
AreNumbers count (Numbers ns) = length ns ≡ count
AreNumbers count _ = ⊥

-- the values are a count of texts
abbrev pub AreTexts : ℕ → Values → Type 0
AreTexts count (Texts ts) = length ts ≡ count
AreTexts count _ = ⊥

-- the values are a count of bytes
abbrev pub AreBytes : ℕ → Values → Type 0
AreBytes count (Bytes bs) = length bs ≡ count
AreBytes count _ = ⊥

-- the elements are of the form's class, the count is how many there are, and no text is longer than
-- a header's data
pub record IsEntryWhole (e : Item) : Type 0 where
  pub some : (e.form ≡ form.Null → ⊥) → 0 < e.count
  pub nothing : e.form ≡ form.Null → e.values ≡ Nothing
  pub numbers : has_numbers e.form ≡ true → AreNumbers e.count e.values
  pub texts : has_texts e.form ≡ true → AreTexts e.count e.values
  pub bytes : e.form ≡ form.Bin → AreBytes e.count e.values
  pub short : All (λ text. length text ≤ max_data) (texts_of e.values)

-- ---- the faults of one entry, in the data from its offset on

-- a text stands once; of numbers and bytes none passes the data's end
abbrev pub is_bad_count : Form → ℕ → List ℕ → Bool
is_bad_count form.Text count bytes = not (count == 1)
is_bad_count form.Texts count bytes = count == 0
is_bad_count form.I18n count bytes = count == 0
is_bad_count f count bytes = count == 0 || nat_lt (length bytes) (count * alignment f)

-- the fault of the elements of entry i: first their number, then a text without its zero byte
abbrev pub element_fault : Form → ℕ → ℕ → List ℕ → Option HeaderFault
element_fault f i count bytes =
    if is_bad_count f count bytes then Some (BadCount i)
    else if has_texts f && not (are_ended count bytes) then Some (NoEnd i)
    else None

-- an entry of this form has this first fault; nothing but its type is looked at where the form is Null
abbrev pub form_fault : Option Form → ℕ → IndexEntry → List ℕ → Option HeaderFault
form_fault None i e section = Some (BadType i)
form_fault (Some form.Null) i e section = None
form_fault (Some f) i e section =
    if nat_lt (length section) e.offset || not (e.offset % alignment f == 0) then Some (BadOffset i)
    else element_fault f i e.count (drop e.offset section)

-- ---- the region

-- the tag of the region of a main header
abbrev pub main_region : ℕ
main_region = 63

-- a tag is that of a region in a signature header, 62, or in a main header
abbrev pub is_region_tag : ℕ → Bool
is_region_tag tag = tag == 62 || tag == main_region

-- a region is a Bin of 16 bytes, the trailer, whose third number counts back some r of the il entries: it is
-- 2 ^ 32 - 16 × r, which is -16 × r where it is read as signed
abbrev pub region_fault : ℕ → IndexEntry → List ℕ → Option HeaderFault
region_fault il e section =
    let back = number_at w32 section (e.offset + 8) in
    if e.kind == 7 && e.count == 16 && list_any (λ r. back + 16 * r == 2 ^ 32) (range_with_len 1 il) then None
    else Some BadRegion

-- ---- all of it

-- a header of il entries, over its own bytes
module _ (il : ℕ) (blob : List ℕ) where
  -- entry i of the index, which follows the two lengths
  abbrev pub index_entry : ℕ → IndexEntry
  index_entry i = index_entry_at blob (8 + 16 * i)

  -- the data, which follow the index
  abbrev pub section_of : List ℕ
  section_of = drop (8 + 16 * il) blob

  -- the fault of entry i: only entry 0 can be a region, and its other faults come first
  unfoldable pub fault_at : ℕ → Option HeaderFault
  fault_at i =
      let e = index_entry i in
      option_or (form_fault (form_of e.kind) i e section_of)
      (if i == 0 && is_region_tag e.tag then region_fault il e section_of else None)

-- the form of a type, and Null above 9
abbrev pub form_or_null : Option Form → Form
form_or_null None = form.Null
form_or_null (Some f) = f

-- an entry as it reads, which says something only where it has no fault
unfoldable pub entry_of : IndexEntry → List ℕ → Item
entry_of e section =
    let f = form_or_null (form_of e.kind) in
    record { tag = e.tag; form = f; count = e.count; values = values f e.count (drop e.offset section) }

-- all entries, in the order of the index
unfoldable pub entries : ℕ → List ℕ → List Item
entries il blob = map (λ i. entry_of (index_entry il blob i) (section_of il blob)) (range_with_len 0 il)

-- the first fault of a list
abbrev pub first : {X : Type 0} → List (Option X) → Option X
first [] = None
first (None ∷ xs) = first xs
first (Some x ∷ xs) = Some x

-- the last entry of a tag
abbrev pub last_of : ℕ → List Item → Option Item
last_of tag [] = None
last_of tag (e ∷ es) = option_or (last_of tag es) (if e.tag == tag then Some e else None)

-- the header of il entries whose own bytes these are
unfoldable pub header_of : ℕ → List ℕ → Result Header HeaderFault
header_of il blob =
    option_map_or (λ fault. Err fault) (first (map (fault_at il blob) (range_with_len 0 il)))
    (Ok (record { blob = blob; entries = entries il blob }))

-- the two lengths stand in front; what follows the header's own bytes says nothing
unfoldable pub header : List ℕ → Result Header HeaderFault
header bytes =
    let il = number_at w32 bytes 0 in
    let dl = number_at w32 bytes 4 in
    if nat_lt (length bytes) 8 then Err Short
    else if nat_lt max_entries il then Err TooManyEntries
    else if nat_lt max_data dl then Err TooMuchData
    else if nat_lt (length bytes) (8 + 16 * il + dl) then Err Short
    else header_of il (take (8 + 16 * il + dl) bytes)

-- a header's own bytes, without what follows them
abbrev pub IsOwn : List ℕ → Type 0
IsOwn bytes = (h : Header) × (header bytes ≡ Ok h) × (h.blob ≡ bytes)

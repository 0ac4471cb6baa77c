-- What a builder keeps of its entries, so that they are read again from their bytes.
use Rattle.std.specs.Prelude.{◌≡◌, ◌≢◌, ℕ, ◌^◌, ◌<◌, ◌≤◌, List, [], ◌++◌, length, None, false}
use Rattle.std.specs.Int.{to_be_bytes}
use Rattle.std.specs.List.{AllByRecursion, flat_map}
use Rattle.rpm_header.specs.declared.form.Form.{Form}
use Rattle.rpm_header.specs.declared.form.Form.TheVariants as form
use Rattle.rpm_header.specs.Bytes.{texts}
use Rattle.rpm_header.specs.Header.{Item, Values, Nothing, Numbers, Texts, Bytes, values, width, numbers_of, texts_of}
use Rattle.rpm_header.specs.Header.{element_fault, is_region_tag}
use Rattle.rpm_header.specs.Build.{AllFit, IsText}
use Rattle.rpm_header.specs.Laid.{entry_bytes, joined_texts}

-- the texts that these bytes hold are all that they hold
pub record IsJoined (count : ℕ) (bytes : List ℕ) : Type 0 where
  pub stored : bytes ≡ joined_texts (texts count bytes)
  pub each : AllByRecursion IsText (texts count bytes)

-- the bytes of elements
abbrev pub bytes_by : Form → Values → List ℕ
bytes_by f Nothing = []
bytes_by f (Numbers ns) = flat_map (to_be_bytes (width f)) ns
bytes_by f (Texts ts) = joined_texts ts
bytes_by f (Bytes bs) = bs

-- the elements that these bytes hold are all that they hold
pub record IsPacked (f : Form) (count : ℕ) (bytes : List ℕ) : Type 0 where
  pub stored : bytes_by f (values f count bytes) ≡ bytes
  pub few : count ≤ length bytes

-- an entry that is read again from its bytes, whatever follows them
pub record ReadsBack (e : Item) : Type 0 where
  pub tag : e.tag < 2 ^ 32
  pub few : e.count ≤ length (entry_bytes e)
  pub no_region : is_region_tag e.tag ≡ false
  pub no_null : e.form ≢ form.Null
  pub again : (rest : List ℕ) → values e.form e.count (entry_bytes e ++ rest) ≡ e.values
  pub sound : (i : ℕ) (rest : List ℕ) → element_fault e.form i e.count (entry_bytes e ++ rest) ≡ None

-- the entry of so many elements, with which these bytes begin
abbrev pub item_at : ℕ → Form → ℕ → List ℕ → Item
item_at tag f count bytes = record { tag = tag; form = f; count = count; values = values f count bytes }

-- an entry that a header stores: its numbers fit its form, its texts have no zero byte, and a text stands once
pub record IsStored (e : Item) : Type 0 where
  pub fit : AllFit e.form (numbers_of e.values)
  pub each : AllByRecursion IsText (texts_of e.values)
  pub one : e.form ≡ form.Text → e.count ≡ 1

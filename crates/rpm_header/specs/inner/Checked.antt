-- What a checked header and its entries keep, from which each reader answers without a second check.
use Rattle.std.specs.Prelude.{◌≡◌, ℕ, ◌≤◌, ◌<◌, ◌+◌, ◌*◌, List, length, true, None}
use Rattle.std.specs.Int.{w32}
use Rattle.rpm_header.specs.declared.form.Form.{Form}
use Rattle.rpm_header.specs.declared.form.Form.TheVariants as form
use Rattle.rpm_header.specs.Bytes.{number_at, are_ended}
use Rattle.rpm_header.specs.Header.{max_entries, max_data, alignment, fault_at}

-- there is an element, and all of them stand in the data from the entry's offset on
abbrev pub HasElements : Form → ℕ → List ℕ → Type 0
HasElements form.Null count bytes = Unit {0}
HasElements form.Text count bytes = (0 < count) × (are_ended count bytes ≡ true) × (count ≡ 1)
HasElements form.Texts count bytes = (0 < count) × (are_ended count bytes ≡ true)
HasElements form.I18n count bytes = (0 < count) × (are_ended count bytes ≡ true)
HasElements f count bytes = (0 < count) × (count * alignment f ≤ length bytes)

-- an entry's elements have room in these bytes, which are no more than a header has of data
pub record IsInside (f : Form) (count : ℕ) (bytes : List ℕ) : Type 0 where
  pub room : HasElements f count bytes
  pub few : length bytes ≤ max_data

-- the bytes of a header alone: the two lengths in front are in bounds and cut exactly these bytes
pub record IsCutAsSaid (il : ℕ) (blob : List ℕ) : Type 0 where
  pub front : number_at w32 blob 0 ≡ il
  pub whole : length blob ≡ 8 + 16 * il + number_at w32 blob 4
  pub few : il ≤ max_entries
  pub small : number_at w32 blob 4 ≤ max_data

-- a blob is cut as its index says, and none of its entries has a fault
pub record IsBlobSound (il : ℕ) (blob : List ℕ) : Type 0 where
  pub cut : IsCutAsSaid il blob
  pub faultless : (k : ℕ) → k < il → fault_at il blob k ≡ None

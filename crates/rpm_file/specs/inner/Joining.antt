-- What the calls that join entries keep and answer.
use Rattle.std.specs.Prelude.{◌≡◌, ℕ, ◌+◌, ◌*◌, ◌≤◌, List, length, Bool, false, Option, Some, None, ◌<◌, slice_index_or}
use Rattle.std.specs.Prelude.{◌==◌, ◌||◌, nat_lt, if◌then◌else◌}
use Rattle.std.specs.List.{list_any, filter_map}
use Rattle.rpm_header.specs.declared.form.Form.TheVariants as form
use Rattle.rpm_header.specs.Header.{Header, Item, is_region_tag, max_data, max_entries}
use Rattle.rpm_header.specs.Build.{with_tag}
use Rattle.rpm_header.specs.declared.laying.BuildFault.{BuildFault}
use Rattle.rpm_header.specs.declared.laying.BuildFault.TheVariants as build
use Rattle.rpm_file.specs.declared.fault.FileFault.{FileFault}
use Rattle.rpm_file.specs.declared.fault.FileFault.TheVariants.{TooLarge, NoMemory}
use Rattle.rpm_file.specs.Merging.{dribble}

-- one of these entries has this tag
abbrev pub has_tag : ℕ → List Item → Bool
has_tag tag entries = list_any (λ e. e.tag == tag) entries

-- an entry under the tag that it gets, unless the main header has this tag
abbrev pub dribble_as : List Item → Item → Option ℕ → Option Item
dribble_as main e None = None
dribble_as main e (Some tag) = if has_tag tag main then None else Some (with_tag tag e)

-- the entries that join, in the order of the signature header
abbrev pub dribbles : List Item → List Item → List Item
dribbles main signature = filter_map (dribble main) signature

-- a header would pass its limits with a count of entries or a size of data
abbrev pub passes_limits : ℕ → ℕ → Bool
passes_limits count size = nat_lt max_entries count || nat_lt max_data size

-- a table says of each tag below 1,047 whether these entries have it
pub record HasTags (entries : List Item) (has : List Bool) : Type 0 where
  pub long : length has ≡ 1047
  pub told : (tag : ℕ) → tag < 1047 → slice_index_or has tag false ≡ has_tag tag entries

-- the tag under which an entry joins, if it does
abbrev pub JoinsUnder : List Item → Item → Option ℕ → Type 0
JoinsUnder main e None = dribble main e ≡ None
JoinsUnder main e (Some tag) = (dribble main e ≡ Some (with_tag tag e)) × (is_region_tag tag ≡ false)
    × (e.form ≡ form.Null → ⊥)

-- each limit that is passed is one fault
abbrev pub made_fault : BuildFault → FileFault
made_fault build.TooManyEntries = TooLarge
made_fault build.TooMuchData = TooLarge
made_fault build.NoMemory = NoMemory

-- a header's own bytes have its two lengths and its index
abbrev pub HasIndexBytes : Header → Type 0
HasIndexBytes h = 8 + 16 * length h.entries ≤ length h.blob

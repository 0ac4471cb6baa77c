-- What becomes of a store: a planned blob is put, or the package of a number is erased.
use Rattle.std.specs.Prelude.{◌≡◌, ◌≢◌, ℕ, ◌<◌, ◌≤◌, Bool, List, length, true, IsSome, Option, Some}
use Rattle.std.specs.FinMap as finite
use Rattle.rpm_outside.specs.declared.disk.Disk as disk
use Rattle.rpm_outside.specs.Files.{Units}
use Rattle.rpm_pkgdb.specs.Blobs.{blobs}
use Rattle.rpm_pkgdb.specs.Checksums.{checksums_hold}
use Rattle.rpm_pkgdb.specs.Frame.{IsWritten, pkg}
use Rattle.rpm_pkgdb.specs.Growing.{moving_cost}
use Rattle.rpm_pkgdb.specs.declared.plan.Plan.{Plan}
use Rattle.rpm_pkgdb.specs.Planned.{IsPlan, moves_of}
use Rattle.rpm_pkgdb.specs.Quiet.{BlobMap}
use Rattle.rpm_pkgdb.specs.Reaches.{ReachesTo}
use Rattle.rpm_pkgdb.specs.Slots.{slot_with}
use Rattle.rpm_pkgdb.specs.Store.{Store}
use Rattle.rpm_pkgdb.specs.Written.{ErasesTo, PutsTo, without_number, next_field, with_plan, with_spare}
use Rattle.rpm_pkgdb.specs.laws.Parts.{field_after}
use Rattle.rpm_db.specs.Database.{without_index}
use Rattle.rpm_db.specs.Verdicts.{verdict}
use Rattle.rpm_db.specs.declared.writing.Edit.{Edit}
use Rattle.rpm_db.specs.declared.writing.Edit.TheVariants as edit

-- the blobs after it, the number field and the store
abbrev pub edited_blobs : Edit → List ℕ → BlobMap → BlobMap
edited_blobs (edit.Put plan) blob map = finite.insert map plan.target.number (Some blob)
edited_blobs (edit.Erase n) blob map = finite.remove map n

abbrev pub field_edited : Edit → ℕ → ℕ
field_edited (edit.Put plan) field = field_after (next_field plan.target) field
field_edited (edit.Erase n) field = field

abbrev pub with_edit : Edit → Store → Store
with_edit (edit.Put plan) value = with_plan plan value
with_edit (edit.Erase n) value = without_number n value

-- the number of the package that it is of
abbrev pub edited_number : Edit → ℕ
edited_number (edit.Put plan) = plan.target.number
edited_number (edit.Erase n) = n

-- verifying says of each package but one what it said before, and the checksum of that one is right, where it is there
pub record KeepsSums (n : ℕ) (old new : Units) (before after : Store) : Type 0 where
  pub others : (m : ℕ) → m ≢ n → verdict new (without_index after) m ≡ verdict old (without_index before) m
  pub own : (sum : Option Bool) → checksums_hold new after n ≡ Some sum → sum ≡ Some true

-- what it reads of the blobs that move
abbrev pub edit_cost : Edit → Store → ℕ
edit_cost (edit.Put plan) value = moving_cost value.slots (moves_of plan.page)
edit_cost (edit.Erase n) value = 0

-- a plan of this store for a blob of its length, and the memory is taken
pub record CanPutPlan (plan : Plan) (blob : List ℕ) (value : Store) : Type 0 where
  pub room : 1 ≤ value.spare
  pub plan_is : IsPlan value plan
  pub length_is : plan.target.length ≡ length blob

-- an edit is one of this store
abbrev pub Suits : Edit → List ℕ → Store → Type 0
Suits (edit.Put plan) blob value = CanPutPlan plan blob value
Suits (edit.Erase n) blob value = IsSome (slot_with n value.slots)

-- an edit is one of this store, whose generation can rise
pub record CanEdit (it : Edit) (blob : List ℕ) (value : Store) : Type 0 where
  pub left : value.generation < 4294967295
  pub suits : Suits it blob value

-- the store after it, up to room in memory
pub record HasEdit (it : Edit) (before after : Store) : Type 0 where
  pub is : after ≡ with_spare after.spare (with_edit it before)
  pub going : after.is_stopped ≡ before.is_stopped
  pub generation : after.generation ≡ before.generation
  pub field : after.field ≡ field_edited it before.field
  pub pages : before.pages ≤ after.pages

-- how long Packages.db is then at most
abbrev pub EditReaches : Edit → Store → Units → Units → Type 0
EditReaches (edit.Put plan) after old new = ReachesTo after old new
EditReaches (edit.Erase n) after old new = length new ≤ length old

-- what a crash leaves meanwhile
abbrev pub EditsTo : Store → Edit → List ℕ → Units → Units → Type 0
EditsTo value (edit.Put plan) blob file image = PutsTo value plan.target blob file image
EditsTo value (edit.Erase n) blob file image = ErasesTo value n file image

module _ {D : Type 0} (d : disk.Ghosts D) where
  -- an edit was written
  pub record IsEdited (old new : D) (before after : Store) (it : Edit) (blob : List ℕ) : Type 0 where
    pub written : IsWritten d new after (edited_blobs it blob (blobs (pkg d old) before))
    pub reach : EditReaches it after (pkg d old) (pkg d new)
    pub sums : KeepsSums (edited_number it) (pkg d old) (pkg d new) before after

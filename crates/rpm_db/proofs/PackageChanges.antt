-- What is asked of one package: what it makes of the store and of the rows; and its plan, said of the store from before it.
use Rattle.std.proofs.Common.{◌≡◌, ℕ, ◌+◌, ◌≤◌, List, [], Option, Some, None, Ok, inl, inr, length, refl, sym, ap, ◌∙◌, subst, arith}
use Rattle.std.specs.Prelude.{IsTrue}
use Rattle.std.specs.FinMap as finite
use Rattle.rpm_outside.specs.declared.disk.Disk as disk
use Rattle.rpm_db.proofs.Vocabulary.{added_rows, added_units, apply, AreLawful, BlobMap, blobs, blobs_asked, BlobsTo, bytes_asked, CanEdit, CanPutAside, change_asked}
use Rattle.rpm_db.proofs.Vocabulary.{changed_number, ChangeFault, cost, cost_before, CrashLeaves, DiskFault, dropped_rows, Edit, edit_cost, edited_blobs, edited_number}
use Rattle.rpm_db.proofs.Vocabulary.{EditReaches, EndsAsked, field_edited, field_for, HasChanged, HasEdit, header_rows, images, IsChangedStill, IsEditPlanned}
use Rattle.rpm_db.proofs.Vocabulary.{IsFullFor, IsOfAside, IsOfIndex, IsOwnHeader, IsPlaceRefused, IsPlanAsked, IsQuiet, IsTornOnly, KeepsStore, KeepsSums, LaterCause}
use Rattle.rpm_db.proofs.Vocabulary.{live_of, next_store, nat_cmp, number_asked, number_for, old_rows, Package, packages, packages_of, Pkg, raised_store, ReadsAtMost, refused_store}
use Rattle.rpm_db.proofs.Vocabulary.{PackageChange, RoomCause, RowChange, rows, rows_asked, Runs, SameFiles, state, state_of, Store, Units, with_rows, with_spare}
use Rattle.rpm_db.proofs.Vocabulary.{without_number}
use Rattle.rpm_db.specs.declared.planning.PackageChange.TheVariants as request
use Rattle.rpm_db.specs.declared.writing.Edit.TheVariants as edit
use Rattle.rpm_db.specs.Room.{RoomIs}
use Rattle.rpm_db.proofs.Applied.{erase_state, put_state}
use Rattle.rpm_db.proofs.Edited.{blobs_room, number_is, quiet_room, rows_erased, rows_put}
use Rattle.rpm_db.proofs.Halves.{half_crashes}
use Rattle.rpm_db.proofs.Puts.{field_planned, map_planned, number_same, packages_same, reads_put}
use Rattle.rpm_db.proofs.Reached.{added_are, added_is, dropped_are}
use Rattle.rpm_db.proofs.Rooms.{put_next, put_placed, room_erased, room_of_index, room_put}
use Rattle.rpm_db.proofs.Served.{room_same}
use Rattle.rpm_db.proofs.Sums.{changed_is, sums_room}
use Rattle.rpm_db.proofs.Unwritten.{crashes_told}

-- room in memory changes no state
state_room : (file : Units) (spare : ℕ) (value : Store) → state file (with_spare spare value) ≡ state file value
unfolding packages blobs
state_room file spare value = refl

state_same : (file : Units) (value planned : Store) → planned ≡ with_spare planned.spare value → state file planned ≡ state file value
state_same file value planned same = ap (state file) same ∙ state_room file planned.spare value

-- ---- what it makes

-- the state
pub state_asked : (file : Units) (value : Store) (asked : PackageChange) → IsOwnHeader asked
    → state_of (blobs_asked asked file value) (field_for (number_asked asked) value) ≡ apply (change_asked asked) (state file value)
state_asked file value (request.Put n view) own = put_state file value n view.now own
state_asked file value (request.Erase n) own = erase_state file value n

-- the rows
pub rows_changed : (file : Units) (value : Store) (asked : PackageChange) → IsOwnHeader asked
    → HasChanged (old_rows (number_asked asked) (packages file value)) (rows_asked asked value) (rows (packages file value))
    (rows (packages_of (blobs_asked asked file value)))
rows_changed file value (request.Put n view) own = rows_put file value n view.now own
rows_changed file value (request.Erase n) own = rows_erased file value n [] refl

pub dropped_asked : (file : Units) (value : Store) (asked : PackageChange)
    → old_rows (number_asked asked) (packages file value) ≡ dropped_rows (state file value) (change_asked asked)
dropped_asked file value (request.Put n view) = dropped_are file value n view.now
dropped_asked file value (request.Erase n) = refl

pub added_asked : (file : Units) (value : Store) (asked : PackageChange) → IsOwnHeader asked
    → rows_asked asked value ≡ added_rows (state file value) (change_asked asked)
added_asked file value (request.Put n view) own = sym (added_are file value n view.now own)
added_asked file value (request.Erase n) own = refl

pub units_asked : (file : Units) (value : Store) (asked : PackageChange) → IsOwnHeader asked
    → added_units (state file value) (change_asked asked) ≡ live_of (rows_asked asked value)
units_asked file value (request.Put n view) own = added_is file value n view.now own
units_asked file value (request.Erase n) own = refl

-- the number of the package
pub number_changed : (file : Units) (value : Store) (asked : PackageChange)
    → changed_number (change_asked asked) (state file value) ≡ number_for (number_asked asked) value
number_changed file value (request.Put n view) = changed_is file value n view.now.blob
number_changed file value (request.Erase n) = refl

-- ---- its faults

pub aside_disk : (asked : PackageChange) → IsOfAside asked DiskFault
aside_disk (request.Put n view) = tt
aside_disk (request.Erase n) = tt

-- a place that was refused is none in the store
pub room_none : (value : Store) (asked : PackageChange) (fault : ChangeFault) → IsPlaceRefused asked value fault
    → LaterCause value.generation (IsFullFor asked value) fault → RoomCause (next_store (change_asked asked) value) fault
room_none value (request.Put n view) fault refused later =
    subst (λ o. RoomCause o fault) (put_next n view.now.blob value) (room_put n (length view.now.blob) value fault refused)
room_none value (request.Erase n) fault refused later = room_erased value.generation n (raised_store value) fault later

-- ---- it was planned

-- what becomes of the store, as it was asked
pub record IsEditAsked (asked : PackageChange) (value planned : Store) (it : Edit) (bytes : List ℕ) : Type 0 where
  pub room : planned ≡ with_spare planned.spare value
  pub plan : IsPlanAsked asked value it
  pub can : CanEdit it (bytes_asked asked) planned
  pub own : bytes ≡ bytes_asked asked

pub asked_edit : {asked : PackageChange} {value planned : Store} {it : Edit} {bytes : List ℕ} → planned ≡ with_spare planned.spare value
    → IsEditPlanned asked value planned (Ok it) → bytes ≡ bytes_asked asked → IsEditAsked asked value planned it bytes
asked_edit room both own = record { room = room; plan = both.0; can = both.1; own = own }

-- its blobs, its number field and its number
map_of : (asked : PackageChange) (it : Edit) (file : Units) (value planned : Store) → planned ≡ with_spare planned.spare value → IsPlanAsked asked value it
    → CanEdit it (bytes_asked asked) planned → edited_blobs it (bytes_asked asked) (blobs file planned) ≡ blobs_asked asked file value
map_of (request.Put n view) (edit.Put plan) file value planned room is can =
    map_planned file value planned room n (length view.now.blob) plan can.suits.plan_is is.1 view.now.blob view.now.blob refl
map_of (request.Put n view) (edit.Erase m) file value planned room is can = absurd is
map_of (request.Erase n) (edit.Put plan) file value planned room is can = absurd is
map_of (request.Erase n) (edit.Erase m) file value planned room is can =
    ap (λ (k : BlobMap). finite.remove k m) (ap (blobs file) room ∙ blobs_room file planned.spare value)
    ∙ ap (finite.remove (blobs file value)) is

field_of : (asked : PackageChange) (it : Edit) (value planned : Store) → planned ≡ with_spare planned.spare value → IsPlanAsked asked value it
    → CanEdit it (bytes_asked asked) planned → field_edited it planned.field ≡ field_for (number_asked asked) value
field_of (request.Put n view) (edit.Put plan) value planned room is can =
    field_planned value planned room n (length view.now.blob) plan can.suits.plan_is is.1
field_of (request.Put n view) (edit.Erase m) value planned room is can = absurd is
field_of (request.Erase n) (edit.Put plan) value planned room is can = absurd is
field_of (request.Erase n) (edit.Erase m) value planned room is can = ap (λ (v : Store). v.field) room

number_of : (asked : PackageChange) (it : Edit) (value planned : Store) → planned ≡ with_spare planned.spare value → IsPlanAsked asked value it
    → CanEdit it (bytes_asked asked) planned → edited_number it ≡ number_for (number_asked asked) value
number_of (request.Put n view) (edit.Put plan) value planned room is can =
    number_is n (length view.now.blob) planned.spare value plan (rw room at can.suits.plan_is) is.1
number_of (request.Put n view) (edit.Erase m) value planned room is can = absurd is
number_of (request.Erase n) (edit.Put plan) value planned room is can = absurd is
number_of (request.Erase n) (edit.Erase m) value planned room is can = is

-- what is read
cost_room : (n spare : ℕ) (value : Store) → cost n (with_spare spare value) ≡ cost n value
cost_room n spare value = refl

reads_of : (asked : PackageChange) (it : Edit) (value planned : Store) → planned ≡ with_spare planned.spare value → IsPlanAsked asked value it
    → CanEdit it (bytes_asked asked) planned → (a d : ℕ) → d ≤ a + cost_before (number_asked asked) planned + edit_cost it planned
    → ReadsAtMost (number_asked asked) value a d
reads_of (request.Put n view) (edit.Put plan) value planned room is can a d most =
    reads_put n value planned room (length view.now.blob) plan can.suits.plan_is is.1 a d most
reads_of (request.Put n view) (edit.Erase m) value planned room is can a d most = absurd is
reads_of (request.Erase n) (edit.Put plan) value planned room is can a d most = absurd is
reads_of (request.Erase n) (edit.Erase m) value planned room is can a d most =
    omega (arith, most, ap (cost n) room, cost_room n planned.spare value)

-- how long the file is then
pub ends_of : (asked : PackageChange) (it : Edit) (value after : Store) (old new : Units) → IsPlanAsked asked value it → EditReaches it after old new
    → EndsAsked asked after old new
ends_of (request.Put n view) (edit.Put plan) value after old new is ends = ends
ends_of (request.Put n view) (edit.Erase m) value after old new is ends = absurd is
ends_of (request.Erase n) (edit.Put plan) value after old new is ends = absurd is
ends_of (request.Erase n) (edit.Erase m) value after old new is ends = ends

-- the store that it leaves
room_of : (asked : PackageChange) (it : Edit) (value planned new : Store) → planned ≡ with_spare planned.spare value → IsPlanAsked asked value it
    → HasEdit it (raised_store planned) new → next_store (change_asked asked) value ≡ Some (with_spare value.spare new)
room_of (request.Put n view) (edit.Put plan) value planned new room is done =
    sym (put_next n view.now.blob value) ∙ put_placed n (length view.now.blob) value planned new plan is.0 room done.is
room_of (request.Put n view) (edit.Erase m) value planned new room is done = absurd is
room_of (request.Erase n) (edit.Put plan) value planned new room is done = absurd is
room_of (request.Erase n) (edit.Erase m) value planned new room is done =
    ap (λ (k : ℕ). Some (without_number k (raised_store value))) (sym is)
    ∙ ap Some (sym (ap (with_spare value.spare) (done.is ∙ ap (λ (v : Store). with_spare new.spare (without_number m (raised_store v))) room)))

-- and room for it, where the index refuses it
room_before : (asked : PackageChange) (it : Edit) (value : Store) (fault : ChangeFault) → IsPlanAsked asked value it → IsOfIndex fault
    → RoomCause (next_store (change_asked asked) value) fault
room_before (request.Put n view) (edit.Put plan) value fault is kind =
    subst (λ o. RoomCause o fault) (put_next n view.now.blob value)
    (room_put n (length view.now.blob) value fault (room_of_index _ _ fault kind is.0))
room_before (request.Put n view) (edit.Erase m) value fault is kind = absurd is
room_before (request.Erase n) (edit.Put plan) value fault is kind = absurd is
room_before (request.Erase n) (edit.Erase m) value fault is kind = room_of_index _ (without_number n (raised_store value)) fault kind refl

-- the rows that come, said of the store from before the plan
rows_room : (asked : PackageChange) (value planned : Store) → planned ≡ with_spare planned.spare value → rows_asked asked planned ≡ rows_asked asked value
rows_room (request.Put n view) value planned room = ap (λ (k : ℕ). header_rows k view.now) (number_same n value planned room)
rows_room (request.Erase n) value planned room = refl

pub rows_told : (file : Units) (asked : PackageChange) (value planned : Store) (owed : RowChange) → planned ≡ with_spare planned.spare value
    → with_rows owed (old_rows (number_asked asked) (packages file planned)) (rows_asked asked planned)
    ≡ with_rows owed (old_rows (number_asked asked) (packages file value)) (rows_asked asked value)
rows_told file asked value planned owed room =
    ap (λ (ps : finite.FinMap nat_cmp Package). with_rows owed (old_rows (number_asked asked) ps) (rows_asked asked planned))
    (packages_same file value planned room)
    ∙ ap (with_rows owed (old_rows (number_asked asked) (packages file value))) (rows_room asked value planned room)

module _ {asked : PackageChange} {value planned : Store} {it : Edit} {bytes : List ℕ} (p : IsEditAsked asked value planned it bytes) where
  pub map_is : (file : Units) → edited_blobs it bytes (blobs file planned) ≡ blobs_asked asked file value
  map_is file =
      ap (λ (bs : List ℕ). edited_blobs it bs (blobs file planned)) p.own ∙ map_of asked it file value planned p.room p.plan p.can

  pub field_is : field_edited it planned.field ≡ field_for (number_asked asked) value
  field_is = field_of asked it value planned p.room p.plan p.can

  pub state_is : (file : Units) → state_of (edited_blobs it bytes (blobs file planned)) (field_edited it planned.field)
      ≡ state_of (blobs_asked asked file value) (field_for (number_asked asked) value)
  state_is file = ap (λ (k : BlobMap). state_of k (field_edited it planned.field)) (map_is file) ∙ ap (state_of (blobs_asked asked file value)) field_is

  -- what verifying says then
  pub sums_are : (file to : Units) (after : Store) → KeepsSums (edited_number it) file to planned after
      → KeepsSums (number_for (number_asked asked) value) file to value after
  sums_are file to after sums =
      subst (λ (k : ℕ). KeepsSums k file to value after) (number_of asked it value planned p.room p.plan p.can)
      (sums_room (edited_number it) file to value planned after p.room sums)

  pub reads_asked : (a d : ℕ) → d ≤ a + cost_before (number_asked asked) planned + edit_cost it planned → ReadsAtMost (number_asked asked) value a d
  reads_asked = reads_of asked it value planned p.room p.plan p.can

  pub room_done : {A : Type 0} (new : Store) (done : A) → HasEdit it (raised_store planned) new
      → RoomIs (next_store (change_asked asked) value) value new (Ok done)
  room_done new done has = room_of asked it value planned new p.room p.plan has

  pub room_refused : (fault : ChangeFault) → IsOfIndex fault → RoomCause (next_store (change_asked asked) value) fault
  room_refused fault kind = room_before asked it value fault p.plan kind

  -- what crashes leave while the store alone is changed
  pub crashes_asked : {D : Type 0} (d : disk.Ghosts D) (a b e : D) (told : IsTrue d.tells) → AreLawful (images d a) → images d a (d.files a)
      → Runs d SameFiles a b → CanPutAside d a value
      → (IsQuiet planned (d.files a) (images d b) → CrashLeaves d b e (IsTornOnly Pkg (BlobsTo planned.generation planned.field
      (field_edited it planned.field) (blobs (d.files a).pkg planned) (edited_blobs it bytes (blobs (d.files a).pkg planned)))
      (images d b)))
      → CrashLeaves d a e (IsChangedStill (state (d.files a).pkg value)
      (state_of (blobs_asked asked (d.files a).pkg value) (field_for (number_asked asked) value)) (images d a))
  crashes_asked d a b e told lawful now run can crashes =
      let file = (d.files a).pkg in
      crashes_told d a e (images d a) _ _ _ _ (state_same file value planned p.room) (state_is file)
      (half_crashes d a b e told lawful now run planned (subst (KeepsStore file) (sym p.room) (can.keeps told))
      (subst (λ (v : Store). 1 ≤ v.pages) (sym p.room) can.made) (subst (λ (v : Store). IsQuiet v (d.files a) (images d a)) (sym p.room)
      (quiet_room planned.spare value (d.files a) (images d a) (can.quiet told))) (can.durable told) _ _ crashes)

-- ---- it was made, or refused

-- the store that a refusal leaves has room in memory alone
pub refused_roomed : (asked : PackageChange) (value after : Store) → after ≡ refused_store asked after.spare value → after ≡ with_spare after.spare value
refused_roomed (request.Put n view) value after is = is
refused_roomed (request.Erase n) value after is = room_same value after is

-- no more is read after it
pub reads_more : (n : Option ℕ) (value : Store) (a m d : ℕ) → ReadsAtMost n value a m → d ≤ m → ReadsAtMost n value a d
reads_more None value a m d (inl few) less = inl (omega (arith, few, less))
reads_more None value a m d (inr most) less = inr (most.0, most.1, omega (arith, most.2, less))
reads_more (Some n) value a m d most less = omega (arith, most, less)

-- What is asked of one package: the change that it is, what it makes of the store, and the rows that come with it.
use Rattle.std.specs.Prelude.{◌≡◌, ℕ, ◌≤◌, ◌^◌, List, [], length, is_none, Option, Some, Ok, Result, Err}
use Rattle.std.specs.FinMap as finite
use Rattle.rpm_outside.specs.Files.{Units}
use Rattle.rpm_header.specs.Header.{header}
use Rattle.rpm_hindex.specs.Index.{records}
use Rattle.rpm_hindex.specs.Refusals.{HasUnitsFor}
use Rattle.rpm_hindex.specs.Rows.{Row}
use Rattle.rpm_hindex.specs.State as hindex
use Rattle.rpm_hindex.specs.Whole.{IsWellFormed}
use Rattle.rpm_pkgdb.specs.Blobs.{blobs}
use Rattle.rpm_pkgdb.specs.Placing.{placement, placement_of}
use Rattle.rpm_pkgdb.specs.Planned.{IsFor, IsStoreFull}
use Rattle.rpm_pkgdb.specs.Quiet.{BlobMap}
use Rattle.rpm_pkgdb.specs.Reaches.{ReachesTo}
use Rattle.rpm_pkgdb.specs.Store.{Store}
use Rattle.rpm_pkgdb.specs.Written.{with_spare}
use Rattle.rpm_db.specs.declared.change_fault.ChangeFault.{ChangeFault}
use Rattle.rpm_db.specs.declared.netting.RowChange.{RowChange}
use Rattle.rpm_db.specs.declared.planning.PackageChange.{PackageChange}
use Rattle.rpm_db.specs.declared.planning.PackageChange.TheVariants as request
use Rattle.rpm_db.specs.declared.writing.Edit.{Edit}
use Rattle.rpm_db.specs.declared.writing.Edit.TheVariants as edit
use Rattle.rpm_db.specs.Changes.{Change, Erase}
use Rattle.rpm_db.specs.Database.{Database, database_of, store_of}
use Rattle.rpm_db.specs.Refusals.{IsOfStoreErasing}
use Rattle.rpm_db.specs.Room.{RoomCause}
use Rattle.rpm_db.specs.Rows.{header_rows}
use Rattle.rpm_db.specs.inner.Edits.{CanEdit}
use Rattle.rpm_db.specs.Gathering.{with_rows}
use Rattle.rpm_db.specs.State.{packages}
use Rattle.rpm_db.specs.inner.Writes.{number_for, old_rows, put_map}
use Rattle.rpm_db.specs.Changes.{change_at}

-- the number that has to be there, None for a new one
abbrev pub number_asked : PackageChange → Option ℕ
number_asked (request.Put n view) = n
number_asked (request.Erase n) = Some n

-- the change that it is
abbrev pub change_asked : PackageChange → Change
change_asked (request.Put n view) = change_at n view.now.blob
change_asked (request.Erase n) = Erase n

-- the bytes that are put
abbrev pub bytes_asked : PackageChange → List ℕ
bytes_asked (request.Put n view) = view.now.blob
bytes_asked (request.Erase n) = []

-- the header is that of its own bytes
abbrev pub IsOwnHeader : PackageChange → Type 0
IsOwnHeader (request.Put n view) = header view.now.blob ≡ Ok view.now
IsOwnHeader (request.Erase n) = Unit {0}

-- there is no room for the blob in the store
abbrev pub IsFullFor : PackageChange → Store → Type 0
IsFullFor (request.Put n view) value = IsStoreFull value (is_none n) (length view.now.blob)
IsFullFor (request.Erase n) value = ⊥

-- the blobs after it
abbrev pub blobs_asked : PackageChange → Units → Store → BlobMap
blobs_asked (request.Put n view) file value = put_map file value n view.now.blob
blobs_asked (request.Erase n) file value = finite.remove (blobs file value) n

-- the rows that come
abbrev pub rows_asked : PackageChange → Store → List Row
rows_asked (request.Put n view) value = header_rows (number_for n value) view.now
rows_asked (request.Erase n) value = []

-- the rows that are owed after it, beside these
abbrev pub owed_with : PackageChange → Units → Store → RowChange → RowChange
owed_with request file value owed =
    with_rows owed (old_rows (number_asked request) (packages file value)) (rows_asked request value)

-- the store after a refusal: planning may have made room in memory
abbrev pub refused_store : PackageChange → ℕ → Store → Store
refused_store (request.Put n view) spare value = with_spare spare value
refused_store (request.Erase n) spare value = value

abbrev pub refused_database : PackageChange → ℕ → Database → Database
refused_database request spare db = database_of (refused_store request spare (store_of db)) db.index db.stopped

-- how long Packages.db is then at most
abbrev pub EndsAsked : PackageChange → Store → Units → Units → Type 0
EndsAsked (request.Put n view) after old new = ReachesTo after old new
EndsAsked (request.Erase n) after old new = length new ≤ length old

-- where rows only go it is known beforehand that the index has room for those that are left
abbrev pub FitsAsked : PackageChange → ℕ → Type 0
FitsAsked (request.Put n view) needed = Unit {0}
FitsAsked (request.Erase n) needed = needed ≤ 2 ^ 28

-- a change of this kind adds no rows
abbrev pub IsErasing : PackageChange → Type 0
IsErasing (request.Put n view) = ⊥
IsErasing (request.Erase n) = Unit {0}

-- the counts of an index leave room for the rows that it is owed, or rows only go
abbrev pub HasRoomForRows : PackageChange → hindex.IndexState → RowChange → Type 0
HasRoomForRows (request.Put n view) index owed = (file : Units) → hindex.KeepsIndexValue file index
    → IsWellFormed (hindex.buckets_of index.first) file
    → HasUnitsFor [] owed.adds (records (hindex.buckets_of index.first) file)
HasRoomForRows (request.Erase n) index owed = Unit {0}

-- a fault of a change of the store alone
abbrev pub IsOfAside : PackageChange → ChangeFault → Type 0
IsOfAside (request.Put n view) fault = Unit {0}
IsOfAside (request.Erase n) fault = IsOfStoreErasing fault

-- what becomes of the store is planned as it was asked
abbrev pub IsPlanAsked : PackageChange → Store → Edit → Type 0
IsPlanAsked (request.Put n view) value (edit.Put plan) =
    (placement n (length view.now.blob) value ≡ Some (placement_of plan)) × IsFor n (length view.now.blob) plan
IsPlanAsked (request.Put n view) value (edit.Erase m) = ⊥
IsPlanAsked (request.Erase n) value (edit.Put plan) = ⊥
IsPlanAsked (request.Erase n) value (edit.Erase m) = m ≡ n

-- a change is refused for its room in the store
abbrev pub IsPlaceRefused : PackageChange → Store → ChangeFault → Type 0
IsPlaceRefused (request.Put n view) value fault = RoomCause (placement n (length view.now.blob) value) fault
IsPlaceRefused (request.Erase n) value fault = Unit {0}

abbrev pub IsEditPlanned : PackageChange → Store → Store → Result Edit ChangeFault → Type 0
IsEditPlanned request before after (Ok it) = IsPlanAsked request before it × CanEdit it (bytes_asked request) after
IsEditPlanned request before after (Err fault) = IsPlaceRefused request before fault

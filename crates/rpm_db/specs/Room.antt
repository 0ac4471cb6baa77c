-- Whether changes find room in Packages.db: each of them in the store that those before it leave.
use Rattle.std.specs.Prelude.{◌≡◌, ◌+◌, length, Option, Some, None, IsSome, Result, Ok, Err}
use Rattle.rpm_pkgdb.specs.Placing.{put_in}
use Rattle.rpm_pkgdb.specs.Store.{Store}
use Rattle.rpm_pkgdb.specs.Written.{without_number, with_generation, with_spare}
use Rattle.rpm_db.specs.declared.change_fault.ChangeFault.{ChangeFault}
use Rattle.rpm_db.specs.declared.change_fault.ChangeFault.TheVariants.{StoreFull, IndexFull, BadIndex}
use Rattle.rpm_db.specs.Changes.{Change, Add, Put, Erase}

-- The store after a change, under the next generation: none where it is full.
abbrev pub next_store : Change → Store → Option Store
next_store change value =
    let raised : Store = with_generation (value.generation + 1) value in
    elim change [
      | Add bytes ↦ put_in None (length bytes) raised
      | Put n bytes ↦ put_in (Some n) (length bytes) raised
      | Erase n ↦ Some (without_number n raised)
    ]

-- a store becomes the one that is said, up to room in memory
abbrev pub RoomBecomes : Option Store → Store → Store → Type 0
RoomBecomes said old new = said ≡ Some (with_spare old.spare new)

-- the store is full exactly where there is none, and the index comes after it
abbrev pub RoomCause : {X : Type 0} → Option X → ChangeFault → Type 0
RoomCause said StoreFull = said ≡ None
RoomCause said (IndexFull needed) = IsSome said
RoomCause said (BadIndex unit) = IsSome said
RoomCause said _ = Unit {0}

-- once the change was made the store is that one
abbrev pub RoomIs : {A : Type 0} → Option Store → Store → Store → Result A ChangeFault → Type 0
RoomIs said old new (Ok done) = RoomBecomes said old new
RoomIs said old new (Err fault) = RoomCause said fault

-- One slot page more.
use Rattle.std.specs.Prelude.{◌≡◌, ℕ, ◌+◌, ◌*◌, ◌^◌, ◌<◌, ◌≤◌, ◌++◌, length, replicate, true}
use Rattle.rpm_outside.specs.Files.{Units, unit_at}
use Rattle.rpm_pkgdb.specs.Slots.{slot_at, is_used, free}
use Rattle.rpm_pkgdb.specs.Store.{Store}
use Rattle.rpm_pkgdb.specs.Undamaged.{IsSlotUnit}

-- the value with one slot page more, of free slots
abbrev pub with_page : Store → Store
with_page value = record value { pages = value.pages + 1; slots = value.slots ++ replicate 256 free }

-- a page more fits below the limit, and no used slot has blocks in it
pub record CanGrow (value : Store) : Type 0 where
  pub made : 1 ≤ value.pages
  pub limit : 256 * (value.pages + 1) ≤ 2 ^ 28
  pub clear : (k : ℕ) → is_used (slot_at value.slots k) ≡ true
      → 256 * (value.pages + 1) ≤ (slot_at value.slots k).offset

-- the new page has free slots
pub record HasFreePage (pages : ℕ) (file : Units) : Type 0 where
  pub long : 256 * pages + 256 ≤ length file
  pub slots : (i : ℕ) → 256 * pages ≤ i → i < 256 * pages + 256 → IsSlotUnit (unit_at file i) free

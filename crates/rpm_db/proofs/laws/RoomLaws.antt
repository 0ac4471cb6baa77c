-- What changes that are gone through in order look at and keep of a store, and what an opened database says of its own.
use Rattle.std.proofs.Common.{◌≡◌, ℕ, ◌≤◌, Bool, true, false, ◌&&◌, not, List, length, Option, Some, None, Result, Ok}
use Rattle.std.proofs.Common.{refl, subst, arith}
use Rattle.std.proofs.lemmas.Bool.{eqb-true}
use Rattle.std.proofs.lemmas.Bool.Decides.{nat_tests}
use Rattle.std.specs.Option.{option_map}
use Rattle.rpm_outside.specs.Files.{Units}
use Rattle.rpm_pkgdb.specs.declared.added_page.Move.{Move}
use Rattle.rpm_pkgdb.specs.declared.slot.Damage.{Damage}
use Rattle.rpm_pkgdb.specs.laws.Parts.{pages_after}
use Rattle.rpm_pkgdb.specs.Placing.{Placement, placement, put_spare, with_placed}
use Rattle.rpm_pkgdb.specs.Store.{Store}
use Rattle.rpm_pkgdb.specs.Written.{without_number, with_spare}
use Rattle.rpm_db.specs.Changes.{Change, Add, Put, Erase}
use Rattle.rpm_db.specs.Database.{Database, IsPaged, generation_of, is_blank_database, store_of}
use Rattle.rpm_db.specs.Lawful.{is_current_at}
use Rattle.rpm_db.specs.Openings.{must_rebuild}
use Rattle.rpm_db.specs.Room.{next_store}
use Rattle.rpm_db.specs.inner.Writes.{raised_store}

-- room in memory stays as it is
pub next_spare : (change : Change) (spare : ℕ) (value : Store) → next_store change (with_spare spare value)
    ≡ option_map (with_spare spare) (next_store change value)
next_spare (Add bytes) spare value = put_spare None (length bytes) spare (raised_store value)
next_spare (Put n bytes) spare value = put_spare (Some n) (length bytes) spare (raised_store value)
next_spare (Erase n) spare value = refl

-- ---- pages

more_pages : (moves : Option (List Move)) (pages : ℕ) → pages ≤ pages_after moves pages
more_pages None pages = omega arith
more_pages (Some moves) pages = omega arith

placed_pages : (o : Option Placement) (v w : Store) → option_map (λ p. with_placed p v) o ≡ Some w → v.pages ≤ w.pages
placed_pages None v w is = absurd cc
placed_pages (Some p) v w is =
    let same : with_placed p v ≡ w = cc in
    subst (λ (u : Store). v.pages ≤ u.pages) same (more_pages p.moves v.pages)

next_pages : (change : Change) (v w : Store) → next_store change v ≡ Some w → v.pages ≤ w.pages
next_pages (Add bytes) v w is = placed_pages (placement None (length bytes) (raised_store v)) (raised_store v) w is
next_pages (Put n bytes) v w is =
    placed_pages (placement (Some n) (length bytes) (raised_store v)) (raised_store v) w is
next_pages (Erase n) v w is =
    let same : without_number n (raised_store v) ≡ w = cc in
    subst (λ (u : Store). v.pages ≤ u.pages) same (omega arith)

-- no slot page is ever taken away: a store that has one keeps one
pub next_paged : (change : Change) (v w : Store) → next_store change v ≡ Some w → IsPaged v → IsPaged w
next_paged change v w is paged = omega (arith, paged, next_pages change v w is)

-- ---- an opened database

-- one that isn't blank has a page, and a blank one has none
pub made_paged : (db : Database) → is_blank_database db ≡ false → IsPaged (store_of db)
made_paged db made = grind (arith, nat_tests)

pub blank_unpaged : (db : Database) → is_blank_database db ≡ true → (store_of db).pages ≡ 0
blank_unpaged db blank = eqb-true (store_of db).pages 0 blank

kept : (blank current : Bool) → blank ≡ false → (not blank && not current) ≡ false → current ≡ true
kept true current some made = absurd cc
kept false true some made = refl
kept false false some made = absurd cc

-- where opening found a database and made no index, the one that is there is current
pub kept_current : (idx : Units) (said : Result Store Damage) (db : Database) → said ≡ Ok (store_of db)
    → is_blank_database db ≡ false → must_rebuild idx said ≡ false
    → is_current_at (generation_of db) idx ≡ true
kept_current idx said db is some made =
    kept (is_blank_database db) (is_current_at (generation_of db) idx) some
    (subst (λ (s : Result Store Damage). must_rebuild idx s ≡ false) is made)

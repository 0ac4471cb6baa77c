use Rattle.rpm_pkgdb.proofs.Vocabulary.{StoreBeforeOrAfter, CanGrow, CanGrowFrom, HasFreePage, IsHeadUnit, IsDurable, KeepsStore, Pkg, with_units, SameOutside, RepresentsStore}
use Rattle.rpm_pkgdb.proofs.Vocabulary.{Store, Units, with_page}
use Rattle.std.proofs.Common.{◌≡◌, ℕ, ◌+◌, ◌*◌, [], ◌∷◌, List, sym, subst, refl, inl, IsTrue, arith}
use Rattle.rpm_pkgdb.proofs.Changing.{both_ok, writes_then, crashes_while, crashes_next}
use Rattle.rpm_pkgdb.proofs.Erases.{stands_by}
use Rattle.rpm_pkgdb.proofs.GrowLaws.{while_page, grown_stands, while_grown}
use Rattle.rpm_pkgdb.proofs.Reaching.{unit_ends, outside_ends}
use Rattle.rpm_pkgdb.proofs.FreedLaws.{page_blank}
use Rattle.rpm_pkgdb.proofs.added_page.add_page.Goals as goal

head_is : (unit : List ℕ) (generation pages : ℕ) (value : Store) → generation ≡ value.generation → pages ≡ value.pages
    → IsHeadUnit unit generation (pages + 1) → IsHeadUnit unit value.generation (value.pages + 1)
head_is unit generation pages value gen same is =
    subst (λ (q : ℕ). IsHeadUnit unit value.generation (q + 1)) same (subst (λ (q : ℕ). IsHeadUnit unit q (pages + 1)) gen is)

here : (value : Store) (file : Units) → KeepsStore file value → RepresentsStore value file file
here value file keeps = record { keeps = keeps; blocks = λ j i used from to. refl }

-- the file once the page is written
mid_stands : (value : Store) (can : CanGrow value) (pages : ℕ) (file from mid : Units) → pages ≡ value.pages → RepresentsStore value file from
    → SameOutside (256 * pages) 256 from mid → RepresentsStore value file mid
mid_stands value can pages file from mid same stands changed =
    while_page value can file from mid stands (subst (λ (q : ℕ). SameOutside (256 * q) 256 from mid) same changed)

pub returns-in_err-write_free_slots-clause-images : goal.returns-in_err-write_free_slots-clause-images
returns-in_err-write_free_slots-clause-images g c = λ told value grows quiet.
    let can = grows.can in
    let same = grows.pages_are in
    let D = g.D.Disk in
    let F0 = (D.files c.args.disk.now).pkg in
    crashes_while g.D.Disk told (StoreBeforeOrAfter value (with_page value) F0) c.write_free_slots.ensures.writes
    (λ from image was changed. inl (mid_stands value can c.args.pages F0 from.pkg image.pkg same (quiet from was) changed))

pub returns-clause-images : goal.returns-clause-images
returns-clause-images g c = λ told value grows quiet.
    let can = grows.can in
    let gen = grows.generation_is in
    let same = grows.pages_are in
    let D = g.D.Disk in
    let F0 = (D.files c.args.disk.now).pkg in
    let F1 = (D.files c.write_free_slots.new.disk).pkg in
    let P = StoreBeforeOrAfter value (with_page value) F0 in
    let first = c.write_free_slots.ensures.writes in
    let keeps : KeepsStore F0 value = (quiet (D.files c.args.disk.now) (g.met.D.Disk.as_read c.args.disk.now told)).keeps in
    let mid : RepresentsStore value F0 F1 = mid_stands value can c.args.pages F0 F0 F1 same (here value F0 keeps) (first.changes.pkg told) in
    let new : HasFreePage c.args.pages F1 =
    record { long = c.in_ok-write_free_slots.ensures.long told; slots = c.in_ok-write_free_slots.ensures.slots told } in
    let page : HasFreePage value.pages F1 = subst (λ (q : ℕ). HasFreePage q F1) same new in
    let is = head_is c.head_unit.result c.args.generation c.args.pages value gen same c.head_unit.ensures in
    crashes_next g.D.Disk told P first
    (crashes_while g.D.Disk told P first
    (λ from image was changed. inl (mid_stands value can c.args.pages F0 from.pkg image.pkg same (quiet from was) changed)))
    (crashes_while g.D.Disk told P c.write_one.ensures.writes
    (λ from image was torn.
    let at = c.in_ok-write_free_slots.ensures.durable told from was in
    while_grown value can c.head_unit.result is F0 from.pkg image.pkg (subst (RepresentsStore value F0) (sym at) mid)
    (subst (HasFreePage value.pages) (sym at) page) torn))

-- the file at the end
grown : (value : Store) (can : CanGrow value) (unit : List ℕ) (generation pages : ℕ) (F0 F1 F2 : Units) → generation ≡ value.generation
    → pages ≡ value.pages → IsHeadUnit unit generation (pages + 1) → KeepsStore F0 value → SameOutside (256 * pages) 256 F0 F1 → HasFreePage pages F1
    → F2 ≡ with_units 0 (unit ∷ []) F1 → RepresentsStore (with_page value) F0 F2
grown value can unit generation pages F0 F1 F2 gen same is keeps changed page written =
    let mid : RepresentsStore value F0 F1 = mid_stands value can pages F0 F0 F1 same (here value F0 keeps) changed in
    subst (RepresentsStore (with_page value) F0) (sym written)
    (grown_stands value can unit (head_is unit generation pages value gen same is) F0 F1 mid (subst (λ (q : ℕ). HasFreePage q F1) same page))

pub returns-clause-writes : goal.returns-clause-writes
returns-clause-writes g c =
    writes_then g.D.Disk g.met.D.Disk.follows_trans c.write_free_slots.ensures.writes c.write_one.ensures.writes (omega arith) (λ x y r. tt)
    (λ x y z r s. tt)

pub returns-clause-added : goal.returns-clause-added
returns-clause-added g c =
    let D = g.D.Disk in
    let unit = c.head_unit.result in
    let gen = c.args.generation in
    let pages = c.args.pages in
    let F0 = (D.files c.args.disk.now).pkg in
    let F1 = (D.files c.write_free_slots.new.disk).pkg in
    let next = D.files c.write_one.new.disk in
    let images = D.left_since c.write_one.new.disk (D.moment c.write_one.new.disk) in
    both_ok c.write_one.result (λ (written : IsTrue D.tells → next.pkg ≡ with_units 0 (unit ∷ []) F1)
    (durable : IsTrue D.tells → IsDurable Pkg next images) told.
    let first = c.write_free_slots.ensures.writes.changes.pkg told in
    let new : HasFreePage c.args.pages F1 =
    record { long = c.in_ok-write_free_slots.ensures.long told; slots = c.in_ok-write_free_slots.ensures.slots told } in
    let last = written told in
    let stands : (value : Store) → CanGrowFrom gen pages value → KeepsStore F0 value → RepresentsStore (with_page value) F0 next.pkg =
    λ value from keeps. grown value from.can unit gen pages F0 F1 next.pkg from.generation_is from.pages_are c.head_unit.ensures keeps first
    new last in
    record {
      stands = stands;
      quiet = λ value from keeps image left.
          let after = stands value from keeps in
          subst (RepresentsStore (with_page value) next.pkg) (sym (durable told image left)) (stands_by (with_page value) F0 next.pkg next.pkg after after);
      blanks = page_blank pages unit F0 F1 next.pkg first last;
      reach = λ limit ends short.
          unit_ends limit 0 unit F1 next.pkg (omega arith) last (outside_ends limit (256 * pages) 256 F0 F1 (omega arith) first short);
    }) c.write_one.ensures.written c.write_one.ensures.durable

-- What a changing call leaves of a value.
use Rattle.std.proofs.Common.{◌≡◌, ◌≤◌, Bool, true, Some, refl, sym, ap, ◌∙◌, subst}
use Rattle.std.specs.Prelude.{IsTrue}
use Rattle.rpm_db.proofs.Vocabulary.{database_of, Files, HasRows, images, IsIndexed, IsLawful, IsQuiet, IsServing, packages, Runs, SameFiles, Store, store}
use Rattle.rpm_db.proofs.Vocabulary.{Units, with_spare}
use Rattle.rpm_pkgdb.specs.Store as pkgdb
use Rattle.rpm_hindex.specs.State as hindex
use Rattle.rpm_db.proofs.Edited.{quiet_room}
use Rattle.rpm_db.proofs.Unwritten.{quiet_same, durable_same}
use Rattle.rpm_db.proofs.Making.{current_same, rows_of_lawful}
use Rattle.rpm_outside.specs.declared.disk.Disk as disk

-- a current index of the packages
pub indexed_as : (pkg idx : Units) (value : Store) (index : hindex.IndexState) (stopped : Bool) → hindex.KeepsIndexValue idx index
    → hindex.is_current value.generation index ≡ true → HasRows (packages pkg value) idx → IsIndexed pkg idx (database_of value (Some index) stopped)
indexed_as pkg idx value index stopped keeps current has = record {
  current = sym (current_same value.generation idx index keeps) ∙ current;
  rows_are = has;
}

-- it holds their rows where the files are lawful
pub rows_of_disk : (pkg idx : Units) (value : Store) (index : hindex.IndexState) → pkgdb.KeepsStore pkg value → 1 ≤ value.pages
    → hindex.KeepsIndexValue idx index
    → hindex.is_current value.generation index ≡ true → IsLawful pkg idx → HasRows (packages pkg value) idx
rows_of_disk pkg idx value index keeps made kept current lawful =
    rows_of_lawful pkg idx value keeps made lawful (sym (current_same value.generation idx index kept) ∙ current)

-- ---- a call that refused

-- room in memory alone
pub room_same : (value new : Store) → new ≡ value → new ≡ with_spare new.spare value
room_same value new same = subst (λ (v : Store). v ≡ with_spare v.spare value) (sym same) refl

-- as it was
pub refused_same : (value new : Store) (index changed : hindex.IndexState) (was is : Bool) → new ≡ value → changed ≡ index → is ≡ was
    → database_of new (Some changed) is ≡ database_of value (Some index) was
refused_same value new index changed was is same same_index going = cc

-- and it still serves
module _ {D : Type 0} (d : disk.Ghosts D) where
  pub serving_same : (a b : D) → IsTrue d.tells → Runs d SameFiles a b
      → (value new : Store) (index changed : hindex.IndexState) (was is : Bool) → new ≡ with_spare new.spare value → changed ≡ index
      → IsServing (d.files a) (images d a) (database_of value (Some index) was)
      → IsServing (d.files b) (images d b) (database_of new (Some changed) is)
  serving_same a b told run value new index changed was is same same_index s =
      let quiet = quiet_same d a b told run value s.quiet in
      record {
        keeps = subst (pkgdb.KeepsStore (d.files b).pkg) (sym same) (ap (λ (f : Files). store f.pkg) (run.reads_as told) ∙ s.keeps);
        index = rw (same_index, run.reads_as told) s.index;
        quiet = subst (λ (v : Store). IsQuiet v (d.files b) (images d b)) (sym same) (quiet_room new.spare value (d.files b) (images d b) quiet);
        durable = durable_same d a b told run s.durable;
      }

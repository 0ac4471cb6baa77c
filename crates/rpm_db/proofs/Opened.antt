-- Opening with an index.
use Rattle.std.proofs.Common.{◌≡◌, ℕ, ◌≤◌, ◌^◌, Bool, true, false, not, ◌&&◌, ◌==◌, Some, Ok, refl, sym, ap, ◌∙◌, subst}
use Rattle.std.specs.Prelude.{IsTrue, Result}
use Rattle.std.proofs.lemmas.Bool.{and_parts}
use Rattle.rpm_db.proofs.Vocabulary.{Damage, Files, HasRows, images, is_current_at, IsLawful, IsOpened, IsQuiet, IsDurable, OnlyReads, must_rebuild, packages, Pkg}
use Rattle.rpm_db.proofs.Vocabulary.{Remade, remade_none, rows, Runs, runs_looks, RepresentsStore, StaysLawful, crashes_lawful, Store, store, unit_at, Units}
use Rattle.rpm_db.proofs.Vocabulary.{database_of, units_for, units_needed}
use Rattle.rpm_pkgdb.specs.Store as pkgdb
use Rattle.rpm_hindex.specs.State as hindex
use Rattle.rpm_db.proofs.Making.{current_same}
use Rattle.rpm_outside.specs.declared.disk.Disk as disk

-- a made database, whose files were read and whose index may have been made since
pub opened_made : (old mid new : Files) (value : Store) (index : hindex.IndexState) → store old.pkg ≡ Ok value → mid ≡ old → (value.pages == 0) ≡ false
    → (not (is_current_at value.generation mid.idx) ≡ true → units_for (rows (packages mid.pkg value)) ≤ 2 ^ 28)
    → (not (is_current_at value.generation mid.idx) ≡ false → new ≡ mid)
    → new.pkg ≡ mid.pkg → pkgdb.KeepsStore mid.pkg value → hindex.KeepsIndexValue new.idx index → hindex.is_current value.generation index ≡ true
    → (IsLawful mid.pkg mid.idx → HasRows (packages new.pkg value) new.idx)
    → (is_current_at value.generation mid.idx ≡ false → HasRows (packages new.pkg value) new.idx)
    → IsOpened old new (Ok (database_of value (Some index) false))
opened_made old mid new value index said same made full wrote pkg kept keeps current rows_are rows_made = record {
  store_is = said;
  full = subst (λ (s : Result Store Damage). must_rebuild old.idx s ≡ true → units_needed old.pkg s ≤ 2 ^ 28) (sym said)
      (λ making. subst (λ (f : Files). not (is_current_at value.generation f.idx) ≡ true → units_for (rows (packages f.pkg value)) ≤ 2 ^ 28) same full
      (and_parts (not (value.pages == 0)) (not (is_current_at value.generation old.idx)) making).1);
  same = subst (λ (s : Result Store Damage). must_rebuild old.idx s ≡ false → new ≡ old) (sym said)
      (λ making. subst (λ (f : Files). not (is_current_at value.generation f.idx) ≡ false → new ≡ f) same wrote
      (sym (ap (λ (b : Bool). not b && not (is_current_at value.generation old.idx)) made) ∙ making));
  keeps = (ap store pkg ∙ kept, keeps);
  index = λ some lawful. record {
    current = sym (current_same value.generation new.idx index keeps) ∙ current;
    rows_are = rows_are (subst (λ (f : Files). IsLawful f.pkg f.idx) (sym same) lawful);
  };
  made = λ making. record {
    current = sym (current_same value.generation new.idx index keeps) ∙ current;
    rows_are = rows_made (subst (λ (f : Files). is_current_at value.generation f.idx ≡ false) (sym same)
        (stale (subst (λ (s : Result Store Damage). must_rebuild old.idx s ≡ true) said making)));
  };
}
  where
    unsaid : (b : Bool) → not b ≡ true → b ≡ false
    unsaid true is = absurd cc
    unsaid false is = refl

    stale : must_rebuild old.idx (Ok value) ≡ true → is_current_at value.generation old.idx ≡ false
    stale making = unsaid (is_current_at value.generation old.idx) (and_parts (not (value.pages == 0)) (not (is_current_at value.generation old.idx)) making).1

-- a file that is durable represents what is kept of it in each image
pub durable_quiet : (value : Store) (files : Files) (images : Files → Type 0) → pkgdb.KeepsStore files.pkg value → IsDurable Pkg files images
    → IsQuiet value files images
durable_quiet value files images keeps durable image here = record {
  keeps = ap store (durable image here) ∙ keeps;
  blocks = λ k i used from below. ap (λ (u : Units). unit_at u i) (durable image here);
}

-- Packages.db stays durable where the index is rebuilt
module _ {D : Type 0} (d : disk.Ghosts D) where
  pub still_durable : (a b : D) → IsTrue d.tells → Runs d Remade a b
      → IsDurable Pkg (d.files a) (images d a) → IsDurable Pkg (d.files b) (images d b)
  still_durable a b told run durable image here =
      let c = run.now told image here in
      c.came.pkg ∙ durable c.from c.was ∙ sym (run.reads_as told).pkg

  -- and quiet
  pub still_quiet : (a b : D) (value : Store) → IsTrue d.tells → Runs d Remade a b
      → IsQuiet value (d.files a) (images d a) → IsQuiet value (d.files b) (images d b)
  still_quiet a b value told run quiet image here =
      let c = run.now told image here in
      let s = quiet c.from c.was in
      subst (λ (u : Units). RepresentsStore value u image.pkg) (sym (run.reads_as told).pkg) (subst (RepresentsStore value (d.files a).pkg) (sym c.came.pkg) s)

  -- reading Packages.db is such a run
  pub runs_read : (most : ℕ) (a b : D) → OnlyReads d Pkg most a b
      → Runs d Remade a b
  runs_read most a b looks = runs_looks d Remade remade_none Pkg most a b refl looks

  -- and what crashes leave of it is lawful, where the images at the start are
  pub stays_lawful : (a b : D) → IsTrue d.tells → Runs d Remade a b → StaysLawful d a b
  stays_lawful a b told run lawful = crashes_lawful d a b lawful (run.any_moment told)

-- An index that was rebuilt, as a value keeps it.
use Rattle.std.proofs.Common.{◌≡◌, ℕ, Bool, true, Option, Some, None, is_some, sym, ap, ◌∙◌}
use Rattle.rpm_db.proofs.Vocabulary.{Files, Idx, is_current_at, IsIndexed, IsIndexOf, IsCurrentIndex, IsServing, IsDurable, KeepsUnits, Pkg, Remade, Store, store}
use Rattle.rpm_db.proofs.Vocabulary.{database_of, Units}
use Rattle.rpm_pkgdb.specs.Store as pkgdb
use Rattle.rpm_hindex.specs.State as hindex
use Rattle.rpm_db.proofs.Making.{current_same, rows_of_index}
use Rattle.rpm_db.proofs.Opened.{durable_quiet}

kept_current : (g : ℕ) (idx : Units) (index : Option hindex.IndexState) → is_some index ≡ true → IsCurrentIndex g index → KeepsUnits idx index
    → is_current_at g idx ≡ true
kept_current g idx None some order keeps = absurd cc
kept_current g idx (Some s) some order keeps = sym (current_same g idx s keeps) ∙ order

pub rebuilt : (old new : Files) (value : Store) (index : Option hindex.IndexState) (stopped : Bool) → Remade old new → pkgdb.KeepsStore old.pkg value
    → is_some index ≡ true
    → IsCurrentIndex value.generation index → KeepsUnits new.idx index → IsIndexOf new.pkg new.idx
    → IsIndexed new.pkg new.idx (database_of value index stopped)
rebuilt old new value index stopped made keeps some order kept is = record {
  current = kept_current value.generation new.idx index some order kept;
  rows_are = rows_of_index new.pkg new.idx value (ap store made.pkg ∙ keeps) is;
}

-- a store's index that was made beside it
pub indexed_now : (pkg idx : Units) (value : Store) (index : Option hindex.IndexState) (stopped : Bool) → pkgdb.KeepsStore pkg value → is_some index ≡ true
    → IsCurrentIndex value.generation index → KeepsUnits idx index → IsIndexOf pkg idx
    → IsIndexed pkg idx (database_of value index stopped)
indexed_now pkg idx value index stopped keeps some order kept is = record {
  current = kept_current value.generation idx index some order kept;
  rows_are = rows_of_index pkg idx value keeps is;
}

-- a durable store, whose index was made beside it, serves
pub serving_now : (files : Files) (images : Files → Type 0) (value : Store) (index : Option hindex.IndexState) (stopped : Bool)
    → pkgdb.KeepsStore files.pkg value
    → KeepsUnits files.idx index → IsDurable Pkg files images → IsDurable Idx files images
    → IsServing files images (database_of value index stopped)
serving_now files images value index stopped keeps kept pkg idx = record {
  keeps = keeps;
  index = kept;
  quiet = durable_quiet value files images keeps pkg;
  durable = idx;
}

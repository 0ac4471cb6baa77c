-- Entries that stand for what is held.
use Rattle.std.specs.Prelude.{◌≡◌, ◌+◌, List, length}
use Rattle.rpm_outside.specs.declared.disk.File.TheVariants.{Pkg, Idx}
use Rattle.rpm_outside.specs.Files.{Units, Files}
use Rattle.rpm_outside.specs.Logs.{Entry, with_entries}
use Rattle.rpm_outside.specs.LogWrites.{EntriesIn}
use Rattle.rpm_group.specs.declared.transaction.Tail.{Tail}
use Rattle.rpm_group.specs.declared.layers.Layers.{Layers}
use Rattle.rpm_group.specs.Layers.{laid_file}
use Rattle.rpm_group.specs.inner.Logged.{CoversHeld}
use Rattle.rpm_group.specs.Transactions.{runs_of}
use Rattle.rpm_group.specs.Orders.{InOrder, HeadsEndInZeros}

-- the files with what is held of two of them
abbrev pub with_held : Layers → Files → Files
with_held held files =
    record { pkg = laid_file held.pkg files.pkg; idx = laid_file held.idx files.idx; log = files.log }

-- a list of entries writes what is held of the two files
pub record IsTransaction (entries : List Entry) (held : Layers) : Type 0 where
  pub pkg : CoversHeld entries Pkg held.pkg.table.items held.pkg.end
  pub idx : CoversHeld entries Idx held.idx.table.items held.idx.end
  pub whole : (files : Files) → with_entries entries files ≡ with_held held files
  pub count : length entries ≡ runs_of held.pkg + runs_of held.idx
  pub order : InOrder held entries

-- a log has these entries as far as this tail
pub record IsTail (entries : List Entry) (tail : Tail) (log : Units) : Type 0 where
  pub count : length entries ≡ tail.entries
  pub placed : EntriesIn entries 1 tail.at log
  pub heads : HeadsEndInZeros entries 1 log

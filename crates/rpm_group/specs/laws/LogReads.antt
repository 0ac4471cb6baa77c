-- What a run of calls reads that writes several files.
use Rattle.std.proofs.Common.{◌≡◌, ◌≤◌, refl, ◌∙◌, arith}
use Rattle.rpm_outside.specs.declared.disk.Disk as disk
use Rattle.rpm_outside.specs.declared.disk.File.{File}
use Rattle.rpm_outside.specs.declared.disk.File.TheVariants.{Pkg, Idx}

-- a call read nothing of the other two files than the log
pub record ReadsLog {D : Type 0} (g : disk.Ghosts D) (old new : D) : Type 0 where
  pub later : g.moment old ≤ g.moment new
  pub pkg : g.bytes_read new Pkg ≡ g.bytes_read old Pkg
  pub idx : g.bytes_read new Idx ≡ g.bytes_read old Idx
  pub goes_on : g.follows old new

module _ {D : Type 0} (g : disk.Ghosts D) where
  pub reads_none : ((d : D) → g.follows d d) → (d : D) → ReadsLog g d d
  reads_none same d = record { later = omega arith; pkg = refl; idx = refl; goes_on = same d }

  pub reads_then : ((a b c : D) → g.follows a b → g.follows b c → g.follows a c) → (a b c : D) → ReadsLog g a b
      → ReadsLog g b c → ReadsLog g a c
  reads_then trans a b c one two = record {
    later = omega (arith, one.later, two.later);
    pkg = two.pkg ∙ one.pkg;
    idx = two.idx ∙ one.idx;
    goes_on =
        trans a b c one.goes_on two.goes_on;
  }

-- a call read nothing of any file
pub record ReadsNothing {D : Type 0} (g : disk.Ghosts D) (old new : D) : Type 0 where
  pub later : g.moment old ≤ g.moment new
  pub same : (file : File) → g.bytes_read new file ≡ g.bytes_read old file
  pub goes_on : g.follows old new

module _ {D : Type 0} (g : disk.Ghosts D) where
  pub nothing_none : ((d : D) → g.follows d d) → (d : D) → ReadsNothing g d d
  nothing_none same d = record { later = omega arith; same = λ file. refl; goes_on = same d }

  pub nothing_then : ((a b c : D) → g.follows a b → g.follows b c → g.follows a c) → (a b c : D) → ReadsNothing g a b
      → ReadsNothing g b c → ReadsNothing g a c
  nothing_then trans a b c one two = record {
    later = omega (arith, one.later, two.later);
    same = λ file. two.same file ∙ one.same file;
    goes_on =
        trans a b c one.goes_on two.goes_on;
  }

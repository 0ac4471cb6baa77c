-- Runs of calls that only read, one after the other.
use Rattle.std.proofs.Common.{◌≡◌, ℕ, ◌+◌, ◌-◌, ◌≤◌, refl, ◌∙◌, arith}
use Rattle.rpm_outside.specs.declared.disk.Disk as disk
use Rattle.rpm_outside.specs.declared.disk.File.{File}
use Rattle.rpm_outside.specs.declared.disk.File.TheVariants.{Pkg, Idx, Log}
use Rattle.rpm_outside.specs.Crash.{bytes_for}
use Rattle.rpm_outside.specs.Looks.{ReadAtMost, OnlyReads, OnlyReadsFile}

bytes_sum : (file f : File) (m n most : ℕ) → m + n ≤ most
    → bytes_for file f m + bytes_for file f n ≤ bytes_for file f most
bytes_sum Pkg Pkg m n most le = le
bytes_sum Pkg Idx m n most le = omega arith
bytes_sum Pkg Log m n most le = omega arith
bytes_sum Idx Pkg m n most le = omega arith
bytes_sum Idx Idx m n most le = le
bytes_sum Idx Log m n most le = omega arith
bytes_sum Log Pkg m n most le = omega arith
bytes_sum Log Idx m n most le = omega arith
bytes_sum Log Log m n most le = le

bytes_more : (file f : File) (m most : ℕ) → m ≤ most → bytes_for file f m ≤ bytes_for file f most
bytes_more file f m most le = omega (arith, bytes_sum file f m 0 most (omega (arith, le)))

pub read_none : (file : File) (most : ℕ) (read : File → ℕ) → ReadAtMost file most read read
read_none file most read =
    record { no_less = λ f. omega arith; pkg = omega arith; idx = omega arith; log = omega arith }

-- nothing was read
pub read_same : (file : File) (most : ℕ) (old new : File → ℕ) → ((f : File) → new f ≡ old f)
    → ReadAtMost file most old new
read_same file most old new same = record {
  no_less = λ f. omega (arith, same f);
  pkg = omega (arith, same Pkg);
  idx = omega (arith, same Idx);
  log = omega (arith, same Log);
}

pub read_then : (file : File) (m n most : ℕ) (a b c : File → ℕ) → m + n ≤ most → ReadAtMost file m a b
    → ReadAtMost file n b c → ReadAtMost file most a c
read_then file m n most a b c le first second = record {
  no_less = λ f. omega (arith, first.no_less f, second.no_less f);
  pkg = omega (arith, first.pkg, second.pkg, bytes_sum file Pkg m n most le);
  idx = omega (arith, first.idx, second.idx, bytes_sum file Idx m n most le);
  log = omega (arith, first.log, second.log, bytes_sum file Log m n most le);
}

pub read_more : (file : File) (m most : ℕ) (a b : File → ℕ) → m ≤ most → ReadAtMost file m a b
    → ReadAtMost file most a b
read_more file m most a b le reads = record {
  no_less = reads.no_less;
  pkg = omega (arith, reads.pkg, bytes_more file Pkg m most le);
  idx = omega (arith, reads.idx, bytes_more file Idx m most le);
  log = omega (arith, reads.log, bytes_more file Log m most le);
}

-- as much as was read
pub read_all : (file : File) (most : ℕ) (a b : File → ℕ) → ReadAtMost file most a b
    → ReadAtMost file (b file - a file) a b
read_all Pkg most a b reads = record { no_less = reads.no_less; pkg = omega arith; idx = reads.idx; log = reads.log }
read_all Idx most a b reads = record { no_less = reads.no_less; pkg = reads.pkg; idx = omega arith; log = reads.log }
read_all Log most a b reads = record { no_less = reads.no_less; pkg = reads.pkg; idx = reads.idx; log = omega arith }

module _ {D : Type 0} (g : disk.Ghosts D) (file : File) where
  abbrev BoundedRead : ℕ → D → D → Type 0
  BoundedRead = OnlyReads g file

  abbrev AnyRead : D → D → Type 0
  AnyRead = OnlyReadsFile g file

  pub looks_none : ((d : D) → g.follows d d) → (d : D) → BoundedRead 0 d d
  looks_none same d = record {
    untouched = λ told. record { same = refl; images = λ t i x. x; kept = λ t i x. x };
    moment_stays = refl;
    reads = read_none file 0 (g.bytes_read d);
    goes_on = same d;
  }

  pub looks_then : ((a b c : D) → g.follows a b → g.follows b c → g.follows a c) → (m n most : ℕ) (a b c : D)
      → m + n ≤ most
      → BoundedRead m a b → BoundedRead n b c → BoundedRead most a c
  looks_then trans m n most a b c le first second = record {
    untouched = λ told.
        let f = first.untouched told in
        let s = second.untouched told in
        record {
          same = s.same ∙ f.same;
          images = λ t i x. f.images t i (s.images t i x);
          kept = λ t i x. s.kept t i
              (f.kept t i x);
        };
    moment_stays = second.moment_stays ∙ first.moment_stays;
    reads = read_then file m n most (g.bytes_read a) (g.bytes_read b) (g.bytes_read c) le first.reads second.reads;
    goes_on = trans a b c first.goes_on second.goes_on;
  }

  pub looks_more : (m most : ℕ) (a b : D) → m ≤ most → BoundedRead m a b → BoundedRead most a b
  looks_more m most a b le looks = record {
    untouched = looks.untouched;
    moment_stays = looks.moment_stays;
    reads = read_more file m most (g.bytes_read a) (g.bytes_read b) le looks.reads;
    goes_on = looks.goes_on;
  }

  pub looks_at_from : (most : ℕ) (a b : D) → BoundedRead most a b → AnyRead a b
  looks_at_from most a b looks = record {
    untouched = looks.untouched;
    moment_stays = looks.moment_stays;
    reads = read_all file most (g.bytes_read a) (g.bytes_read b) looks.reads;
    goes_on = looks.goes_on;
  }

  pub looks_at_none : ((d : D) → g.follows d d) → (d : D) → AnyRead d d
  looks_at_none same d = looks_at_from 0 d d (looks_none same d)

  pub looks_at_then : ((a b c : D) → g.follows a b → g.follows b c → g.follows a c) → (a b c : D) → AnyRead a b
      → AnyRead b c → AnyRead a c
  looks_at_then trans a b c first second =
      looks_then trans (g.bytes_read b file - g.bytes_read a file) (g.bytes_read c file - g.bytes_read b file)
      (g.bytes_read c file - g.bytes_read a file) a b c
      (omega (arith, first.reads.no_less file, second.reads.no_less file)) first second

-- Runs of calls that read packages, and may ask an index.
use Rattle.std.proofs.Common.{◌≡◌, ℕ, Bool, false, refl, ◌∙◌, arith}
use Rattle.rpm_outside.specs.declared.disk.Disk as disk
use Rattle.rpm_outside.specs.Frame.{OnlyReads, OnlyReadsFile}
use Rattle.rpm_outside.specs.declared.disk.File.TheVariants.{Idx, Pkg}
use Rattle.rpm_print.specs.Frame.{OnlyReadsPackages, OnlyReadsIndexed}

module _ {D : Type 0} (d : disk.Ghosts D) {indexed : Bool} where
  pub peeks_none : ((x : D) → d.follows x x) → {x : D} → OnlyReadsIndexed d indexed x x
  peeks_none stays {x = x} = record {
    untouched = λ told. record { same = refl; images = λ t i is. is; kept = λ t i is. is };
    moment_stays = refl;
    no_less = λ f. omega arith;
    idx = λ none. omega arith;
    log = omega arith;
    goes_on = stays x;
  }

  pub peeks_then : ((x y z : D) → d.follows x y → d.follows y z → d.follows x z) → {a b c : D}
      → OnlyReadsIndexed d indexed a b → OnlyReadsIndexed d indexed b c → OnlyReadsIndexed d indexed a c
  peeks_then goes {a = a} {b = b} {c = c} first second = record {
    untouched = λ told.
        let f = first.untouched told in
        let s = second.untouched told in
        record {
          same = s.same ∙ f.same;
          images = λ t i x. f.images t i (s.images t i x);
          kept = λ t i x. s.kept t i
              (f.kept t i x);
        };
    moment_stays = second.moment_stays ∙ first.moment_stays;
    no_less = λ f. omega (arith, first.no_less f, second.no_less f);
    idx = λ none. omega (arith, first.idx none, second.idx none);
    log = omega (arith, first.log, second.log);
    goes_on = goes a b c first.goes_on second.goes_on;
  }

  -- packages alone
  pub peeks_packages : {most : ℕ} {a b : D} → OnlyReads d Pkg most a b → OnlyReadsIndexed d indexed a b
  peeks_packages looks = record {
    untouched = looks.untouched;
    moment_stays = looks.moment_stays;
    no_less = looks.reads.no_less;
    idx = λ none. omega (arith, looks.reads.idx);
    log = omega (arith, looks.reads.log);
    goes_on = looks.goes_on;
  }

  -- an index, where there is one
  pub peeks_index : {a b : D} → OnlyReadsFile d Idx a b → (indexed ≡ false → OnlyReads d Pkg 0 a b)
      → OnlyReadsIndexed d indexed a b
  peeks_index looks unread = record {
    untouched = looks.untouched;
    moment_stays = looks.moment_stays;
    no_less = looks.reads.no_less;
    idx = λ none. omega (arith, (unread none).reads.idx);
    log = omega (arith, looks.reads.log);
    goes_on = looks.goes_on;
  }

  -- where there is none, packages alone
  pub looks_unindexed : {a b : D} → indexed ≡ false → OnlyReadsIndexed d indexed a b → OnlyReadsFile d Pkg a b
  looks_unindexed none peeks = record {
    untouched = peeks.untouched;
    moment_stays = peeks.moment_stays;
    reads =
        record {
          no_less = peeks.no_less;
          pkg = omega arith;
          idx = omega (arith, peeks.idx none);
          log = omega
              (arith, peeks.log);
        };
    goes_on = peeks.goes_on;
  }

-- a command that makes no call
pub leaves_none : {D : Type 0} (d : disk.Ghosts D) → ((x : D) → d.follows x x) → {x : D} → OnlyReadsPackages d x x
leaves_none d stays {x = x} = record {
  untouched = λ told. record { same = refl; images = λ t i is. is; kept = λ t i is. is };
  moment_stays = refl;
  index_unread = omega arith;
  goes_on = stays x;
}

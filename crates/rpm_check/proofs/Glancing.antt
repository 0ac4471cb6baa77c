-- Runs of calls that read packages and an index.
use Rattle.std.proofs.Common.{ℕ, refl, ◌∙◌, arith}
use Rattle.rpm_outside.specs.declared.disk.Disk as disk
use Rattle.rpm_check.proofs.Vocabulary.{OnlyReadsBoth, Idx, OnlyReads, OnlyReadsFile, Pkg}

module _ {D : Type 0} (g : disk.Ghosts D) where
  abbrev Glanced : D → D → Type 0
  Glanced = OnlyReadsBoth g

  pub glances_none : ((d : D) → g.follows d d) → (d : D) → Glanced d d
  glances_none same d = record {
    untouched = λ told. record { same = refl; images = λ t i x. x; kept = λ t i x. x };
    moment_stays = refl;
    no_less = λ f. omega arith;
    log = omega arith;
    goes_on = same d;
  }

  pub glances_then : ((a b c : D) → g.follows a b → g.follows b c → g.follows a c) → (a b c : D) → Glanced a b → Glanced b c → Glanced a c
  glances_then trans a b c first second = record {
    untouched = λ told.
        let f = first.untouched told in
        let s = second.untouched told in
        record { same = s.same ∙ f.same; images = λ t i x. f.images t i (s.images t i x); kept = λ t i x. s.kept t i (f.kept t i x) };
    moment_stays = second.moment_stays ∙ first.moment_stays;
    no_less = λ f. omega (arith, first.no_less f, second.no_less f);
    log = omega (arith, first.log, second.log);
    goes_on = trans a b c first.goes_on second.goes_on;
  }

  -- packages
  pub glances_packages : (most : ℕ) (a b : D) → OnlyReads g Pkg most a b → Glanced a b
  glances_packages most a b looks = record {
    untouched = looks.untouched;
    moment_stays = looks.moment_stays;
    no_less = looks.reads.no_less;
    log = omega (arith, looks.reads.log);
    goes_on = looks.goes_on;
  }

  -- the index
  pub glances_index : (a b : D) → OnlyReadsFile g Idx a b → Glanced a b
  glances_index a b looks = record {
    untouched = looks.untouched;
    moment_stays = looks.moment_stays;
    no_less = looks.reads.no_less;
    log = omega (arith, looks.reads.log);
    goes_on = looks.goes_on;
  }

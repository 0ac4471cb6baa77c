use Rattle.rpm_filecheck.proofs.Vocabulary.{above, package_cost, packages_cost, cost_more, cost_some, packages_cost_to, Files, GatheredFiles, looks_more, looks_none, looks_then, no_files}
use Rattle.rpm_filecheck.proofs.Vocabulary.{Package, packages, Pkg, store_of, with_packages, with_some}
use Rattle.std.proofs.Common.{◌≡◌, ℕ, List, ap, ◌∙◌, arith, rules, subst}
use Rattle.std.specs.FinMap as finite
use Rattle.rpm_filecheck.proofs.Going.{next_found, last_found, from_one}
use Rattle.rpm_filecheck.proofs.gathering.gather.Goals as goal

pub loop-number-init : goal.loop-number-init
loop-number-init g c =
    let db = c.args.db.now in
    let file = (g.D.Disk.files c.args.disk.now).pkg in
    record {
      keeps = c.requires.keeps;
      looks =
          looks_more g.D.Disk Pkg 0
          (packages_cost_to 0 db) c.args.disk.now c.args.disk.now (omega arith)
          (looks_none g.D.Disk Pkg g.met.D.Disk.follows_refl
          c.args.disk.now);
      faults = omega arith;
      same = λ told.
          ap (λ (f : GatheredFiles). with_packages (above 0 (finite.entries (packages file (store_of db)))) f) c.new-found.ensures
          ∙ ap (λ (es : List (ℕ × Package)). with_packages es no_files) (from_one file db (c.requires.keeps told));
    }

pub loop-number-preserved : goal.loop-number-preserved
loop-number-preserved g c =
    let db = c.args.db.now in
    let k = c.loop-number.passed in
    let m = c.in-Some.number in
    let inv = c.loop-number.invariant in
    let e = c.in_ok-add_package.ensures in
    let file = (g.D.Disk.files c.args.disk.now).pkg in
    record {
      keeps = e.asks.kept;
      looks =
          looks_then g.D.Disk Pkg g.met.D.Disk.follows_trans
          (packages_cost_to k db) (package_cost m db) (packages_cost_to m db) c.args.disk.now c.loop-number.disk c.add_package.new.disk
          (omega (arith, cost_more db k m c.in-Some.ensures.next.0)) inv.looks e.asks.looks;
      faults = omega (arith, inv.faults, e.asks.cause.later);
      same = λ told. next_found (packages file (store_of db)) k m c.loop-number.found c.add_package.new.found
          (with_packages (finite.entries (packages file (store_of db))) no_files) (c.in-Some.ensures.told file) (inv.same told)
          (subst (λ (f : Files). c.add_package.new.found ≡ with_some m (finite.get (packages f.pkg (store_of db)) m) c.loop-number.found)
          (inv.looks.untouched told).same (e.found told));
    }

pub returns-in_err-add_package-clause-asks : goal.returns-in_err-add_package-clause-asks
returns-in_err-add_package-clause-asks g c =
    let db = c.args.db.now in
    let m = c.in-Some.number in
    let inv = c.loop-number.invariant in
    let done = c.in_err-add_package.ensures.asks in
    record {
      kept = done.kept;
      looks =
          looks_then g.D.Disk Pkg g.met.D.Disk.follows_trans
          (packages_cost_to c.loop-number.passed db) (package_cost m db) (packages_cost db) c.args.disk.now c.loop-number.disk c.add_package.new.disk
          (omega (arith, cost_more db c.loop-number.passed m c.in-Some.ensures.next.0, cost_some db m)) inv.looks done.looks;
      cause = search rules;
    }

pub returns-clause-asks : goal.returns-clause-asks
returns-clause-asks g c =
    let db = c.args.db.now in
    let inv = c.loop-number.invariant in
    record {
      kept = inv.keeps;
      looks =
          looks_more g.D.Disk Pkg
          (packages_cost_to c.loop-number.passed db) (packages_cost db) c.args.disk.now c.loop-number.disk
          (omega (arith, cost_some db c.loop-number.passed)) inv.looks;
      cause = search rules;
    }

pub returns-clause-found : goal.returns-clause-found
returns-clause-found g c = λ told.
    let db = c.args.db.now in
    let file = (g.D.Disk.files c.args.disk.now).pkg in
    last_found (packages file (store_of db)) c.loop-number.passed c.loop-number.found (with_packages (finite.entries (packages file (store_of db))) no_files)
    (c.in_default.ensures.told file) (c.loop-number.invariant.same told)

use Rattle.std.proofs.Common.{◌≡◌, inl, inr, ℕ, ◌-◌, ◌<◌, [], refl, sym, ap, subst, ◌∙◌, arith}
use Rattle.std.proofs.lemmas.Bool.{cases_lt}
use Rattle.rpm_group.proofs.Vocabulary.{IsHeldBelow, Files, held_at, laid_units, laid_file, log_units, needed_units, Pages, Units}
use Rattle.rpm_group.proofs.Behinds.{none_behind}
use Rattle.rpm_group.proofs.Countings.{nothing_held}
use Rattle.rpm_group.proofs.LoggedLaws.{unheld_is}
use Rattle.rpm_group.proofs.Laids.{laid_none}
use Rattle.rpm_group.proofs.commit.write_held.Goals as goal

-- pages that cost nothing hold nothing
unheld_file : (pages : Pages) (file : Units) → log_units pages.table.items pages.end ≡ 0 → file ≡ laid_file pages file
unheld_file pages file none = elim (cases_lt 0 pages.end) [
  | inl some ↦
      let last : pages.end - 1 < pages.end = omega arith in
      absurd (pages.last some (unheld_is (held_at pages.table.items (pages.end - 1)) (nothing_held pages.table.items pages.end none (pages.end - 1) last)))
  | inr zero_end ↦
      let is : pages.end ≡ 0 = omega arith in
      sym (laid_none pages.table.items file (subst (λ (e : ℕ). IsHeldBelow pages.table.items e) is pages.past))
      ∙ ap (λ (e : ℕ). laid_units pages.table.items e file) (sym is)
]

pub returns-then-units-eq0-clause-files : goal.returns-then-units-eq0-clause-files
returns-then-units-eq0-clause-files g c = λ told.
    let held = c.args.held.now in
    let files : Files = g.D.Disk.files c.args.disk.now in
    let pkg : log_units held.pkg.table.items held.pkg.end ≡ 0 = omega (arith, c.if-units-eq0.true, c.extent-pkg.ensures.runs, c.extent-pkg.ensures.units) in
    let idx : log_units held.idx.table.items held.idx.end ≡ 0 = omega (arith, c.if-units-eq0.true, c.extent-idx.ensures.runs, c.extent-idx.ensures.units) in
    ap (λ (us : Units). record { pkg = us; idx = files.idx; log = [] }) (unheld_file held.pkg files.pkg pkg)
    ∙ ap (λ (us : Units). record { pkg = laid_file held.pkg files.pkg; idx = us; log = [] }) (unheld_file held.idx files.idx idx)

pub returns-then-units-eq0-clause-logged : goal.returns-then-units-eq0-clause-logged
returns-then-units-eq0-clause-logged g c = λ told.
    let held = c.args.held.now in
    let pkg : log_units held.pkg.table.items held.pkg.end ≡ 0 = omega (arith, c.if-units-eq0.true, c.extent-pkg.ensures.runs, c.extent-pkg.ensures.units) in
    let idx : log_units held.idx.table.items held.idx.end ≡ 0 = omega (arith, c.if-units-eq0.true, c.extent-idx.ensures.runs, c.extent-idx.ensures.units) in
    record {
      entries = [];
      placed = omega (arith, pkg, idx);
      heads = tt;
      order = record {
        pkg = [];
        idx = [];
        joined = refl;
        pkg_runs = omega arith;
        idx_runs = omega arith;
        pkg_count = omega (arith, pkg);
        idx_count = omega (arith, idx);
      };
      whole = λ files.
          ap (λ (us : Units). record { pkg = us; idx = files.idx; log = [] }) (unheld_file held.pkg files.pkg pkg)
          ∙ ap (λ (us : Units). record { pkg = laid_file held.pkg files.pkg; idx = us; log = [] }) (unheld_file held.idx files.idx idx);
    }

pub returns-then-units-eq0-clause-behind : goal.returns-then-units-eq0-clause-behind
returns-then-units-eq0-clause-behind g c = λ told.
    let D = g.D.Disk in
    let old = c.args.disk.now in
    none_behind D told g.met.D.Disk.earlier (needed_units c.args.held.now) (D.files old).log old (D.files old) refl (c.requires.durable told)

pub returns-then-units-ge-MOST-clause-behind : goal.returns-then-units-ge-MOST-clause-behind
returns-then-units-ge-MOST-clause-behind g c = λ told.
    let D = g.D.Disk in
    let old = c.args.disk.now in
    none_behind D told g.met.D.Disk.earlier (needed_units c.args.held.now) (D.files old).log old (D.files old) refl (c.requires.durable told)

use Rattle.std.proofs.Common.{◌≡◌, ℕ, ◌≤◌, max, List, ap, refl, sym, ◌∙◌, subst, arith}
use Rattle.rpm_db.proofs.Vocabulary.{Files, IsOfRows, IsSealedHere, packages, RewriteFault, Row, rows, units_for}
use Rattle.rpm_hindex.specs.Rewrites as rewrite
use Rattle.rpm_db.proofs.Results.{both_ok, if_err, map_if_err}
use Rattle.rpm_db.proofs.Making.{of_rows, remade_both, remade_look}
use Rattle.rpm_db.proofs.indexing.make_index.Goals as goal

pub write_index-requires-clause-rows : goal.write_index-requires-clause-rows
write_index-requires-clause-rows g c = λ told.
    let e = c.in_ok-rows.ensures in
    let store = c.args.store.now in
    let file = (g.D.Disk.files c.rows_of.new.disk).pkg in
    let same = (e.looks.untouched told).same in
    subst (λ (n : ℕ). IsOfRows n c.in_ok-rows.rows file) (sym c.generation.ensures.value)
    (of_rows file store c.in_ok-rows.rows (e.kept told) (e.rows told ∙ ap (λ (f : Files). rows (packages f.pkg store)) (sym same)))

pub returns-clause-reach : goal.returns-clause-reach
returns-clause-reach g c =
    let all = c.in_ok-rows.rows in
    let before = c.args.index.now.units in
    let after = c.write_index.new.index in
    let new = (g.D.Disk.files c.write_index.new.disk).idx in
    both_ok c.write_index.result (λ (grows : after.units ≤ max before (units_for all)) (sealed : IsSealedHere g.D.Disk c.write_index.new.disk
    c.generation.result after) told.
    let most = subst (λ (rs : List Row). after.units ≤ max before (units_for rs)) (c.in_ok-rows.ensures.rows told) grows in
    omega (arith, most, (sealed.kept told).units, (c.requires.index told).units)) c.write_index.ensures.grows c.write_index.ensures.sealed

pub returns-clause-runs : goal.returns-clause-runs
returns-clause-runs g c = remade_both g.D.Disk g.met.D.Disk.follows_trans (remade_look g.D.Disk c.in_ok-rows.ensures.looks refl) c.write_index.ensures.runs

pub returns-in_err-rows-clause-refused : goal.returns-in_err-rows-clause-refused
returns-in_err-rows-clause-refused g c =
    let looks = c.in_err-rows.ensures.looks in
    if_err c.from_residual.result (λ e refusal. (refl, λ told. (looks.untouched told).same, looks.moment_stays))

pub returns-clause-refused : goal.returns-clause-refused
returns-clause-refused g c =
    let D = g.D.Disk in
    let looks = c.in_ok-rows.ensures.looks in
    let Refused = λ (e : RewriteFault). rewrite.IsRebuildRefused e → (c.write_index.new.index ≡ c.args.index.now)
    × (c.write_index.new.disk ≡ c.rows_of.new.disk) in
    map_if_err c.write_index.result (λ e (p : Refused e) refusal.
    let r = p refusal in
    (r.0, λ told. ap D.files r.1 ∙ (looks.untouched told).same, ap D.moment r.1 ∙ looks.moment_stays)) c.write_index.ensures.refused

use Rattle.std.proofs.Common.{◌≡◌, ◌≤◌, ◌+◌, ◌==◌, ℕ, if◌then◌else◌, length, max, is_some, true, false, Option, refl, sym, ap, ◌∙◌, subst}
use Rattle.rpm_db.proofs.Vocabulary.{AreOfRows, HasRows, IsOrdered, KeepsUnits, live_of, packages, rows, sealed_in, store, Units, units_for}
use Rattle.rpm_hindex.specs.State as hindex
use Rattle.rpm_db.proofs.Refused.{reading_of}
use Rattle.rpm_db.proofs.FillCrashes.{rows_quiet}
use Rattle.rpm_db.proofs.Served.{indexed_as, refused_same}
use Rattle.rpm_db.proofs.batch.Batch.finish.Goals as goal

pub fill_index-requires : goal.fill_index-requires
fill_index-requires g c =
    let was = rw (sym c.db.view_is, sym c.self.view_is) at c.requires.gathering in
    record {
      ready = record {
        order = subst IsOrdered c.in-Some.is was.ordered;
        clear = λ is. was.clear (ap sealed_in c.in-Some.is ∙ is ∙ c.generation-generation.ensures.value);
        keeps = λ told. subst (KeepsUnits (g.D.Disk.files c.args.disk.now).idx) c.in-Some.is (was.serving told).index;
        durable = λ told. (was.serving told).durable;
      };
    }

pub returns-in-Ok-clause-has_rows : goal.returns-in-Ok-clause-has_rows
returns-in-Ok-clause-has_rows g c =
    let was = rw (sym c.db.view_is, sym c.self.view_is) at c.requires.gathering in
    let e = c.in-Ok.ensures in
    let st = c.db.inside.store in
    let old = g.D.Disk.files c.args.disk.now in
    let new = g.D.Disk.files c.fill_index.new.disk in
    let owed = c.self.inside.owed in
    let current = subst (λ (n : ℕ). hindex.is_current n c.fill_index.new.index ≡ true) c.generation-generation.ensures.value e.filled.current in
    rw (sym c.db.view_is, sym c.self.view_is) (record {
      going = refl;
      serving = λ told. record {
        keeps = ap store (e.store told) ∙ (was.serving told).keeps;
        index = e.filled.kept told;
        quiet = e.filled.quiet told st (was.serving told).quiet;
        durable = e.filled.durable told;
      };
      index = λ told o.
          indexed_as new.pkg new.idx st c.fill_index.new.index false (e.filled.kept told) current
          (subst (λ (u : Units). HasRows (packages u st) new.idx) (sym (e.store told))
          (e.filled.rows_are told o.from (packages old.pkg st) o.has o.balances));
      grows = e.filled.grows;
      reach = λ told o.
          subst (λ (i : Option hindex.IndexState). length new.idx ≤ (if sealed_in i == st.generation then length old.idx
          else max (length old.idx + live_of owed.adds) (units_for (rows (packages old.pkg st))))) (sym c.in-Some.is)
          (subst (λ (n : ℕ). length new.idx ≤ (if hindex.sealed_generation c.in-Some.index.first == n then length old.idx
          else max (length old.idx + live_of owed.adds) (units_for (rows (packages old.pkg st))))) c.generation-generation.ensures.value
          (e.filled.reach told o.from (packages old.pkg st) o.has o.balances));
    })

pub returns-in-Err-clause-full : goal.returns-in-Err-clause-full
returns-in-Err-clause-full g c =
    let e = c.in-Err.ensures in
    rw (sym c.db.view_is, sym c.self.view_is) (λ told o. reading_of c.in-Err.fault _ e.kinds (e.full.1 told o.from _ o.has o.balances)
    (o.fits (λ at. e.full.0 (ap sealed_in (sym c.in-Some.is) ∙ at ∙ sym c.generation-generation.ensures.value))))

pub returns-in-Ok-clause-unwritten : goal.returns-in-Ok-clause-unwritten
returns-in-Ok-clause-unwritten g c =
    rw (sym c.db.view_is) (λ at. c.in-Ok.ensures.unwritten (ap sealed_in (sym c.in-Some.is) ∙ at ∙ sym c.generation-generation.ensures.value))

pub returns-in-Err-clause-unwritten : goal.returns-in-Err-clause-unwritten
returns-in-Err-clause-unwritten g c =
    rw (sym c.db.view_is) (λ at. c.in-Err.ensures.unwritten (ap sealed_in (sym c.in-Some.is) ∙ at ∙ sym c.generation-generation.ensures.value))

-- ---- what crashes leave, and what is left

pub returns-in-Ok-clause-crashes : goal.returns-in-Ok-clause-crashes
returns-in-Ok-clause-crashes g c =
    let was = rw (sym c.db.view_is, sym c.self.view_is) at c.requires.gathering in
    let a = c.args.disk.now in
    let old = g.D.Disk.files a in
    let images = g.D.Disk.left_since a (g.D.Disk.moment a) in
    let st = c.db.inside.store in
    rw (sym c.db.view_is, sym c.self.view_is) (λ told lawful o. c.in-Ok.ensures.crashes told lawful o.from (packages old.pkg st) o.has o.balances
    (subst (λ (n : ℕ). AreOfRows n (packages old.pkg st) images) (sym c.generation-generation.ensures.value)
    (rows_quiet st old images (was.serving told).keeps (c.db.invariant.made (ap is_some c.in-Some.is)) (was.serving told).quiet)))

pub returns-in-Err-clause-crashes : goal.returns-in-Err-clause-crashes
returns-in-Err-clause-crashes g c =
    let was = rw (sym c.db.view_is, sym c.self.view_is) at c.requires.gathering in
    let a = c.args.disk.now in
    let old = g.D.Disk.files a in
    let images = g.D.Disk.left_since a (g.D.Disk.moment a) in
    let st = c.db.inside.store in
    rw (sym c.db.view_is, sym c.self.view_is) (λ told lawful o. c.in-Err.ensures.crashes told lawful o.from (packages old.pkg st) o.has o.balances
    (subst (λ (n : ℕ). AreOfRows n (packages old.pkg st) images) (sym c.generation-generation.ensures.value)
    (rows_quiet st old images (was.serving told).keeps (c.db.invariant.made (ap is_some c.in-Some.is)) (was.serving told).quiet)))

pub returns-in-Err-clause-left : goal.returns-in-Err-clause-left
returns-in-Err-clause-left g c =
    let was = rw (sym c.db.view_is) at c.requires.gathering in
    let e = c.in-Err.ensures in
    let on = c.db.inside.is_stopped in
    rw (sym c.db.view_is, sym c.self.view_is, c.in-Some.is) (record {
      indexed = refl;
      stopped = was.suspends;
      refused = λ refusal. refused_same c.db.inside.store _ c.in-Some.index c.fill_index.new.index on on refl (e.refused refusal).0 refl;
      same = λ refusal. (e.refused refusal).1;
      moment = λ refusal. (e.refused refusal).2;
      bad = e.bad;
    })

pub invariant_of-db-in-Err : goal.invariant_of-db-in-Err
invariant_of-db-in-Err g c =
    let was = rw (sym c.db.view_is) at c.requires.gathering in
    record {
      made = λ some. c.db.invariant.made (ap is_some c.in-Some.is);
      going = λ is. absurd (let both : true ≡ false = sym was.suspends ∙ is in cc);
      order = λ is. absurd (let both : true ≡ false = sym was.suspends ∙ is in cc);
    }

use Rattle.std.proofs.Common.{◌≡◌, ◌==◌, true, false, refl, sym, ap, ◌∙◌, subst, arith}
use Rattle.std.proofs.lemmas.Bool.Decides.{nat_tests}
use Rattle.rpm_db.proofs.Vocabulary.{DiskFault, Files, FullCause, IndexTo, IsApplied, IsSealedAfter, rows, units_for}
use Rattle.rpm_hindex.specs.State as hindex
use Rattle.rpm_db.proofs.Both.{quiet_then, runs_rows}
use Rattle.rpm_db.proofs.Changed.{rows_sealed}
use Rattle.rpm_db.proofs.FillCrashes.{crashes_filled}
use Rattle.rpm_db.proofs.OwedRows.{current_sealed, other_sealed, rows_clear}
use Rattle.rpm_db.proofs.Refused.{never_of_disk}
use Rattle.rpm_db.proofs.Unwritten.{log_then, looked_at, quiet_same}
use Rattle.rpm_db.proofs.Results.{map_if_err, map_ok}
use Rattle.rpm_db.proofs.Wholes.{whole_cause}
use Rattle.rpm_db.proofs.writing.fill_index.Goals as goal

-- ---- it is sealed there

pub returns-then-is_current-clause-filled : goal.returns-then-is_current-clause-filled
returns-then-is_current-clause-filled g c =
    let current : hindex.is_current c.args.generation c.args.index.now ≡ true = sym c.is_current.ensures ∙ c.if-is_current.true in
    let at = current_sealed c.args.generation c.args.index.now current in
    let test : (hindex.sealed_generation c.args.index.now.first == c.args.generation) ≡ true = grind (arith, nat_tests, at) in
    record {
      current = current;
      kept = λ told. c.requires.ready.keeps told;
      durable = λ told. c.requires.ready.durable told;
      quiet = λ told value quiet. quiet;
      rows_are = λ told from to has changed.
          rows_clear from to (g.D.Disk.files c.args.disk.now).idx c.args.owed (c.requires.ready.clear at) has changed;
      grows = λ told. omega arith;
      reach = λ told from to has changed. rw test (omega arith);
    }

-- ---- the change

pub returns-clause-filled : goal.returns-clause-filled
returns-clause-filled g c =
    let D = g.D.Disk in
    let a = c.args.disk.now in
    let b = c.prepare_owed.new.disk in
    let e = c.write_rows.new.disk in
    let index = c.args.index.now in
    let n = c.args.generation in
    let work = c.in-Ok.plan.work in
    let run = looked_at D _ _ _ c.in-Ok.ensures.looks in
    let leads = c.in-Ok.ensures.plan.leads in
    let apart = other_sealed n index c.requires.ready.order (sym c.is_current.ensures ∙ c.if-is_current.false) in
    let test : (hindex.sealed_generation index.first == n) ≡ false = grind (arith, nat_tests, apart) in
    map_ok c.write_rows.result (λ (w : IsApplied D b e index c.write_rows.new.index n work). record {
      current = w.current;
      kept = w.kept;
      durable = w.durable;
      quiet = λ told value quiet.
          quiet_then D told value (IndexTo n work (D.files b).idx) 0 b e c.write_rows.ensures.writes.changes (quiet_same D a b told run value quiet);
      rows_are = λ told from to has changed.
          (rows_sealed n to work (D.files a).idx (D.files e).idx ((leads from to changed).makes told has)
          (subst (λ (f : Files). IsSealedAfter n work f.idx (D.files e).idx) (run.reads_as told) (w.sealed told))).0;
      grows = λ told. omega (arith, c.in-Ok.ensures.grows told, w.grows, (w.kept told).units, (c.requires.ready.keeps told).units);
      reach = λ told from to has changed.
          rw test (omega (arith, (leads from to changed).reach told has, w.grows, (w.kept told).units, (c.requires.ready.keeps told).units));
    }) c.write_rows.ensures.applied

pub returns-in-Err-clause-full : goal.returns-in-Err-clause-full
returns-in-Err-clause-full g c = (
  other_sealed c.args.generation c.args.index.now c.requires.ready.order (sym c.is_current.ensures ∙ c.if-is_current.false),
  c.in-Err.ensures.full,
)

pub returns-clause-full : goal.returns-clause-full
returns-clause-full g c =
    let apart = other_sealed c.args.generation c.args.index.now c.requires.ready.order (sym c.is_current.ensures ∙ c.if-is_current.false) in
    map_if_err c.write_rows.result (λ fault (is : fault ≡ DiskFault). (apart, λ told from to has changed. subst (FullCause (units_for (rows to))) (sym is) tt))
    c.write_rows.ensures.kind

pub returns-in-Err-clause-refused : goal.returns-in-Err-clause-refused
returns-in-Err-clause-refused g c = λ refusal. (refl, looked_at g.D.Disk _ _ _ c.in-Err.ensures.looks, c.in-Err.ensures.looks.moment_stays)

pub returns-in-Err-clause-whole : goal.returns-in-Err-clause-whole
returns-in-Err-clause-whole g c = λ told whole.
    whole_cause c.args.owed.drops (g.D.Disk.files c.args.disk.now).idx c.in-Err.fault whole (c.in-Err.ensures.bad told)

pub returns-clause-bad : goal.returns-clause-bad
returns-clause-bad g c = λ told.
    never_of_disk c.args.owed.drops (g.D.Disk.files c.args.disk.now).idx c.write_rows.result c.write_rows.ensures.kind

pub returns-in-Err-clause-unwritten : goal.returns-in-Err-clause-unwritten
returns-in-Err-clause-unwritten g c = λ is.
    absurd (other_sealed c.args.generation c.args.index.now c.requires.ready.order (sym c.is_current.ensures ∙ c.if-is_current.false) is)

pub returns-clause-unwritten : goal.returns-clause-unwritten
returns-clause-unwritten g c = λ is.
    absurd (other_sealed c.args.generation c.args.index.now c.requires.ready.order (sym c.is_current.ensures ∙ c.if-is_current.false) is)

pub returns-clause-runs : goal.returns-clause-runs
returns-clause-runs g c =
    log_then g.D.Disk g.met.D.Disk.follows_trans _ _ _ (looked_at g.D.Disk _ _ _ c.in-Ok.ensures.looks) (runs_rows g.D.Disk _ _ _ _
    c.write_rows.ensures.writes.changes)

-- ---- what crashes leave

pub returns-clause-crashes : goal.returns-clause-crashes
returns-clause-crashes g c = λ told lawful from to has changed of.
    let ready = c.requires.ready in
    let leads = c.in-Ok.ensures.plan.leads in
    let apart = other_sealed c.args.generation c.args.index.now ready.order (sym c.is_current.ensures ∙ c.if-is_current.false) in
    crashes_filled g.D.Disk _ _ _ told lawful (looked_at g.D.Disk _ _ _ c.in-Ok.ensures.looks) c.args.generation c.in-Ok.plan.work to (ready.durable told)
    (λ at. apart (ap hindex.sealed_generation (ready.keeps told).first ∙ at)) of ((leads from to changed).makes told has) c.write_rows.ensures.writes.changes

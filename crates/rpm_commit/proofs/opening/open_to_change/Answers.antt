use Rattle.rpm_commit.proofs.Vocabulary.{Files, must_rebuild, packages, Remade, store_of, rows, runs_none, runs_then, SameLog, store, units_needed}
use Rattle.std.proofs.Common.{length, refl, ap, ◌∙◌, inl, inr, ⊎_elim, arith}
use Rattle.rpm_commit.proofs.laws.Brokens.{by_bool, open_broken}
use Rattle.rpm_commit.proofs.FileReach.{least_units}
use Rattle.rpm_commit.proofs.opening.open_to_change.Goals as goal

pub returns-in-Err-clause-runs : goal.returns-in-Err-clause-runs
returns-in-Err-clause-runs g c =
    runs_then g.D.Disk g.met.D.Disk.follows_trans
    Remade SameLog SameLog c.args.disk.now c.open.new.disk c.open.new.disk (λ x y made. made.log) (λ x y z made same. same ∙ made.log)
    c.in-Err.ensures.runs
    (runs_none g.D.Disk g.met.D.Disk.follows_refl SameLog
    (λ f. refl) c.open.new.disk)

pub returns-clause-opens : goal.returns-clause-opens
returns-clause-opens g c =
    let old = g.D.Disk.files c.args.disk.now in
    let mid = g.D.Disk.files c.open.new.disk in
    let new = g.D.Disk.files c.make_blank.new.disk in
    let begins = c.in_ok-make_blank.ensures.begins in
    record {
      ready = begins.ready;
      not_blank = begins.not_blank;
      rows = λ told lawful. begins.rows told (λ some. (c.in-Ok.ensures.opened told).index some lawful);
      broken = λ told. open_broken old mid new c.in-Ok.db (c.in-Ok.ensures.opened told) (begins.whole told);
      finds = λ told.
          let opened = c.in-Ok.ensures.opened told in
          by_bool (must_rebuild old.idx (store old.pkg)) (λ making. inl (begins.rows told (λ some. opened.made making)))
          (λ making. ⊎_elim inl (λ same. inr (same ∙ ap (λ (f : Files). f.idx) (opened.same making))) (begins.finds told));
      found = λ told.
          let is = (c.in-Ok.ensures.opened told).store_is in
          record {
            value = store_of c.in-Ok.db;
            undamaged = is;
            store_is = begins.store_is;
            reach = record {
              pkg = omega (arith, begins.end told, ap length (c.in-Ok.ensures.runs.reads_as told).pkg);
              idx = omega (
                arith,
                begins.reach told,
                c.in-Ok.ensures.served.reach told,
                ap (units_needed old.pkg) is,
                least_units (rows (packages old.pkg (store_of c.in-Ok.db))),
              );
            };
          };
    }

pub returns-clause-runs : goal.returns-clause-runs
returns-clause-runs g c =
    runs_then g.D.Disk g.met.D.Disk.follows_trans
    Remade SameLog SameLog c.args.disk.now c.open.new.disk c.make_blank.new.disk (λ x y made. made.log) (λ x y z made same. same ∙ made.log)
    c.in-Ok.ensures.runs c.make_blank.ensures.runs

pub returns-in_err-make_blank-clause-runs : goal.returns-in_err-make_blank-clause-runs
returns-in_err-make_blank-clause-runs g c =
    runs_then g.D.Disk g.met.D.Disk.follows_trans
    Remade SameLog SameLog c.args.disk.now c.open.new.disk c.make_blank.new.disk (λ x y made. made.log) (λ x y z made same. same ∙ made.log)
    c.in-Ok.ensures.runs c.make_blank.ensures.runs

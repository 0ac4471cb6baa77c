use Rattle.std.proofs.Common.{ℕ, length, IsTrue, Result, refl, ap, sym, ◌∙◌, subst, arith, rules}
use Rattle.rpm_db.proofs.Vocabulary.{Damage, Files, packages, ReachesMade, Remade, remade_then, rows, runs_then, Store, store, units_for, units_needed}
use Rattle.rpm_db.proofs.Results.{if_err}
use Rattle.rpm_db.proofs.Opened.{opened_made, durable_quiet, still_durable, runs_read, stays_lawful}
use Rattle.rpm_db.proofs.database.Db.open_durable.Goals as goal

-- ---- the store was read alone

pub returns-then-is_blank-clause-runs : goal.returns-then-is_blank-clause-runs
returns-then-is_blank-clause-runs g c = runs_read g.D.Disk _ _ _ c.in_ok-store.ensures.looks

pub returns-in_err-store-clause-runs : goal.returns-in_err-store-clause-runs
returns-in_err-store-clause-runs g c = runs_read g.D.Disk _ _ _ c.in_err-store.ensures.looks

pub returns-then-is_blank-clause-crashes : goal.returns-then-is_blank-clause-crashes
returns-then-is_blank-clause-crashes g c = λ told. stays_lawful g.D.Disk _ _ told (returns-then-is_blank-clause-runs g c)

pub returns-in_err-store-clause-crashes : goal.returns-in_err-store-clause-crashes
returns-in_err-store-clause-crashes g c = λ told. stays_lawful g.D.Disk _ _ told (returns-in_err-store-clause-runs g c)

-- ---- and then the index

pub returns-clause-opened : goal.returns-clause-opened
returns-clause-opened g c = λ told.
    let e = c.in_ok-index.ensures in
    let f = g.D.Disk.files in
    opened_made (f c.args.disk.now) (f c.open_store.new.disk) (f c.index_for.new.disk) c.in_ok-store.store c.in_ok-index.index
    (c.in_ok-store.ensures.store told) (c.in_ok-store.ensures.looks.untouched told).same (sym c.is_blank.ensures ∙ c.if-is_blank.false)
    (e.full told) (e.same told) (e.runs.reads_as told).pkg (c.in_ok-store.ensures.kept told) (e.index.kept told) e.index.current (e.index.rows_are told)
    (e.index.made told)

pub returns-clause-runs : goal.returns-clause-runs
returns-clause-runs g c =
    runs_then g.D.Disk g.met.D.Disk.follows_trans
    Remade Remade Remade c.args.disk.now c.open_store.new.disk c.index_for.new.disk (λ x y r. r) remade_then
    (runs_read g.D.Disk _ _ _ c.in_ok-store.ensures.looks) c.in_ok-index.ensures.runs

pub returns-in_err-index-clause-runs : goal.returns-in_err-index-clause-runs
returns-in_err-index-clause-runs g c =
    runs_then g.D.Disk g.met.D.Disk.follows_trans
    Remade Remade Remade c.args.disk.now c.open_store.new.disk c.index_for.new.disk (λ x y r. r) remade_then
    (runs_read g.D.Disk _ _ _ c.in_ok-store.ensures.looks) c.in_err-index.ensures.runs

pub returns-clause-crashes : goal.returns-clause-crashes
returns-clause-crashes g c = λ told. stays_lawful g.D.Disk _ _ told (returns-clause-runs g c)

pub returns-in_err-index-clause-crashes : goal.returns-in_err-index-clause-crashes
returns-in_err-index-clause-crashes g c = λ told. stays_lawful g.D.Disk _ _ told (returns-in_err-index-clause-runs g c)

-- ---- what it serves

pub returns-then-is_blank-clause-served : goal.returns-then-is_blank-clause-served
returns-then-is_blank-clause-served g c =
    let D = g.D.Disk in
    let new = c.open_store.new.disk in
    let looks = c.in_ok-store.ensures.looks in
    let durable = λ (told : IsTrue D.tells). still_durable g.D.Disk _ _ told (returns-then-is_blank-clause-runs g c) (c.requires.pkg told) in
    record {
      fresh = record { from_one = search rules; indexed = search rules; going = refl };
      quiet = λ told. durable_quiet c.in_ok-store.store (D.files new) (D.left_since new (D.moment new)) (c.in_ok-store.ensures.kept told) (durable told);
      durable = durable;
      index_durable = λ told image left.
          c.requires.idx told image
          (subst (λ (t : ℕ). D.left_since c.args.disk.now t image) looks.moment_stays ((looks.untouched told).images (D.moment new) image left))
          ∙ ap (λ (f : Files). f.idx) (sym (looks.untouched told).same);
      reach = λ told. omega (arith, ap (λ (f : Files). length f.idx) (looks.untouched told).same);
    }

pub returns-clause-served : goal.returns-clause-served
returns-clause-served g c =
    let D = g.D.Disk in
    let new = c.index_for.new.disk in
    let f = D.files in
    let s = c.in_ok-store.ensures in
    let e = c.in_ok-index.ensures in
    let durable = λ (told : IsTrue D.tells). still_durable g.D.Disk _ _ told (returns-clause-runs g c) (c.requires.pkg told) in
    record {
      fresh = record { from_one = search rules; indexed = search rules; going = refl };
      quiet = λ told.
          durable_quiet c.in_ok-store.store (f new) (D.left_since new (D.moment new)) (ap store (e.runs.reads_as told).pkg ∙ s.kept told) (durable told);
      durable = durable;
      index_durable = e.index.durable;
      reach = λ told.
          subst (λ (r : Result Store Damage). ReachesMade (units_needed (f c.args.disk.now).pkg r) (f c.args.disk.now).idx (f new).idx) (sym (s.store told))
          (subst (λ (fs : Files). ReachesMade (units_for (rows (packages fs.pkg c.in_ok-store.store))) fs.idx (f new).idx) (s.looks.untouched told).same
          (e.reach told));
    }

-- ---- a refusal

pub returns-in_err-store-clause-refused : goal.returns-in_err-store-clause-refused
returns-in_err-store-clause-refused g c = if_err c.from_residual.result (λ e other. c.in_err-store.ensures.looks.moment_stays)

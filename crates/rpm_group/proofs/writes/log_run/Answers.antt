use Rattle.std.proofs.Common.{◌≡◌, ℕ, ◌+◌, ◌-◌, ◌<◌, List, ◌∷◌, length, ap, ◌∙◌, arith}
use Rattle.rpm_group.proofs.Vocabulary.{changed_leaves_more, changed_leaves_then, cut_up_one, Files, length-unit, Log, with_units, put_split, Units, units_held}
use Rattle.rpm_group.proofs.Vocabulary.{units_of, with_file, write_leaves}
use Rattle.rpm_group.proofs.Readouts.{on_ok_map}
use Rattle.rpm_group.proofs.Runs.{length-units_held}
use Rattle.rpm_group.proofs.writes.log_run.Goals as goal

one_unit : (head : List ℕ) → length head ≡ 16 → length (units_of head) ≡ 1
one_unit head long = ap length (cut_up_one head long)

-- a head and then the units are an entry
entry_written : (at : ℕ) (head : List ℕ) (units : Units) (old mid new : Files) → length head ≡ 16 → 0 < length units
    → mid ≡ with_file Log (with_units at (units_of head) old.log) old → new ≡ with_file Log (with_units (at + 1) units mid.log) mid
    → new ≡ with_file Log (with_units at (head ∷ units) old.log) old
entry_written at head units old mid new long some first second =
    second
    ∙ ap (λ (f : Files). with_file Log (with_units (at + 1) units f.log) f)
    (first ∙ ap (λ (us : Units). with_file Log (with_units at us old.log) old) (cut_up_one head long))
    ∙ ap (λ (us : Units). with_file Log us old) (put_split at head units old.log some)

pub returns-in_err-write_at-clause-images : goal.returns-in_err-write_at-clause-images
returns-in_err-write_at-clause-images g c = λ told.
    let D = g.D.Disk in
    let head = c.head_of-head.result in
    let one = one_unit head (ap length c.head_of-head.ensures ∙ length-unit _ _ _ _) in
    changed_leaves_more D Log c.args.at (c.args.at + 1) c.args.at (c.args.at + 1 + (c.args.end - c.args.from)) c.args.disk.now
    c.write_at.new.self (omega arith) (omega arith)
    (write_leaves D Log c.args.at (units_of head) (c.args.at + 1) c.args.disk.now c.write_at.new.self (omega (arith, one))
    (c.write_at.ensures.images told) (c.write_at.ensures.time told))

pub returns-clause-images : goal.returns-clause-images
returns-clause-images g c = λ told.
    let D = g.D.Disk in
    let head = c.head_of-head.result in
    let one = one_unit head (ap length c.head_of-head.ensures ∙ length-unit _ _ _ _) in
    let end = c.args.at + 1 + (c.args.end - c.args.from) in
    let mid = c.write_at.new.self in
    changed_leaves_then D Log c.args.at end c.args.disk.now mid c.write_run.new.disk
    (λ image left. g.met.D.Disk.earlier mid (D.moment c.args.disk.now) (D.moment mid) image told c.write_at.ensures.later (omega arith) left)
    (changed_leaves_more D Log c.args.at (c.args.at + 1) c.args.at end c.args.disk.now mid (omega arith) (omega arith)
    (write_leaves D Log c.args.at (units_of head) (c.args.at + 1) c.args.disk.now mid (omega (arith, one))
    (c.write_at.ensures.images told) (c.write_at.ensures.time told)))
    (changed_leaves_more D Log (c.args.at + 1) end c.args.at end mid c.write_run.new.disk (omega arith) (omega arith)
    (c.write_run.ensures.images told))

pub returns-clause-written : goal.returns-clause-written
returns-clause-written g c = on_ok_map c.write_run.result c.write_run.ensures.written
    (λ written told.
    let D = g.D.Disk in
    let head = c.head_of-head.result in
    let n = c.args.end - c.args.from in
    let units = units_held c.args.table.now.items c.args.from n in
    let old : Files = D.files c.args.disk.now in
    entry_written c.args.at head units old (D.files c.write_at.new.self) (D.files c.write_run.new.disk)
    (ap length c.head_of-head.ensures ∙ length-unit _ _ _ _) (omega (arith, length-units_held c.args.table.now.items c.args.from n, c.requires.some))
    (c.in_ok-write_at.ensures.written told) (written told)
    ∙ ap (λ (u : List ℕ). with_file Log (with_units c.args.at (u ∷ units) old.log) old) c.head_of-head.ensures)

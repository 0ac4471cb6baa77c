use Rattle.std.proofs.Common.{[], refl, sym, ◌∙◌, arith}
use Rattle.rpm_change.proofs.Vocabulary.{by_index, course_of_change, EndedOnErr, Erase, erase_fault, erase_one, err_refused, halted_went, line_went, missing_course, none_is}
use Rattle.rpm_change.proofs.Vocabulary.{one_made, one_refused, resumed_database, store_of, state_in, through_none, took, went_as, whole_step}
use Rattle.rpm_change.proofs.Dropped.{some_is}
use Rattle.rpm_change.proofs.Erased.{erasing_whole, kind_of_erasing}
use Rattle.rpm_change.proofs.Gathered.{rows_owed}
use Rattle.rpm_change.proofs.laws.Owing.{owing_none}
use Rattle.rpm_change.proofs.Halted.{erase_halts}
use Rattle.rpm_change.proofs.erase.erase_one.Goals as goal

pub returns-in-Ok-clause-went : goal.returns-in-Ok-clause-went
returns-in-Ok-clause-went g c = λ j.
    let n = c.args.number in
    let held = some_is _ (sym (c.holds.ensures.told (g.D.Disk.files c.args.disk.now).pkg) ∙ c.if-holds.true) in
    let s = state_in g.D.Disk c.args.disk.now c.args.db.now in
    let done = c.in-Ok.ensures in
    let gathers = done.gathers in
    let made = gathers.gathered in
    went_as g.D.Disk {E = EndedOnErr g.E.Sink c.args.err.now c.args.err.now} (course_of_change (Erase n)) (erase_one s j n) (λ told. told)
    (λ told. rw held refl)
    (λ s t e. e)
    (record {
      ended = λ told ot o. record {
        steps = through_none {ot = ot} {et = g.E.Sink.tells} o (took g.E.Sink c.args.err.now);
        failed = refl;
        changes = refl;
        state_is = made.state_is told;
      };
      limits = λ told. by_index (λ i rows.
          one_made i s (Erase n) (store_of c.args.db.now) (store_of c.erase.new.db) (record { failed = 0; changes = 1 }) tt done.causes.2.0 gathers.room
          made.generation (λ is. gathers.full told (rows is)) (omega (arith, done.end told)) (λ is. made.reach told (rows is)));
      whole = λ told whole. rw (done.index told) whole;
      bad = λ told. tt;
      given = λ told. rows_owed (made.rows told);
      left = record {
        carried = record { gathering = made.gathering; stays = done.index; owes = λ told has. made.owes told has };
        indexed = done.left.indexed;
        runs = done.runs;
        disk = record { later = done.cause.later; rose = λ is. absurd cc };
      };
    })

pub halt_of-requires : goal.halt_of-requires
halt_of-requires g c =
    let held = sym c.holds.ensures.held ∙ c.if-holds.true in
    record { halting = erase_halts (resumed_database c.args.db.now) refl c.args.number held c.in-Err.fault c.in-Err.ensures.causes }

pub returns-in-Err-clause-went : goal.returns-in-Err-clause-went
returns-in-Err-clause-went g c = λ j.
    let n = c.args.number in
    let held = some_is _ (sym (c.holds.ensures.told (g.D.Disk.files c.args.disk.now).pkg) ∙ c.if-holds.true) in
    let db = c.args.db.now in
    let s = state_in g.D.Disk c.args.disk.now db in
    let said = c.in-Err.ensures in
    let f = c.in-Err.fault in
    let course = erase_one s j n in
    rw c.halt_of.ensures
    (halted_went g.D.Disk course f _ refl (err_refused g.E.Sink c.args.err.now course f)
    (λ told i rows. rw held (one_refused i s (Erase n) (store_of db) (store_of c.erase.new.db) f
    (erase_fault i (resumed_database db) s n f said.causes (λ is. said.gathers.full told (rows is)))))
    (λ told whole. erasing_whole f said.kinds) [] said.left.bad said.left.indexed said.runs said.cause (λ is. cc))

pub returns-in-Err-clause-kinds : goal.returns-in-Err-clause-kinds
returns-in-Err-clause-kinds g c =
    rw c.halt_of.ensures (kind_of_erasing c.in-Err.fault c.in-Err.ensures.kinds)

pub returns-else-holds-clause-went : goal.returns-else-holds-clause-went
returns-else-holds-clause-went g c = λ j.
    let n = c.args.number in
    let none = none_is _ (sym (c.holds.ensures.told (g.D.Disk.files c.args.disk.now).pkg) ∙ c.if-holds.false) in
    went_as g.D.Disk (missing_course j n) (erase_one (state_in g.D.Disk c.args.disk.now c.args.db.now) j n) (λ told. told) (λ told. rw none refl)
    (λ s t e. e) (line_went g.D.Disk g.met.D.Disk.follows_refl (owing_none g.D.Disk c.requires.gathering) _ _ c.requires.gathering.indexed g.E.Sink
    c.put_missing.result (whole_step j) c.put_missing.ensures)

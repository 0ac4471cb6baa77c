use Rattle.std.proofs.Common.{◌≡◌, true, false, refl, sym, ◌∙◌, arith, nat_lt}
use Rattle.std.proofs.lemmas.Bool.Decides.{nat_tests}
use Rattle.rpm_change.proofs.Vocabulary.{Add, by_index, course_of_change, EndedOnErr, err_refused, halted_went, header_text, line_went, next-state, one_made}
use Rattle.rpm_change.proofs.Vocabulary.{place_fails, resumed_database, store_of, state_in, through_none, took, turn_found, went_as, whole_step}
use Rattle.rpm_change.proofs.Gathered.{rows_owed}
use Rattle.rpm_change.proofs.Imported.{add_limits}
use Rattle.rpm_change.proofs.laws.Owing.{owing_none}
use Rattle.rpm_change.proofs.turn.import_header.Goals as goal

pub returns-then-most-place-clause-went : goal.returns-then-most-place-clause-went
returns-then-most-place-clause-went g c =
    let past : nat_lt c.args.most c.args.place ≡ true = grind (arith, nat_tests) in
    rw past (line_went g.D.Disk g.met.D.Disk.follows_refl (owing_none g.D.Disk c.requires.gathering) _ _ c.requires.gathering.indexed g.E.Sink
    c.put_place.result (whole_step 0) c.put_place.ensures)

pub returns-in-Ok-clause-went : goal.returns-in-Ok-clause-went
returns-in-Ok-clause-went g c =
    let k = c.args.place in
    let within : nat_lt c.args.most k ≡ false = grind (arith, nat_tests) in
    let done = c.in-Ok.ensures in
    let put = done.causes.1 in
    let gathers = done.gathers put.own put.read in
    let made = gathers.gathered in
    let v = store_of c.args.db.now in
    let law = next-state (g.D.Disk.files c.args.disk.now).pkg v in
    went_as g.D.Disk {E = EndedOnErr g.E.Sink c.args.err.now c.args.err.now} (course_of_change (Add put.own.blob))
    (turn_found c.args.most k c.args.blob.now) (λ told. told) (λ told. rw (within, put.read) refl) (λ s t e. e)
    (record {
      ended = λ told ot o. record {
        steps = through_none {ot = ot} {et = g.E.Sink.tells} o (took g.E.Sink c.args.err.now);
        failed = refl;
        changes = refl;
        state_is = made.state_is told;
      };
      limits = λ told. by_index (λ i rows.
          one_made i (state_in g.D.Disk c.args.disk.now c.args.db.now) (Add put.own.blob) v (store_of c.add.new.db) (record { failed = 0; changes = 1 })
          (λ is. done.causes.0 (sym law ∙ is)) put.later.0 gathers.room made.generation
          (λ is. gathers.full told (rows is)) (done.end told) (λ is. made.reach told (rows is)));
      whole = λ told whole. rw (done.index told) whole;
      bad = λ told. tt;
      given = λ told. rows_owed (made.rows told);
      left = record {
        carried = record { gathering = made.gathering; stays = done.index; owes = λ told has. made.owes told has };
        indexed = done.left.indexed;
        runs = done.runs;
        disk = record { later = done.cause.later; rose = λ is. absurd cc };
      };
    })

pub returns-in-Err-BadHeader-clause-went : goal.returns-in-Err-BadHeader-clause-went
returns-in-Err-BadHeader-clause-went g c =
    let D = g.D.Disk in
    let k = c.args.place in
    let within : nat_lt c.args.most k ≡ false = grind (arith, nat_tests) in
    let fault = c.in-Err-BadHeader.fault in
    let said = rw c.in-Err-BadHeader.field-0-is at c.in-Err-BadHeader.ensures in
    let same = said.refused fault refl in
    rw (same.0, same.1, same.2) (went_as D (place_fails k (header_text fault)) (turn_found c.args.most k c.args.blob.now) (λ told. told)
    (λ told. rw (within, said.causes.1) refl) (λ s t e. e)
    (line_went D g.met.D.Disk.follows_refl (owing_none D c.requires.gathering) _ _ c.requires.gathering.indexed g.E.Sink c.put_bad_header.result (whole_step 0)
    c.put_bad_header.ensures))

pub returns-in-Err-clause-went : goal.returns-in-Err-clause-went
returns-in-Err-clause-went g c =
    let said = c.in-Err.ensures in
    let f = c.in-Err.fault in
    let db = c.args.db.now in
    let law = next-state (g.D.Disk.files c.args.disk.now).pkg (store_of db) in
    let within : nat_lt c.args.most c.args.place ≡ false = grind (arith, nat_tests) in
    let course = turn_found c.args.most c.args.place c.args.blob.now in
    halted_went g.D.Disk course f c.halt_of.result c.halt_of.ensures (err_refused g.E.Sink c.args.err.now course f)
    (λ told i rows. rw within (add_limits i (resumed_database db) (state_in g.D.Disk c.args.disk.now db)
    (store_of c.add.new.db) c.args.place c.args.blob.now law f
    said.causes (λ h read. (said.gathers h read).room) (λ is h read. (said.gathers h read).full told (rows is))))
    (λ told whole. said.whole told whole) c.args.batch.now.drops said.left.bad said.left.indexed said.runs said.cause (λ is. cc)

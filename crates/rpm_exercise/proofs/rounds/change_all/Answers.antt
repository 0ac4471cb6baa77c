use Rattle.rpm_exercise.proofs.Vocabulary.{err_is, list_finished, list_stopped, list_unfinished, owing_begun, quiet_stopped, state_in}
use Rattle.rpm_exercise.proofs.Parts.{all_is}
use Rattle.rpm_exercise.proofs.Through.{index_changes}
use Rattle.rpm_exercise.proofs.rounds.change_all.Goals as goal

pub go_rounds-requires-clause-gathering : goal.go_rounds-requires-clause-gathering
go_rounds-requires-clause-gathering g c =
    let b = c.begin-batch.ensures in rw b.same (owing_begun g.D.Disk c.requires.ready b.goes b.order b.sealed b.none).gathering

pub returns-in_err-tally : goal.returns-in_err-tally
returns-in_err-tally g c =
    let all = all_is c.args.n (state_in g.D.Disk c.args.disk.now c.args.db.now) c.saturating_sub-b.ensures (c.next_number.ensures.told _) in
    let b = c.begin-batch.ensures in
    let said = c.in_err-tally.ensures in
    rw (err_is c.from_residual.result c.from_residual.ensures, ← all) (record {
      course = list_stopped g.D.Disk c.requires.ready b.goes b.order b.sealed b.none (λ told. told) (rw b.same at said.course);
      spent = said.spent;
      kinds = said.kinds;
    })

pub returns-in-Ok : goal.returns-in-Ok
returns-in-Ok g c =
    let all = all_is c.args.n (state_in g.D.Disk c.args.disk.now c.args.db.now) c.saturating_sub-b.ensures (c.next_number.ensures.told _) in
    let b = c.begin-batch.ensures in
    let f = c.in-Ok.ensures in
    rw (← all) (record {
      course = list_finished g.D.Disk c.requires.ready b.goes b.order b.sealed b.none (λ told. told) g.met.D.Disk.follows_trans c.finish.new.db
          (rw b.same at c.in_ok-tally.ensures.course) f.left.indexed f.runs f.cause.later f.store f.packages f.has_rows f.whole;
      spent = tt;
      kinds = tt;
    })

pub returns-in-Err : goal.returns-in-Err
returns-in-Err g c =
    let all = all_is c.args.n (state_in g.D.Disk c.args.disk.now c.args.db.now) c.saturating_sub-b.ensures (c.next_number.ensures.told _) in
    let b = c.begin-batch.ensures in
    let f = c.in-Err.ensures in
    let fault = c.in-Err.fault in
    let of = index_changes c.finish.new.db fault f.kinds in
    rw (c.halt_of.ensures, ← all) (record {
      course = list_unfinished g.D.Disk c.requires.ready b.goes b.order b.sealed b.none (λ told. told) g.met.D.Disk.follows_trans c.finish.new.db
          (rw b.same at c.in_ok-tally.ensures.course) f.left.indexed f.runs f.cause.later fault (quiet_stopped fault) f.kinds f.full f.whole
          f.left.bad (λ is. f.cause.rose (cc));
      spent = of.0;
      kinds = of.1;
    })

use Rattle.rpm_change.proofs.Vocabulary.{err_is, out_stopped}
use Rattle.rpm_change.proofs.Erased.{index_rebuilds}
use Rattle.rpm_change.proofs.Halted.{index_halts}
use Rattle.rpm_change.proofs.laws.Owing.{list_finished, list_stopped, list_unfinished, owing_begun}
use Rattle.rpm_change.proofs.rebuilding.drop_all.Goals as goal

pub drop_each-requires : goal.drop_each-requires
drop_each-requires g c =
    let b = c.begin-batch.ensures in
    record { gathering = rw b.same (owing_begun g.D.Disk c.requires.ready b.goes b.order b.sealed b.none).gathering }

pub returns-in_err-tally-clause-went : goal.returns-in_err-tally-clause-went
returns-in_err-tally-clause-went g c =
    let b = c.begin-batch.ensures in
    rw (err_is c.from_residual.result c.from_residual.ensures)
    (list_stopped g.D.Disk c.requires.ready b.goes b.order b.sealed b.none (λ told. told) (rw b.same at c.in_err-tally.ensures.went))

pub returns-in-Ok-clause-went : goal.returns-in-Ok-clause-went
returns-in-Ok-clause-went g c =
    let b = c.begin-batch.ensures in
    let f = c.in-Ok.ensures in
    list_finished g.D.Disk c.requires.ready b.goes b.order b.sealed b.none (λ told. told) g.met.D.Disk.follows_trans c.finish.new.db
    (rw b.same at c.in_ok-tally.ensures.went) f.left.indexed f.runs f.cause.later f.store f.packages f.has_rows f.whole

pub halt_of-requires : goal.halt_of-requires
halt_of-requires g c = record { halting = index_halts c.in-Err.fault c.in-Err.ensures.kinds }

pub returns-in-Err-clause-went : goal.returns-in-Err-clause-went
returns-in-Err-clause-went g c =
    let b = c.begin-batch.ensures in
    let f = c.in-Err.ensures in
    let fault = c.in-Err.fault in
    rw c.halt_of.ensures
    (list_unfinished g.D.Disk c.requires.ready b.goes b.order b.sealed b.none (λ told. told) g.met.D.Disk.follows_trans c.finish.new.db
    (rw b.same at c.in_ok-tally.ensures.went) f.left.indexed f.runs f.cause.later fault
    (out_stopped g.O.Sink c.args.out.now c.drop_each.new.out fault) f.kinds f.full f.whole f.left.bad (λ is. f.cause.rose (cc)))

pub returns-in-Err-clause-kinds : goal.returns-in-Err-clause-kinds
returns-in-Err-clause-kinds g c =
    rw c.halt_of.ensures
    (index_rebuilds c.in-Err.fault c.in-Err.ensures.kinds)

use Rattle.std.proofs.Common.{◌≡◌, ◌+◌, ◌≤◌, true, refl, sym, ap, ◌∙◌, subst, arith}
use Rattle.rpm_tool.proofs.Vocabulary.{request_of, PlainProgress, Files, Idx, inner, is_of_streams, laid_files, log_state, StoreAnswer, Pkg, pkg_read, query_cost, read_to}
use Rattle.rpm_tool.proofs.Vocabulary.{reopened_files, shown_outputs, store, Units, unless_starved, Why}
use Rattle.rpm_effects.specs.declared.answer.Why.TheVariants as why
use Rattle.rpm_commit.proofs.laws.Starved.{starved_streams}
use Rattle.rpm_tool.proofs.Requests.{does_reads, does_starved}
use Rattle.rpm_effects.proofs.laws.Reaching.{through_none}
use Rattle.rpm_tool.proofs.Faults.{hands_none, le_more, le_none}
use Rattle.rpm_tool.proofs.Loading.{opened_as, loaded_sound, below_reads}
use Rattle.rpm_tool.proofs.Unloaded.{load_fault, load_own, load_streams, unloaded}
use Rattle.rpm_tool.proofs.Wanting.{refused_starved, fault_below}
use Rattle.rpm_tool.proofs.loaded.answer_loaded.Goals as goal

pub returns-in-Ok-clause-went : goal.returns-in-Ok-clause-went
returns-in-Ok-clause-went g c = λ told.
    let tree = c.args.format.now in
    let words = c.args.words.now in
    let a = c.args.ask.now in
    let asked = request_of a.mode in
    let files = g.D.Disk.files c.args.disk in
    let file = (reopened_files files).pkg in
    let ov = c.in-Ok.overlay in
    let end = c.answer_unindexed-ended.new.disk in
    let ended = c.answer_unindexed-ended.result in
    let given = unless_starved c.is_starved.result ended in
    let old = shown_outputs g.O.Sink g.E.Sink c.args.out.now c.args.err.now in
    let new = shown_outputs g.O.Sink g.E.Sink c.answer_unindexed-ended.new.out c.answer_unindexed-ended.new.err in
    let start = pkg_read g.D.Disk c.args.disk in
    let below = pkg_read g.D.Disk ov.below in
    let now = pkg_read g.D.Disk end.below in
    let over = below + ov.spared.pkg in
    let over' = now + end.spared.pkg in
    let pkg : (laid_files ov.held (g.D.Disk.files ov.below)).pkg ≡ file = ap (λ (f : Files). f.pkg) (c.in-Ok.ensures.files told) in
    let keeps = c.answer_unindexed-ended.ensures.looks.1.goes_on in
    let opened : StoreAnswer (PlainProgress tree words a file over over') (store file) ended old new =
    subst (λ (u : Units). StoreAnswer (PlainProgress tree words a u over over') (store u) ended old new) pkg (c.answer_unindexed-ended.ensures.went told) in
    rw (c.release.ensures, c.unless_starved-why.ensures) (loaded_sound (PlainProgress tree words a file start now) (store file)
    (log_state files.log) given old new
    (c.in-Ok.ensures.says told)
    (opened_as (PlainProgress tree words a file over over') (PlainProgress tree words a file start now) (store file) ended given old new
    (λ s does. does_starved tree file s words a (λ for. now ≤ start + read_to file words a s for) old new asked c.is_starved.result ended
    (does_reads tree file s words a asked (λ for. over' ≤ over + read_to file words a s for) (λ for. now ≤ start + read_to file words a s for)
    (λ b le. below_reads start below now over over' (read_to file words a s b) (omega (arith, c.in-Ok.ensures.looks.reads.pkg)) le (keeps.reads Pkg))
    ended old new does)) (refused_starved c.is_starved.result ended) opened))

pub returns-in-Ok-clause-reads : goal.returns-in-Ok-clause-reads
returns-in-Ok-clause-reads g c = λ told.
    let file = (reopened_files (g.D.Disk.files c.args.disk)).pkg in
    let ov = c.in-Ok.overlay in
    let end = c.answer_unindexed-ended.new.disk in
    let start = g.D.Disk.bytes_read c.args.disk Pkg in
    let below = g.D.Disk.bytes_read ov.below Pkg in
    let now = g.D.Disk.bytes_read end.below Pkg in
    let pkg : (laid_files ov.held (g.D.Disk.files ov.below)).pkg ≡ file = ap (λ (f : Files). f.pkg) (c.in-Ok.ensures.files told) in
    let keeps = c.answer_unindexed-ended.ensures.looks.1.goes_on in
    let over = below + ov.spared.pkg in
    let over' = now + end.spared.pkg in
    let le : over' ≤ over + query_cost c.args.words.now c.args.ask.now file =
    subst (λ (u : Units). over' ≤ over + query_cost c.args.words.now c.args.ask.now u) pkg (c.answer_unindexed-ended.ensures.reads told) in
    rw c.release.ensures (below_reads start below now over over' (query_cost c.args.words.now c.args.ask.now file)
    (omega (arith, c.in-Ok.ensures.looks.reads.pkg)) le (keeps.reads Pkg))

pub returns-in-Ok-clause-looks : goal.returns-in-Ok-clause-looks
returns-in-Ok-clause-looks g c =
    let ov = c.in-Ok.overlay in
    let end = c.answer_unindexed-ended.new.disk in
    let keeps = c.answer_unindexed-ended.ensures.looks.1.goes_on in
    let first = c.in-Ok.ensures.looks in
    let over = c.answer_unindexed-ended.ensures.looks.1.reads.idx in
    rw c.release.ensures (record {
      untouched = λ told.
          let f = first.untouched told in
          record {
            same = keeps.same told ∙ f.same;
            images = λ t i x. f.images t i (keeps.images told t i x);
            kept = λ t i x. keeps.kept told t i (f.kept t i x);
          };
      moment_stays = keeps.moment_same ∙ first.moment_stays;
      index_unread = omega (arith, keeps.reads Idx, over, first.reads.idx);
      goes_on = g.met.D.Disk.follows_trans c.args.disk ov.below end.below first.goes_on keeps.below;
    })

pub returns-in-Ok-clause-disk : goal.returns-in-Ok-clause-disk
returns-in-Ok-clause-disk g c =
    let ov = c.in-Ok.overlay in
    let end = c.answer_unindexed-ended.new.disk in
    let keeps = c.answer_unindexed-ended.ensures.looks.1.goes_on in
    rw c.release.ensures (record {
      later = omega (arith, c.in-Ok.ensures.cause.later, keeps.later);
      rose = λ is. fault_below (g.D.Disk.faults c.args.disk) (g.D.Disk.faults ov.below) (g.D.Disk.faults end.below) ov.starved end.starved
          c.is_starved.result c.answer_unindexed-ended.result (sym c.unless_starved-why.ensures ∙ is) c.in-Ok.ensures.cause.later
          c.in-Ok.ensures.loaded.starved c.is_starved.ensures c.answer_unindexed-ended.ensures.disk.rose;
    })

-- want of memory is no fault of a sink
pub returns-in-Ok-clause-hands : goal.returns-in-Ok-clause-hands
returns-in-Ok-clause-hands g c =
    let hands = c.answer_unindexed-ended.ensures.hands in
    let ended = c.answer_unindexed-ended.result in
    let kept = λ (w : Why) (stream : is_of_streams w ≡ true) (is : c.unless_starved-why.result ≡ w).
    starved_streams c.is_starved.result ended (ap is_of_streams (sym c.unless_starved-why.ensures ∙ is) ∙ stream) ∙ sym c.unless_starved-why.ensures ∙ is in
    record {
      out = record {
        cause = record { later = hands.out.cause.later; rose = λ is. hands.out.cause.rose (kept why.OutFault refl is) };
        goes_on = hands.out.goes_on;
      };
      err = record {
        cause = record { later = hands.err.cause.later; rose = λ is. hands.err.cause.rose (kept why.ErrFault refl is) };
        goes_on = hands.err.goes_on;
      };
    }

-- ---- what couldn't be loaded

pub returns-in-Err-clause-went : goal.returns-in-Err-clause-went
returns-in-Err-clause-went g c = λ told.
    let files = g.D.Disk.files c.args.disk in
    let refused = c.in-Err.refused in
    let x = shown_outputs g.O.Sink g.E.Sink c.args.out.now c.args.err.now in
    rw c.why_of_load.ensures (unloaded c.args.format.now c.args.words.now c.args.ask.now (reopened_files files).pkg (pkg_read g.D.Disk c.args.disk)
    (pkg_read g.D.Disk refused.disk) x (through_none {ot = g.O.Sink.tells} {et = g.E.Sink.tells} (g.O.Sink.taken (inner c.args.out.now))
    (g.E.Sink.taken (inner c.args.err.now))) (log_state files.log) refused.why (c.in-Err.ensures.says told))

pub returns-in-Err-clause-reads : goal.returns-in-Err-clause-reads
returns-in-Err-clause-reads g c = λ told.
    le_more (pkg_read g.D.Disk c.in-Err.refused.disk) (pkg_read g.D.Disk c.args.disk)
    (query_cost c.args.words.now c.args.ask.now (reopened_files (g.D.Disk.files c.args.disk)).pkg) c.in-Err.ensures.looks.reads.pkg

pub returns-in-Err-clause-done : goal.returns-in-Err-clause-done
returns-in-Err-clause-done g c = rw c.why_of_load.ensures (load_own c.in-Err.refused.why)

pub returns-in-Err-clause-looks : goal.returns-in-Err-clause-looks
returns-in-Err-clause-looks g c =
    let said = c.in-Err.ensures.looks in
    record {
      untouched = said.untouched;
      moment_stays = said.moment_stays;
      index_unread = le_none (g.D.Disk.bytes_read c.in-Err.refused.disk Idx) (g.D.Disk.bytes_read c.args.disk Idx) said.reads.idx;
      goes_on = said.goes_on;
    }

pub returns-in-Err-clause-disk : goal.returns-in-Err-clause-disk
returns-in-Err-clause-disk g c =
    let cause = c.in-Err.ensures.cause in
    record { later = cause.later; rose = λ is. cause.rose (load_fault c.in-Err.refused.why (sym c.why_of_load.ensures ∙ is)) }

pub returns-in-Err-clause-hands : goal.returns-in-Err-clause-hands
returns-in-Err-clause-hands g c =
    hands_none g.O.Sink g.E.Sink g.met.O.Sink.follows_refl g.met.E.Sink.follows_refl c.why_of_load.result
    (ap is_of_streams c.why_of_load.ensures ∙ load_streams c.in-Err.refused.why) c.args.out.now c.args.err.now

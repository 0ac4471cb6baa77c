use Rattle.rpm_query.proofs.Vocabulary.{argument_reach, Files, inner, is_indexed, IsOfChain, lent, packages_in, question_of, word_at}
use Rattle.std.proofs.Common.{map, sym, ap, ◌∙◌, subst, Err, arith}
use Rattle.rpm_effects.proofs.laws.Joins.{hand_then}
use Rattle.rpm_effects.proofs.laws.Halts.{of_out, of_err}
use Rattle.rpm_print.proofs.laws.Peeking.{peeks_none, peeks_then}
use Rattle.rpm_query.proofs.Nexts.{held_still, recalled_here}
use Rattle.rpm_query.proofs.laws.Sums.{before_some, get_map}
use Rattle.rpm_query.proofs.Turns.{few_more, turned_none, turned_more, turned_stop, part_here, reads_here, read_more, read_sum, read_by}
use Rattle.rpm_query.proofs.laws.Unbroken.{chains_of}
use Rattle.rpm_query.proofs.querying.query_each.Goals as goal

pub loop-k-init : goal.loop-k-init
loop-k-init g c = record {
  looks = peeks_none g.D.Disk g.met.D.Disk.follows_refl;
  reads = λ told rows. omega arith;
  recalls = λ told. c.with_longest-recent.ensures (packages_in g.D.Disk c.args.disk.now c.args.db.now);
  disk = omega arith;
  out = omega arith;
  err = omega arith;
  out_rest = g.met.O.Sink.follows_refl (inner c.args.out.now);
  err_rest = g.met.E.Sink.follows_refl (inner c.args.err.now);
  few = omega arith;
  turned = λ told rows. turned_none;
}

pub loop-k-preserved : goal.loop-k-preserved
loop-k-preserved g c =
    let inv = c.loop-k.invariant in
    let done = c.in-Ok.ensures in
    record {
      looks = peeks_then g.D.Disk g.met.D.Disk.follows_trans inv.looks done.looks;
      reads = λ told rows. read_more _ _ _ _ _ _ _ c.argument.ensures (inv.reads told rows)
          (reads_here _ _ _ _ _ (inv.looks.untouched told).same (λ there. rw (c.chosen.ensures, c.text_at-text.ensures) at (done.reads told there)) rows);
      recalls = λ told. recalled_here _ (inv.looks.untouched told).same c.loop-k.recent c.answer.new.recent (done.recalls told) (inv.recalls told);
      disk = omega (arith, inv.disk, done.disk.later);
      out = omega (arith, inv.out, done.hands.out.cause.later);
      err = omega (arith, inv.err, done.hands.err.cause.later);
      out_rest = g.met.O.Sink.follows_trans (inner c.args.out.now) (inner c.loop-k.out) (inner c.answer.new.out) inv.out_rest done.hands.out.goes_on;
      err_rest = g.met.E.Sink.follows_trans (inner c.args.err.now) (inner c.loop-k.err) (inner c.answer.new.err) inv.err_rest done.hands.err.goes_on;
      few = rw c.count-failed.ensures (few_more c.in-Ok.fails c.loop-k.failed c.loop-k.k inv.few);
      turned = λ told rows. rw c.count-failed.ensures (turned_more (inv.turned told rows) c.argument.ensures
          (part_here _ _ _ _ _ (inv.looks.untouched told).same _ _ _
          (λ there. rw (c.chosen.ensures, c.after.ensures, c.text_at-text.ensures) at (done.went told there
          (held_still _ (inv.looks.untouched told).same c.loop-k.recent (inv.recalls told)) c.loop-k.k)) rows));
    }

-- ---- one that stops

pub returns-in-Err-clause-went : goal.returns-in-Err-clause-went
returns-in-Err-clause-went g c = λ told rows.
    let inv = c.loop-k.invariant in
    rw c.from.ensures (turned_stop (inv.turned told rows) c.argument.ensures _ (read_by _ _ _ _ _ _ _ c.argument.ensures (inv.reads told rows))
    (part_here _ _ _ _ _ (inv.looks.untouched told).same _ _ _
    (λ there. rw (c.chosen.ensures, c.after.ensures, c.text_at-text.ensures) at (c.in-Err.ensures.went told there
    (held_still _ (inv.looks.untouched told).same c.loop-k.recent (inv.recalls told)) c.loop-k.k)) rows))

pub returns-in-Err-clause-looks : goal.returns-in-Err-clause-looks
returns-in-Err-clause-looks g c = peeks_then g.D.Disk g.met.D.Disk.follows_trans c.loop-k.invariant.looks c.in-Err.ensures.looks

pub returns-in-Err-clause-hands : goal.returns-in-Err-clause-hands
returns-in-Err-clause-hands g c =
    let inv = c.loop-k.invariant in
    let last = c.in-Err.ensures.hands in
    record {
      out = hand_then g.O.Sink g.met.O.Sink.follows_trans c.args.out.now c.loop-k.out c.answer.new.out inv.out inv.out_rest
          (λ is. ap Err (of_out c.in-Err.halt (sym c.from.ensures ∙ is))) last.out;
      err = hand_then g.E.Sink g.met.E.Sink.follows_trans c.args.err.now c.loop-k.err c.answer.new.err inv.err inv.err_rest
          (λ is. ap Err (of_err c.in-Err.halt (sym c.from.ensures ∙ is))) last.err;
    }

pub returns-in-Err-clause-reads : goal.returns-in-Err-clause-reads
returns-in-Err-clause-reads g c = λ told rows.
    let inv = c.loop-k.invariant in
    read_sum _ _ _ _ _ _ _ c.argument.ensures (inv.reads told rows) (reads_here _ _ _ _ _ (inv.looks.untouched told).same
    (λ there. rw (c.chosen.ensures, c.text_at-text.ensures) at (c.in-Err.ensures.reads told there)) rows)

pub returns-in-Err-clause-bad_index : goal.returns-in-Err-clause-bad_index
returns-in-Err-clause-bad_index g c = λ told.
    let f = word_at c.args.words.now in
    let args = c.args.ask.now.arguments in
    let word = c.argument.result in
    let chosen = c.args.ask.now.chosen in
    let fault = subst (λ (fs : Files). IsOfChain (question_of chosen (lent (f word))) fs.idx c.in-Err.halt) (c.loop-k.invariant.looks.untouched told).same
    (rw (c.chosen.ensures, c.text_at-text.ensures) at (c.in-Err.ensures.bad_index told)) in
    rw c.from.ensures (chains_of chosen (map f args) (g.D.Disk.files c.args.disk.now).idx c.loop-k.k (f word) c.in-Err.halt
    (get_map f args c.loop-k.k word c.argument.ensures) fault)

-- ---- all of them

pub returns-then-failed-eq0-clause-reads : goal.returns-then-failed-eq0-clause-reads
returns-then-failed-eq0-clause-reads g c = λ told rows.
    let over = argument_reach (is_indexed c.args.db.now) (packages_in g.D.Disk c.args.disk.now c.args.db.now) c.args.ask.now.chosen in
    omega (arith, c.loop-k.invariant.reads told rows, before_some (map over (map (word_at c.args.words.now) c.args.ask.now.arguments)) c.args.db.now c.loop-k.k)

pub returns-clause-reads : goal.returns-clause-reads
returns-clause-reads g c = λ told rows.
    let over = argument_reach (is_indexed c.args.db.now) (packages_in g.D.Disk c.args.disk.now c.args.db.now) c.args.ask.now.chosen in
    omega (arith, c.loop-k.invariant.reads told rows, before_some (map over (map (word_at c.args.words.now) c.args.ask.now.arguments)) c.args.db.now c.loop-k.k)

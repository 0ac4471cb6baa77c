use Rattle.rpm_query.proofs.Vocabulary.{Halt, IsOfChain, missing_part, packages_in, picks, Selection, shown_outputs, whole_step}
use Rattle.std.proofs.Common.{◌≡◌, Option, Some, Err, refl, sym, ◌∙◌, subst, arith}
use Rattle.std.proofs.lemmas.Result.{err_from_is_err_and}
use Rattle.rpm_effects.proofs.laws.Joins.{hand_then}
use Rattle.rpm_query.proofs.laws.Answering.{answered_done, answered_halt, answered_missed, answered_stop}
use Rattle.rpm_effects.proofs.laws.Parts.{part_reads}
use Rattle.rpm_query.proofs.Looked.{both_read}
use Rattle.rpm_query.proofs.Nexts.{any_here, recalled_here}
use Rattle.rpm_query.proofs.Picking.{picking_part, picking_peeks, picking_peeks_both, picking_reads}
use Rattle.rpm_query.proofs.Questions.{picked_is, chain_same}
use Rattle.rpm_query.proofs.laws.Unbroken.{part_unbroken, chain_unbroken, chain_of}
use Rattle.rpm_query.proofs.answering.answer.Goals as goal

-- ---- no question

pub returns-in-None-clause-went : goal.returns-in-None-clause-went
returns-in-None-clause-went g c = λ told rows holds j.
    let old = shown_outputs g.O.Sink g.E.Sink c.args.out.now c.args.err.now in
    let new = shown_outputs g.O.Sink g.E.Sink c.put_missing_part.new.out c.put_missing_part.new.err in
    rw (picked_is (packages_in g.D.Disk c.args.disk.now c.args.db.now) c.args.chosen c.args.text
    (sym c.question_of.ensures ∙ c.in-None.is))
    (part_reads (missing_part c.args.chosen j c.args.text.now) c.put_missing_part.result old new (λ b. b ≡ whole_step j) _
    (λ b is. rw is (refl, omega arith)) (rw c.as_bytes.ensures.value at (c.put_missing_part.ensures.part j)))

pub returns-in-None-clause-bad_index : goal.returns-in-None-clause-bad_index
returns-in-None-clause-bad_index g c = λ told. chain_unbroken _ _ c.put_missing_part.result (part_unbroken (c.put_missing_part.ensures.part 0))

-- ---- no picker

pub returns-in-Err-clause-bad_index : goal.returns-in-Err-clause-bad_index
returns-in-Err-clause-bad_index g c = λ told.
    let idx = (g.D.Disk.files c.args.disk.now).idx in
    let here = subst (λ (w : Halt). IsOfChain (Some c.in-Some.selection) idx w) (sym c.halt_of_pick.ensures.value)
    (chain_of c.in-Some.selection idx c.in-Err.fault (c.in-Err.ensures.asks.broken told)) in
    chain_same c.args.chosen c.args.text idx (Err c.halt_of_pick.result)
    (subst (λ (asked : Option Selection). IsOfChain asked idx c.halt_of_pick.result) (sym c.in-Some.is ∙ c.question_of.ensures) here)

-- ---- not all was printed

pub returns-in_err-printed-clause-went : goal.returns-in_err-printed-clause-went
returns-in_err-printed-clause-went g c =
    let said = c.in-Ok.ensures in
    let p = err_from_is_err_and c.from_residual.result c.from_residual.ensures.1 in
    rw (p.1, p.2) (picking_part g.D.Disk _ _ _ (sym c.question_of.ensures ∙ c.in-Some.is) said.asks.looks said.reach said.serves _ _ _
    c.args.recent.now (λ told serves holds j. answered_stop _ _ _ _ _ (picks (packages_in g.D.Disk c.new.new.disk c.args.db.now) c.in-Some.selection)
    (λ b read. (read.0, omega (arith, read.1))) (c.in_err-printed.ensures.went told serves holds j)))

pub returns-in_err-printed-clause-recalls : goal.returns-in_err-printed-clause-recalls
returns-in_err-printed-clause-recalls g c = λ told.
    recalled_here _ (c.in-Ok.ensures.asks.looks.untouched told).same c.args.recent.now c.print_above.new.recent (c.in_err-printed.ensures.recalls told)

pub returns-in_err-printed-clause-reads : goal.returns-in_err-printed-clause-reads
returns-in_err-printed-clause-reads g c =
    picking_reads g.D.Disk _ _ _ (sym c.question_of.ensures ∙ c.in-Some.is) c.in-Ok.ensures.asks.looks c.in-Ok.ensures.reach
    (omega (arith, c.in_err-printed.ensures.reads))

pub returns-in_err-printed-clause-looks : goal.returns-in_err-printed-clause-looks
returns-in_err-printed-clause-looks g c =
    picking_peeks g.D.Disk g.met.D.Disk.follows_trans c.args.db.now c.in-Some.selection c.in-Ok.ensures.asks.looks
    c.in-Ok.ensures.unread c.in_err-printed.ensures.looks

-- ---- it isn't known whether some are picked

pub returns-in_err-any-clause-went : goal.returns-in_err-any-clause-went
returns-in_err-any-clause-went g c =
    let said = c.in-Ok.ensures in
    let p = err_from_is_err_and c.from_residual-in_err-any.result c.from_residual-in_err-any.ensures.1 in
    rw (p.1, p.2) (picking_part g.D.Disk _ _ _ (sym c.question_of.ensures ∙ c.in-Some.is) said.asks.looks said.reach said.serves _ _ _
    c.args.recent.now (λ told serves holds j. answered_halt _ _ _ _ _ (picks (packages_in g.D.Disk c.new.new.disk c.args.db.now) c.in-Some.selection)
    c.in_err-any.ensures.class (c.in_ok-printed.ensures.went told serves holds j)))

pub returns-in_err-any-clause-recalls : goal.returns-in_err-any-clause-recalls
returns-in_err-any-clause-recalls g c = λ told.
    recalled_here _ (c.in-Ok.ensures.asks.looks.untouched told).same c.args.recent.now c.print_above.new.recent (c.in_ok-printed.ensures.recalls told)

pub returns-in_err-any-clause-reads : goal.returns-in_err-any-clause-reads
returns-in_err-any-clause-reads g c =
    picking_reads g.D.Disk _ _ _ (sym c.question_of.ensures ∙ c.in-Some.is) c.in-Ok.ensures.asks.looks c.in-Ok.ensures.reach
    (both_read c.in-Ok.picker c.args.db.now c.args.after _ _ c.in_ok-printed.ensures.reads c.in_err-any.ensures.reads)

pub returns-in_err-any-clause-looks : goal.returns-in_err-any-clause-looks
returns-in_err-any-clause-looks g c =
    picking_peeks_both g.D.Disk g.met.D.Disk.follows_trans c.args.db.now c.in-Some.selection c.in-Ok.ensures.asks.looks
    c.in-Ok.ensures.unread c.in_ok-printed.ensures.looks c.in_err-any.ensures.looks

-- ---- some are picked

pub returns-then-any-clause-went : goal.returns-then-any-clause-went
returns-then-any-clause-went g c =
    let said = c.in-Ok.ensures in
    let first = c.in_ok-printed.ensures in
    picking_part g.D.Disk _ _ _ (sym c.question_of.ensures ∙ c.in-Some.is) said.asks.looks said.reach said.serves _ _ _
    c.args.recent.now (λ told serves holds j. answered_done _ _ _ _ _ (picks (packages_in g.D.Disk c.new.new.disk c.args.db.now) c.in-Some.selection)
    (sym (any_here _ _ _ c.in-Ok.picker (first.looks.untouched told).same (c.in_ok-any.ensures.told told) serves
    (first.some told serves holds)) ∙ c.if-any.true)
    (first.went told serves holds j))

pub returns-then-any-clause-recalls : goal.returns-then-any-clause-recalls
returns-then-any-clause-recalls g c = λ told.
    recalled_here _ (c.in-Ok.ensures.asks.looks.untouched told).same c.args.recent.now c.print_above.new.recent (c.in_ok-printed.ensures.recalls told)

pub returns-then-any-clause-reads : goal.returns-then-any-clause-reads
returns-then-any-clause-reads g c =
    picking_reads g.D.Disk _ _ _ (sym c.question_of.ensures ∙ c.in-Some.is) c.in-Ok.ensures.asks.looks c.in-Ok.ensures.reach
    (both_read c.in-Ok.picker c.args.db.now c.args.after _ _ c.in_ok-printed.ensures.reads c.in_ok-any.ensures.reads)

pub returns-then-any-clause-looks : goal.returns-then-any-clause-looks
returns-then-any-clause-looks g c =
    picking_peeks_both g.D.Disk g.met.D.Disk.follows_trans c.args.db.now c.in-Some.selection c.in-Ok.ensures.asks.looks
    c.in-Ok.ensures.unread c.in_ok-printed.ensures.looks c.in_ok-any.ensures.looks

-- ---- none is

pub returns-clause-went : goal.returns-clause-went
returns-clause-went g c =
    let said = c.in-Ok.ensures in
    let first = c.in_ok-printed.ensures in
    picking_part g.D.Disk _ _ _ (sym c.question_of.ensures ∙ c.in-Some.is) said.asks.looks said.reach said.serves _ _ _
    c.args.recent.now (λ told serves holds j. answered_missed _ _ _ _ _ (picks (packages_in g.D.Disk c.new.new.disk c.args.db.now) c.in-Some.selection)
    (sym (any_here _ _ _ c.in-Ok.picker (first.looks.untouched told).same (c.in_ok-any.ensures.told told) serves
    (first.some told serves holds)) ∙ c.if-any.false)
    (first.went told serves holds j) (refl, both_read c.in-Ok.picker c.args.db.now c.args.after _ _ first.reads c.in_ok-any.ensures.reads)
    (rw c.as_bytes-2.ensures.value at (c.put_missing_part-2.ensures.part j)))

pub returns-clause-recalls : goal.returns-clause-recalls
returns-clause-recalls g c = λ told.
    recalled_here _ (c.in-Ok.ensures.asks.looks.untouched told).same c.args.recent.now c.print_above.new.recent (c.in_ok-printed.ensures.recalls told)

pub returns-clause-reads : goal.returns-clause-reads
returns-clause-reads g c =
    picking_reads g.D.Disk _ _ _ (sym c.question_of.ensures ∙ c.in-Some.is) c.in-Ok.ensures.asks.looks c.in-Ok.ensures.reach
    (both_read c.in-Ok.picker c.args.db.now c.args.after _ _ c.in_ok-printed.ensures.reads c.in_ok-any.ensures.reads)

pub returns-clause-bad_index : goal.returns-clause-bad_index
returns-clause-bad_index g c = λ told. chain_unbroken _ _ c.put_missing_part-2.result (part_unbroken (c.put_missing_part-2.ensures.part 0))

pub returns-clause-looks : goal.returns-clause-looks
returns-clause-looks g c =
    picking_peeks_both g.D.Disk g.met.D.Disk.follows_trans c.args.db.now c.in-Some.selection c.in-Ok.ensures.asks.looks
    c.in-Ok.ensures.unread c.in_ok-printed.ensures.looks c.in_ok-any.ensures.looks

pub returns-clause-hands : goal.returns-clause-hands
returns-clause-hands g c =
    let first = c.in_ok-printed.ensures.hands in
    let last = c.put_missing_part-2.ensures.hands in
    record {
      out = hand_then g.O.Sink g.met.O.Sink.follows_trans c.args.out.now c.print_above.new.out c.put_missing_part-2.new.out
          first.out.cause.later first.out.goes_on (λ is. is) last.out;
      err = hand_then g.E.Sink g.met.E.Sink.follows_trans c.args.err.now c.print_above.new.err c.put_missing_part-2.new.err
          first.err.cause.later first.err.goes_on (λ is. is) last.err;
    }

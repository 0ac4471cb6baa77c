use Rattle.rpm_query.proofs.Vocabulary.{Bearer, entry_in, Halt, inner, next_picked, packages_in, pkg_read, PrintedPackages, reach_some}
use Rattle.rpm_query.proofs.Vocabulary.{ReadsIn, shown_outputs, step_by}
use Rattle.std.proofs.Common.{◌≡◌, ◌<◌, Bool, Result, Ok, Err, Some, None, refl, sym, ap, ◌∙◌, subst, arith, rules}
use Rattle.std.proofs.lemmas.Result.{err_from_is_err_and}
use Rattle.rpm_effects.specs.declared.tally.Halt.TheVariants as halt
use Rattle.rpm_query.proofs.Looked.{look_within, looks_next, looks_rest, looks_within, rest_read}
use Rattle.rpm_query.proofs.Nexts.{next_here, printed_none, printed_next, printed_last, recalled_here, some_last, printed_stops}
use Rattle.rpm_print.proofs.laws.Printed.{bearer-step_by, number-entry}
use Rattle.rpm_print.proofs.laws.Reached.{reach_then}
use Rattle.rpm_query.proofs.laws.Unbroken.{step_unbroken}
use Rattle.rpm_query.proofs.printing.print_above.Goals as goal

pub loop-next-init : goal.loop-next-init
loop-next-init g c = record {
  later = omega arith;
  looks = search rules;
  reads = omega arith;
  recalls = λ told holds. holds;
  disk = omega arith;
  out = omega arith;
  err = omega arith;
  out_rest = g.met.O.Sink.follows_refl (inner c.args.out.now);
  err_rest = g.met.E.Sink.follows_refl (inner c.args.err.now);
  printed = λ told serves holds. printed_none;
}

pub loop-next-preserved : goal.loop-next-preserved
loop-next-preserved g c =
    let d = g.D.Disk in
    let db = c.args.db.now in
    let r = c.args.picker.now in
    let n = c.loop-next.number in
    let m = c.in-Ok-Some.next in
    let inv = c.loop-next.invariant in
    let p = c.in-Some.picked.now in
    let said = c.in-Ok-Some.ensures in
    let held = c.in-Some.ensures in
    let printed = c.print_picked.ensures in
    let had = c.loop-next.recent in
    let has = c.next_number_after.new.recent in
    let lt : n < m = rw c.in-Ok-Some.field-0-is at said.rises in
    record {
      later = omega (arith, inv.later, lt);
      looks = looks_next d g.met.D.Disk.follows_trans db inv.later inv.looks lt (look_within d (rw c.in-Ok-Some.field-0-is at said.within) said.asks.looks);
      reads = reach_then r db _ _ _ {n = n} {m = m} (omega (arith, lt)) inv.reads (rw c.in-Ok-Some.field-0-is at said.asks.looks.reads.pkg);
      recalls = λ told holds. recalled_here _ (inv.looks.untouched told).same had has (said.recalls told) (inv.recalls told holds);
      disk = omega (arith, inv.disk, said.asks.cause.later);
      out = omega (arith, inv.out, printed.hands.out.cause.later);
      err = omega (arith, inv.err, printed.hands.err.cause.later);
      out_rest = g.met.O.Sink.follows_trans (inner c.args.out.now) (inner c.loop-next.out) (inner c.print_picked.new.out) inv.out_rest
          printed.hands.out.goes_on;
      err_rest = g.met.E.Sink.follows_trans (inner c.args.err.now) (inner c.loop-next.err) (inner c.print_picked.new.err) inv.err_rest
          printed.hands.err.goes_on;
      printed = λ told serves holds.
          let all = packages_in d c.args.disk.now db in
          let sel = c.args.selection.now in
          let kept = inv.recalls told holds in
          let same = (inv.looks.untouched told).same in
          let number = next_here sel _ n _ same had (Ok (Some m)) (rw c.in-Ok-Some.field-0-is at (said.told told)) serves kept in
          let next = held.next all sel n (recalled_here _ same had has (said.recalls told) kept) number in
          printed_next (inv.printed told serves holds) (number-entry p ∙ held.number) (next_picked all sel n (entry_in p) next.0 next.1)
          (λ j. rw c.in_ok-to_out-in-Ok-Some.was at (printed.step j));
    }

-- ---- none is left

pub returns-in-Ok-None-clause-went : goal.returns-in-Ok-None-clause-went
returns-in-Ok-None-clause-went g c = λ told serves holds j.
    let inv = c.loop-next.invariant in
    printed_last (inv.printed told serves holds)
    (next_here _ _ c.loop-next.number _ (inv.looks.untouched told).same c.loop-next.recent (Ok None)
    (rw c.in-Ok-None.field-0-is at (c.in-Ok-None.ensures.told told)) serves (inv.recalls told holds)) j

pub returns-in-Ok-None-clause-some : goal.returns-in-Ok-None-clause-some
returns-in-Ok-None-clause-some g c = λ told serves holds.
    let inv = c.loop-next.invariant in
    some_last (inv.printed told serves holds)
    (next_here _ _ c.loop-next.number _ (inv.looks.untouched told).same c.loop-next.recent (Ok None)
    (rw c.in-Ok-None.field-0-is at (c.in-Ok-None.ensures.told told)) serves (inv.recalls told holds))

pub returns-in-Ok-None-clause-recalls : goal.returns-in-Ok-None-clause-recalls
returns-in-Ok-None-clause-recalls g c = λ told holds.
    let inv = c.loop-next.invariant in
    recalled_here _ (inv.looks.untouched told).same c.loop-next.recent c.next_number_after.new.recent (c.in-Ok-None.ensures.recalls told)
    (inv.recalls told holds)

pub returns-in-Ok-None-clause-reads : goal.returns-in-Ok-None-clause-reads
returns-in-Ok-None-clause-reads g c =
    rest_read c.args.picker.now c.args.db.now c.loop-next.number _ _ c.args.after c.loop-next.invariant.reads
    (rw c.in-Ok-None.field-0-is at c.in-Ok-None.ensures.asks.looks.reads.pkg)

pub returns-in-Ok-None-clause-looks : goal.returns-in-Ok-None-clause-looks
returns-in-Ok-None-clause-looks g c =
    let inv = c.loop-next.invariant in
    looks_rest g.D.Disk g.met.D.Disk.follows_trans c.args.db.now inv.later inv.looks
    (look_within g.D.Disk (rw c.in-Ok-None.field-0-is at c.in-Ok-None.ensures.within) c.in-Ok-None.ensures.asks.looks)

-- ---- the next one isn't found

pub returns-in-Err-clause-recalls : goal.returns-in-Err-clause-recalls
returns-in-Err-clause-recalls g c = λ told holds.
    let inv = c.loop-next.invariant in
    recalled_here _ (inv.looks.untouched told).same c.loop-next.recent c.next_number_after.new.recent (c.in-Err.ensures.recalls told)
    (inv.recalls told holds)

pub returns-in-Err-clause-reads : goal.returns-in-Err-clause-reads
returns-in-Err-clause-reads g c =
    rest_read c.args.picker.now c.args.db.now c.loop-next.number _ _ c.args.after c.loop-next.invariant.reads c.in-Err.ensures.asks.looks.reads.pkg

pub returns-in-Err-clause-looks : goal.returns-in-Err-clause-looks
returns-in-Err-clause-looks g c =
    looks_rest g.D.Disk g.met.D.Disk.follows_trans c.args.db.now c.loop-next.invariant.later c.loop-next.invariant.looks
    (look_within g.D.Disk c.in-Err.ensures.within c.in-Err.ensures.asks.looks)

-- ---- its step stops

pub returns-in_err-to_out-in-Ok-Some-clause-went : goal.returns-in_err-to_out-in-Ok-Some-clause-went
returns-in_err-to_out-in-Ok-Some-clause-went g c = λ told serves holds j.
    let d = g.D.Disk in
    let db = c.args.db.now in
    let r = c.args.picker.now in
    let n = c.loop-next.number in
    let m = c.in-Ok-Some.next in
    let inv = c.loop-next.invariant in
    let p = c.in-Some.picked.now in
    let said = c.in-Ok-Some.ensures in
    let held = c.in-Some.ensures in
    let all = packages_in d c.args.disk.now db in
    let sel = c.args.selection.now in
    let kept = inv.recalls told holds in
    let reads = ReadsIn j c.args.after r db (pkg_read d c.args.disk.now) (pkg_read d c.next_number_after.new.disk) in
    let had = c.loop-next.recent in
    let still = (inv.looks.untouched told).same in
    let number = next_here sel _ n _ still had (Ok (Some m)) (rw c.in-Ok-Some.field-0-is at (said.told told)) serves kept in
    let next = held.next all sel n (recalled_here _ still had c.next_number_after.new.recent (said.recalls told) kept) number in
    let lt : n < m = rw c.in-Ok-Some.field-0-is at said.rises in
    let read = reach_then r db _ _ _ {n = n} {m = m} (omega (arith, lt)) inv.reads (rw c.in-Ok-Some.field-0-is at said.asks.looks.reads.pkg) in
    let same : (entry_in p).0 ≡ m = number-entry p ∙ held.number in
    let q = err_from_is_err_and c.from_residual.result c.from_residual.ensures.1 in
    rw (q.1, q.2) (printed_stops (inv.printed told serves holds) (next_picked all sel n (entry_in p) next.0 next.1) j
    (subst (λ (b : Bearer). reads b) (sym (bearer-step_by c.args.request c.args.format.now j (entry_in p))) (refl, rw same read))
    (rw c.in_err-to_out-in-Ok-Some.was at (c.print_picked.ensures.step j)))

pub returns-in_err-to_out-in-Ok-Some-clause-recalls : goal.returns-in_err-to_out-in-Ok-Some-clause-recalls
returns-in_err-to_out-in-Ok-Some-clause-recalls g c = λ told holds.
    let inv = c.loop-next.invariant in
    recalled_here _ (inv.looks.untouched told).same c.loop-next.recent c.next_number_after.new.recent (c.in-Ok-Some.ensures.recalls told)
    (inv.recalls told holds)

pub returns-in_err-to_out-in-Ok-Some-clause-reads : goal.returns-in_err-to_out-in-Ok-Some-clause-reads
returns-in_err-to_out-in-Ok-Some-clause-reads g c =
    let r = c.args.picker.now in
    let db = c.args.db.now in
    let m = c.in-Ok-Some.next in
    let said = c.in-Ok-Some.ensures in
    let up = rw c.in-Ok-Some.field-0-is at said.rises in
    omega (
      arith,
      reach_some r db m,
      reach_then r db _ _ _ {n = c.loop-next.number} {m = m} (omega (arith, up)) c.loop-next.invariant.reads
          (rw c.in-Ok-Some.field-0-is at said.asks.looks.reads.pkg),
    )

pub returns-in_err-to_out-in-Ok-Some-clause-looks : goal.returns-in_err-to_out-in-Ok-Some-clause-looks
returns-in_err-to_out-in-Ok-Some-clause-looks g c =
    let inv = c.loop-next.invariant in
    let said = c.in-Ok-Some.ensures in
    looks_within g.D.Disk g.met.D.Disk.follows_trans c.args.db.now inv.later inv.looks (rw c.in-Ok-Some.field-0-is at said.rises)
    (look_within g.D.Disk (rw c.in-Ok-Some.field-0-is at said.within) said.asks.looks)

pub returns-in_err-to_out-in-Ok-Some-clause-unbroken : goal.returns-in_err-to_out-in-Ok-Some-clause-unbroken
returns-in_err-to_out-in-Ok-Some-clause-unbroken g c = λ unit same.
    let failed : Halt → Result PrintedPackages Halt = λ s. Err s in
    let stopped : Halt → Result Bool Halt = λ s. Err s in
    let printed = c.print_picked in
    let what = c.in_err-to_out-in-Ok-Some.field-0.0 in
    let q = err_from_is_err_and c.from_residual.result c.from_residual.ensures.1 in
    let both : failed what ≡ failed (halt.BadIndex unit) = rw (q.1, q.2) at same in
    let is : what ≡ halt.BadIndex unit = cc in
    step_unbroken (step_by c.args.request c.args.format.now 0 (entry_in c.in-Some.picked.now)) printed.result
    (shown_outputs g.O.Sink g.E.Sink c.loop-next.out c.loop-next.err)
    (shown_outputs g.O.Sink g.E.Sink printed.new.out printed.new.err) (printed.ensures.step 0) unit (c.in_err-to_out-in-Ok-Some.was ∙ ap stopped is)

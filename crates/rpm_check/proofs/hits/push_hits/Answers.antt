use Rattle.std.proofs.Common.{true, false, Result, Ok, Err, sym, ◌∙◌, append-nil}
use Rattle.std.specs.Prelude.{OnOk}
use Rattle.rpm_check.proofs.Running.{run_pushed}
use Rattle.rpm_check.proofs.hits.push_hits.Goals as goal

on_ok : {X E P Q : Type 0} (r : Result X E) → (P → Q) → OnOk r P → OnOk r Q
on_ok (Ok x) then p = then p
on_ok (Err e) then p = tt

pub returns-then-meets : goal.returns-then-meets
returns-then-meets c = λ is_run.
    on_ok c.push_numbers.result
    (run_pushed c.args.needed.now.flags c.args.needed.now.evr c.args.run.now true c.args.found.now.items c.push_numbers.new.found.items is_run
    (sym c.if-meets.true ∙ c.meets.ensures is_run))
    c.push_numbers.ensures

pub returns-else-meets : goal.returns-else-meets
returns-else-meets c = λ is_run.
    run_pushed c.args.needed.now.flags c.args.needed.now.evr c.args.run.now false c.args.found.now.items c.args.found.now.items is_run
    (sym c.if-meets.false ∙ c.meets.ensures is_run) (sym (append-nil c.args.found.now.items))

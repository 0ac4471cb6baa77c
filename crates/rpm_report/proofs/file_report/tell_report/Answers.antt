use Rattle.std.proofs.Common.{◌≡◌, ◌==◌, ◌||◌, ℕ, ◌++◌, Bool, false, not, List, [], ◌∷◌, length, map, get_or, refl, sym, ap, subst, arith}
use Rattle.std.proofs.lemmas.Bool.Decides.{nat_tests}
use Rattle.std.proofs.lemmas.List.{drop_all}
use Rattle.std.proofs.lemmas.Result.{err_from_is_err_and}
use Rattle.rpm_report.proofs.Vocabulary.{Conflict, conflict_step, is_some_of, label_told, report_steps, Step, told_steps, unread_step, whole_step}
use Rattle.rpm_effects.proofs.laws.Parts.{drop_get}
use Rattle.rpm_report.proofs.Lines.{Written, written_none, written_out, written_err, written_stop, written_all}
use Rattle.rpm_effects.proofs.laws.Stopping.{reached_first}
use Rattle.rpm_report.proofs.Telling.{rest_at}
use Rattle.rpm_report.proofs.file_report.tell_report.Goals as goal

pub loop-number-init : goal.loop-number-init
loop-number-init g c =
    let r = c.args.report.now in
    written_none g.O.Sink g.E.Sink g.met.O.Sink.follows_refl g.met.E.Sink.follows_refl
    (ap (λ (numbers : List ℕ). map unread_step numbers ++ map (conflict_step (label_told r)) r.conflicts) (sym c.bad-bad.ensures)) c.args.out.now c.args.err.now

pub loop-number-preserved : goal.loop-number-preserved
loop-number-preserved g c =
    let r = c.args.report.now in
    let k = c.loop-number.number-index in
    written_err g.O.Sink g.E.Sink
    (ap (λ (numbers : List ℕ). map unread_step numbers ++ map (conflict_step (label_told r)) r.conflicts) (rest_at c.bad-bad.result.now k 0 (omega arith)))
    c.loop-number.invariant g.met.E.Sink.follows_trans c.in_ok-put_bad.ensures.puts.err (c.in_ok-put_bad.ensures.step (whole_step 0) _ _).1

pub loop-i-init : goal.loop-i-init
loop-i-init g c =
    let r = c.args.report.now in
    let told = map (conflict_step (label_told r)) r.conflicts in
    subst (λ (left : List Step). Written g.O.Sink g.E.Sink (told_steps r) left c.args.out.now c.args.err.now c.args.out.now c.loop-number.err)
    (ap (λ (numbers : List ℕ). map unread_step numbers ++ told) (drop_all c.loop-number.number-index c.bad-bad.result.now (omega arith)))
    c.loop-number.invariant

pub loop-i-preserved : goal.loop-i-preserved
loop-i-preserved g c =
    let r = c.args.report.now in
    let i = c.loop-i.i in
    written_out g.O.Sink g.E.Sink (ap (map (conflict_step (label_told r))) (drop_get r.conflicts i c.at.result.now c.at.ensures)) c.loop-i.invariant
    g.met.O.Sink.follows_trans c.in_ok-put_conflict.ensures.puts.out (c.in_ok-put_conflict.ensures.part _ _).steps

pub returns-in_err-put_bad-clause-part : goal.returns-in_err-put_bad-clause-part
returns-in_err-put_bad-clause-part g c =
    let r = c.args.report.now in
    let k = c.loop-number.number-index in
    let p = err_from_is_err_and c.from_residual.result c.from_residual.ensures.1 in
    rw (p.1, p.2) (written_stop g.O.Sink g.E.Sink
    (ap (λ (numbers : List ℕ). map unread_step numbers ++ map (conflict_step (label_told r)) r.conflicts) (rest_at c.bad-bad.result.now k 0 (omega arith)))
    c.loop-number.invariant c.args.out.now c.put_bad.new.err (reached_first Bool (unread_step (get_or c.bad-bad.result.now k 0)) []
    c.in_err-put_bad.field-0.0 _ _ (λ for. for ≡ whole_step 0) refl (c.in_err-put_bad.ensures.step (whole_step 0) _ _)))

pub returns-in_err-put_conflict-clause-part : goal.returns-in_err-put_conflict-clause-part
returns-in_err-put_conflict-clause-part g c =
    let r = c.args.report.now in
    let i = c.loop-i.i in
    let p = err_from_is_err_and c.from_residual-in_err-put_conflict.result c.from_residual-in_err-put_conflict.ensures.1 in
    rw (p.1, p.2) (written_stop g.O.Sink g.E.Sink (ap (map (conflict_step (label_told r))) (drop_get r.conflicts i c.at.result.now c.at.ensures))
    c.loop-i.invariant c.put_conflict.new.out c.loop-number.err (c.in_err-put_conflict.ensures.part _ _).steps)

any_line : (labels : ℕ → List ℕ) (numbers : List ℕ) (found : List Conflict)
    → is_some_of (report_steps labels numbers found) ≡ (not (length numbers == 0) || not (length found == 0))
any_line labels [] [] = refl
any_line labels [] (c ∷ found) =
    let test : (length (c ∷ found) == 0) ≡ false = grind (arith, nat_tests) in
    rw test refl
any_line labels (n ∷ numbers) found =
    let test : (length (n ∷ numbers) == 0) ≡ false = grind (arith, nat_tests) in
    rw test refl

pub returns-clause-part : goal.returns-clause-part
returns-clause-part g c =
    let r = c.args.report.now in
    written_all g.O.Sink g.E.Sink
    (ap (map (conflict_step (label_told r))) (drop_all c.loop-i.i r.conflicts (omega (arith, c.loop-i-test.false, c.len-i-end.ensures)))) c.loop-i.invariant
    (rw (c.is_empty.ensures, c.bad-bad.ensures, c.len.ensures) (any_line (label_told r) r.bad r.conflicts))

use Rattle.std.proofs.Common.{ℕ, ◌+◌, ◌<◌, ◌≤◌, Ok, Err, true, sym, ◌∙◌, ap, arith, subst}
use Rattle.std.proofs.lemmas.Result.{err_from_is_err_and}
use Rattle.rpm_qfparse.specs.declared.moves.Context.TheVariants as context
use Rattle.rpm_qfparse.specs.declared.fault.Stop.TheVariants as stop
use Rattle.rpm_qfparse.proofs.Vocabulary.{in_front_of, bare_fault, behind_part, behind_second, between, Bracket, bracket, Branches, Condition, condition, End, ends}
use Rattle.rpm_qfparse.proofs.Vocabulary.{Gives, in_bracket, in_condition, in_first, in_second, literal, one, stops, tag, Tagged, two, with_byte}
use Rattle.rpm_qfparse.proofs.Drafts.{behind_behind}
use Rattle.rpm_qfparse.proofs.Exits.{stopped, passed_on}
use Rattle.rpm_qfparse.proofs.Unique.{moved, left, left_of}
use Rattle.rpm_qfparse.proofs.reader.+reading.Goals as goal

further : {k m n : ℕ} → m < n → k ≤ m → k < n
further a b = omega arith

pub branches-returns-in_err-first : goal.branches-returns-in_err-first
branches-returns-in_err-first t c =
    let p = err_from_is_err_and c.from_residual.result c.from_residual.ensures.1 in
    stopped (Branches c.args.in_bracket c.args.depth c.args.text.now) c.from_residual.result p.0 c.in_err-first.field-0.0 p.1 p.2
    (passed_on (Gives context.Branch c.args.in_bracket (c.args.depth + 1) c.args.text.now) (Branches c.args.in_bracket c.args.depth c.args.text.now)
    (λ x g. in_first g) c.in_err-first.field-0.0 c.in_err-first.ensures)

pub branches-returns-in_err-more : goal.branches-returns-in_err-more
branches-returns-in_err-more t c =
    let p = err_from_is_err_and c.from_residual-in_err-more.result c.from_residual-in_err-more.ensures.1 in
    stopped (Branches c.args.in_bracket c.args.depth c.args.text.now) c.from_residual-in_err-more.result p.0 (stop.Fault c.in_err-more.field-0.0) p.1 p.2
    (between c.in_ok-first.ensures (sym c.in_err-more.ensures))

pub branches-returns-in_err-second : goal.branches-returns-in_err-second
branches-returns-in_err-second t c =
    let p = err_from_is_err_and c.from_residual-in_err-second.result c.from_residual-in_err-second.ensures.1 in
    let f = sym c.in_ok-more.ensures ∙ ap (λ v. Ok (v, c.in_ok-more.rest.now)) c.if-more.true in
    stopped (Branches c.args.in_bracket c.args.depth c.args.text.now) c.from_residual-in_err-second.result p.0 c.in_err-second.field-0.0 p.1 p.2
    (passed_on (Gives context.Branch c.args.in_bracket (c.args.depth + 1) c.in_ok-more.rest.now) (Branches c.args.in_bracket c.args.depth
    c.args.text.now) (λ x g. in_second c.in_ok-first.ensures f g) c.in_err-second.field-0.0 c.in_err-second.ensures)

pub branches-returns-in_err-rest : goal.branches-returns-in_err-rest
branches-returns-in_err-rest t c =
    let p = err_from_is_err_and c.from_residual-in_err-rest.result c.from_residual-in_err-rest.ensures.1 in
    let f = sym c.in_ok-more.ensures ∙ ap (λ v. Ok (v, c.in_ok-more.rest.now)) c.if-more.true in
    stopped (Branches c.args.in_bracket c.args.depth c.args.text.now) c.from_residual-in_err-rest.result p.0 (stop.Fault c.in_err-rest.field-0.0) p.1 p.2
    (behind_second c.in_ok-first.ensures f c.in_ok-second.ensures (sym c.in_err-rest.ensures))

pub branches-returns-in_ok-rest : goal.branches-returns-in_ok-rest
branches-returns-in_ok-rest t c =
    let f = sym c.in_ok-more.ensures ∙ ap (λ v. Ok (v, c.in_ok-more.rest.now)) c.if-more.true in
    two c.in_ok-first.ensures f c.in_ok-second.ensures (sym c.in_ok-rest.ensures)

pub branches-returns-else-more : goal.branches-returns-else-more
branches-returns-else-more t c =
    let f = sym c.in_ok-more.ensures ∙ ap (λ v. Ok (v, c.in_ok-more.rest.now)) c.if-more.false in
    rw c.new.ensures (one c.in_ok-first.ensures f)

pub read-returns-in-Ends : goal.read-returns-in-Ends
read-returns-in-Ends t c = rw c.in_ok-finish-in-Ends.ensures (c.loop-behind.invariant (Ok (End, c.in-Ends.behind.now)) (ends (sym c.in-Ends.ensures.value)))

pub read-returns-in-Stops : goal.read-returns-in-Stops
read-returns-in-Stops t c = c.loop-behind.invariant (Err (bare_fault c.in-Stops.fault)) (stops (sym c.in-Stops.ensures.value))

pub read-loop-behind-smaller-in-Literal : goal.read-loop-behind-smaller-in-Literal
read-loop-behind-smaller-in-Literal t c = moved _ _ _ _ _ (sym c.in-Literal.ensures.value)

pub read-loop-behind-preserved-in-Literal : goal.read-loop-behind-preserved-in-Literal
read-loop-behind-preserved-in-Literal t c = λ a g.
    subst (Gives c.args.context c.args.in_bracket c.args.depth c.args.text.now)
    (behind_behind (in_front_of c.push_byte.new.self) (with_byte c.in-Literal.byte) (in_front_of c.loop-behind.draft)
    (λ rest. sym (c.in_ok-push_byte-in-Literal.ensures rest)) a)
    (c.loop-behind.invariant (behind_part (with_byte c.in-Literal.byte) a) (literal (sym c.in-Literal.ensures.value) g))

pub read-loop-behind-smaller-in-Shows : goal.read-loop-behind-smaller-in-Shows
read-loop-behind-smaller-in-Shows t c = moved _ _ _ _ _ (sym c.in-Shows.ensures.value)

pub read-loop-behind-preserved-in-Shows : goal.read-loop-behind-preserved-in-Shows
read-loop-behind-preserved-in-Shows t c = λ a g.
    subst (Gives c.args.context c.args.in_bracket c.args.depth c.args.text.now)
    (behind_behind (in_front_of c.push.new.self) (Tagged c.in-Shows.part) (in_front_of c.loop-behind.draft)
    (λ rest. sym (c.in_ok-push-in-Shows.ensures rest)) a)
    (c.loop-behind.invariant (behind_part (Tagged c.in-Shows.part) a) (tag (sym c.in-Shows.ensures.value) g))

pub read-returns-in_err-parts-in-Opens : goal.read-returns-in_err-parts-in-Opens
read-returns-in_err-parts-in-Opens t c =
    let p = err_from_is_err_and c.from_residual-in_err-parts-in-Opens.result c.from_residual-in_err-parts-in-Opens.ensures.1 in
    stopped (Gives c.args.context c.args.in_bracket c.args.depth c.args.text.now) c.from_residual-in_err-parts-in-Opens.result p.0
    c.in_err-parts-in-Opens.field-0.0 p.1 p.2
    (passed_on (Gives context.Bracket true c.args.depth c.in-Opens.inner.now) (Gives c.args.context c.args.in_bracket c.args.depth c.args.text.now)
    (λ x g. c.loop-behind.invariant (Err x) (in_bracket (sym c.in-Opens.ensures.value) g)) c.in_err-parts-in-Opens.field-0.0 c.in_err-parts-in-Opens.ensures)

pub read-loop-behind-smaller-in-Opens : goal.read-loop-behind-smaller-in-Opens
read-loop-behind-smaller-in-Opens t c = further (moved _ _ _ _ _ (sym c.in-Opens.ensures.value)) (left c.in_ok-parts-in-Opens.ensures)

pub read-loop-behind-preserved-in-Opens : goal.read-loop-behind-preserved-in-Opens
read-loop-behind-preserved-in-Opens t c = λ a g.
    subst (Gives c.args.context c.args.in_bracket c.args.depth c.args.text.now)
    (behind_behind (in_front_of c.push-in-Opens.new.self) (Bracket c.in_ok-parts-in-Opens.parts) (in_front_of c.loop-behind.draft)
    (λ rest. sym (c.in_ok-push-in-Opens.ensures rest)) a)
    (c.loop-behind.invariant (behind_part (Bracket c.in_ok-parts-in-Opens.parts) a) (bracket (sym c.in-Opens.ensures.value) c.in_ok-parts-in-Opens.ensures g))

pub read-returns-in_err-first-in-Asks : goal.read-returns-in_err-first-in-Asks
read-returns-in_err-first-in-Asks t c =
    let p = err_from_is_err_and c.from_residual-in_err-first-in-Asks.result c.from_residual-in_err-first-in-Asks.ensures.1 in
    stopped (Gives c.args.context c.args.in_bracket c.args.depth c.args.text.now) c.from_residual-in_err-first-in-Asks.result p.0
    c.in_err-first-in-Asks.field-0.0 p.1 p.2
    (passed_on (Branches c.args.in_bracket c.args.depth c.in-Asks.inner.now) (Gives c.args.context c.args.in_bracket c.args.depth c.args.text.now)
    (λ x g. c.loop-behind.invariant (Err x) (in_condition (sym c.in-Asks.ensures.value) g)) c.in_err-first-in-Asks.field-0.0 c.in_err-first-in-Asks.ensures)

pub read-loop-behind-smaller : goal.read-loop-behind-smaller
read-loop-behind-smaller t c = further (moved _ _ _ _ _ (sym c.in-Asks.ensures.value)) (left_of c.in_ok-first-in-Asks.ensures)

pub read-loop-behind-preserved : goal.read-loop-behind-preserved
read-loop-behind-preserved t c = λ a g.
    subst (Gives c.args.context c.args.in_bracket c.args.depth c.args.text.now)
    (behind_behind (in_front_of c.push-in-Asks.new.self) (Condition c.in-Asks.tag c.in_ok-first-in-Asks.first c.in_ok-first-in-Asks.second)
    (in_front_of c.loop-behind.draft) (λ rest. sym (c.in_ok-push-in-Asks.ensures rest)) a)
    (c.loop-behind.invariant (behind_part (Condition c.in-Asks.tag c.in_ok-first-in-Asks.first c.in_ok-first-in-Asks.second) a)
    (condition (sym c.in-Asks.ensures.value) c.in_ok-first-in-Asks.ensures g))

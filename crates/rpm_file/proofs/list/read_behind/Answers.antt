use Rattle.std.proofs.Common.{◌≡◌, ◌<◌, ◌++◌, ◌∙◌, ap, length, take, sym, List, ℕ, arith}
use Rattle.std.proofs.lemmas.List.{length-take-le}
use Rattle.std.proofs.lemmas.Result.{err_from_is_err_and}
use Rattle.rpm_file.proofs.Vocabulary.{front_header, bytes_left}
use Rattle.rpm_file.proofs.Filled.{of_ok}
use Rattle.rpm_file.proofs.Listed.{bad_front, whole_front, cut_front, told_fault, size_fault, no_fault, begun}
use Rattle.rpm_file.proofs.list.read_behind.Goals as goal

pub returns-in_err-size-clause-answers : goal.returns-in_err-size-clause-answers
returns-in_err-size-clause-answers g c = λ told.
    let p = err_from_is_err_and c.from_residual.result c.from_residual.ensures.1 in
    let bytes = c.args.intro.now ++ bytes_left (g.S.Shelf.rest c.args.shelf.now) in
    rw (p.1, p.2) (told_fault (front_header bytes) c.in_err-size.field-0.0
    (bad_front c.args.intro.now _ c.in_err-size.field-0.0 c.requires c.in_err-size.ensures.value))

pub returns-in_err-size-clause-cause : goal.returns-in_err-size-clause-cause
returns-in_err-size-clause-cause g c =
    let p = err_from_is_err_and c.from_residual.result c.from_residual.ensures.1 in
    record {
      later = omega arith;
      rose = λ e. absurd (size_fault c.args.intro.now c.in_err-size.field-0.0 c.in_err-size.ensures.value
          (sym p.2 ∙ no_fault c.from_residual.result p.0 p.1 e));
    }

pub returns-then-done-size-clause-answers : goal.returns-then-done-size-clause-answers
returns-then-done-size-clause-answers g c = λ told.
    let a = c.in_ok-done.ensures.appends told in
    let room = c.fill_upto.new.room.items in
    let few : length (take c.in_ok-done.done room) < c.in_ok-size.size =
    omega (arith, length-take-le c.in_ok-done.done room (omega (arith, c.in_ok-done.ensures.long, c.fill_upto.new.room.ok.0)), c.if-done-size.true) in
    cut_front c.args.intro.now _ (take c.in_ok-done.done room) a.extends.more _ c.in_ok-size.size c.requires c.in_ok-size.ensures.value
    a.extends.front.front
    (a.extends.behind ∙ ap (λ (xs : List ℕ). xs ++ a.extends.more)
    (begun c.args.intro.now _ c.requires (of_ok c.begin.result _ c.if-is_err.ensures.negation c.begin.ensures.front)))
    few (a.ended few)

pub returns-clause-answers : goal.returns-clause-answers
returns-clause-answers g c = λ told.
    let a = c.in_ok-done.ensures.appends told in
    let room = c.fill_upto.new.room.items in
    let size = c.in_ok-size.size in
    let all : c.in_ok-done.done ≡ size = omega (arith, c.in_ok-done.ensures.within, c.if-done-size.false) in
    whole_front c.args.intro.now _ (take size room) a.extends.more _ size c.requires c.in_ok-size.ensures.value
    a.extends.front.front
    (ap (λ (n : ℕ). take n room) (sym all) ∙ a.extends.behind ∙ ap (λ (xs : List ℕ). xs ++ a.extends.more)
    (begun c.args.intro.now _ c.requires (of_ok c.begin.result _ c.if-is_err.ensures.negation c.begin.ensures.front)))
    (length-take-le size room (omega (arith, all, c.in_ok-done.ensures.long, c.fill_upto.new.room.ok.0)))

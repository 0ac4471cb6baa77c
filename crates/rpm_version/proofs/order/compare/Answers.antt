use Rattle.std.proofs.Common.{◌≡◌, ◌≢◌, true, false, refl, sym, ◌∙◌}
use Rattle.rpm_version.proofs.Vocabulary.{is_ne}
use Rattle.std.proofs.lemmas.Bool.{false≢true}
use Rattle.rpm_version.specs.declared.segment.Piece.TheVariants as piece
use Rattle.rpm_version.proofs.Laws.{any_two_compare, converse, transitive, ties}
use Rattle.rpm_version.proofs.Steps.{differs, ends, decided_behind}
use Rattle.rpm_version.proofs.order.compare.Goals as goal
use Rattle.rpm_version.proofs.order.compare.Goals.{then-is_ne-via-then-is_ne, then-is_ne-via-else-is_ne+then-is_end}

pub returns-then-is_ne-clause-order : goal.returns-then-is_ne-clause-order
returns-then-is_ne-clause-order c =
    let p = c.next_piece.ensures.first in
    let q = c.next_piece-in-loop-left.ensures.first in
    let first = c.compare_pieces-order.ensures in
    elim c.then-is_ne.branch [
      | then-is_ne-via-then-is_ne w ↦
          let ne : is_ne c.compare_pieces-order.result ≡ true = sym c.is_ne.ensures ∙ w.if-is_ne.true in
          differs _ _ _ _ _ _ _ p q first ne ∙ sym c.loop-left.invariant
      | then-is_ne-via-else-is_ne+then-is_end w ↦
          let eq : is_ne c.compare_pieces-order.result ≡ false = sym c.is_ne.ensures ∙ w.if-is_ne.false in
          let end = w.if-is_end.ensures.0 refl in
          ends _ _ _ _ _ _ _ p q first eq end ∙ sym c.loop-left.invariant
    ]

pub returns-then-is_ne-clause-total : goal.returns-then-is_ne-clause-total
returns-then-is_ne-clause-total c = any_two_compare

pub returns-then-is_ne-clause-converse : goal.returns-then-is_ne-clause-converse
returns-then-is_ne-clause-converse c = converse

pub returns-then-is_ne-clause-transitive : goal.returns-then-is_ne-clause-transitive
returns-then-is_ne-clause-transitive c = transitive

pub returns-then-is_ne-clause-equal : goal.returns-then-is_ne-clause-equal
returns-then-is_ne-clause-equal c = ties

pub loop-left-preserved : goal.loop-left-preserved
loop-left-preserved c =
    let p = c.next_piece.ensures.first in
    let q = c.next_piece-in-loop-left.ensures.first in
    let eq : is_ne c.compare_pieces-order.result ≡ false = sym c.is_ne.ensures ∙ c.if-is_ne.false in
    let more : c.next_piece.result.0 ≢ piece.End = λ e. false≢true (c.if-is_end.ensures.1 e) in
    c.loop-left.invariant ∙ decided_behind _ _ _ _ _ _ _ p q c.compare_pieces-order.ensures eq more

pub loop-left-smaller : goal.loop-left-smaller
loop-left-smaller c = c.next_piece.ensures.shorter (λ e. false≢true (c.if-is_end.ensures.1 e))

use Rattle.std.proofs.Common.{◌≡◌, ℕ, ◌+◌, List, [], ◌∷◌, ◌++◌, length, sym, ap, ◌∙◌, subst, arith}
use Rattle.rpm_pkgdb.proofs.Vocabulary.{end_of, PairsInOrder, Pairs, Slot}
use Rattle.rpm_pkgdb.proofs.OrderLaws.{order_used}
use Rattle.rpm_pkgdb.proofs.reading.Rising.push_used.Goals as goal

pub overflow_cast-place : goal.overflow_cast-place
overflow_cast-place c = omega (arith, c.len-place.ensures, c.args.self.now.slots.ok.0, c.requires.few)

pub push_reserved-requires : goal.push_reserved-requires
push_reserved-requires c = omega (arith, c.args.self.now.slots.ok.0, c.requires.awaits.slots)

pub push_reserved-requires-2 : goal.push_reserved-requires-2
push_reserved-requires-2 c =
    omega (arith, c.args.self.now.pairs.ok.0, c.args.self.now.slots.ok.0, c.requires.order.pairs_are.few, c.requires.awaits.pairs)

pub returns-clause-order : goal.returns-clause-order
returns-clause-order c =
    let old = c.args.self.now in
    let s = c.args.slot in
    let numbers = c.still_rise-self.result in
    let blocks = c.still_rise-self-2.result in
    let place : c.len-place.result ≡ length old.slots.items = c.len-place.ensures ∙ old.slots.ok.0 in
    let pairs : c.push_reserved-2.new.self.items ≡ old.pairs.items ++ (s.number, length old.slots.items) ∷ [] =
    c.push_reserved-2.ensures.items ∙ ap (λ (n : ℕ). old.pairs.items ++ (s.number, n) ∷ []) place in
    subst (λ (ss : List Slot). PairsInOrder ss c.push_reserved-2.new.self.items old.free numbers blocks (s.number + 1) (end_of s))
    (sym c.push_reserved.ensures.items)
    (subst (λ (l : Pairs). PairsInOrder (old.slots.items ++ s ∷ []) l old.free numbers blocks (s.number + 1) (end_of s)) (sym pairs)
    (order_used old.slots.items s old.pairs.items old.free old.numbers_rise old.blocks_rise old.number old.block c.requires.order c.requires.used
    numbers blocks c.still_rise-self.ensures c.still_rise-self-2.ensures))

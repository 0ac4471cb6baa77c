use Rattle.std.proofs.Common.{◌≡◌, ℕ, List, length, Option, Some, sym, ap, ◌∙◌, subst, arith}
use Rattle.rpm_pkgdb.proofs.Vocabulary.{PairsInOrder, option_or, Slot}
use Rattle.rpm_pkgdb.proofs.OrderLaws.{order_free}
use Rattle.rpm_pkgdb.proofs.Sound.{is_free, is_taken}
use Rattle.rpm_pkgdb.proofs.reading.Rising.push.Goals as goal

pub push_used-requires-clause-used : goal.push_used-requires-clause-used
push_used-requires-clause-used c = is_taken c.args.slot c.if-slot-ne0.true

pub overflow_cast-place : goal.overflow_cast-place
overflow_cast-place c = omega (arith, c.len-place.ensures, c.args.self.now.slots.ok.0, c.requires.few)

pub push_reserved-requires : goal.push_reserved-requires
push_reserved-requires c = omega (arith, c.args.self.now.slots.ok.0, c.requires.awaits.slots)

pub returns-then-slot-ne0-clause-awaits : goal.returns-then-slot-ne0-clause-awaits
returns-then-slot-ne0-clause-awaits c = λ pages n behind has.
    c.push_used.ensures.awaits pages n (behind (is_taken c.args.slot c.if-slot-ne0.true)) has

pub returns-clause-order : goal.returns-clause-order
returns-clause-order c =
    let old = c.args.self.now in
    let place : c.len-place.result ≡ length old.slots.items = c.len-place.ensures ∙ old.slots.ok.0 in
    let first = c.or-self.ensures ∙ ap (λ (n : ℕ). option_or old.free (Some n)) place in
    subst (λ (o : Option ℕ). PairsInOrder c.push_reserved.new.self.items old.pairs.items o old.numbers_rise old.blocks_rise old.number old.block) (sym first)
    (subst (λ (ss : List Slot). PairsInOrder ss old.pairs.items (option_or old.free (Some (length old.slots.items))) old.numbers_rise old.blocks_rise
    old.number old.block) (sym c.push_reserved.ensures.items)
    (order_free old.slots.items c.args.slot old.pairs.items old.free old.numbers_rise old.blocks_rise old.number old.block c.requires.order
    (is_free c.args.slot c.if-slot-ne0.false)))

use Rattle.std.proofs.Common.{◌≡◌, Bool, true, false, not, Option, None, Some, is_some, sym, ap, ◌∙◌, subst, arith}
use Rattle.rpm_pkgdb.proofs.Vocabulary.{AreNumbered, is_used, own_reason}
use Rattle.rpm_pkgdb.proofs.Known.{numbered_push}
use Rattle.rpm_pkgdb.proofs.Sound.{placed_slot}
use Rattle.rpm_pkgdb.proofs.reading.add_unit.Goals as goal

none_if : {X : Type 0} (o p : Option X) (b : Bool) → o ≡ p → is_some o ≡ not b → b ≡ true → p ≡ None
none_if None p b same is holds = sym same
none_if (Some x) p b same is holds = absurd (let e : true ≡ false = is ∙ ap not holds in cc)

pub returns-then-is_next-clause-awaits : goal.returns-then-is_next-clause-awaits
returns-then-is_next-clause-awaits c = λ n has.
    let used : is_used c.slot_of.result ≡ true = ap is_used c.slot_of.ensures ∙ c.is_next.ensures.used c.if-is_next.true in
    let p = placed_slot c.args.pages c.args.units c.args.unit.now c.slot_of.result (c.is_next.ensures.own c.if-is_next.true) c.slot_of.ensures used in
    c.push_used.ensures.awaits c.args.pages n p.behind has

pub returns-then-is_next-clause-numbered : goal.returns-then-is_next-clause-numbered
returns-then-is_next-clause-numbered c = λ was.
    let s = c.slot_of.result in
    subst AreNumbered (sym c.push_used.ensures.slots) (numbered_push c.args.rising.now.slots.items s was (λ used.
    let p = placed_slot c.args.pages c.args.units c.args.unit.now s (c.is_next.ensures.own c.if-is_next.true) c.slot_of.ensures used in
    (p.number, omega (arith, p.few, c.slot_of.type_inv))))

pub returns-then-is_none-clause-awaits : goal.returns-then-is_none-clause-awaits
returns-then-is_none-clause-awaits c = λ n has.
    let none : own_reason c.args.pages c.args.units c.args.unit.now ≡ None =
    none_if c.own_reason-reason.result _ c.is_none.result c.own_reason-reason.ensures c.is_none.ensures c.if-is_none.true in
    let s = c.slot_of-then-is_none.result in
    let behind = λ (used : is_used s ≡ true).
    (placed_slot c.args.pages c.args.units c.args.unit.now s none c.slot_of-then-is_none.ensures used).behind in
    c.push.ensures.awaits c.args.pages n behind has

pub returns-then-is_none-clause-numbered : goal.returns-then-is_none-clause-numbered
returns-then-is_none-clause-numbered c = λ was.
    let none : own_reason c.args.pages c.args.units c.args.unit.now ≡ None =
    none_if c.own_reason-reason.result _ c.is_none.result c.own_reason-reason.ensures c.is_none.ensures c.if-is_none.true in
    let s = c.slot_of-then-is_none.result in
    subst AreNumbered (sym c.push.ensures.slots) (numbered_push c.args.rising.now.slots.items s was (λ used.
    let p = placed_slot c.args.pages c.args.units c.args.unit.now s none c.slot_of-then-is_none.ensures used in
    (p.number, omega (arith, p.few, c.slot_of-then-is_none.type_inv))))

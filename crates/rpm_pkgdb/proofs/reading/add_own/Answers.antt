use Rattle.std.proofs.Common.{◌≡◌, ℕ, ◌+◌, ◌/◌, ◌<◌, List, [], ◌∷◌, ◌++◌, length, take, true, Option, None, Some, is_some, refl, sym, ap, ◌∙◌, arith, length-append}
use Rattle.std.proofs.lemmas.List.{append-nil, length-take}
use Rattle.rpm_pkgdb.proofs.Vocabulary.{slots_with, length-cut_up, own_reason, Reason, Slot, slot_of, slots_in, units_of}
use Rattle.rpm_pkgdb.proofs.OrderLaws.{awaits_less}
use Rattle.rpm_pkgdb.proofs.Steps.{length-slots_in, slots_in-none, slots_more}
use Rattle.rpm_pkgdb.proofs.TableLaws.{own_more, none_of}
use Rattle.rpm_pkgdb.proofs.ReadingLaws.{ends_early}
use Rattle.rpm_pkgdb.proofs.reading.add_own.Goals as goal

pub loop-k-init : goal.loop-k-init
loop-k-init c = record {
  slots = sym (ap (λ (ss : List Slot). c.args.rising.slots.items ++ ss) slots_in-none ∙ append-nil c.args.rising.slots.items);
  own = λ k below. absurd (omega (arith, below));
  order = c.requires.order;
  numbered = c.requires.numbered;
  awaits = λ n has. has;
}

count : (bytes : List ℕ) (k : ℕ) (old now : List Slot) → now ≡ old ++ slots_in (take k (units_of bytes)) → k < length bytes / 16
    → length now ≡ length old + k
count bytes k old now is below =
    let us = units_of bytes in
    omega (
      arith,
      ap length is,
      length-append old (slots_in (take k us)),
      length-slots_in (take k us),
      length-take k us,
      length-cut_up (length bytes / 16) bytes,
      below,
    )

added_none : (slots : List Slot) (o : Option Reason) (s : Slot) → is_some o ≡ true → slots_with slots o s ≡ slots
added_none slots None s some = absurd cc
added_none slots (Some reason) s some = refl

pub add_unit-reason-requires-clause-awaits : goal.add_unit-reason-requires-clause-awaits
add_unit-reason-requires-clause-awaits c =
    let n = count c.args.bytes.now c.loop-k.k c.args.rising.slots.items c.loop-k.rising.slots.items c.loop-k.invariant.slots c.loop-k-test.true in
    awaits_less _ _ c.args.pages c.args.pages c.loop-k.rising (omega (arith, n, c.loop-k-test.true)) (omega arith)
    (c.loop-k.invariant.awaits _ c.requires.awaits)

pub add_unit-reason-requires-clause-few : goal.add_unit-reason-requires-clause-few
add_unit-reason-requires-clause-few c =
    let n = count c.args.bytes.now c.loop-k.k c.args.rising.slots.items c.loop-k.rising.slots.items c.loop-k.invariant.slots c.loop-k-test.true in
    omega (arith, n, c.loop-k-test.true, c.requires.few)

pub loop-k-preserved : goal.loop-k-preserved
loop-k-preserved c =
    let us = units_of c.args.bytes.now in
    let k = c.loop-k.k in
    let was = c.loop-k.invariant in
    let old = c.loop-k.rising.slots.items in
    let unit = c.unit_in.result.now in
    let done = c.add_unit-reason.ensures in
    let below : k < length us = omega (arith, length-cut_up (length c.args.bytes.now / 16) c.args.bytes.now) in
    let none : own_reason c.args.pages c.args.units unit ≡ None = none_of _ _ _ done.reason c.is_some.ensures c.if-is_some.false in
    let new : c.add_unit-reason.new.rising.slots.items ≡ old ++ slot_of unit ∷ [] =
    done.slots ∙ ap (λ (o : Option Reason). slots_with old o (slot_of unit)) (done.reason ∙ none) in
    record {
      slots = slots_more c.args.rising.slots.items old us k unit below was.slots c.unit_in.ensures.unit c.add_unit-reason.new.rising.slots.items new;
      own = own_more c.args.pages c.args.units us k unit was.own c.unit_in.ensures.unit none;
      order = done.order;
      numbered = done.numbered was.numbered;
      awaits = λ n has. done.awaits n (was.awaits n has);
    }

pub returns-then-is_some-clause-adds : goal.returns-then-is_some-clause-adds
returns-then-is_some-clause-adds c =
    let us = units_of c.args.bytes.now in
    let below : c.loop-k.k < length us = omega (arith, length-cut_up (length c.args.bytes.now / 16) c.args.bytes.now, c.loop-k-test.true) in
    record {
      count = c.loop-k.k;
      slots_are = c.add_unit-reason.ensures.slots
          ∙ added_none c.loop-k.rising.slots.items c.add_unit-reason.result (slot_of c.unit_in.result.now) (sym c.is_some.ensures ∙ c.if-is_some.true)
          ∙ c.loop-k.invariant.slots;
      own = c.loop-k.invariant.own;
      ends = ends_early c.args.pages c.args.units us c.loop-k.k c.add_unit-reason.result below
          (c.add_unit-reason.ensures.reason ∙ ap (own_reason c.args.pages c.args.units) c.unit_in.ensures.unit)
          (sym c.is_some.ensures ∙ c.if-is_some.true);
    }

pub returns-then-is_some-clause-awaits : goal.returns-then-is_some-clause-awaits
returns-then-is_some-clause-awaits c = λ n has. c.add_unit-reason.ensures.awaits n (c.loop-k.invariant.awaits n has)

pub returns-clause-adds : goal.returns-clause-adds
returns-clause-adds c = record {
  count = c.loop-k.k;
  slots_are = c.loop-k.invariant.slots;
  own = c.loop-k.invariant.own;
  ends = omega (arith, length-cut_up (length c.args.bytes.now / 16) c.args.bytes.now, c.loop-k-test.false, c.loop-k.auto.k-end);
}

use Rattle.std.proofs.Common.{◌+◌, ◌-◌, ◌*◌, ◌<◌, length, take, drop, sym, subst, arith}
use Rattle.std.proofs.lemmas.Bool.Decides.{nat_tests}
use Rattle.rpm_select.proofs.Vocabulary.{pieces, stands_for}
use Rattle.rpm_select.proofs.Back.{Back, back_in, tries, IsWithin}
use Rattle.rpm_select.proofs.Going.{starred, taken}
use Rattle.rpm_select.proofs.Members.{rest_len}
use Rattle.rpm_select.proofs.Bounds.{left_within, within_less, smaller}
use Rattle.rpm_select.proofs.matching.glob.Goals as goal

pub loop-rest-preserved-in-Starred : goal.loop-rest-preserved-in-Starred
loop-rest-preserved-in-Starred c =
    let inv = c.loop-rest.invariant in
    let step = c.in-Starred.ensures.step in
    record {
      goes =
          starred (stands_for (pieces c.args.pattern.now) c.args.text.now) (pieces c.loop-rest.behind.now)
          (pieces c.in-Starred.rest.now) c.loop-rest.left.now (back_in c.loop-rest.back) step.0 inv.goes;
      behind = omega (arith, step.1, inv.behind);
      within = (
        omega (arith, step.1, inv.behind),
        omega arith,
        left_within (length c.args.pattern.now) (length c.args.text.now)
            (length c.loop-rest.left.now) c.loop-rest.back inv.within,
      );
      unclosed = c.in-Starred.ensures.unclosed;
      unclosed_back = c.in-Starred.ensures.unclosed;
    }

pub loop-rest-preserved-in-Taken : goal.loop-rest-preserved-in-Taken
loop-rest-preserved-in-Taken c =
    let inv = c.loop-rest.invariant in
    let step = c.in-Taken.ensures.step in
    record {
      goes =
          taken (stands_for (pieces c.args.pattern.now) c.args.text.now) (pieces c.loop-rest.behind.now) step.0
          (pieces c.in-Taken.rest.now) c.loop-rest.left.now step.1 c.in-Taken.more.now (back_in c.loop-rest.back) step.2 step.3 step.4 step.5 inv.goes;
      behind = omega (arith, step.6, inv.behind);
      within =
          within_less (length c.args.pattern.now) (length c.args.text.now) (length c.loop-rest.left.now) (length c.in-Taken.more.now) c.loop-rest.back
          (rw step.5 (omega arith)) inv.within;
      unclosed = c.in-Taken.ensures.unclosed;
      unclosed_back = inv.unclosed_back;
    }

pub loop-rest-smaller : goal.loop-rest-smaller
loop-rest-smaller c =
    let h = c.if-is_empty.ensures in
    let some : 0 < length c.in-Some.tail.now = grind (arith, nat_tests) in
    let p = length c.args.pattern.now in
    let t = length c.args.text.now in
    let w = subst (λ (b : Back). IsWithin p t (length c.loop-rest.left.now) b) c.in-Some.is c.loop-rest.invariant.within in
    subst (λ (b : Back). (p + 1) * length (take (length c.in-Some.tail.now - 1) (drop 1 c.in-Some.tail.now)) + length c.in-Some.rest.now <
    (p + 1) * tries t b + length c.loop-rest.behind.now) (sym c.in-Some.is)
    (smaller p (length c.in-Some.tail.now) (length (take (length c.in-Some.tail.now - 1) (drop 1 c.in-Some.tail.now))) (length c.in-Some.rest.now)
    (length c.loop-rest.behind.now) (rest_len c.in-Some.tail.now some) w.0)

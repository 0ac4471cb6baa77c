use Rattle.std.proofs.Common.{◌≡◌, ◌+◌, ◌*◌, ◌≢◌, ◌<◌, ℕ, length, take, arith, ap, refl, ◌∙◌, below_more, get_or-set_other, get_or-set_same, length-set}
use Rattle.rpm_header.proofs.Vocabulary.{zeros}
use Rattle.rpm_header.proofs.Counted.{zeros-parts, zeros-le, zeros-take-le}
use Rattle.rpm_header.proofs.places.count_strides.Goals as goal

pub loop-k-init : goal.loop-k-init
loop-k-init c = record {
  seen = omega (arith, zeros-take-le (0 * c.args.stride) c.args.bytes.now);
  size = refl;
  each = λ j below. absurd (omega arith);
}

pub overflow_add-seen : goal.overflow_add-seen
overflow_add-seen c =
    let from = c.loop-k.k * c.args.stride in
    omega (arith, zeros-parts from c.args.bytes.now, zeros-le c.args.bytes.now)

pub loop-k-preserved : goal.loop-k-preserved
loop-k-preserved c =
    let bytes = c.args.bytes.now in
    let from = c.loop-k.k * c.args.stride in
    let to = from + c.args.stride in
    let next : (c.loop-k.k + 1) * c.args.stride ≡ to = omega arith in
    let room : c.loop-k.k < length c.loop-k.sums = omega (arith, c.loop-k.invariant.size) in
    record {
      seen = omega (arith, ap (λ (n : ℕ). zeros (take n bytes)) next, zeros-parts from bytes, zeros-parts to bytes);
      size = length-set c.loop-k.sums c.loop-k.k c.loop-k.seen ∙ c.loop-k.invariant.size;
      each = below_more _ _
          (λ j below. let other : j ≢ c.loop-k.k = omega arith in rw get_or-set_other (c.loop-k.invariant.each j below))
          (rw get_or-set_same c.loop-k.invariant.seen);
    }

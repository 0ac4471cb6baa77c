use Rattle.std.proofs.Common.{◌≡◌, ◌+◌, ◌/◌, ◌*◌, ◌≤◌, ℕ, length, drop, ◌-◌, ◌∙◌, sym, ap, arith, length-drop}
use Rattle.std.proofs.Math.Nat.{mul-le-mul_left}
use Rattle.rpm_header.proofs.Vocabulary.{zeros}
use Rattle.rpm_header.proofs.Counted.{zeros-past, zeros-le, one_more}
use Rattle.rpm_header.proofs.ends.ZeroSums.new.Goals as goal

pub loop-k-init : goal.loop-k-init
loop-k-init c =
    let bytes = c.args.section.now in
    let stride = c.stride_for-stride.result in
    let end = length bytes / stride + 1 in
    let past : (j : ℕ) → end ≤ j → length bytes ≤ j * stride = λ j from. omega (arith, mul-le-mul_left stride from) in
    record {
      seen = sym (zeros-past (end * stride) bytes (past end (omega arith)));
      size = c.no_sums-sums.ensures.size;
      each = λ j from below. c.no_sums-sums.ensures.none j below ∙ sym (zeros-past (j * stride) bytes (past j from));
    }

pub overflow_add-seen : goal.overflow_add-seen
overflow_add-seen c =
    let bytes = c.args.section.now in
    let from = (c.loop-k.k - 1) * c.stride_for-stride.result in
    let to : c.loop-k.k * c.stride_for-stride.result ≡ from + c.stride_for-stride.result = one_more c.loop-k.k c.stride_for-stride.result (omega arith) in
    omega (arith, ap (λ (n : ℕ). zeros (drop n bytes)) to, zeros-le (drop from bytes), length-drop from bytes)

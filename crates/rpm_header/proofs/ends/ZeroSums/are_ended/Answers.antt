use Rattle.std.proofs.Common.{◌≡◌, ◌+◌, ◌/◌, ◌-◌, ◌*◌, ◌<◌, ℕ, List, length, drop, ap, ◌∙◌, arith}
use Rattle.rpm_header.proofs.Vocabulary.{are_ended, zeros}
use Rattle.rpm_header.proofs.Counted.{ended_part, in_strides}
use Rattle.rpm_header.proofs.ends.ZeroSums.are_ended.Goals as goal

pub returns : goal.returns
returns c =
    let bytes = c.self.inside.section.now in
    let next = c.args.offset / c.self.inside.stride + 1 in
    let behind = zeros (drop (next * c.self.inside.stride) bytes) in
    let below : next < 4096 =
    omega (
      arith,
      in_strides 4095 c.self.inside.stride (c.args.offset / c.self.inside.stride) c.args.offset (omega arith)
          (omega (arith, ap length c.self.view_is)),
    ) in
    let left : c.saturating_sub-left.result ≡ c.args.count - behind =
    c.saturating_sub-left.ensures ∙ ap (λ (n : ℕ). c.args.count - n) (c.self.invariant.each next below) in
    c.look_for_ends-ended.ensures.value
    ∙ ap (λ (n : ℕ). are_ended n c.between.result.now) left
    ∙ ended_part c.args.count behind (drop c.args.offset bytes) c.between.result.now c.between.ensures.counted
    ∙ ap (λ (s : List ℕ). are_ended c.args.count (drop c.args.offset s)) c.self.view_is

use Rattle.std.proofs.Common.{◌≡◌, ℕ, ◌+◌, ◌*◌, ◌/◌, ◌-◌, ◌++◌, [], List, replicate, take, length, ap, ◌∙◌, arith}
use Rattle.std.proofs.Math.Seq.{take-nil}
use Rattle.rpm_hindex.proofs.Orders.{few, Few}
use Rattle.rpm_hindex.proofs.Drafting.{draft_none}
use Rattle.rpm_hindex.proofs.image.empty_draft.Goals as goal

pub returns-clause-long : goal.returns-clause-long
returns-clause-long c =
    let f : Few c.args.buckets = few c.args.buckets c.requires.buckets in
    omega (arith, c.in_ok-resize.ensures.len, f.fours)

pub returns-clause-rows : goal.returns-clause-rows
returns-clause-rows c =
    let f : Few c.args.buckets = few c.args.buckets c.requires.buckets in
    let long : length c.resize.new.self.items ≡ 16 * (1 + c.args.buckets / 4) = omega (arith, c.in_ok-resize.ensures.len, f.fours) in
    let front = 16 + 4 * c.args.buckets in
    let before : take front c.in_ok-bytes.bytes.items ≡ [] = ap (take front) c.in_ok-bytes.ensures.items ∙ take-nil front in
    let zeros : c.resize.new.self.items ≡ replicate front 0 = c.in_ok-resize.ensures.items
    ∙ ap (λ (bs : List ℕ). bs ++ replicate (front - c.in_ok-bytes.bytes.len) 0) before
    ∙ ap (λ (n : ℕ). replicate n 0) (omega (arith, c.in_ok-bytes.ensures.len)) in
    draft_none c.args.buckets c.resize.new.self.items zeros long

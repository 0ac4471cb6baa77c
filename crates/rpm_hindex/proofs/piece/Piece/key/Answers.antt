use Rattle.std.proofs.Common.{◌≡◌, ℕ, ◌+◌, ◌-◌, List, take, drop, sym, ap, ◌∙◌, arith}
use Rattle.rpm_hindex.proofs.Vocabulary.{head_length, Row}
use Rattle.rpm_hindex.proofs.Packing.{head_is}
use Rattle.rpm_hindex.proofs.piece.Piece.key.Goals as goal

pub returns : goal.returns
returns c =
    let v = c.self.inside in
    let h = c.index-head.result.now in
    let is = head_is v.heads.items v.keys.items v.live c.self.invariant c.args.self.now c.self.view_is c.args.i c.requires h c.index-head.ensures in
    let long = c.length.ensures in
    let n : h.start + c.length.result - h.start ≡ head_length h = omega (arith, long) in
    ap (λ (k : ℕ). take k (drop h.start c.deref.result.now)) n
    ∙ (ap (λ (bytes : List ℕ). take (head_length h) (drop h.start bytes)) c.deref.ensures.value ∙ sym (ap (λ (r : Row). r.key) is.row_is))

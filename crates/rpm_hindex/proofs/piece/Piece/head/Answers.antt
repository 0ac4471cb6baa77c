use Rattle.std.proofs.Common.{sym, ap, ◌∙◌}
use Rattle.rpm_hindex.proofs.Vocabulary.{Row}
use Rattle.rpm_hindex.proofs.Packing.{head_is}
use Rattle.rpm_hindex.proofs.piece.Piece.head.Goals as goal

pub returns-clause-kind : goal.returns-clause-kind
returns-clause-kind c =
    let v = c.self.inside in
    let h = c.index-head in
    let is = head_is v.heads.items v.keys.items v.live c.self.invariant c.args.self.now c.self.view_is c.args.i c.requires h.result.now h.ensures in
    c.kind.ensures.kind ∙ ap (λ (r : Row). r.kind) (sym is.row_is)

pub returns-clause-number : goal.returns-clause-number
returns-clause-number c =
    let v = c.self.inside in
    let h = c.index-head in
    let is = head_is v.heads.items v.keys.items v.live c.self.invariant c.args.self.now c.self.view_is c.args.i c.requires h.result.now h.ensures in
    ap (λ (r : Row). r.number) (sym is.row_is)

pub returns-clause-place : goal.returns-clause-place
returns-clause-place c =
    let v = c.self.inside in
    let h = c.index-head in
    let is = head_is v.heads.items v.keys.items v.live c.self.invariant c.args.self.now c.self.view_is c.args.i c.requires h.result.now h.ensures in
    ap (λ (r : Row). r.place) (sym is.row_is)

pub returns-clause-length : goal.returns-clause-length
returns-clause-length c =
    let v = c.self.inside in
    let h = c.index-head in
    let is = head_is v.heads.items v.keys.items v.live c.self.invariant c.args.self.now c.self.view_is c.args.i c.requires h.result.now h.ensures in
    c.length.ensures ∙ sym is.long

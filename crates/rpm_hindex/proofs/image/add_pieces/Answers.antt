use Rattle.std.proofs.Common.{List, ap, subst, arith}
use Rattle.std.proofs.lemmas.List.{nil_from_length}
use Rattle.rpm_hindex.proofs.Vocabulary.{IsDraft, live_of, Row}
use Rattle.rpm_hindex.proofs.Pieces.{adds_all, adds_next, adds_none, rows_fit}
use Rattle.rpm_hindex.proofs.image.add_pieces.Goals as goal

pub loop-piece-init : goal.loop-piece-init
loop-piece-init c = adds_none c.args.buckets c.args.bytes.now.items c.args.pieces.items

pub add_records-requires-clause-front : goal.add_records-requires-clause-front
add_records-requires-clause-front c = omega (arith, c.requires.front, c.loop-piece.invariant.long)

pub add_records-requires-clause-whole : goal.add_records-requires-clause-whole
add_records-requires-clause-whole c = omega (arith, c.requires.whole, c.loop-piece.invariant.long)

pub add_records-requires-clause-room : goal.add_records-requires-clause-room
add_records-requires-clause-room c =
    let l = c.loop-piece in
    omega (
      arith,
      c.requires.room,
      c.requires.whole,
      l.invariant.long,
      rows_fit _ _ _ _ l.left.items l.invariant c.pop.new.self.items c.in-Some.piece c.in-Some.ensures.items,
    )

pub loop-piece-preserved : goal.loop-piece-preserved
loop-piece-preserved c =
    let l = c.loop-piece in
    adds_next _ _ _ _ l.left.items l.invariant c.pop.new.self.items c.in-Some.piece c.in-Some.ensures.items c.add_records.new.bytes.items
    c.in_ok-add_records.ensures.long c.in_ok-add_records.ensures.rows

pub returns-clause-long : goal.returns-clause-long
returns-clause-long c =
    let l = c.loop-piece in
    let none = nil_from_length l.left.items (omega (arith, c.in_default.ensures.cases, l.left.ok.0)) in
    omega (arith, l.invariant.long, ap live_of (adds_all _ _ _ _ l.left.items l.invariant none))

pub returns-clause-rows : goal.returns-clause-rows
returns-clause-rows c = λ d.
    let l = c.loop-piece in
    let none = nil_from_length l.left.items (omega (arith, c.in_default.ensures.cases, l.left.ok.0)) in
    subst (λ (rs : List Row). IsDraft rs c.args.buckets l.bytes.items) (adds_all _ _ _ _ l.left.items l.invariant none) (l.invariant.so_far d)

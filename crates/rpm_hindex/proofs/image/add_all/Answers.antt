use Rattle.std.proofs.Common.{◌≡◌, ◌+◌, ◌++◌, List, reverse, ap, sym, subst, ◌∙◌, arith}
use Rattle.rpm_hindex.proofs.Vocabulary.{flat_map, IsDraft, left_rows, live-append, live_of, Row}
use Rattle.rpm_hindex.proofs.Pieces.{id, left_turned}
use Rattle.rpm_hindex.proofs.Results.{on_ok}
use Rattle.rpm_hindex.proofs.image.add_all.Goals as goal

-- the pieces that were turned round are taken as they stood, and the last one after them
module _ (full turned : List (List Row)) (last rows : List Row) (is : turned ≡ reverse full) (all : flat_map id full ++ last ≡ rows) where
  parts : left_rows turned ++ last ≡ rows
  parts = ap (λ (ps : List (List Row)). left_rows ps ++ last) is ∙ ap (λ (rs : List Row). rs ++ last) (left_turned full) ∙ all

  sizes : live_of (left_rows turned) + live_of last ≡ live_of rows
  sizes = sym (live-append (left_rows turned) last) ∙ ap live_of parts

pub add_pieces-requires-clause-room : goal.add_pieces-requires-clause-room
add_pieces-requires-clause-room c =
    let p = c.into_pieces-full.result in
    omega (arith, c.requires.room, sizes p.0.items c.reverse.new.self.items p.1 c.args.rows c.reverse.ensures.items c.into_pieces-full.ensures)

pub add_records-requires-clause-front : goal.add_records-requires-clause-front
add_records-requires-clause-front c = omega (arith, c.requires.front, c.in_ok-add_pieces.ensures.long)

pub add_records-requires-clause-room : goal.add_records-requires-clause-room
add_records-requires-clause-room c =
    let p = c.into_pieces-full.result in
    omega (
      arith,
      c.requires.room,
      c.requires.whole,
      c.in_ok-add_pieces.ensures.long,
      sizes p.0.items c.reverse.new.self.items p.1 c.args.rows c.reverse.ensures.items c.into_pieces-full.ensures,
    )

pub returns-clause-long : goal.returns-clause-long
returns-clause-long c =
    let p = c.into_pieces-full.result in
    on_ok c.add_records.result _ _ (λ long. omega (
      arith,
      long,
      c.in_ok-add_pieces.ensures.long,
      sizes p.0.items c.reverse.new.self.items p.1 c.args.rows c.reverse.ensures.items c.into_pieces-full.ensures,
    )) c.add_records.ensures.long

pub returns-clause-rows : goal.returns-clause-rows
returns-clause-rows c =
    let p = c.into_pieces-full.result in
    let turned = c.reverse.new.self.items in
    let bytes = c.add_records.new.bytes.items in
    on_ok c.add_records.result _ _ (λ more d. subst (λ (rs : List Row). IsDraft rs c.args.buckets bytes)
    (parts p.0.items turned p.1 c.args.rows c.reverse.ensures.items c.into_pieces-full.ensures)
    (more (left_rows turned) (c.in_ok-add_pieces.ensures.rows d))) c.add_records.ensures.rows

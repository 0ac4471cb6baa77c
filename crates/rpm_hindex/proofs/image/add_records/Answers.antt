use Rattle.std.proofs.Common.{◌+◌, ◌<◌, ◌++◌, ◌∷◌, [], List, length, take, ap, ◌∙◌, arith, sym, subst, append_assoc}
use Rattle.std.proofs.lemmas.List.{append-nil}
use Rattle.rpm_hindex.proofs.Vocabulary.{IsDraft, record_units, Row}
use Rattle.rpm_hindex.proofs.Takes.{live_take, live_none, next_rows, live_next}
use Rattle.rpm_hindex.proofs.image.add_records.Goals as goal

pub loop-i-init : goal.loop-i-init
loop-i-init c = record {
  long = omega (arith, live_none);
  so_far = λ before d. subst (λ (rs : List Row). IsDraft rs c.args.buckets c.args.bytes.now.items) (sym (append-nil before)) d;
}

pub add_record-requires-clause-front : goal.add_record-requires-clause-front
add_record-requires-clause-front c = omega (arith, c.requires.front, c.loop-i.invariant.long)

pub add_record-requires-clause-room : goal.add_record-requires-clause-room
add_record-requires-clause-room c =
    let i = c.loop-i.i in
    let lt : i < length c.args.rows.now = omega (arith, c.loop-i-test.true, c.len-i-end.ensures) in
    let size = ap (λ (r : Row). record_units (length r.key)) c.row_in_piece.ensures.row in
    omega (arith, c.requires.room, c.loop-i.invariant.long, live_next c.args.rows.now i lt, live_take c.args.rows.now (i + 1), size, c.requires.whole)

pub loop-i-preserved : goal.loop-i-preserved
loop-i-preserved c =
    let i = c.loop-i.i in
    let rows = c.args.rows.now in
    let lt : i < length rows = omega (arith, c.loop-i-test.true, c.len-i-end.ensures) in
    let size = ap (λ (r : Row). record_units (length r.key)) c.row_in_piece.ensures.row in
    record {
      long = omega (arith, c.in_ok-add_record.ensures.long, c.loop-i.invariant.long, live_next rows i lt, size);
      so_far = λ before d.
          let all = append_assoc before (take i rows) _
          ∙ ap (λ (r : Row). before ++ (take i rows ++ r ∷ [])) c.row_in_piece.ensures.row ∙ ap (λ (rs : List Row). before ++ rs) (sym (next_rows rows i lt)) in
          subst (λ (rs : List Row). IsDraft rs c.args.buckets c.add_record.new.bytes.items) all
          (c.in_ok-add_record.ensures.rows (before ++ take i rows) (c.loop-i.invariant.so_far before d));
    }

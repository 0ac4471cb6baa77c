use Rattle.std.proofs.Common.{◌≡◌, ◌+◌, ◌*◌, ◌<◌, List, length, take, ap, ◌∙◌, arith, refl, sym, subst, ◌∷◌, [], rules}
use Rattle.std.proofs.lemmas.List.{take_all}
use Rattle.rpm_hindex.proofs.Vocabulary.{AddsRows, index_after, Extent, Files, Idx, IsFaulty, IsHonest, IsWhole, live_of, looks_more, looks_none, looks_then}
use Rattle.rpm_hindex.proofs.Vocabulary.{record_units, Row, row_nth}
use Rattle.rpm_hindex.proofs.Takes.{live_take, live_none, live_next, next_rows}
use Rattle.rpm_hindex.proofs.Adding.{rows_none, rows_then}
use Rattle.rpm_hindex.proofs.Results.{handed_on}
use Rattle.rpm_hindex.proofs.plan.add_rows.Goals as goal

pub loop-i-init : goal.loop-i-init
loop-i-init g c = record {
  go = c.requires.go;
  extent = refl;
  tail = omega (arith, c.requires.none, live_none);
  records = omega arith;
  live = omega (arith, live_none);
  adds = λ told whole. rows_none c.args.change.now (g.D.Disk.files c.args.disk.now).idx whole;
  honest = λ told is. is;
  looks = looks_none _ Idx g.met.D.Disk.follows_refl c.args.disk.now;
  faults = omega arith;
}

pub add_row-requires-clause-room : goal.add_row-requires-clause-room
add_row-requires-clause-room g c =
    let i = c.loop-i.i in
    let rows = c.args.rows.now in
    let lt : i < length rows = omega (arith, c.loop-i-test.true, c.len-i-end.ensures) in
    let size = ap (λ (r : Row). record_units (length r.key)) c.row.ensures.row in
    omega (
      arith,
      c.requires.room,
      c.loop-i.invariant.tail,
      ap (λ (e : Extent). e.used) c.loop-i.invariant.extent,
      live_next rows i lt,
      live_take rows (i + 1),
      size,
    )

pub loop-i-preserved : goal.loop-i-preserved
loop-i-preserved g c =
    let i = c.loop-i.i in
    let rows = c.args.rows.now in
    let lt : i < length rows = omega (arith, c.loop-i-test.true, c.len-i-end.ensures) in
    let size = ap (λ (r : Row). record_units (length r.key)) c.row.ensures.row in
    record {
      go = c.in_ok-add_row.ensures.grows.go;
      extent = c.in_ok-add_row.ensures.grows.extent ∙ c.loop-i.invariant.extent;
      tail = omega (arith, c.in_ok-add_row.ensures.grows.tail, c.loop-i.invariant.tail, live_next rows i lt, size);
      records = omega (arith, c.in_ok-add_row.ensures.grows.records, c.loop-i.invariant.records);
      live = omega (arith, c.in_ok-add_row.ensures.grows.live, c.loop-i.invariant.live, live_next rows i lt, size);
      adds = λ told whole.
          let file : Files = g.D.Disk.files c.args.disk.now in
          let more = subst (λ (f : Files). IsWhole c.loop-i.change.records c.loop-i.change.live (index_after c.loop-i.change f.idx)
          → AddsRows c.loop-i.change c.add_row.new.self f.idx (row_nth rows i ∷ [])) ((c.loop-i.invariant.looks.untouched told).same)
          (subst (λ (r : Row). IsWhole c.loop-i.change.records c.loop-i.change.live (index_after c.loop-i.change (g.D.Disk.files c.loop-i.disk).idx)
          → AddsRows c.loop-i.change c.add_row.new.self (g.D.Disk.files c.loop-i.disk).idx (r ∷ [])) c.row.ensures.row
          (c.in_ok-add_row.ensures.added told).rows) in
          subst (AddsRows c.args.change.now c.add_row.new.self file.idx) (sym (next_rows rows i lt)) (rows_then c.args.change.now c.loop-i.change
          c.add_row.new.self file.idx (take i rows) (row_nth rows i) (c.loop-i.invariant.adds told whole) more);
      honest = λ told is. subst (λ (f : Files). IsHonest c.loop-i.change f.idx → IsHonest c.add_row.new.self f.idx)
          ((c.loop-i.invariant.looks.untouched told).same) (c.in_ok-add_row.ensures.added told).honest (c.loop-i.invariant.honest told is);
      looks = looks_then _ Idx g.met.D.Disk.follows_trans (16 * i) 16 (16 * (i + 1)) _ _ _ (omega arith) c.loop-i.invariant.looks
          c.add_row.ensures.reads.looks;
      faults = omega (arith, c.loop-i.invariant.faults, c.add_row.ensures.reads.cause.later);
    }

pub returns-clause-grows : goal.returns-clause-grows
returns-clause-grows g c =
    let i = c.loop-i.invariant in
    let rows = c.args.rows.now in
    let all : take c.loop-i.i rows ≡ rows = take_all c.loop-i.i rows (omega (arith, c.loop-i-test.false, c.len-i-end.ensures)) in
    record {
      go = i.go;
      extent = i.extent;
      tail = omega (arith, i.tail, ap live_of all, c.requires.none);
      records = omega (arith, i.records, ap (λ (rs : List Row). length rs) all, c.loop-i-test.false, c.len-i-end.ensures);
      live = omega (arith, i.live, ap live_of all);
    }

pub returns-clause-added : goal.returns-clause-added
returns-clause-added g c = λ told.
    let rows = c.args.rows.now in
    let all : take c.loop-i.i rows ≡ rows = take_all c.loop-i.i rows (omega (arith, c.loop-i-test.false, c.len-i-end.ensures)) in
    record {
      rows = λ whole. subst (AddsRows c.args.change.now c.loop-i.change (g.D.Disk.files c.args.disk.now).idx) all (c.loop-i.invariant.adds told whole);
      honest = c.loop-i.invariant.honest told;
    }

pub returns-in_err-add_row-clause-reads : goal.returns-in_err-add_row-clause-reads
returns-in_err-add_row-clause-reads g c = record {
  looks =
      let i = c.loop-i.i in
      let lt : i < length c.args.rows.now = omega (arith, c.loop-i-test.true, c.len-i-end.ensures) in
      looks_then _ Idx g.met.D.Disk.follows_trans (16 * i) 16 (16 * length c.args.rows.now) _ _ _ (omega (arith, lt)) c.loop-i.invariant.looks
      c.add_row.ensures.reads.looks;
  cause = search rules;
}

pub returns-clause-reads : goal.returns-clause-reads
returns-clause-reads g c = record {
  looks =
      looks_more _ Idx (16 * c.loop-i.i) (16 * length c.args.rows.now) _ _ (omega (arith, c.loop-i.invariant, c.len-i-end.ensures))
      c.loop-i.invariant.looks;
  cause = search rules;
}

pub returns-in_err-add_row-clause-bad : goal.returns-in_err-add_row-clause-bad
returns-in_err-add_row-clause-bad g c =
    handed_on c.from_residual.result c.in_err-add_row.field-0.0 _ c.from_residual.ensures.1 (λ told is.
    let l = c.loop-i in
    let here = subst (λ (f : Files). IsHonest l.change f.idx → IsFaulty l.change.extent.buckets f.idx c.in_err-add_row.field-0.0)
    ((l.invariant.looks.untouched told).same) (c.in_err-add_row.ensures.bad told) (l.invariant.honest told is) in
    subst (λ (e : Extent). IsFaulty e.buckets (g.D.Disk.files c.args.disk.now).idx c.in_err-add_row.field-0.0) l.invariant.extent here)

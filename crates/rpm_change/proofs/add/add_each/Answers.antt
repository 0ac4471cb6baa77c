use Rattle.std.proofs.Common.{◌+◌, [], map, get_or, drop, refl, ap, ◌∙◌, arith}
use Rattle.std.proofs.lemmas.List.{get_or-map, length-map}
use Rattle.rpm_change.proofs.Vocabulary.{add_file, add_files, apply_all, err_is, err_joins, err_none, going_end, going_more, going_start, going_stop}
use Rattle.rpm_change.proofs.Vocabulary.{in_turn, inner, none_went, Paths, state_in, went_as}
use Rattle.rpm_change.proofs.Arguments.{turn_next, turn_none}
use Rattle.rpm_change.proofs.Filed.{bytes, nothing}
use Rattle.rpm_change.proofs.laws.Owing.{owing_none, owing_then}
use Rattle.rpm_change.proofs.add.add_each.Goals as goal

pub loop-path-init : goal.loop-path-init
loop-path-init g c =
    let s = state_in g.D.Disk c.args.disk.now c.args.db.now in
    record {
      goes = going_start g.D.Disk (add_files (g.S.Shelf.paths c.args.shelf.now) c.args.now s (map bytes c.args.paths.now))
          (none_went g.D.Disk g.met.D.Disk.follows_refl (owing_none g.D.Disk c.requires.gathering) _ _ c.requires.gathering.indexed
          (err_none g.E.Sink c.args.err.now s));
      few = refl;
      paths = λ shelf_told. refl;
      shelf = omega arith;
      err = omega arith;
      err_rest = g.met.E.Sink.follows_refl (inner c.args.err.now);
    }

pub loop-path-preserved : goal.loop-path-preserved
loop-path-preserved g c =
    let k = c.loop-path.path-index in
    let xs = map bytes c.args.paths.now in
    let inv = c.loop-path.invariant in
    let done = c.in_ok-tally.ensures in
    let each = add_file c.args.now (g.S.Shelf.paths c.args.shelf.now) in
    let t = state_in g.D.Disk c.loop-path.disk c.loop-path.db in
    let u = state_in g.D.Disk c.put_file.new.disk c.put_file.new.db in
    let path = bytes (get_or c.args.paths.now k nothing) in
    let same = get_or-map bytes c.args.paths.now k nothing [] (omega arith) in
    let turn = λ (qs : Paths). add_file c.args.now qs t k path in
    let went = went_as g.D.Disk (turn (g.S.Shelf.paths c.loop-path.shelf)) (each t k (get_or xs k [])) (λ both. both)
    (λ both. rw same (ap turn (inv.paths both.1))) (λ s t e. e) (done.went k) in
    record {
      goes = going_more g.D.Disk g.met.D.Disk.follows_trans (err_joins g.E.Sink c.args.err.now c.loop-path.err c.put_file.new.err)
          (owing_then g.D.Disk) (λ owing both rows. owing.owes both.0 rows) (λ owing. owing.stays) (each t k (get_or xs k []))
          (in_turn each u (k + 1) (drop (k + 1) xs)) inv.goes
          (λ both after. turn_next each xs k [] t u (omega (arith, length-map c.args.paths.now bytes)) after) went;
      few = omega (arith, inv.few, done.one);
      paths = λ shelf_told. done.shelf.paths shelf_told ∙ inv.paths shelf_told;
      shelf = omega (arith, inv.shelf, done.shelf.cause.later);
      err = omega (arith, inv.err, done.err.cause.later);
      err_rest = g.met.E.Sink.follows_trans (inner c.args.err.now) (inner c.loop-path.err) (inner c.put_file.new.err) inv.err_rest done.err.goes_on;
    }

pub returns-in_err-tally-clause-went : goal.returns-in_err-tally-clause-went
returns-in_err-tally-clause-went g c =
    let k = c.loop-path.path-index in
    let xs = map bytes c.args.paths.now in
    let inv = c.loop-path.invariant in
    let each = add_file c.args.now (g.S.Shelf.paths c.args.shelf.now) in
    let t = state_in g.D.Disk c.loop-path.disk c.loop-path.db in
    let turn = λ (qs : Paths). add_file c.args.now qs t k (bytes (get_or c.args.paths.now k nothing)) in
    let same = get_or-map bytes c.args.paths.now k nothing [] (omega arith) in
    let u = apply_all (each t k (get_or xs k [])).changes t in
    rw (err_is c.from_residual.result c.from_residual.ensures)
    (going_stop g.D.Disk g.met.D.Disk.follows_trans (err_joins g.E.Sink c.args.err.now c.loop-path.err c.put_file.new.err)
    (owing_then g.D.Disk) (λ owing both rows. owing.owes both.0 rows) (λ owing. owing.stays) (each t k (get_or xs k []))
    (in_turn each u (k + 1) (drop (k + 1) xs)) inv.goes
    (λ both. turn_next each xs k [] t u (omega (arith, length-map c.args.paths.now bytes)) refl)
    (went_as g.D.Disk (turn (g.S.Shelf.paths c.loop-path.shelf)) (each t k (get_or xs k [])) (λ both. both)
    (λ both. rw same (ap turn (inv.paths both.1))) (λ s t e. e) (c.in_err-tally.ensures.went k)))

pub returns-clause-went : goal.returns-clause-went
returns-clause-went g c =
    going_end g.D.Disk (λ both. turn_none (add_file c.args.now (g.S.Shelf.paths c.args.shelf.now)) (map bytes c.args.paths.now) c.loop-path.path-index
    (state_in g.D.Disk c.loop-path.disk c.loop-path.db) (omega (arith, length-map c.args.paths.now bytes))) c.loop-path.invariant.goes

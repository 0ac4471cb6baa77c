use Rattle.std.proofs.Common.{ℕ, List, [], Bool, refl, sym, ap, arith, subst, rules}
use Rattle.std.specs.Prelude.{Option}
use Rattle.rpm_hindex.proofs.Vocabulary.{contains, Files, Head, Idx, Index, index_in, is_kept, IsFoundFrom, IsOutsideIndex, IsPath, IsSoundSpot, IsSpot, nat_cmp}
use Rattle.rpm_hindex.proofs.Vocabulary.{OnWay, PathCosts, Row, Spot, sum_by, units_at}
use Rattle.std.proofs.lemmas.Grind.{common_steps}
use Rattle.std.proofs.lemmas.List.Sums.{sum_by-append}
use Rattle.rpm_hindex.proofs.Results.{handed_on, if_ok, if_err}
use Rattle.rpm_hindex.proofs.Starts.{way_behind, found_behind, found_or_missing}
use Rattle.rpm_hindex.proofs.row_search.find_around.Goals as goal

pub returns-in_err-found-clause-fault : goal.returns-in_err-found-clause-fault
returns-in_err-found-clause-fault g c =
    handed_on c.from_residual.result c.in_err-found.field-0.0 _ c.from_residual.ensures.1 (λ told places path.
    let file : Files = g.D.Disk.files c.args.disk.now in
    let x : Index = index_in c.args.extent.buckets file.idx in
    let kept : ℕ → Bool = is_kept (λ p. contains nat_cmp c.args.dropped.now p) in
    let row : Row = record { kind = c.args.row.kind; key = c.args.row.key.now; number = c.args.row.number; place = c.args.row.place } in
    let st = c.requires.start told places path in
    let way = way_behind x c.args.bucket c.args.first kept row c.args.start st places path in
    c.in_err-found.ensures.fault told way.0 [] way.1 refl)

pub returns-in_err-found-clause-cost : goal.returns-in_err-found-clause-cost
returns-in_err-found-clause-cost g c = λ told places path.
    let file : Files = g.D.Disk.files c.args.disk.now in
    let x : Index = index_in c.args.extent.buckets file.idx in
    let kept : ℕ → Bool = is_kept (λ p. contains nat_cmp c.args.dropped.now p) in
    let row : Row = record { kind = c.args.row.kind; key = c.args.row.key.now; number = c.args.row.number; place = c.args.row.place } in
    let st = c.requires.start told places path in
    let way = way_behind x c.args.bucket c.args.first kept row c.args.start st places path in
    omega (arith, c.in_err-found.ensures.cost told way.0 way.1, ap (sum_by (units_at x.unit)) way.2, sum_by-append (units_at x.unit) st.front way.0)

pub returns-in-Some-clause-cost : goal.returns-in-Some-clause-cost
returns-in-Some-clause-cost g c = λ told places path.
    let file : Files = g.D.Disk.files c.args.disk.now in
    let x : Index = index_in c.args.extent.buckets file.idx in
    let kept : ℕ → Bool = is_kept (λ p. contains nat_cmp c.args.dropped.now p) in
    let row : Row = record { kind = c.args.row.kind; key = c.args.row.key.now; number = c.args.row.number; place = c.args.row.place } in
    let st = c.requires.start told places path in
    let way = way_behind x c.args.bucket c.args.first kept row c.args.start st places path in
    omega (arith, c.in_ok-found.ensures.cost told way.0 way.1, ap (sum_by (units_at x.unit)) way.2, sum_by-append (units_at x.unit) st.front way.0)

pub returns-in-Some-clause-found : goal.returns-in-Some-clause-found
returns-in-Some-clause-found g c = record {
  within = grind (arith, common_steps);
  linked = grind (arith, common_steps);
  sound = search rules;
  found = λ told places path.
      let file : Files = g.D.Disk.files c.args.disk.now in
      let x : Index = index_in c.args.extent.buckets file.idx in
      let kept : ℕ → Bool = is_kept (λ p. contains nat_cmp c.args.dropped.now p) in
      let row : Row = record { kind = c.args.row.kind; key = c.args.row.key.now; number = c.args.row.number; place = c.args.row.place } in
      let st = c.requires.start told places path in
      let way = way_behind x c.args.bucket c.args.first kept row c.args.start st places path in
      let s : Spot = c.in-Some.spot in
      let is = subst (λ (o : Option Spot). IsFoundFrom x c.args.bucket c.args.start.at 0 kept row o) c.in-Some.is
      (c.in_ok-found.ensures.found.found told way.0 way.1) in
      subst (λ (o : Option Head). IsSpot x c.args.bucket c.args.first 0 kept row (record { before = o; at = s.at; behind = s.behind })) (sym c.or.ensures)
      (found_behind x c.args.bucket c.args.first kept row c.args.start st s is);
}

pub returns-in-None-clause-found : goal.returns-in-None-clause-found
returns-in-None-clause-found g c = if_ok c.find_spot-in-None.result _ _ (λ found said. record {
  within = said.within;
  linked = said.linked;
  sound = λ told. subst (λ (f : Files). IsSoundSpot (index_in c.args.extent.buckets f.idx) c.args.bucket found)
      ((c.in_ok-found.ensures.reads.looks.untouched told).same) (said.sound told);
  found = λ told places path.
      let file : Files = g.D.Disk.files c.args.disk.now in
      let x : Index = index_in c.args.extent.buckets file.idx in
      let kept : ℕ → Bool = is_kept (λ p. contains nat_cmp c.args.dropped.now p) in
      let row : Row = record { kind = c.args.row.kind; key = c.args.row.key.now; number = c.args.row.number; place = c.args.row.place } in
      let st = c.requires.start told places path in
      let way = way_behind x c.args.bucket c.args.first kept row c.args.start st places path in
      let behind = subst (λ (o : Option Spot). IsFoundFrom x c.args.bucket c.args.start.at 0 kept row o) c.in-None.is
      (c.in_ok-found.ensures.found.found told way.0 way.1) in
      let here = subst (λ (f : Files). (front : List ℕ) → IsPath (index_in c.args.extent.buckets f.idx) c.args.bucket c.args.first front c.args.start.at
      → IsFoundFrom (index_in c.args.extent.buckets f.idx) c.args.bucket c.args.first c.args.start.at kept row found)
      ((c.in_ok-found.ensures.reads.looks.untouched told).same) (said.found told) in
      found_or_missing x c.args.bucket c.args.first kept row c.args.start st behind found (here st.front st.path);
}) c.find_spot-in-None.ensures.found

pub returns-in-None-clause-fault : goal.returns-in-None-clause-fault
returns-in-None-clause-fault g c = if_err c.find_spot-in-None.result _ _ (λ e said told places path.
    let file : Files = g.D.Disk.files c.args.disk.now in
    let x : Index = index_in c.args.extent.buckets file.idx in
    let kept : ℕ → Bool = is_kept (λ p. contains nat_cmp c.args.dropped.now p) in
    let row : Row = record { kind = c.args.row.kind; key = c.args.row.key.now; number = c.args.row.number; place = c.args.row.place } in
    let st = c.requires.start told places path in
    let way = way_behind x c.args.bucket c.args.first kept row c.args.start st places path in
    subst (λ (f : Files). OnWay (index_in c.args.extent.buckets f.idx) c.args.bucket c.args.first c.args.start.at (IsOutsideIndex e))
    ((c.in_ok-found.ensures.reads.looks.untouched told).same) (said told) st.front way.0 st.path way.1) c.find_spot-in-None.ensures.fault

pub returns-in-None-clause-cost : goal.returns-in-None-clause-cost
returns-in-None-clause-cost g c = λ told places path.
    let file : Files = g.D.Disk.files c.args.disk.now in
    let x : Index = index_in c.args.extent.buckets file.idx in
    let kept : ℕ → Bool = is_kept (λ p. contains nat_cmp c.args.dropped.now p) in
    let row : Row = record { kind = c.args.row.kind; key = c.args.row.key.now; number = c.args.row.number; place = c.args.row.place } in
    let st = c.requires.start told places path in
    let way = way_behind x c.args.bucket c.args.first kept row c.args.start st places path in
    let more = subst (λ (f : Files). PathCosts (index_in c.args.extent.buckets f.idx) c.args.bucket c.args.first c.args.start.at
    (g.D.Disk.bytes_read c.find_spot.new.disk Idx) (g.D.Disk.bytes_read c.find_spot-in-None.new.disk Idx))
    ((c.in_ok-found.ensures.reads.looks.untouched told).same) (c.find_spot-in-None.ensures.cost told) st.front st.path in
    omega (arith, more, c.in_ok-found.ensures.cost told way.0 way.1, ap (sum_by (units_at x.unit)) way.2, sum_by-append (units_at x.unit) st.front way.0)

use Rattle.std.proofs.Common.{rules, ◌≡◌, ℕ, Vec, Global, arith, ◌-◌, ◌++◌, sym, ap, ◌∙◌, subst, ◌+◌, ◌*◌, ◌/◌, ◌≤◌, true, false, length, reverse}
use Rattle.std.specs.Prelude.{IsTrue}
use Rattle.rpm_hindex.proofs.Vocabulary.{AddsPadded, AddsRows, buckets_of, Change, index_after, Extent, Files, first_record, HasLess, index_in, is_bucket_count}
use Rattle.rpm_hindex.proofs.Vocabulary.{IsBad, IsBadFor, IsFaulty, IsHonest, IsPaddedPlan, IsPlanFor, IsScratchOf, IsTooLarge, IsTooLargeFor, IsWhole}
use Rattle.rpm_hindex.proofs.Vocabulary.{contains, Idx, is_kept, looks_at_from, looks_at_then, nat_cmp, records, rows_of, times}
use Rattle.rpm_hindex.proofs.Gathers.{scratch_plan, scratch_padded, large_for, scratch_reach, place_reach, scratch_sized, place_sized, place_zero}
use Rattle.rpm_hindex.proofs.Placing.{place_order, place_plan, place_padded}
use Rattle.rpm_hindex.proofs.Honest.{faulty_bad, faulty_for, bad_memory}
use Rattle.rpm_hindex.proofs.Fewer.{scratch_grows}
use Rattle.rpm_hindex.proofs.Fitting.{plan_fits, changed_least}
use Rattle.rpm_hindex.proofs.RowsLeft.{rows_kept_by, rows_less, has_dropped, drops_cost, other_large}
use Rattle.rpm_hindex.proofs.Keeping.{less_reversed}
use Rattle.rpm_hindex.proofs.Results.{handed_on, if_ok, if_ok_two, if_err, if_err_two}
use Rattle.rpm_hindex.proofs.index.Hindex.prepare_within.Goals as goal

pub returns-then-not-has_room-clause-can : goal.returns-then-not-has_room-clause-can
returns-then-not-has_room-clause-can g c = if_ok c.from_scratch.result _ _ (λ plan is. is.can c.args.self.now.units) c.from_scratch.ensures.leaves

pub returns-then-not-has_room-clause-prepared : goal.returns-then-not-has_room-clause-prepared
returns-then-not-has_room-clause-prepared g c = if_ok_two c.from_scratch.result _ _ _ (λ plan is made.
    let B = buckets_of c.args.self.now.first in
    let file : Files = g.D.Disk.files c.args.disk.now in
    let drops = c.args.drops.now in
    let adds = c.args.adds in
    let first : Change = c.start-change.result in
    let new : Change = c.drop_rows.new.change in
    let same = ap (λ (e : Extent). e.buckets) c.in_ok-drop_rows.ensures.keeps.extent ∙ c.start-change.ensures.buckets in
    record {
      ordered = is.ordered;
      zero = is.zero;
      grows = λ told.
          let at_file = subst (λ (f : Files). IsScratchOf (reverse (rows_kept_by new.extent.buckets f.idx new) ++ adds) plan.work)
          ((c.drop_rows.ensures.reads.looks.untouched told).same) (made told) in
          scratch_grows (index_in B file.idx) (is_kept (λ p. contains nat_cmp new.dropped p)) adds c.args.self.now.units plan.work
          (subst (λ (n : ℕ). IsScratchOf (reverse (rows_kept_by n file.idx new) ++ adds) plan.work) same at_file);
      change = λ told whole.
          let all = less_reversed drops (records B file.idx) (rows_kept_by B file.idx new)
          (rows_less B file.idx drops first new c.start-change.ensures.buckets c.start-change.ensures.dropped
          (c.in_ok-drop_rows.ensures.dropped told).less whole) in
          let at_file = subst (λ (f : Files). IsScratchOf (reverse (rows_kept_by new.extent.buckets f.idx new) ++ adds) plan.work)
          ((c.drop_rows.ensures.reads.looks.untouched told).same) (made told) in
          let scratch = subst (λ (n : ℕ). IsScratchOf (reverse (rows_kept_by n file.idx new) ++ adds) plan.work) same at_file in
          let makes = scratch_plan drops adds (reverse (rows_kept_by B file.idx new)) B file.idx plan.work scratch all in
          record {
            makes = makes;
            padded = scratch_padded (reverse (rows_kept_by B file.idx new) ++ adds) B file.idx plan.work scratch;
            size = scratch_sized drops adds (reverse (rows_kept_by B file.idx new)) (records B file.idx) plan.work all scratch;
            reach = scratch_reach drops adds (reverse (rows_kept_by B file.idx new)) (records B file.idx) c.args.self.now.units plan.work all scratch;
            room = plan_fits drops adds B file.idx plan.work 0 (is.can 0) is.ordered makes;
          };
    }) c.from_scratch.ensures.leaves c.from_scratch.ensures.made

pub returns-then-not-has_room-clause-refused : goal.returns-then-not-has_room-clause-refused
returns-then-not-has_room-clause-refused g c = if_err_two c.from_scratch.result _ _ _ (λ e large bad.
    let B = buckets_of c.args.self.now.first in
    let file : Files = g.D.Disk.files c.args.disk.now in
    let drops = c.args.drops.now in
    let first : Change = c.start-change.result in
    let new : Change = c.drop_rows.new.change in
    let same = ap (λ (e : Extent). e.buckets) c.in_ok-drop_rows.ensures.keeps.extent ∙ c.start-change.ensures.buckets in
    record {
      full = λ told whole.
          let all = less_reversed drops (records B file.idx) (rows_kept_by B file.idx new)
          (rows_less B file.idx drops first new c.start-change.ensures.buckets c.start-change.ensures.dropped
          (c.in_ok-drop_rows.ensures.dropped told).less whole) in
          let at_file = subst (λ (f : Files). IsTooLarge (reverse (rows_kept_by new.extent.buckets f.idx new) ++ c.args.adds) e)
          ((c.drop_rows.ensures.reads.looks.untouched told).same) (large told) in
          large_for drops c.args.adds (reverse (rows_kept_by B file.idx new)) (records B file.idx) e all
          (subst (λ (n : ℕ). IsTooLarge (reverse (rows_kept_by n file.idx new) ++ c.args.adds) e) same at_file);
      bad = λ told. faulty_bad B file.idx e (subst (λ (n : ℕ). IsFaulty n file.idx e) same (subst (λ (f : Files). IsFaulty new.extent.buckets f.idx e)
          ((c.drop_rows.ensures.reads.looks.untouched told).same) (bad told)));
      counts = λ told. faulty_for drops B file.idx e (subst (λ (n : ℕ). IsFaulty n file.idx e) same
          (subst (λ (f : Files). IsFaulty new.extent.buckets f.idx e) ((c.drop_rows.ensures.reads.looks.untouched told).same) (bad told)));
    }) c.from_scratch.ensures.full c.from_scratch.ensures.bad

pub returns-clause-prepared : goal.returns-clause-prepared
returns-clause-prepared g c = if_ok_two c.in_place.result _ _ _ (λ plan can made.
    let B = buckets_of c.args.self.now.first in
    let file : Files = g.D.Disk.files c.args.disk.now in
    let drops = c.args.drops.now in
    let adds = c.args.adds in
    let first = c.start-change.ensures in
    let mid : Change = c.drop_rows.new.change in
    let last : Change = c.add_rows.new.change in
    let keeps = c.in_ok-drop_rows.ensures.keeps in
    let add = c.in_ok-add_rows.ensures.grows in
    let used = ap (λ (e : Extent). e.used) add.extent in
    let empty = ap (λ (t : Vec ℕ Global). length t.items) keeps.tail ∙ first.tail in
    let first_is = ap (λ (e : Extent). is_bucket_count e.buckets) (add.extent ∙ keeps.extent) ∙ first.count in
    let half : last.extent.used + length last.tail.items / 16 ≤ first_record last.extent.buckets + 2 * last.live =
    omega (arith, add.tail, empty, add.live, ap (λ (e : Extent). e.buckets) add.extent, used, c.has_room.ensures.half c.if-not-has_room.false) in
    let ordered = place_order last plan.work add.go first_is made half (omega (arith, add.go.records, add.go.few))
    (omega (arith, add.go.live, add.go.room)) in
    record {
      ordered = ordered;
      zero = place_zero last plan.work made;
      grows = λ told.
          let reach = place_reach last plan.work made in
          omega (arith, reach, used, ap (λ (e : Extent). e.used) keeps.extent, add.tail, empty, first.fits);
      change = λ told whole.
          let less = rows_less B file.idx drops c.start-change.result mid first.buckets first.dropped (c.in_ok-drop_rows.ensures.dropped told).less whole in
          let left = has_dropped B file.idx drops c.start-change.result mid first.buckets keeps.extent keeps.tail first.tail
          (first.«open» file.idx (c.requires.keeps told)) (first.whole file.idx (c.requires.keeps told) whole).cut
          (c.in_ok-drop_rows.ensures.dropped told).cuts less whole in
          let last_is : last.extent.buckets ≡ B = ap (λ (e : Extent). e.buckets) add.extent ∙ left.buckets in
          let all : HasLess drops (records last.extent.buckets file.idx) (rows_of (index_after mid file.idx)) = λ r.
          left.rows' r ∙ ap (λ (n : ℕ). times r (records n file.idx) - times r drops) (sym last_is) in
          let more = subst (λ (f : Files). IsWhole mid.records mid.live (index_after mid f.idx) → AddsRows mid last f.idx adds)
          ((c.drop_rows.ensures.reads.looks.untouched told).same) (c.in_ok-add_rows.ensures.added told).rows in
          let plan_is = place_plan mid last drops adds file.idx plan.work add.go c.in_place.ensures.ordered made (more left.cut.whole) all
          (omega (arith, add.go.records, add.go.few)) (omega (arith, add.go.live, add.go.room)) in
          let makes = subst (λ (n : ℕ). IsPlanFor drops adds n file.idx plan.work) last_is plan_is in
          record {
            makes = makes;
            padded = subst (λ (n : ℕ). IsPaddedPlan n file.idx plan.work) last_is (place_padded mid last adds file.idx plan.work add.go
                c.in_place.ensures.ordered made (more left.cut.whole)
                (subst (λ (n : ℕ). AddsPadded (index_in n file.idx) (index_after mid file.idx)) (sym last_is) left.padded));
            size = place_sized drops adds (records B file.idx) last plan.work made;
            reach = λ new changed.
                let reach = place_reach last plan.work made in
                omega (arith, reach, used, ap (λ (e : Extent). e.used) keeps.extent, add.tail, empty, first.fits);
            room = plan_fits drops adds B file.idx plan.work last.extent.used (can last.extent.used (omega arith)) ordered makes;
          };
    }) c.in_place.ensures.can c.in_place.ensures.made

pub returns-clause-refused : goal.returns-clause-refused
returns-clause-refused g c = if_err c.in_place.result _ _ (λ e is.
    let B = buckets_of c.args.self.now.first in
    let file : Files = g.D.Disk.files c.args.disk.now in
    let drops = c.args.drops.now in
    record {
      full = λ told whole. subst (IsTooLargeFor drops c.args.adds (records B file.idx)) (sym is) tt;
      bad = λ told. faulty_bad B file.idx e (bad_memory B file.idx e is);
      counts = λ told. faulty_for drops B file.idx e (bad_memory B file.idx e is);
    }) c.in_place.ensures.memory

pub returns-in_err-drop_rows-clause-refused : goal.returns-in_err-drop_rows-clause-refused
returns-in_err-drop_rows-clause-refused g c =
    handed_on c.from_residual.result c.in_err-drop_rows.field-0.0 _ c.from_residual.ensures.1 (let B = buckets_of c.args.self.now.first in
    let file : Files = g.D.Disk.files c.args.disk.now in
    let drops = c.args.drops.now in
    let start = c.start-change.ensures in
    record {
      full = λ told whole. other_large drops c.args.adds (records B file.idx) c.in_err-drop_rows.field-0.0 c.in_err-drop_rows.ensures.other;
      bad = λ told. subst (λ (n : ℕ). IsBad n file.idx c.in_err-drop_rows.field-0.0) start.buckets
          (c.in_err-drop_rows.ensures.bad told (start.honest file.idx (c.requires.keeps told)));
      counts = λ told.
          let keeps = c.requires.keeps told in
          subst (λ (n : ℕ). IsBadFor drops n file.idx c.in_err-drop_rows.field-0.0) start.buckets
          (c.in_err-drop_rows.ensures.counts told (start.fresh file.idx keeps) (start.honest file.idx keeps));
    })

pub returns-in_err-add_rows-clause-refused : goal.returns-in_err-add_rows-clause-refused
returns-in_err-add_rows-clause-refused g c =
    handed_on c.from_residual-in_err-add_rows.result c.in_err-add_rows.field-0.0 _ c.from_residual-in_err-add_rows.ensures.1
    (let B = buckets_of c.args.self.now.first in
    let file : Files = g.D.Disk.files c.args.disk.now in
    let drops = c.args.drops.now in
    let new : Change = c.drop_rows.new.change in
    let e = c.in_err-add_rows.field-0.0 in
    let same = ap (λ (x : Extent). x.buckets) c.in_ok-drop_rows.ensures.keeps.extent ∙ c.start-change.ensures.buckets in
    let faulty : IsTrue g.D.Disk.tells → IsFaulty B file.idx e = λ told.
    let honest = (c.in_ok-drop_rows.ensures.dropped told).honest (c.start-change.ensures.honest file.idx (c.requires.keeps told)) in
    subst (λ (n : ℕ). IsFaulty n file.idx e) same
    (subst (λ (f : Files). IsHonest new f.idx → IsFaulty new.extent.buckets f.idx e)
    ((c.drop_rows.ensures.reads.looks.untouched told).same) (c.in_err-add_rows.ensures.bad told) honest) in
    record {
      full = λ told whole. other_large drops c.args.adds (records B file.idx) e c.in_err-add_rows.ensures.other;
      bad = λ told. faulty_bad B file.idx e (faulty told);
      counts = λ told. faulty_for drops B file.idx e (faulty told);
    })

pub returns-in_err-drop_rows-clause-cost : goal.returns-in_err-drop_rows-clause-cost
returns-in_err-drop_rows-clause-cost g c = λ told whole stays.
    let dropped = drops_cost c.args.drops.now (g.D.Disk.files c.args.disk.now).idx _ _ _ _ c.start-change.ensures.buckets whole
    (λ w. c.in_err-drop_rows.ensures.cost told w (c.start-change.ensures.honest (g.D.Disk.files c.args.disk.now).idx (c.requires.keeps told))) in
    omega (arith, dropped)

pub returns-in_err-add_rows-clause-cost : goal.returns-in_err-add_rows-clause-cost
returns-in_err-add_rows-clause-cost g c = λ told whole stays.
    let dropped = drops_cost c.args.drops.now (g.D.Disk.files c.args.disk.now).idx _ _ _ _ c.start-change.ensures.buckets whole
    (λ w. c.in_ok-drop_rows.ensures.cost told w (c.start-change.ensures.honest (g.D.Disk.files c.args.disk.now).idx (c.requires.keeps told))) in
    omega (arith, dropped, c.in_err-add_rows.ensures.reads.looks.reads.idx)

pub returns-clause-cost : goal.returns-clause-cost
returns-clause-cost g c = λ told whole stays.
    let dropped = drops_cost c.args.drops.now (g.D.Disk.files c.args.disk.now).idx _ _ _ _ c.start-change.ensures.buckets whole
    (λ w. c.in_ok-drop_rows.ensures.cost told w (c.start-change.ensures.honest (g.D.Disk.files c.args.disk.now).idx (c.requires.keeps told))) in
    omega (arith, dropped, c.in_ok-add_rows.ensures.reads.looks.reads.idx)

pub returns-then-not-has_room-clause-cost : goal.returns-then-not-has_room-clause-cost
returns-then-not-has_room-clause-cost g c = λ told whole stays.
    let B = buckets_of c.args.self.now.first in
    let file : Files = g.D.Disk.files c.args.disk.now in
    let drops = c.args.drops.now in
    let first = c.start-change.ensures in
    let mid : Change = c.drop_rows.new.change in
    let less = rows_less B file.idx drops c.start-change.result mid first.buckets first.dropped (c.in_ok-drop_rows.ensures.dropped told).less whole in
    let left = has_dropped B file.idx drops c.start-change.result mid first.buckets c.in_ok-drop_rows.ensures.keeps.extent
    c.in_ok-drop_rows.ensures.keeps.tail first.tail
    (first.«open» file.idx (c.requires.keeps told)) (first.whole file.idx (c.requires.keeps told) whole).cut
    (c.in_ok-drop_rows.ensures.dropped told).cuts less whole in
    let most = changed_least (index_after mid file.idx) mid.records mid.live drops c.args.adds (records B file.idx) stays.rows left.cut.whole left.rows'
    stays.changed in
    let room : c.has_room.result ≡ true = c.has_room.ensures.least (omega (arith, most.0, stays.few, left.buckets))
    (omega (arith, left.open'.used, stays.room)) (omega (arith, left.open'.used, stays.half, most.1, left.buckets)) in
    let no' : true ≡ false = sym room ∙ c.if-not-has_room.true in
    absurd (let wrong : ⊥ = cc in wrong)

pub returns-then-not-has_room-clause-reads : goal.returns-then-not-has_room-clause-reads
returns-then-not-has_room-clause-reads g c = record {
  looks =
      looks_at_then _ Idx g.met.D.Disk.follows_trans c.args.disk.now c.drop_rows.new.disk c.from_scratch.new.disk c.drop_rows.ensures.reads.looks
      c.from_scratch.ensures.reads.looks;
  cause = record {
    later = omega (arith, c.drop_rows.ensures.reads.cause.later, c.from_scratch.ensures.reads.cause.later);
    rose = λ is. omega (arith, c.drop_rows.ensures.reads.cause.later, c.from_scratch.ensures.reads.cause.rose is);
  };
}

pub returns-in_err-add_rows-clause-reads : goal.returns-in_err-add_rows-clause-reads
returns-in_err-add_rows-clause-reads g c = record {
  looks =
      looks_at_then _ Idx g.met.D.Disk.follows_trans c.args.disk.now c.drop_rows.new.disk c.add_rows.new.disk c.drop_rows.ensures.reads.looks
      (looks_at_from _ Idx (16 * length c.args.adds) c.drop_rows.new.disk c.add_rows.new.disk c.add_rows.ensures.reads.looks);
  cause = search rules;
}

pub returns-clause-reads : goal.returns-clause-reads
returns-clause-reads g c = record {
  looks =
      looks_at_then _ Idx g.met.D.Disk.follows_trans c.args.disk.now c.drop_rows.new.disk c.add_rows.new.disk c.drop_rows.ensures.reads.looks
      (looks_at_from _ Idx (16 * length c.args.adds) c.drop_rows.new.disk c.add_rows.new.disk c.add_rows.ensures.reads.looks);
  cause = record {
    later = omega (arith, c.drop_rows.ensures.reads.cause.later, c.add_rows.ensures.reads.cause.later);
    rose = λ is. let clash = rw is at c.in_place.ensures.memory in absurd cc;
  };
}

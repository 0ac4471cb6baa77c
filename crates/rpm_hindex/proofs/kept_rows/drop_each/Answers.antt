use Rattle.std.proofs.Common.{◌≡◌, ℕ, Bool, ◌-◌, ◌+◌, ◌%◌, ◌<◌, ◌∷◌, [], List, Vec, Global, length, drop, refl, sym, ap, ◌∙◌, arith, rules, subst}
use Rattle.rpm_hindex.proofs.Vocabulary.{AreStarts, chain, ChainCosts, Change, contains, Extent, Files, get, HasGone, hash_of, HasLess, HasNoFault, Idx}
use Rattle.rpm_hindex.proofs.Vocabulary.{Index, index_in, is_at, is_kept, IsBadSoFar, IsWithoutDropped, IsHonest, IsShort, IsWellFormed, kept_in, kept_of, looks_at_none}
use Rattle.rpm_hindex.proofs.Vocabulary.{looks_at_then, lookup, nat_cmp, Row, row_nth, StandWithin, Start, times, unit_at, units_at}
use Rattle.rpm_hindex.proofs.Vocabulary.{HasBuckets}
use Rattle.rpm_hindex.proofs.Takes.{rows_from}
use Rattle.rpm_hindex.proofs.Costing.{chain_more, chains_drop}
use Rattle.rpm_hindex.proofs.Keeping.{less_start, less_before}
use Rattle.rpm_hindex.proofs.Gone.{gone_none, gone_before, short_before, times_drop}
use Rattle.std.specs.Prelude.{Option, Some, None}
use Rattle.std.proofs.lemmas.List.{drop_all}
use Rattle.rpm_hindex.proofs.Results.{handed_on}
use Rattle.rpm_hindex.proofs.kept_rows.drop_each.Goals as goal

pub loop-left-init : goal.loop-left-init
loop-left-init g c = record {
  go = c.requires.go;
  extent = refl;
  tail = refl;
  few = omega (arith, c.len-left.ensures);
  none = λ e. refl;
  stand = λ b s is. absurd (none_starts b s is);
  starts = λ told b s is. absurd (none_starts b s is);
  less = λ told whole. subst (λ (rs : List Row). HasLess rs kept kept) (sym none_left) (less_start kept kept (λ r. refl));
  gone = λ told none. gone_none (drop c.len-left.result c.args.rows.now) c.args.change.now
      (index_in c.args.change.now.extent.buckets (g.D.Disk.files c.args.disk.now).idx);
  cuts = λ told whole none cut. cut;
  honest = λ told is. is;
  cost = λ told whole. omega arith;
  looks = looks_at_none _ Idx g.met.D.Disk.follows_refl c.args.disk.now;
  faults = omega arith;
} where
  none_left : drop c.len-left.result c.args.rows.now ≡ []
  none_left = drop_all c.len-left.result c.args.rows.now (omega (arith, c.len-left.ensures))

  kept : List Row
  kept = kept_of (index_in c.args.change.now.extent.buckets (g.D.Disk.files c.args.disk.now).idx) (is_kept (λ p. contains nat_cmp c.args.change.now.dropped p))

  none_starts : (b : ℕ) (s : Start) → get nat_cmp c.new-starts.result b ≡ Some s → ⊥
  none_starts b s is =
      let wrong : None ≡ Some s = sym (ap (lookup (is_at (nat_cmp b))) c.new-starts.ensures.empty) ∙ is in
      let no' : ⊥ = cc in no'

-- what reading a chain cost, in the words of the first disk
cost_here : (later first : Files) (e d : Extent) (r row : Row) (old new : ℕ) → later ≡ first → e ≡ d → r ≡ row
    → ChainCosts (chain (index_in e.buckets later.idx) (hash_of r.kind r.key % e.buckets)) (units_at (unit_at later.idx)) old new
    → ChainCosts (chain (index_in d.buckets first.idx) (hash_of row.kind row.key % d.buckets)) (units_at (unit_at first.idx)) old new
cost_here later first e d r row old new same extent is costs =
    let C : Files → Extent → Row → Type 0 = λ f x q. ChainCosts (chain (index_in x.buckets f.idx) (hash_of q.kind q.key % x.buckets))
    (units_at (unit_at f.idx)) old new in
    subst (λ (q : Row). C first d q) is (subst (λ (x : Extent). C first x r) extent (subst (λ (f : Files). C f e r) same costs))

-- the index, in the words of the first disk
index_here : (later first : Files) (e d : Extent) → later ≡ first → e ≡ d → index_in e.buckets later.idx ≡ index_in d.buckets first.idx
index_here later first e d same extent =
    ap (λ (f : Files). index_in e.buckets f.idx) same ∙ ap (λ (x : Extent). index_in x.buckets first.idx) extent

-- starts, in the words of the first disk
starts_here : (later first : Files) (e d : Extent) (kept : ℕ → Bool) (starts : ℕ → Option Start) → later ≡ first → e ≡ d
    → AreStarts (index_in e.buckets later.idx) kept starts → AreStarts (index_in d.buckets first.idx) kept starts
starts_here later first e d kept starts same extent are =
    subst (λ (x : Extent). AreStarts (index_in x.buckets first.idx) kept starts) extent
    (subst (λ (f : Files). AreStarts (index_in e.buckets f.idx) kept starts) same are)

pub drop_row-requires-clause-starts : goal.drop_row-requires-clause-starts
drop_row-requires-clause-starts g c =
    let l = c.loop-left in
    record {
      stand = subst (λ (e : Extent). StandWithin e.buckets e.used (λ b. get nat_cmp l.starts b)) (sym l.invariant.extent) l.invariant.stand;
      chained = λ told. starts_here (g.D.Disk.files c.args.disk.now) (g.D.Disk.files l.disk) c.args.change.now.extent l.change.extent
          (is_kept (λ p. contains nat_cmp l.change.dropped p))
          (λ b. get nat_cmp l.starts b) (sym ((l.invariant.looks.untouched told).same)) (sym l.invariant.extent) (l.invariant.starts told);
    }

pub loop-left-preserved : goal.loop-left-preserved
loop-left-preserved g c =
    let l = c.loop-left in
    let rows = c.args.rows.now in
    let i = l.left - 1 in
    let lt : i < length rows = omega (arith, c.loop-left-test.true, l.invariant.few) in
    let next : l.left ≡ i + 1 = omega (arith, c.loop-left-test.true) in
    record {
      go = c.in_ok-drop_row.ensures.keeps.go;
      extent = c.in_ok-drop_row.ensures.keeps.extent ∙ l.invariant.extent;
      tail = c.in_ok-drop_row.ensures.keeps.tail ∙ l.invariant.tail;
      few = omega (arith, lt);
      none = λ e. absurd (omega (arith, e, lt));
      stand = subst (λ (e : Extent). StandWithin e.buckets e.used (λ b. get nat_cmp c.drop_row.new.starts b)) l.invariant.extent
          c.in_ok-drop_row.ensures.starts.stand;
      starts = λ told. starts_here (g.D.Disk.files l.disk) (g.D.Disk.files c.args.disk.now) l.change.extent c.args.change.now.extent
          (is_kept (λ p. contains nat_cmp c.drop_row.new.self.dropped p)) (λ b. get nat_cmp c.drop_row.new.starts b)
          ((l.invariant.looks.untouched told).same) l.invariant.extent (c.in_ok-drop_row.ensures.starts.chained told);
      less = λ told whole.
          let first : Change = c.args.change.now in
          let file : Files = g.D.Disk.files c.args.disk.now in
          let of : Files → Extent → Change → List Row = λ f e d. kept_of (index_in e.buckets f.idx) (is_kept (λ p. contains nat_cmp d.dropped p)) in
          let same = (l.invariant.looks.untouched told).same in
          let here = subst (λ (f : Files). IsWellFormed l.change.extent.buckets f.idx → HasLess (row_nth rows i ∷ [])
          (of f l.change.extent l.change) (of f l.change.extent c.drop_row.new.self)) same
          (subst (λ (r : Row). IsWellFormed l.change.extent.buckets (g.D.Disk.files l.disk).idx → HasLess (r ∷ [])
          (of (g.D.Disk.files l.disk) l.change.extent l.change) (of (g.D.Disk.files l.disk) l.change.extent c.drop_row.new.self))
          c.row.ensures.row (c.in_ok-drop_row.ensures.dropped told).less) in
          let there = subst (λ (e : Extent). IsWellFormed e.buckets file.idx → HasLess (row_nth rows i ∷ []) (of file e l.change)
          (of file e c.drop_row.new.self)) l.invariant.extent here in
          subst (λ (rs : List Row). HasLess rs (of file first.extent first) (of file first.extent c.drop_row.new.self)) (sym (rows_from rows i l.left lt next))
          (less_before (row_nth rows i) (drop l.left rows) _ _ _ (l.invariant.less told whole) (there whole));
      gone = λ told none.
          let first : Change = c.args.change.now in
          let last : Change = c.drop_row.new.self in
          let here = subst (λ (y : Index). HasNoFault y → HasGone (row_nth rows i ∷ []) l.change last y)
          (index_here (g.D.Disk.files l.disk) (g.D.Disk.files c.args.disk.now) l.change.extent first.extent
          ((l.invariant.looks.untouched told).same) l.invariant.extent)
          (subst (λ (r : Row). HasNoFault (index_in l.change.extent.buckets (g.D.Disk.files l.disk).idx)
          → HasGone (r ∷ []) l.change last (index_in l.change.extent.buckets (g.D.Disk.files l.disk).idx)) c.row.ensures.row
          (c.in_ok-drop_row.ensures.dropped told).gone) in
          let x : Index = index_in first.extent.buckets (g.D.Disk.files c.args.disk.now).idx in
          subst (λ (rs : List Row). HasGone rs first last x) (sym (rows_from rows i l.left lt next))
          (gone_before (row_nth rows i) (drop l.left rows) first l.change last x (l.invariant.gone told none) (here none));
      cuts = λ told whole none cut.
          let same = (l.invariant.looks.untouched told).same in
          let here = subst (λ (f : Files). IsWellFormed l.change.extent.buckets f.idx → length l.change.tail.items ≡ 0 → IsWithoutDropped l.change f.idx
          → IsWithoutDropped c.drop_row.new.self f.idx) same (c.in_ok-drop_row.ensures.dropped told).cuts in
          let wells = subst (λ (e : Extent). IsWellFormed e.buckets (g.D.Disk.files c.args.disk.now).idx) (sym l.invariant.extent) whole in
          here wells (ap (λ (t : Vec ℕ Global). length t.items) l.invariant.tail ∙ none) (l.invariant.cuts told whole none cut);
      honest = λ told is. subst (λ (f : Files). IsHonest l.change f.idx → IsHonest c.drop_row.new.self f.idx)
          ((l.invariant.looks.untouched told).same) (c.in_ok-drop_row.ensures.dropped told).honest (l.invariant.honest told is);
      cost = λ told whole. chain_more c.args.change.now.extent.buckets (g.D.Disk.files c.args.disk.now).idx whole c.requires.go.some rows i l.left _ _ _ lt next
          (l.invariant.cost told whole)
          (cost_here (g.D.Disk.files l.disk) (g.D.Disk.files c.args.disk.now) l.change.extent c.args.change.now.extent _ (row_nth rows i) _ _
          ((l.invariant.looks.untouched told).same) l.invariant.extent c.row.ensures.row (c.in_ok-drop_row.ensures.cost told));
      looks = looks_at_then _ Idx g.met.D.Disk.follows_trans _ _ _ l.invariant.looks c.drop_row.ensures.reads.looks;
      faults = omega (arith, l.invariant.faults, c.drop_row.ensures.reads.cause.later);
    }

pub returns-in_err-drop_row-clause-cost : goal.returns-in_err-drop_row-clause-cost
returns-in_err-drop_row-clause-cost g c = λ told whole.
    let l = c.loop-left in
    let rows = c.args.rows.now in
    let i = l.left - 1 in
    let lt : i < length rows = omega (arith, c.loop-left-test.true, l.invariant.few) in
    let next : l.left ≡ i + 1 = omega (arith, c.loop-left-test.true) in
    let B = c.args.change.now.extent.buckets in
    let file = (g.D.Disk.files c.args.disk.now).idx in
    let more = chain_more B file whole c.requires.go.some rows i l.left _ _ _ lt next (l.invariant.cost told whole)
    (cost_here (g.D.Disk.files l.disk) (g.D.Disk.files c.args.disk.now) l.change.extent c.args.change.now.extent _ (row_nth rows i) _ _
    ((l.invariant.looks.untouched told).same) l.invariant.extent c.row.ensures.row (c.in_err-drop_row.ensures.cost told)) in
    omega (arith, more, chains_drop B file whole c.requires.go.some rows i)

pub returns-in_err-drop_row-clause-refused : goal.returns-in_err-drop_row-clause-refused
returns-in_err-drop_row-clause-refused g c =
    handed_on c.from_residual.result c.in_err-drop_row.field-0.0 _ c.from_residual.ensures.1 (λ told.
    let l = c.loop-left in
    let rows = c.args.rows.now in
    let i = l.left - 1 in
    let lt : i < length rows = omega (arith, c.loop-left-test.true, l.invariant.few) in
    let next : l.left ≡ i + 1 = omega (arith, c.loop-left-test.true) in
    let first : Change = c.args.change.now in
    let x : Index = index_in first.extent.buckets (g.D.Disk.files c.args.disk.now).idx in
    let fault = c.in_err-drop_row.ensures.refused told in
    record {
      short = λ none.
          let here = subst (λ (y : Index). HasNoFault y → IsShort (row_nth rows i ∷ []) l.change y c.in_err-drop_row.field-0.0)
          (index_here (g.D.Disk.files l.disk) (g.D.Disk.files c.args.disk.now) l.change.extent first.extent
          ((l.invariant.looks.untouched told).same) l.invariant.extent)
          (subst (λ (r : Row). HasNoFault (index_in l.change.extent.buckets (g.D.Disk.files l.disk).idx)
          → IsShort (r ∷ []) l.change (index_in l.change.extent.buckets (g.D.Disk.files l.disk).idx) c.in_err-drop_row.field-0.0) c.row.ensures.row
          fault.short) in
          short_before (row_nth rows i) (drop l.left rows) rows first l.change x
          (λ r. omega (arith, times_drop r rows i, ap (times r) (rows_from rows i l.left lt next)))
          (l.invariant.gone told none) c.in_err-drop_row.field-0.0 (here none);
      bad = λ is.
          let here = subst (λ (f : Files). IsHonest l.change f.idx → IsBadSoFar l.change.extent.buckets f.idx c.in_err-drop_row.field-0.0)
          ((l.invariant.looks.untouched told).same) fault.bad (l.invariant.honest told is) in
          subst (λ (e : Extent). IsBadSoFar e.buckets (g.D.Disk.files c.args.disk.now).idx c.in_err-drop_row.field-0.0) l.invariant.extent here;
    })

pub returns-clause-keeps : goal.returns-clause-keeps
returns-clause-keeps g c =
    let i = c.loop-left.invariant in
    record { go = i.go; extent = i.extent; tail = i.tail }

pub returns-clause-dropped : goal.returns-clause-dropped
returns-clause-dropped g c = λ told.
    let l = c.loop-left in
    let first : Change = c.args.change.now in
    let file : Files = g.D.Disk.files c.args.disk.now in
    let x : Index = index_in first.extent.buckets file.idx in
    let done : l.left ≡ 0 = omega (arith, c.loop-left-test.false) in
    let all : drop l.left c.args.rows.now ≡ c.args.rows.now = ap (λ (n : ℕ). drop n c.args.rows.now) done in
    record {
      less = λ whole. subst (λ (rs : List Row). HasLess rs (kept_in x first) (kept_in x l.change)) all (l.invariant.less told whole);
      cuts = l.invariant.cuts told;
      honest = l.invariant.honest told;
      gone = λ none. subst (λ (rs : List Row). HasGone rs first l.change x) all (l.invariant.gone told none);
    }

pub drop_row-requires-clause-open : goal.drop_row-requires-clause-open
drop_row-requires-clause-open g c = λ told.
    let l = c.loop-left in
    subst (λ (e : Extent). HasBuckets e (g.D.Disk.files l.disk).idx) (sym l.invariant.extent)
    (subst (λ (f : Files). HasBuckets c.args.change.now.extent f.idx) (sym ((l.invariant.looks.untouched told).same)) (c.requires.open told))

pub returns-in_err-drop_row-clause-reads : goal.returns-in_err-drop_row-clause-reads
returns-in_err-drop_row-clause-reads g c = record {
  looks =
      looks_at_then _ Idx g.met.D.Disk.follows_trans c.args.disk.now c.loop-left.disk c.drop_row.new.disk c.loop-left.invariant.looks
      c.drop_row.ensures.reads.looks;
  cause = search rules;
}

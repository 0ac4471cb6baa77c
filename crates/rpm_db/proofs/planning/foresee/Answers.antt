use Rattle.std.proofs.Common.{◌≡◌, ℕ, ◌++◌, ◌≤◌, ◌^◌, List, Result, sym, subst, arith}
use Rattle.std.specs.Prelude.{IsTrue}
use Rattle.std.specs.FinMap as finite
use Rattle.rpm_outside.specs.declared.disk.Disk as disk
use Rattle.rpm_db.proofs.Vocabulary.{BadIndexIs, Balances, buckets_of, ChangeFault, FitsAsked, FullIndexIs, HasRoomForRows, HasRows, IsWellFormed, nat_cmp, Package, records, PackageChange, Row, RowChange, rows}
use Rattle.rpm_db.proofs.Vocabulary.{TakesRows, times, times-append, times_none, Units, units_for}
use Rattle.rpm_db.specs.declared.planning.PackageChange.TheVariants as request
use Rattle.rpm_hindex.specs.State as hindex
use Rattle.rpm_db.proofs.OwedRows.{balance_most}
use Rattle.rpm_hindex.proofs.Fewer.{units_less}
use Rattle.rpm_db.proofs.planning.foresee.Goals as goal

-- the rows fit, where the counts of the index leave room for those that come, or rows only go
room_left : (asked : PackageChange) (index : hindex.IndexState) (owed : RowChange) (idx : Units) (before after : finite.FinMap nat_cmp Package)
    → HasRoomForRows asked index owed → hindex.KeepsIndexValue idx index → HasRows before idx → Balances owed (rows before) (rows after)
    → FitsAsked asked (units_for (rows after)) → units_for (rows after) ≤ 2 ^ 28
room_left (request.Erase n) index owed idx before after room keeps has balances fits = fits
room_left (request.Put n view) index owed idx before after room keeps has balances fits =
    let recs = records (buckets_of index.first) idx in
    let whole = subst (λ (u : List ℕ). IsWellFormed (buckets_of u) idx) (sym keeps.first) has.whole in
    let same = λ (row : Row). subst (λ (u : List ℕ). times row (records (buckets_of u) idx) ≡ times row (rows before)) (sym keeps.first) (has.same row) in
    let most = room idx keeps whole (recs ++ owed.adds) (λ row. omega (arith, times-append row recs owed.adds, times_none row)) in
    let less = units_less (rows after) (recs ++ owed.adds)
    (λ row. omega (
      arith,
      balance_most owed (rows before) (rows after) balances row,
      same row,
      times-append row recs owed.adds,
      times-append row (rows before) owed.adds,
    )) in
    omega (arith, most, less)

-- what is answered of a copy
takes_copy : {D A : Type 0} (d : disk.Ghosts D) (a : D) (copy owed : RowChange) (MayBe : ℕ → Type 0) (result : Result A ChangeFault) → copy ≡ owed
    → (IsTrue d.tells → (before after : finite.FinMap nat_cmp Package) → HasRows before (d.files a).idx → Balances copy (rows before) (rows after)
    → FullIndexIs (units_for (rows after)) result)
    → (IsTrue d.tells → BadIndexIs copy.drops (d.files a).idx result) → TakesRows d a owed MayBe result
takes_copy d a copy owed MayBe result same full bad = subst (λ (o : RowChange). TakesRows d a o MayBe result) same (record {
  full = λ told before after has balances may. full told before after has balances;
  bad = bad;
})

pub returns-then-not-ahead-clause-takes : goal.returns-then-not-ahead-clause-takes
returns-then-not-ahead-clause-takes g c = record {
  full = λ told before after has balances fits.
      room_left c.args.request c.args.index.now c.args.owed.now (g.D.Disk.files c.args.disk.now).idx before after
      (c.has_room-is_sure.ensures.room c.if-is_sure.true) (c.requires.keeps told) has balances fits;
  bad = λ told. tt;
}

pub returns-in-Ok-prepare_owed-clause-takes : goal.returns-in-Ok-prepare_owed-clause-takes
returns-in-Ok-prepare_owed-clause-takes g c =
    takes_copy g.D.Disk c.args.disk.now c.in-Ok.copy c.args.owed.now (FitsAsked c.args.request) _ c.in-Ok.ensures c.in-Ok-prepare_owed.ensures.full (λ told. tt)

pub returns-in-Err-clause-takes : goal.returns-in-Err-clause-takes
returns-in-Err-clause-takes g c =
    takes_copy g.D.Disk c.args.disk.now c.in-Ok.copy c.args.owed.now (FitsAsked c.args.request) _ c.in-Ok.ensures c.in-Err.ensures.full c.in-Err.ensures.bad

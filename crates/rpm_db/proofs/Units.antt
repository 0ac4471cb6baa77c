-- How many units an index of rows needs: those of an index that is in order have room.
use Rattle.std.proofs.Common.{◌≡◌, ℕ, ◌*◌, ◌^◌, ◌≤◌, List, [], length, true, sym, ap, subst, arith}
use Rattle.std.specs.FinMap as finite
use Rattle.rpm_db.proofs.Vocabulary.{buckets_of, HasRows, index_in, IsWellFormed, live_of, nat_cmp, Package, records, Row, rows, times, unit_at}
use Rattle.rpm_db.proofs.Vocabulary.{times_none, Units, units_for}
use Rattle.rpm_db.proofs.Reached.{live_none}
use Rattle.rpm_hindex.specs.State as hindex
use Rattle.rpm_outside.specs.Words.{word}
use Rattle.rpm_hindex.proofs.Fitting.{changed_least, count_least}
use Rattle.rpm_hindex.proofs.Orders.{ordered_parts}
use Rattle.std.proofs.lemmas.Bool.{and_parts}

pub units_ordered : (idx : Units) (index : hindex.IndexState) (packages : finite.FinMap nat_cmp Package) → hindex.is_in_order index ≡ true
    → hindex.KeepsIndexValue idx index → HasRows packages idx → units_for (rows packages) ≤ 2 ^ 28
unfolding hindex.is_in_order
units_ordered idx index packages order keeps has =
    let B = buckets_of index.first in
    let second : index.second ≡ unit_at idx 1 = keeps.second in
    let o = ordered_parts B index.second index.units (and_parts (hindex.is_headed index.first) (hindex.is_ordered B index.second index.units) order).1 in
    let whole = subst (λ (u : List ℕ). IsWellFormed (buckets_of u) idx) (sym keeps.first) has.whole in
    let same = λ (row : Row). subst (λ (u : List ℕ). times row (records (buckets_of u) idx) ≡ times row (rows packages)) (sym keeps.first) (has.same row) in
    let least = changed_least (index_in B idx) (word 1 (unit_at idx 1)) (word 2 (unit_at idx 1)) [] [] (records B idx) (rows packages) whole
    (λ row. omega (arith, times_none row)) (λ row. omega (arith, same row, times_none row)) in
    let long : length (rows packages) ≤ 2 * B = omega (arith, least.0, ap (word 1) second, o.few) in
    let live : live_of (rows packages) ≤ word 2 index.second = omega (arith, least.1, live_none, ap (word 2) second) in
    omega (arith, count_least B (length (rows packages)) o.count long, live, o.live, o.from, o.most)

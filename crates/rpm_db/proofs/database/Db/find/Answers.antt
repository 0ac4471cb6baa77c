use Rattle.std.proofs.Common.{◌≡◌, ℕ, List, false, sym, ap, ◌∙◌, subst}
use Rattle.rpm_db.proofs.Vocabulary.{AreHits, code_of, Database, hash_of, IsCurrentIndex, IsWellFormed, KeepsUnits, packages, records, store_of, rows, unit_at}
use Rattle.rpm_hindex.specs.State as hindex
use Rattle.rpm_db.proofs.Found.{current_in_order, some_buckets, same_hits, ok_map, no_bad, chain_ok}
use Rattle.rpm_db.proofs.database.Db.find.Goals as goal

pub find-requires-clause-order : goal.find-requires-clause-order
find-requires-clause-order g c =
    let going : c.self.inside.is_stopped ≡ false = ap (λ (db : Database). db.stopped) c.self.view_is ∙ c.requires.runs in
    current_in_order c.self.inside.store.generation c.in-Some.index
    (subst (IsCurrentIndex c.self.inside.store.generation) c.in-Some.is (c.self.invariant.order going))

pub returns-clause-rows : goal.returns-clause-rows
returns-clause-rows g c =
    ok_map c.find.result _ _ c.find.ensures.rows (λ hits said told has.
    let idx = (g.D.Disk.files c.args.disk.now).idx in
    let all = rows (packages (g.D.Disk.files c.args.disk.now).pkg (store_of c.args.self.now)) in
    let kept : hindex.KeepsIndexValue idx c.in-Some.index =
    subst (KeepsUnits idx) (sym (ap (λ (db : Database). db.index) c.self.view_is) ∙ c.in-Some.is) (c.requires.keeps told) in
    let same = λ (first : List ℕ). IsWellFormed (hindex.buckets_of first) idx in
    let are = said told (subst same (sym kept.first) has.whole) in
    same_hits (code_of c.args.kind) c.args.key.now all (records (hindex.buckets_of (unit_at idx 0)) idx) hits has.same
    (subst (λ (first : List ℕ). AreHits (code_of c.args.kind) c.args.key.now (records (hindex.buckets_of first) idx) hits) kept.first
    (subst (λ (kind : ℕ). AreHits kind c.args.key.now (records (hindex.buckets_of c.in-Some.index.first) idx) hits) c.code.ensures are)))

pub returns-clause-lawful : goal.returns-clause-lawful
returns-clause-lawful g c = λ told has.
    let idx = (g.D.Disk.files c.args.disk.now).idx in
    let kept : hindex.KeepsIndexValue idx c.in-Some.index =
    subst (KeepsUnits idx) (sym (ap (λ (db : Database). db.index) c.self.view_is) ∙ c.in-Some.is) (c.requires.keeps told) in
    let first = c.in-Some.index.first in
    let going : c.self.inside.is_stopped ≡ false = ap (λ (db : Database). db.stopped) c.self.view_is ∙ c.requires.runs in
    let order =
    current_in_order c.self.inside.store.generation c.in-Some.index (subst (IsCurrentIndex c.self.inside.store.generation) c.in-Some.is
    (c.self.invariant.order going)) in
    let whole = subst (λ (unit : List ℕ). IsWellFormed (hindex.buckets_of unit) idx) (sym kept.first) has.whole in
    no_bad _ _ c.find.result (chain_ok (hindex.buckets_of first) (hash_of c.code.result c.args.key.now) idx
    (some_buckets c.in-Some.index order) whole) (c.find.ensures.told told)

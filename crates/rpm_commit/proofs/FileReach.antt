-- How far a command makes the files reach, from the opening on.
use Rattle.rpm_commit.proofs.Vocabulary.{Change, Course, Database, doubled_buckets, Files, FoundStore, idx_more, idx_reach, OpensBy, pkg_more, pkg_reach, ChangesReachAnew}
use Rattle.rpm_commit.proofs.Vocabulary.{LengthsOn, ReachesOn, store_of, Row, rows, State, state, Store, store, store_end, units_for}
use Rattle.std.proofs.Common.{◌≡◌, ℕ, zero, suc, ◌*◌, ◌≤◌, max, if◌then◌else◌, Bool, true, List, [], length, Ok, refl, ap, subst, inl, inr, ⊎_elim, ◌⊎◌, arith}
use Rattle.std.specs.Prelude.{nat_le}
use Rattle.std.proofs.lemmas.Bool.{cases_Bool}
use Rattle.rpm_hindex.specs.Sizes as sizes
use Rattle.rpm_change.specs.Reaches.{all_added, ChangesReach}
use Rattle.rpm_db.specs.Reaches.{Gains}
use Rattle.rpm_commit.proofs.laws.Works.{if_found, opened}

-- ---- an index of no rows is the least

doubled_more : (n buckets records : ℕ) → buckets ≤ doubled_buckets n buckets records
doubled_more zero buckets records = omega arith
doubled_more (suc n) buckets records = elim (cases_Bool (nat_le records (2 * buckets))) [
  | inl small ↦ omega (arith, ap (λ (b : Bool). if b then buckets else doubled_buckets n (2 * buckets) records) small)
  | inr large ↦
      omega (arith, ap (λ (b : Bool). if b then buckets else doubled_buckets n (2 * buckets) records) large, doubled_more n (2 * buckets) records)
]

pub least_units : (all : List Row) → units_for [] ≤ units_for all
unfolding sizes.bucket_count sizes.live_of
least_units all = let is : units_for [] ≡ 18 = refl in omega (arith, is, doubled_more (length all) 64 (length all))

-- ---- after the opening

module _ (indexed : Bool) (course : State → Course) (old mid new : Files) (db : Database) (opens : OpensBy old (store old.pkg) mid (Ok db))
    (is : FoundStore old mid db) where
  abbrev found : State
  found = state mid.pkg (store_of db)

  abbrev made : List Change
  made = (course found).changes

  reached_from : length new.pkg ≤ pkg_reach (length mid.pkg) (store_of db) made
      → (indexed ≡ true → length new.idx ≤ idx_reach (max (length mid.idx) (units_for (rows found.packages))) found made)
      → (length new.idx ≤ idx_reach (max (length mid.idx) (units_for (rows found.packages))) found made) ⊎ Gains (all_added found made) old.idx new.idx
      → ReachesOn indexed course old new
  reached_from pkg idx most =
      let rows_same = ap (λ (s : State). units_for (rows s.packages)) (opened old mid db opens is).0 in
      let last : length new.pkg ≤ pkg_reach (max (length old.pkg) (store_end (store_of db))) (store_of db) made =
      omega (arith, pkg, pkg_more made (length mid.pkg) (max (length old.pkg) (store_end (store_of db))) (store_of db) is.reach.pkg) in
      let more = idx_more made (max (length mid.idx) (units_for (rows found.packages))) (max (length old.idx) (units_for (rows found.packages))) found
      (omega (arith, is.reach.idx, rows_same)) in
      if_found old mid db opens is (λ value s v. LengthsOn indexed old.pkg old.idx value s (course s).changes new) (record {
        pkg_is = subst (λ (v : Store). length new.pkg ≤ pkg_reach (max (length old.pkg) (store_end v)) v made) is.store_is last;
        idx_is = λ asked. omega (arith, idx asked, more);
        idx_most = ⊎_elim (λ far. omega (arith, far, more)) (λ gains. omega (arith, gains)) most;
      })

  -- the index was only changed
  pub reached_changed : ChangesReach indexed found (store_of db) made mid new
      → (length new.idx ≤ idx_reach (length mid.idx) found made) ⊎ Gains (all_added found made) old.idx new.idx → ReachesOn indexed course old new
  reached_changed r most =
      let more = idx_more made (length mid.idx) (max (length mid.idx) (units_for (rows found.packages))) found (omega arith) in
      reached_from r.pkg (λ asked. omega (arith, r.idx asked, more)) (⊎_elim (λ far. inl (omega (arith, far, more))) inr most)

  -- it was rebuilt before the changes
  pub reached_renewed : ChangesReachAnew found (store_of db) made mid new → ReachesOn indexed course old new
  reached_renewed r = reached_from r.pkg (λ asked. r.idx) (inl r.idx)

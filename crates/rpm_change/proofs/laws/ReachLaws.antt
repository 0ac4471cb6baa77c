-- How far files reach: of one change, and of some changes and then of the others.
use Rattle.std.proofs.Common.{◌≡◌, ℕ, ◌+◌, ◌≤◌, max, Bool, true, List, [], ◌∷◌, ◌++◌, length, Option, Some, None, refl}
use Rattle.std.proofs.Common.{sym, ap, ◌∙◌, subst, arith}
use Rattle.std.specs.Prelude.{unwrap_or}
use Rattle.std.specs.Option.{option_map, option_and_then}
use Rattle.rpm_outside.specs.Files.{Units, Files}
use Rattle.rpm_hindex.specs.Sizes.{units_for}
use Rattle.rpm_pkgdb.specs.Reaches.{store_end, ReachesTo}
use Rattle.rpm_pkgdb.specs.Store.{Store}
use Rattle.rpm_pkgdb.specs.Written.{with_spare}
use Rattle.rpm_db.specs.Changes.{Change, apply}
use Rattle.rpm_db.specs.Reaches.{Reaches, ReachesMade, units_needed_after}
use Rattle.rpm_db.specs.laws.Parts.{added_units}
use Rattle.rpm_db.specs.Room.{RoomBecomes, next_store}
use Rattle.rpm_db.specs.Rows.{rows}
use Rattle.rpm_db.specs.State.{State}
use Rattle.rpm_db.proofs.laws.RoomLaws.{next_spare}
use Rattle.rpm_change.specs.Limits.{next_stores}
use Rattle.rpm_change.specs.Reaches.{pkg_reach, idx_reach, ChangesReach, ChangesReachAnew}
use Rattle.rpm_effects.specs.Steps.{apply_all}

-- ---- from further on they reach further

pub pkg_more : (cs : List Change) (m n : ℕ) (v : Store) → m ≤ n → pkg_reach m v cs ≤ pkg_reach n v cs
pkg_more [] m n v le = le
pkg_more (c ∷ cs) m n v le =
    let w = unwrap_or (next_store c v) v in pkg_more cs (max m (store_end w)) (max n (store_end w)) w (omega arith)

pub idx_more : (cs : List Change) (m n : ℕ) (s : State) → m ≤ n → idx_reach m s cs ≤ idx_reach n s cs
idx_more [] m n s le = le
idx_more (c ∷ cs) m n s le = idx_more cs (max (m + added_units s c) (units_needed_after s c))
    (max (n + added_units s c) (units_needed_after s c)) (apply c s) (omega arith)

-- ---- room in memory is nothing to a file

unwrap_spare : (k : ℕ) (o : Option Store) (v : Store)
    → unwrap_or (option_map (with_spare k) o) (with_spare k v) ≡ with_spare k (unwrap_or o v)
unwrap_spare k None v = refl
unwrap_spare k (Some w) v = refl

pkg_spare : (cs : List Change) (n k : ℕ) (v : Store) → pkg_reach n (with_spare k v) cs ≡ pkg_reach n v cs
pkg_spare [] n k v = refl
pkg_spare (c ∷ cs) n k v =
    let w = unwrap_or (next_store c v) v in
    ap (λ (u : Store). pkg_reach (max n (store_end u)) u cs)
    (ap (λ (o : Option Store). unwrap_or o (with_spare k v)) (next_spare c k v) ∙ unwrap_spare k (next_store c v) v)
    ∙ pkg_spare cs (max n (store_end w)) k w

-- ---- some changes and then others

and_then_some : (cs : List Change) (o : Option Store) (w : Store) → option_and_then (next_stores cs) o ≡ Some w
    → (u : Store) × ((o ≡ Some u) × (next_stores cs u ≡ Some w))
and_then_some cs None w is = absurd cc
and_then_some cs (Some u) w is = (u, (refl, is))

pkg_later : (xs ys : List Change) (n : ℕ) (v w : Store) → next_stores xs v ≡ Some w
    → pkg_reach n v (xs ++ ys) ≡ pkg_reach (pkg_reach n v xs) w ys
pkg_later [] ys n v w stores = let same : v ≡ w = cc in ap (λ (u : Store). pkg_reach n u ys) same
pkg_later (x ∷ xs) ys n v w stores =
    let mid = and_then_some xs (next_store x v) w stores in
    let here : unwrap_or (next_store x v) v ≡ mid.0 = ap (λ (o : Option Store). unwrap_or o v) mid.1.0 in
    subst (λ (u : Store). pkg_reach (max n (store_end u)) u (xs ++ ys)
    ≡ pkg_reach (pkg_reach (max n (store_end u)) u xs) w ys) (sym here)
    (pkg_later xs ys (max n (store_end mid.0)) mid.0 w mid.1.1)

idx_later : (xs ys : List Change) (n : ℕ) (s : State)
    → idx_reach n s (xs ++ ys) ≡ idx_reach (idx_reach n s xs) (apply_all xs s) ys
idx_later [] ys n s = refl
idx_later (x ∷ xs) ys n s = idx_later xs ys (max (n + added_units s x) (units_needed_after s x)) (apply x s)

-- ---- files

pub reached_none : (i : Bool) (s : State) (v : Store) (files : Files) → ChangesReach i s v [] files files
reached_none i s v files = record { pkg = omega arith; idx = λ asked. omega arith }

-- one change
pub reached_one : (i : Bool) (s : State) (c : Change) (v w : Store) (old new : Files) → RoomBecomes (next_store c v) v w
    → ReachesTo w old.pkg new.pkg → (i ≡ true → Reaches s c old.idx new.idx) → ChangesReach i s v (c ∷ []) old new
reached_one i s c v w old new placed pkg idx = record {
  pkg = omega (arith, pkg, ap (λ (o : Option Store). store_end (unwrap_or o v)) placed);
  idx = idx;
}

pub reached_more : (i : Bool) (xs ys : List Change) (s t : State) (v w : Store) (old mid new : Files)
    → t ≡ apply_all xs s
    → RoomBecomes (next_stores xs v) v w → ChangesReach i s v xs old mid → ChangesReach i t w ys mid new
    → ChangesReach i s v (xs ++ ys) old new
reached_more i xs ys s t v w old mid new is stores first next = record {
  pkg = omega (
    arith,
    next.pkg,
    pkg_more ys (length mid.pkg) (pkg_reach (length old.pkg) v xs) w first.pkg,
    pkg_later xs ys (length old.pkg) v (with_spare v.spare w) stores,
    pkg_spare ys (pkg_reach (length old.pkg) v xs) v.spare w,
  );
  idx = λ asked. omega (
    arith,
    next.idx asked,
    idx_more ys (length mid.idx) (idx_reach (length old.idx) s xs) t (first.idx asked),
    idx_later xs ys (length old.idx) s,
    ap (λ (u : State). idx_reach (idx_reach (length old.idx) s xs) u ys) is,
  );
}

-- the index was made before
pub reached_anew : (s : State) (v : Store) (changes : List Change) (old mid new : Files) → mid.pkg ≡ old.pkg
    → ReachesMade (units_for (rows s.packages)) old.idx mid.idx → ChangesReach true s v changes mid new
    → ChangesReachAnew s v changes old new
reached_anew s v changes old mid new same made reached = record {
  pkg = omega (arith, reached.pkg, ap (λ (u : Units). pkg_reach (length u) v changes) same);
  idx =
      omega (
        arith,
        reached.idx refl,
        idx_more changes (length mid.idx)
            (max (length old.idx) (units_for (rows s.packages))) s made,
      );
}

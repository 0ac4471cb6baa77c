-- What is read for several arguments.
use Rattle.std.proofs.Common.{◌≡◌, ℕ, zero, suc, ◌+◌, ◌≤◌, List, [], ◌∷◌, map, Option, Some, None, refl, add-one, ap}
use Rattle.std.proofs.Common.{◌∙◌, arith}
use Rattle.std.specs.Prelude.{slice_get, take}
use Rattle.rpm_effects.specs.Steps.{Bearer}
use Rattle.rpm_db.specs.Database.{Database, without_index}
use Rattle.rpm_select.specs.Reach.{Everything, Reach, reach_all, These}
use Rattle.rpm_print.specs.Reads.{reach_sum, reached_cost, reached_by, ReadsIn, ReadsOf}
use Rattle.rpm_print.proofs.laws.Reached.{before_is, reach_before}
use Rattle.std.specs.Option.{option_map_or}
use Rattle.rpm_db.specs.Database.{store_of}

before_none : (rs : List Reach) (db : Database) → reach_before rs db 0 ≡ 0
before_none [] db = refl
before_none (r ∷ rs) db = refl

before_suc : (rs : List Reach) (db : Database) (k : ℕ) (r : Reach) → slice_get rs k ≡ Some r
    → reach_before rs db (suc k) ≡ reach_before rs db k + reach_all r db
before_suc [] db k r is = absurd cc
before_suc (q ∷ rs) db zero r is =
    let same : q ≡ r = cc in
    omega (arith, ap (λ (x : Reach). reach_all x db) same, before_none rs db)
before_suc (q ∷ rs) db (suc k) r is =
    let rest = before_suc rs db k r is in
    omega (arith, rest)

-- one more argument
pub before_next : (rs : List Reach) (db : Database) (k : ℕ) (r : Reach) → slice_get rs k ≡ Some r
    → reach_before rs db (k + 1) ≡ reach_before rs db k
    + reach_all r db
before_next rs db k r is = ap (reach_before rs db) (add-one k) ∙ before_suc rs db k r is

pub before_some : (rs : List Reach) (db : Database) (k : ℕ) → reach_before rs db k ≤ reach_sum rs db
before_some [] db k = omega arith
before_some (r ∷ rs) db zero = omega arith
before_some (r ∷ rs) db (suc k) =
    let rest = before_some rs db k in
    omega (arith, rest)

-- up to a step of an argument, and of all before it
pub reads_by : (rs : List Reach) (db : Database) (k : ℕ) (r : Reach) (before between now : ℕ) (for : Bearer)
    → slice_get rs k ≡ Some r
    → between ≤ before + reach_before rs db k → ReadsOf k r db between now for → now ≤ before + reached_by rs db for
reads_by rs db k r before between now for is le read =
    rw (read.0, is) (omega (arith, le, read.1, before_is rs db k))

-- where there is one
pub reads_one : (r : Reach) (db : Database) (n before between now : ℕ) (for : Bearer) → between ≤ before + 0
    → ReadsIn 0 n r db between now for
    → now ≤ before + reached_by (r ∷ []) db for
reads_one r db n before between now for le read =
    reads_by (r ∷ []) db 0 r before between now for refl (omega (arith, le)) (read.0, omega (arith, read.1))

pub get_map : {X Y : Type 0} (f : X → Y) (xs : List X) (i : ℕ) (x : X) → slice_get xs i ≡ Some x
    → slice_get (map f xs) i ≡ Some (f x)
get_map f [] i x is = absurd cc
get_map f (y ∷ xs) zero x is = (let same : y ≡ x = cc in ap (λ z. Some (f z)) same)
get_map f (y ∷ xs) (suc i) x is = get_map f xs i x is

-- ---- what is read, told by the store alone

store_all : (r : Reach) (db : Database) → reach_all r db ≡ reach_all r (without_index (store_of db))
store_all Everything db = refl
store_all (These ns) db = refl

store_to : (r : Reach) (db : Database) (number : Option ℕ)
    → reached_cost r db number ≡ reached_cost r (without_index (store_of db)) number
store_to r db None = store_all r db
store_to Everything db (Some n) = refl
store_to (These ns) db (Some n) = refl

store_in : (r : Option Reach) (db : Database) (number : Option ℕ)
    → option_map_or (λ q. reached_cost q db number) r 0
    ≡ option_map_or (λ q. reached_cost q (without_index (store_of db)) number) r 0
store_in None db number = refl
store_in (Some r) db number = store_to r db number

pub store_sum : (rs : List Reach) (db : Database) → reach_sum rs db ≡ reach_sum rs (without_index (store_of db))
store_sum [] db = refl
store_sum (r ∷ rs) db = omega (arith, store_all r db, store_sum rs db)

pub store_by : (rs : List Reach) (db : Database) (for : Bearer)
    → reached_by rs db for ≡ reached_by rs (without_index (store_of db)) for
store_by rs db for =
    omega (arith, store_sum (take for.argument rs) db, store_in (slice_get rs for.argument) db for.number)

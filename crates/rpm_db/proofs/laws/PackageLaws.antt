-- The packages of a store at a number.
use Rattle.std.proofs.Common.{◌≡◌, ℕ, ◌+◌, ◌<◌, ◌≤◌, true, false, cond, List, [], ◌∷◌, map, Option, Some, None, is_some}
use Rattle.std.proofs.Common.{refl, sym, ap, ◌∙◌, inl, inr, arith}
use Rattle.std.specs.Option.{option_map}
use Rattle.std.specs.Ordering.{nat_cmp, eq_by_cmp}
use Rattle.std.specs.FinMap as finite
use Rattle.std.proofs.lemmas.Cmp.{nat_cmp_total}
use Rattle.std.proofs.lemmas.Bool.{cases_lt}
use Rattle.rpm_outside.specs.Files.{Units}
use Rattle.rpm_pkgdb.specs.Store.{Store}
use Rattle.rpm_pkgdb.specs.Blobs.{blobs}
use Rattle.rpm_pkgdb.proofs.laws.BlobLaws.{is_some-get-blobs}
use Rattle.rpm_pkgdb.specs.Costs.{cost_to_more, cost_to-cost_all}
use Rattle.rpm_db.specs.Database.{Database, holds, package_cost, packages_cost_to, packages_cost, store_of}
use Rattle.rpm_db.specs.State.{package_of, packages}

-- a map whose values are changed one by one
pub find-map : {X Y : Type 0} (f : X → Y) (q : ℕ) (es : List (ℕ × X))
    → finite.find nat_cmp q (map (λ e. (e.0, f e.1)) es) ≡ option_map f (finite.find nat_cmp q es)
find-map f q [] = refl
find-map f q (e ∷ es) =
    elim (eq_by_cmp nat_cmp q e.0) as (λ b. cond b (Some (f e.1)) (finite.find nat_cmp q (map (λ e. (e.0, f e.1)) es))
    ≡ option_map f (cond b (Some e.1) (finite.find nat_cmp q es))) [
      | true ↦ refl
      | false ↦ find-map f q es
    ]

-- the package of a number is what its blob says
pub get-packages : (file : Units) (s : Store) (n : ℕ)
    → finite.get (packages file s) n ≡ option_map package_of (finite.get (blobs file s) n)
unfolding packages
get-packages file s n =
    finite.get-from_entries nat_cmp_total (map (λ e. (e.0, package_of e.1)) (finite.entries (blobs file s))) n
    ∙ find-map package_of n (finite.entries (blobs file s))
    ∙ ap (option_map package_of) (sym (finite.get-entries (blobs file s) n))

is_some-map : {X Y : Type 0} (f : X → Y) (o : Option X) → is_some (option_map f o) ≡ is_some o
is_some-map f None = refl
is_some-map f (Some x) = refl

-- a value holds the numbers that are there in each file
pub is_there : (file : Units) (db : Database) (n : ℕ)
    → is_some (finite.get (packages file (store_of db)) n) ≡ holds n db
is_there file db n =
    ap is_some (get-packages file (store_of db) n)
    ∙ is_some-map package_of (finite.get (blobs file (store_of db)) n)
    ∙ is_some-get-blobs file (store_of db) n

-- a number costs no more than what it adds to those below it
pub cost_more : (db : Database) (n m : ℕ) → n < m → packages_cost_to n db + package_cost m db ≤ packages_cost_to m db
cost_more db n m below = cost_to_more (store_of db) n m below

pub cost_some : (db : Database) (n : ℕ) → packages_cost_to n db ≤ packages_cost db
cost_some db n = cost_to-cost_all (store_of db) n

pub cost_up : (db : Database) (n m : ℕ) → n ≤ m → packages_cost_to n db ≤ packages_cost_to m db
cost_up db n m le = elim (cases_lt n m) [
  | inl below ↦ omega (arith, cost_to_more (store_of db) n m below)
  | inr not ↦ (let same : n ≡ m = omega arith in rw same (omega arith))
]

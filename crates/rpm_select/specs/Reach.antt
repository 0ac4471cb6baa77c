-- The packages that a picker goes over, and what reading them takes.
use Rattle.rpm_db.specs.Database.{store_of}
use Rattle.std.specs.Prelude.{◌≡◌, ◌⊎◌, ℕ, ◌+◌, ◌-◌, ◌*◌, ◌≤◌, IsOk, List, [], ◌∷◌, map, filter, Bool, true, ◌&&◌, ◌==◌}
use Rattle.std.specs.Prelude.{nat_le, if◌then◌else◌, Option, Some, Result, Ok, Err}
use Rattle.std.specs.List.{list_any, sum_by, AllByRecursion}
use Rattle.std.specs.Ordering.{nat_cmp}
use Rattle.std.specs.FinMap as finite
use Rattle.rpm_outside.specs.Files.{Units, unit_at}
use Rattle.rpm_tags.specs.declared.kind.Kind.{Kind}
use Rattle.rpm_tags.specs.Kinds.{code_of}
use Rattle.rpm_hindex.specs.Index.{units_at}
use Rattle.rpm_db.specs.Answers.{key_chain}
use Rattle.rpm_db.specs.Database.{Database, is_indexed, holds, package_cost, packages_cost_to, packages_cost}
use Rattle.rpm_db.specs.Lawful.{HasRows}
use Rattle.rpm_db.specs.State.{Package, packages}
use Rattle.rpm_select.specs.declared.picked.Picked.{Picked}
use Rattle.rpm_select.specs.declared.picked.PickFault.{PickFault}
use Rattle.rpm_select.specs.declared.picked.PickFault.TheVariants.{BadIndex, DiskFault, NoMemory}
use Rattle.rpm_select.specs.declared.selection.Selection.{Selection}
use Rattle.rpm_select.specs.declared.selection.Selection.TheVariants.{Number}
use Rattle.rpm_select.specs.Candidates.{has_keys, candidates}
use Rattle.rpm_select.specs.Picks.{number_in}
use Rattle.rpm_select.specs.Selections.{is_picked}

-- a question goes over all numbers that are there, or over these
pub data Reach : Type 0 where
  Everything : Reach
  These : List ℕ → Reach

-- an index is asked
abbrev pub asks_index : Database → Selection → Bool
asks_index db sel = has_keys sel && is_indexed db

-- Where an index is asked, a question goes over the candidates alone; else over its number, or all.
abbrev pub reach : Bool → Selection → finite.FinMap nat_cmp Package → Reach
reach asked sel packages = if asked then These (map (λ e. e.0) (candidates packages sel))
    else elim sel [ Number m ↦ These (m ∷ []) | others ↦ Everything ]

-- a number is one of these
abbrev pub is_in : ℕ → List ℕ → Bool
is_in n ns = list_any (λ m. m == n) ns

-- a number is gone over
abbrev pub reaches : Reach → Database → ℕ → Bool
reaches Everything db n = holds n db
reaches (These ns) db n = is_in n ns

-- whatever is picked is in reach
abbrev pub Serves : Reach → finite.FinMap nat_cmp Package → Selection → Type 0
Serves Everything packages sel = Unit {0}
Serves (These ns) packages sel = (n : ℕ) (p : Package) → finite.get packages n ≡ Some p → is_picked sel (n, p) ≡ true
    → is_in n ns ≡ true

-- an index that is kept holds the rows of the packages
abbrev pub HasIndexRows : Database → Units → Units → Type 0
HasIndexRows db pkg idx = is_indexed db ≡ true → HasRows (packages pkg (store_of db)) idx

-- ---- what is read

-- The blocks of the numbers that are gone over, up to this one.
abbrev pub reach_to : ℕ → Reach → Database → ℕ
reach_to m Everything db = packages_cost_to m db
reach_to m (These ns) db = sum_by (λ n. package_cost n db) (filter (λ n. nat_le n m) ns)

-- a question reads the blocks of all numbers that it goes over
abbrev pub reach_all : Reach → Database → ℕ
reach_all Everything db = packages_cost db
reach_all (These ns) db = sum_by (λ n. package_cost n db) ns

-- a question reads the blocks of the numbers above n, up to the one that it gives
abbrev pub reach_after : ℕ → Reach → Database → Result (Option Picked) PickFault → ℕ
reach_after n r db (Ok (Some picked)) = reach_to (number_in picked) r db - reach_to n r db
reach_after n r db _ = reach_all r db - reach_to n r db

-- a question reads the blocks of the numbers above n, up to the one whose number alone it gives
abbrev pub reach_next : ℕ → Reach → Database → Result (Option ℕ) PickFault → ℕ
reach_next n r db (Ok (Some m)) = reach_to m r db - reach_to n r db
reach_next n r db _ = reach_all r db - reach_to n r db

-- ---- what is read of an index

-- the bytes of the records of a chain that is well formed
abbrev pub records_cost : (ℕ → ℕ) → Result (List ℕ) ℕ → ℕ
records_cost units (Ok places) = 16 * sum_by units places
records_cost units (Err unit) = 0

-- asking for a key: the unit with its bucket's word, and the records of that bucket
abbrev pub key_cost : Units → Kind × List ℕ → ℕ
key_cost idx (kind, key) = 16 + records_cost (units_at (unit_at idx)) (key_chain (code_of kind) key idx)

-- asking for each of these keys
abbrev pub keys_cost : Units → List (Kind × List ℕ) → ℕ
keys_cost idx keys = sum_by (key_cost idx) keys

-- the chain of a key's bucket is well formed
abbrev pub HasChain : Units → Kind × List ℕ → Type 0
HasChain idx (kind, key) = IsOk (key_chain (code_of kind) key idx)

-- asking for these keys reads at most that much, where their chains are well formed
abbrev pub KeysCost : Units → List (Kind × List ℕ) → ℕ → ℕ → Type 0
KeysCost idx keys old new = AllByRecursion (HasChain idx) keys → new ≤ old + keys_cost idx keys

-- ---- a broken index

-- the fault of the chain of one of these keys
abbrev pub IsFaultOfOne : List (Kind × List ℕ) → Units → ℕ → Type 0
IsFaultOfOne [] idx unit = ⊥
IsFaultOfOne ((kind, key) ∷ keys) idx unit = (key_chain (code_of kind) key idx ≡ Err unit) ⊎ IsFaultOfOne keys idx unit

-- an index is said to be broken only by that
abbrev pub IsBrokenChain : List (Kind × List ℕ) → Units → PickFault → Type 0
IsBrokenChain keys idx (BadIndex unit) = IsFaultOfOne keys idx unit
IsBrokenChain keys idx DiskFault = Unit {0}
IsBrokenChain keys idx NoMemory = Unit {0}

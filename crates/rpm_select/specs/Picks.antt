-- What a picker answers.
use Rattle.std.specs.Prelude.{◌≡◌, ℕ, ◌+◌, ◌-◌, ◌≤◌, List, [], ◌∷◌, Bool, true, false, nat_le, Option, Some, None}
use Rattle.std.specs.Prelude.{Result, Ok, Err}
use Rattle.std.specs.List.{list_any}
use Rattle.rpm_db.specs.State as state
use Rattle.rpm_db.specs.State.{Package}
use Rattle.rpm_db.specs.Database.{Database, package_cost, packages_cost_to, packages_cost}
use Rattle.rpm_select.specs.declared.picked.Picked.{Picked}
use Rattle.rpm_select.specs.declared.picked.Picked.TheVariants.{Good, Bad}
use Rattle.rpm_select.specs.declared.picked.PickFault.{PickFault}
use Rattle.rpm_select.specs.declared.picked.PickFault.TheVariants.{BadIndex, DiskFault, NoMemory}
use Rattle.rpm_select.specs.declared.selection.Selection.{Selection}
use Rattle.rpm_select.specs.declared.selection.Selection.TheVariants.{Number}

-- the number and the package that are given
abbrev pub entry_in : Picked → ℕ × Package
entry_in (Good number blob) = (number, state.Good blob)
entry_in (Bad number) = (number, state.Bad)

-- the number of what was picked
abbrev pub number_in : Picked → ℕ
number_in (Good number blob) = number
number_in (Bad number) = number

-- the package of what was picked
abbrev pub package_in : Picked → Package
package_in (Good number blob) = state.Good blob
package_in (Bad number) = state.Bad

-- whether anything is picked
abbrev pub is_some_of : {X : Type 0} → List X → Bool
is_some_of [] = false
is_some_of (x ∷ xs) = true

-- the first of them, or none where there is none
abbrev pub NextIs : List (ℕ × Package) → Result (Option Picked) PickFault → Type 0
NextIs left (Ok None) = left ≡ []
NextIs left (Ok (Some picked)) = (rest : List (ℕ × Package)) × (left ≡ entry_in picked ∷ rest)
NextIs left (Err fault) = Unit {0}

-- the number of the first of them, or none where there is none
abbrev pub NextNumberIs : List (ℕ × Package) → Result (Option ℕ) PickFault → Type 0
NextNumberIs left (Ok None) = left ≡ []
NextNumberIs left (Ok (Some n)) = (p : Package) × (rest : List (ℕ × Package)) × (left ≡ (n, p) ∷ rest)
NextNumberIs left (Err fault) = Unit {0}

-- whether one is at most n
abbrev pub AnyIs : List (ℕ × Package) → ℕ → Result Bool PickFault → Type 0
AnyIs picks n (Ok any) = any ≡ list_any (λ e. nat_le e.0 n) picks
AnyIs picks n (Err fault) = Unit {0}

-- the blocks of the numbers above n, up to the one that is given
abbrev pub cost_after : ℕ → Database → Result (Option Picked) PickFault → ℕ
cost_after n db (Ok (Some picked)) = packages_cost_to (number_in picked) db - packages_cost_to n db
cost_after n db _ = packages_cost db - packages_cost_to n db

-- the blocks of the numbers above n, up to the one whose number alone is given
abbrev pub cost_next : ℕ → Database → Result (Option ℕ) PickFault → ℕ
cost_next n db (Ok (Some m)) = packages_cost_to m db - packages_cost_to n db
cost_next n db _ = packages_cost db - packages_cost_to n db

-- where a number is asked for, the blocks of that number alone
abbrev pub ReadsOwn : Selection → Database → ℕ → ℕ → Type 0
ReadsOwn sel db before now = (m : ℕ) → sel ≡ Number m → now ≤ before + package_cost m db

-- an index is said to be broken
abbrev pub is_of_index : PickFault → Bool
is_of_index (BadIndex unit) = true
is_of_index DiskFault = false
is_of_index NoMemory = false

-- a call answers that the index is broken
abbrev pub is_broken : {X : Type 0} → Result X PickFault → Bool
is_broken (Ok x) = false
is_broken (Err fault) = is_of_index fault

-- What is said of one package.
use Rattle.std.specs.Prelude.{◌≡◌, ℕ, List, take, true, false, Option, Some, None, Result, Ok, Err}
use Rattle.rpm_header.specs.Header.{IsOwn}
use Rattle.rpm_db.specs.State as state
use Rattle.rpm_db.specs.State.{Package}
use Rattle.rpm_select.specs.declared.picked.Picked.{Picked}
use Rattle.rpm_select.specs.declared.picked.PickFault.{PickFault}
use Rattle.rpm_select.specs.declared.picked.Taken.{Taken}
use Rattle.rpm_select.specs.declared.picked.Taken.TheVariants as taken
use Rattle.rpm_select.specs.declared.selection.Selection.{Selection}
use Rattle.rpm_select.specs.Selections.{is_picked}
use Rattle.rpm_select.specs.Picks.{entry_in, number_in}

-- what is picked has this number
abbrev pub IsNumbered : ℕ → Result (Option Picked) PickFault → Type 0
IsNumbered n (Ok (Some picked)) = number_in picked ≡ n
IsNumbered n _ = Unit {0}

-- a question picks the package of one number, or doesn't
abbrev pub OneIs : Selection → ℕ → Package → Result (Option Picked) PickFault → Type 0
OneIs sel n p (Ok None) = is_picked sel (n, p) ≡ false
OneIs sel n p (Ok (Some picked)) = (is_picked sel (n, p) ≡ true) × (entry_in picked ≡ (n, p))
OneIs sel n p (Err fault) = Unit {0}

-- a question picks the package of a number, which may have none, or doesn't
abbrev pub OneOf : Selection → ℕ → Option Package → Result (Option Picked) PickFault → Type 0
OneOf sel n (Some p) result = OneIs sel n p result
OneOf sel n None (Ok None) = Unit {0}
OneOf sel n None (Ok (Some picked)) = ⊥
OneOf sel n None (Err fault) = Unit {0}

-- what a selection does with the bytes that a package is read from
abbrev pub TakenIs : Selection → ℕ → List ℕ → Taken → Type 0
TakenIs sel n blob (taken.Good length) =
    (is_picked sel (n, state.package_of (Some blob)) ≡ true)
    × (state.package_of (Some blob) ≡ state.Good (take length blob)) × IsOwn (take length blob)
TakenIs sel n blob taken.Passed = is_picked sel (n, state.package_of (Some blob)) ≡ false
TakenIs sel n blob taken.Bad = state.package_of (Some blob) ≡ state.Bad

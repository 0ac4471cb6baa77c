-- What is held of the packages that were read.
use Rattle.std.specs.Prelude.{◌≡◌, ◌==◌, ◌||◌, ℕ, Bool, true, false, Option, Some, None, IfSome}
use Rattle.std.specs.Ordering.{nat_cmp}
use Rattle.std.specs.FinMap as finite
use Rattle.rpm_db.specs.State.{Package}
use Rattle.rpm_select.specs.declared.picked.Picked.{Picked}
use Rattle.rpm_select.specs.declared.recent.Recent.{Recent}
use Rattle.rpm_select.specs.declared.selection.Selection.{Selection}
use Rattle.rpm_select.specs.Picks.{number_in, package_in}
use Rattle.rpm_select.specs.Selections.{is_picked}

-- what is held, if anything is, has this number
abbrev pub has_recent_number : ℕ → Option Picked → Bool
has_recent_number n None = false
has_recent_number n (Some picked) = number_in picked == n

-- the package of this number is held
abbrev pub IsHeld : ℕ → Recent → Type 0
IsHeld n recent = (has_recent_number n recent.last || has_recent_number n recent.longest) ≡ true

-- what was picked is the package of its number
abbrev pub IsOf : finite.FinMap nat_cmp Package → Picked → Type 0
IsOf packages picked = finite.get packages (number_in picked) ≡ Some (package_in picked)

-- what is held is the package of its number
abbrev pub Recalls : finite.FinMap nat_cmp Package → Recent → Type 0
Recalls packages recent = IfSome recent.last (IsOf packages) × IfSome recent.longest (IsOf packages)

-- a selection picks what a number has
abbrev pub picks_at : Selection → ℕ → Option Package → Bool
picks_at sel n None = false
picks_at sel n (Some p) = is_picked sel (n, p)

-- The next package that is picked, up to a number.
use Rattle.std.specs.Prelude.{◌≡◌, ℕ, ◌-◌, ◌^◌, List, [], ◌∷◌, false, nat_le, Option, Some, None, Result, Ok, Err}
use Rattle.std.specs.List.{list_any}
use Rattle.rpm_db.specs.State.{Package}
use Rattle.rpm_select.specs.Picks.{entry_in, number_in}
use Rattle.rpm_select.specs.declared.picked.Picked.{Picked}
use Rattle.rpm_select.specs.declared.picked.PickFault.{PickFault}

-- the first of them is given; or none is at most last, and where last is the greatest number there is none
abbrev pub NextWithin : ℕ → List (ℕ × Package) → Result (Option Picked) PickFault → Type 0
NextWithin last left (Ok None) = (list_any (λ e. nat_le e.0 last) left ≡ false) × (last ≡ 2 ^ 32 - 1 → left ≡ [])
NextWithin last left (Ok (Some picked)) = (rest : List (ℕ × Package)) × (left ≡ entry_in picked ∷ rest)
NextWithin last left (Err fault) = Unit {0}

-- packages are read up to the one that is given, or up to last
abbrev pub upper_end : ℕ → Result (Option Picked) PickFault → ℕ
upper_end last (Ok (Some picked)) = number_in picked
upper_end last _ = last

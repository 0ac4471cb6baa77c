-- What is read of packages up to a step: the fields `reads` of `plain` and `keyed` on the page (`rpm_tool`,
-- Theorem.antt), and the bounds within `went`.
use Rattle.std.specs.Prelude.{◌≡◌, ℕ, ◌+◌, ◌≤◌, List, [], ◌∷◌, take, slice_get, Option}
use Rattle.std.specs.Option.{option_map_or}
use Rattle.rpm_db.specs.Database.{Database}
use Rattle.rpm_select.specs.Reach.{Reach, reach_to, reach_all}
use Rattle.rpm_effects.specs.Steps.{Bearer}

-- ---- one argument

-- the blocks of the numbers that are gone over: of those up to this one, or of all
abbrev pub reached_cost : Reach → Database → Option ℕ → ℕ
reached_cost r db number = option_map_or (λ n. reach_to n r db) number (reach_all r db)

-- read while those above n are gone through: up to the package that a step is for
abbrev pub ReadsIn : ℕ → ℕ → Reach → Database → ℕ → ℕ → Bearer → Type 0
ReadsIn j n r db before now for = (for.argument ≡ j) × (now + reach_to n r db ≤ before + reached_cost r db for.number)

-- a step within an argument was reached when no more was read than up to its package
abbrev pub ReadsOf : ℕ → Reach → Database → ℕ → ℕ → Bearer → Type 0
ReadsOf j r db before now for = (for.argument ≡ j) × (now ≤ before + reached_cost r db for.number)

-- ---- several

-- the blocks of all of them, those of a number once for each argument that goes over it
abbrev pub reach_sum : List Reach → Database → ℕ
reach_sum [] db = 0
reach_sum (r ∷ rs) db = reach_all r db + reach_sum rs db

-- a question reads this much up to a step: the packages of each argument before, and of its own those up to its
-- number
abbrev pub reached_by : List Reach → Database → Bearer → ℕ
reached_by rs db for = reach_sum (take for.argument rs) db
    + option_map_or (λ r. reached_cost r db for.number) (slice_get rs for.argument) 0

-- What a plan is asked for, and answers.
use Rattle.std.specs.Prelude.{◌≡◌, ℕ, ◌≤◌, Option, Some, None, is_none}
use Rattle.rpm_pkgdb.specs.declared.plan.Plan.{Plan}
use Rattle.rpm_pkgdb.specs.Placing.{placement, placement_of}
use Rattle.rpm_pkgdb.specs.Planned.{IsPlan, IsFor, IsStoreFull}
use Rattle.rpm_pkgdb.specs.Store.{Store}
use Rattle.rpm_pkgdb.specs.Written.{with_spare}

-- the value is as it was, with room for as many puts or more
pub record HasMoreRoom (old new : Store) : Type 0 where
  pub same : new ≡ with_spare new.spare old
  pub kept : old.spare ≤ new.spare

-- the plan of a blob of this length for this number, or for a new one, and there is room to put it
pub record IsPlanned (n : Option ℕ) (size : ℕ) (old new : Store) (plan : Plan) : Type 0 where
  pub room : 1 ≤ new.spare
  pub plan_is : IsPlan new plan
  pub asked : IsFor n size plan
  -- which comes only where there is a place
  pub fits : ¬ IsStoreFull old (is_none n) size
  -- and names the place that the rule gives
  pub placed_is : placement n size old ≡ Some (placement_of plan)

-- there is no place for it, by the slots and by the rule
pub record HasNoPlace (n : Option ℕ) (size : ℕ) (value : Store) : Type 0 where
  pub full : IsStoreFull value (is_none n) size
  pub nowhere : placement n size value ≡ None

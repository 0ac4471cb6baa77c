-- What the next package up to a number shows of all of them.
use Rattle.std.proofs.Common.{◌≡◌, ℕ, ◌-◌, ◌^◌, ◌≤◌, List, true, Option, Some, None, Result, Ok, Err, refl, sym, ap, ◌∙◌, arith}
use Rattle.std.specs.Prelude.{is_some, nat_le, IfOk, IfSome}
use Rattle.std.proofs.lemmas.Bool.Decides.{nat_tests}
use Rattle.rpm_select.proofs.Vocabulary.{cost_after, cost_some, packages_cost_to, Database, upper_end, NextIs, NextWithin, number_in, Package, PickFault, Picked}
use Rattle.rpm_select.proofs.Vocabulary.{Reach, reach_after, reach_some, reach_to}
use Rattle.rpm_select.specs.declared.picked.Picked.TheVariants as picked
use Rattle.rpm_select.proofs.Picking.{any_to}

-- up to the greatest number it is the next one
pub next_is : (left : List (ℕ × Package)) (r : Result (Option Picked) PickFault) → NextWithin (2 ^ 32 - 1) left r → NextIs left r
next_is left (Ok None) is = is.1 refl
next_is left (Ok (Some picked)) is = is
next_is left (Err fault) is = tt

-- one is at most last where the next one is
pub any_is : (last : ℕ) (left : List (ℕ × Package)) (o : Option Picked) → NextWithin last left (Ok o) → IfSome o (λ picked. number_in picked ≤ last)
    → is_some o ≡ any_to last left
any_is last left None is within = sym is.0
any_is last left (Some (picked.Good number blob)) is within =
    let test : nat_le number last ≡ true = grind (arith, nat_tests, within) in
    sym (ap (any_to last) is.1 ∙ rw test refl)
any_is last left (Some (picked.Bad number)) is within =
    let test : nat_le number last ≡ true = grind (arith, nat_tests, within) in
    sym (ap (any_to last) is.1 ∙ rw test refl)

pub end_within : (last : ℕ) (r : Result (Option Picked) PickFault) → IfOk r (λ o. IfSome o (λ picked. number_in picked ≤ last)) → upper_end last r ≤ last
end_within last (Ok None) within = omega arith
end_within last (Ok (Some picked)) within = within
end_within last (Err fault) within = omega arith

pub cost_within : (n last : ℕ) (db : Database) (r : Result (Option Picked) PickFault)
    → packages_cost_to (upper_end last r) db - packages_cost_to n db ≤ cost_after n db r
cost_within n last db (Ok None) = omega (arith, cost_some db last)
cost_within n last db (Ok (Some picked)) = omega arith
cost_within n last db (Err fault) = omega (arith, cost_some db last)

pub reach_within : (n last : ℕ) (r : Reach) (db : Database) (result : Result (Option Picked) PickFault)
    → reach_to (upper_end last result) r db - reach_to n r db ≤ reach_after n r db result
reach_within n last r db (Ok None) = omega (arith, reach_some r db last)
reach_within n last r db (Ok (Some picked)) = omega arith
reach_within n last r db (Err fault) = omega (arith, reach_some r db last)

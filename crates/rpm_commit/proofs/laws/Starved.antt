-- Want of memory in place of a fault of the disk, by the ending.
use Rattle.std.proofs.Common.{◌≡◌, ◌⊎◌, Bool, true, false, refl, inl, inr}
use Rattle.rpm_effects.specs.Classes.{is_of_streams}
use Rattle.rpm_effects.specs.Endings.{unless_starved}
use Rattle.rpm_effects.specs.declared.answer.Why.{Why}
use Rattle.rpm_effects.specs.declared.answer.Why.TheVariants as why
use Rattle.rpm_commit.proofs.laws.ByEnding.{by_starved}

pub starved_is : (starved : Bool) (w : Why) → (unless_starved starved w ≡ w)
    ⊎ ((w ≡ why.DiskFault) × (unless_starved starved w ≡ why.NoMemory))
starved_is starved w = by_starved (λ (was given : Why). (given ≡ was)
    ⊎ ((was ≡ why.DiskFault) × (given ≡ why.NoMemory))) (λ was. inl refl)
    (inr (refl, refl)) starved w

pub starved_streams : (starved : Bool) (w : Why) → is_of_streams (unless_starved starved w) ≡ true
    → w ≡ unless_starved starved w
starved_streams starved w = by_starved (λ (was given : Why). is_of_streams given ≡ true → was ≡ given) (λ was is. refl)
    (λ is. absurd cc) starved w

-- a fault of the disk that isn't a write without memory was one of the disk below
pub starved_fault : (starved : Bool) (w : Why) → unless_starved starved w ≡ why.DiskFault → (starved ≡ false)
    × (w ≡ why.DiskFault)
starved_fault false w is = (refl, is)
starved_fault true why.Done is = absurd cc
starved_fault true others is = absurd cc

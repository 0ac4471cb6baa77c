-- What is said of the index where it is lawful, from one claim for both cases, and back.
use Rattle.std.proofs.Common.{◌≡◌, Bool, true, false, refl}
use Rattle.rpm_change.specs.ByIndex.{ByIndex}

pub by_index : {P : Type 0} {Q : Bool → Type 0} → ((i : Bool) → (i ≡ true → P) → Q i) → ByIndex P Q
by_index all = record { always = all false (λ is. absurd cc); indexed = λ lawful. all true (λ is. lawful) }

pub at_index : {P : Type 0} {Q : Bool → Type 0} → ByIndex P Q → (i : Bool) → (i ≡ true → P) → Q i
at_index both true lawful = both.indexed (lawful refl)
at_index both false lawful = both.always

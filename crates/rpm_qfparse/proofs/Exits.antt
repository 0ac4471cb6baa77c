-- What a function answers where another one stopped.
use Rattle.std.proofs.Common.{◌≡◌, ℕ, List, Result, Err, sym, subst, Bor}
use Rattle.rpm_qfparse.proofs.Vocabulary.{bare_fault, Faulty, Meets, Reading, Stop, FailsAs}
use Rattle.rpm_qfparse.specs.declared.fault.Stop.TheVariants as stop

pub stopped : {X : Type 0} (P : Reading X → Type 0) (r : Result (X × Bor (List ℕ)) Stop) (y e : Stop) → r ≡ Err y → y ≡ e → FailsAs P e → Meets P r
stopped P r y e f g h = subst (Meets P) (sym f) (subst (FailsAs P) (sym g) h)

pub passed_on : {X Y : Type 0} (P : Reading X → Type 0) (Q : Reading Y → Type 0) → ((x : Faulty) → P (Err x) → Q (Err x)) → (e : Stop)
    → FailsAs P e → FailsAs Q e
passed_on P Q f stop.Memory h = tt
passed_on P Q f (stop.Fault x) h = f (bare_fault x) h

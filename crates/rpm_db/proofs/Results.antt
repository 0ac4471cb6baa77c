-- Facts that hold of a result that is Ok.
use Rattle.std.proofs.Common.{◌≡◌, ℕ, ◌≤◌, Ok, Err, ap, arith}
use Rattle.std.specs.Prelude.{Result, OnOk, OnErr, IfOk, IfErr}
use Rattle.rpm_db.proofs.Vocabulary.{ChangeFault, DiskFault, HasCauseAt}

pub map_ok : {A E P Q : Type 0} (r : Result A E) → (P → Q) → OnOk r P → OnOk r Q
map_ok (Ok a) f p = f p
map_ok (Err e) f p = tt

pub both_ok : {A E P Q R : Type 0} (r : Result A E) → (P → Q → R) → OnOk r P → OnOk r Q → OnOk r R
both_ok (Ok a) f p q = f p q
both_ok (Err e) f p q = tt

pub three_ok : {A E P Q R S : Type 0} (r : Result A E) → (P → Q → R → S) → OnOk r P → OnOk r Q → OnOk r R → OnOk r S
three_ok (Ok a) f p q x = f p q x
three_ok (Err e) f p q x = tt

pub four_ok : {A E P Q R S T : Type 0} (r : Result A E) → (P → Q → R → S → T) → OnOk r P → OnOk r Q → OnOk r R → OnOk r S → OnOk r T
four_ok (Ok a) f p q x y = f p q x y
four_ok (Err e) f p q x y = tt

pub map_if_err : {A E : Type 0} {P Q : E → Type 0} (r : Result A E) → ((e : E) → P e → Q e) → IfErr r P → IfErr r Q
map_if_err (Ok a) f p = tt
map_if_err (Err e) f p = f e p

pub if_err : {A E : Type 0} {Q : E → Type 0} (r : Result A E) → ((e : E) → Q e) → IfErr r Q
if_err (Ok a) f = tt
if_err (Err e) f = f e

pub on_err : {A E P : Type 0} (r : Result A E) → P → OnErr r P
on_err (Ok a) p = tt
on_err (Err e) p = p

pub on_ok : {A E P : Type 0} (r : Result A E) → P → OnOk r P
on_ok (Ok a) p = p
on_ok (Err e) p = tt

pub map_if_ok : {A E : Type 0} {P Q : A → Type 0} (r : Result A E) → ((a : A) → P a → Q a) → IfOk r P → IfOk r Q
map_if_ok (Ok a) f p = f a p
map_if_ok (Err e) f p = tt

-- ---- a fault of the disk

abbrev pub failed : (X : Type 0) → ChangeFault → Result X ChangeFault
failed X fault = Err fault

pub err_as : {A B : Type 0} (a b : ChangeFault) → failed A a ≡ failed A b → failed B a ≡ failed B b
err_as {A} {B} a b is = (let same : a ≡ b = cc in ap (failed B) same)

-- of an answer of another type
pub cause_as : {A B : Type 0} {m n : ℕ} (fault : ChangeFault) → HasCauseAt (failed A fault ≡ Err DiskFault) m n
    → HasCauseAt (failed B fault ≡ Err DiskFault) m n
cause_as fault cause = record { later = cause.later; rose = λ is. cause.rose (err_as fault DiskFault is) }

-- none, where the last call was made
pub cause_done : {X V : Type 0} {m n k : ℕ} (x : X) → HasCauseAt V m n → n ≤ k → HasCauseAt (Ok x ≡ failed X DiskFault) m k
cause_done x first le = record { later = omega (arith, first.later, le); rose = λ is. absurd cc }

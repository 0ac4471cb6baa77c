-- Clauses on a result, carried over.
use Rattle.std.proofs.Common.{◌≡◌}
use Rattle.std.proofs.lemmas.Result.{err_from_is_err_and}
use Rattle.std.specs.Prelude.{OnOk, IfOk, IfErr, IsErrAnd, Result, Ok, Err}

pub on_ok : {T E : Type 0} (r : Result T E) (P Q : Type 0) → (P → Q) → OnOk r P → OnOk r Q
on_ok (Ok t) P Q f p = f p
on_ok (Err e) P Q f p = tt

pub ok_of : {T E : Type 0} (r : Result T E) (P : Type 0) → P → OnOk r P
ok_of (Ok t) P p = p
ok_of (Err e) P p = tt

pub if_ok : {T E : Type 0} (r : Result T E) (P Q : T → Type 0) → ((t : T) → P t → Q t) → IfOk r P → IfOk r Q
if_ok (Ok t) P Q f p = f t p
if_ok (Err e) P Q f p = tt

pub if_err : {T E : Type 0} (r : Result T E) (P Q : E → Type 0) → ((e : E) → P e → Q e) → IfErr r P → IfErr r Q
if_err (Ok t) P Q f p = tt
if_err (Err e) P Q f p = f e p

pub if_ok_two : {T E : Type 0} (r : Result T E) (P Q R : T → Type 0) → ((t : T) → P t → Q t → R t) → IfOk r P → IfOk r Q → IfOk r R
if_ok_two (Ok t) P Q R f p q = f t p q
if_ok_two (Err e) P Q R f p q = tt

pub if_err_two : {T E : Type 0} (r : Result T E) (P Q R : E → Type 0) → ((e : E) → P e → Q e → R e) → IfErr r P → IfErr r Q → IfErr r R
if_err_two (Ok t) P Q R f p q = tt
if_err_two (Err e) P Q R f p q = f e p q

-- what a `?` hands on
pub handed_on : {T E : Type 0} (r : Result T E) (e : E) (P : E → Type 0) → IsErrAnd r (λ (y : E). y ≡ e) → P e → IfErr r P
handed_on r e P is p = let q = err_from_is_err_and r is in rw (q.1, q.2) p

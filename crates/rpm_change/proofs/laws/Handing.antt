-- An answer that a `?` hands on.
use Rattle.std.proofs.Common.{◌≡◌, Result, Ok, Err, ap}
use Rattle.std.specs.Prelude.{IsErr, IsErrAnd}

pub err_is : {T E : Type 0} {e : E} (r : Result T E) → IsErr r × IsErrAnd r (λ x. x ≡ e) → r ≡ Err e
err_is (Ok x) is = absurd is.1
err_is (Err y) is = ap Err is.1

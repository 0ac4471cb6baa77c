-- A header's own bytes are the first of those that it was read from.
use Rattle.std.proofs.Common.{◌≡◌, ℕ, ◌≤◌, List, Option, Some, None, Result, Ok, Err, length, take, sym, ap, ◌∙◌}
use Rattle.std.specs.Prelude.{IfOk}
use Rattle.std.proofs.lemmas.List.{length-take-le}
use Rattle.rpm_header.proofs.Vocabulary.{Header, header_of, HeaderFault, unless}

passed : (o : Option HeaderFault) (x h : Header) → unless o x ≡ Ok h → x ≡ h
passed None x h is = cc
passed (Some fault) x h is = absurd cc

pub own_front : (r : Result Header HeaderFault) (il n : ℕ) (bytes : List ℕ) → n ≤ length bytes → r ≡ header_of il (take n bytes)
    → IfOk r (λ h. take (length h.blob) bytes ≡ h.blob)
unfolding header_of
own_front (Err fault) il n bytes within is = cc
own_front (Ok h) il n bytes within is =
    let own : take n bytes ≡ h.blob = ap (λ (x : Header). x.blob) (passed _ _ h (sym is)) in
    let size : length h.blob ≡ n = sym (ap length own) ∙ length-take-le n bytes within in
    rw size own

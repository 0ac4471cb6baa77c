-- A number reads the same whatever stands after its bytes.
use Rattle.std.proofs.Common.{◌≡◌, ℕ, zero, suc, ◌+◌, ◌-◌, ◌<◌, ◌≤◌, List, ◌++◌, length, drop, get_or, refl, ap, ◌∙◌}
use Rattle.std.proofs.Common.{length-drop, arith}
use Rattle.std.specs.Int.{Width, byte_worth, byte_len, from_be_bytes, sum_through}
use Rattle.std.proofs.lemmas.List.{get_or_append_left, drop-append-le}
use Rattle.rpm_header.specs.Bytes.{number_at}

sum_same : (f g : ℕ → ℕ) (n : ℕ) → ((k : ℕ) → k ≤ n → f k ≡ g k) → sum_through f n ≡ sum_through g n
sum_same f g zero same = same 0 (omega arith)
sum_same f g (suc n) same = rw (sum_same f g n (λ k le. same k (omega arith)), same (suc n) (omega arith)) refl

pub number_longer : (w : Width) (bytes more : List ℕ) (at : ℕ) → 0 < byte_len w → at + byte_len w ≤ length bytes
    → number_at w (bytes ++ more) at ≡ number_at w bytes at
unfolding number_at
number_longer w bytes more at some within =
    let apart : drop at (bytes ++ more) ≡ drop at bytes ++ more = drop-append-le at bytes more (omega arith) in
    let size : length (drop at bytes) ≡ length bytes - at = length-drop at bytes in
    ap (from_be_bytes w) apart ∙ sum_same
    (λ i. byte_worth (byte_len w - 1 - i) (get_or (drop at bytes ++ more) i 0))
    (λ i. byte_worth (byte_len w - 1 - i) (get_or (drop at bytes) i 0))
    (byte_len w - 1)
    (λ k le. ap (byte_worth (byte_len w - 1 - k)) (get_or_append_left (drop at bytes) more 0 k (omega arith)))

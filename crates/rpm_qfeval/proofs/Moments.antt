-- A number of seconds is a day and a time of day.
use Rattle.std.proofs.Common.{◌≡◌, ℕ, ◌+◌, ◌*◌, ◌/◌, ◌%◌, ◌<◌, ℤ, pos, negsuc, ◌+ℤ◌, ◌*ℤ◌, arith, ap}
use Rattle.jiff_core.proofs.SignedLemmas.{signed_arith}

pub day_and_time : (z : ℤ) (t n s : ℕ) → t < 86400 → n < 1_000_000_000 → z *ℤ pos 86_400_000_000_000 +ℤ pos (t * 1_000_000_000 + n) ≡ pos s *ℤ pos
    1_000_000_000 → (z ≡ pos (s / 86400)) × (t ≡ s % 86400)
day_and_time (pos d) t n s a b e = let f : d * 86_400_000_000_000 + (t * 1_000_000_000 + n) ≡ s * 1_000_000_000 = omega (arith, signed_arith) in
    (ap pos (omega arith), omega arith)
day_and_time (negsuc d) t n s a b e = absurd (omega (arith, signed_arith))

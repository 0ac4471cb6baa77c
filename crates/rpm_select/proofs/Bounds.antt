-- How much is left of a glob and a text.
use Rattle.std.proofs.Common.{◌≡◌, ℕ, suc, ◌+◌, ◌*◌, ◌<◌, ◌≤◌, Some, None, arith}
use Rattle.rpm_select.proofs.Back.{Back, IsWithin}

pub left_within : (g t l : ℕ) (back : Back) → IsWithin g t l back → l ≤ t
left_within g t l None w = w
left_within g t l (Some b) w = omega (arith, w.1, w.2)

pub within_less : (g t l m : ℕ) (back : Back) → m ≤ l → IsWithin g t l back → IsWithin g t m back
within_less g t l m None le w = omega (arith, w)
within_less g t l m (Some b) le w = (w.0, omega (arith, w.1), w.2)

pub smaller : (p n m r b : ℕ) → n ≡ suc m → r ≤ p → (p + 1) * m + r < (p + 1) * n + b
smaller p n m r b is le = rw is (omega arith)

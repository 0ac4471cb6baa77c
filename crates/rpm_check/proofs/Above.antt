-- What is kept of a sorted list above a number.
use Rattle.std.proofs.Common.{ℕ, List, map}
use Rattle.rpm_check.proofs.Vocabulary.{above, nat_cmp, Package, picks, Selection}
use Rattle.std.specs.FinMap as finite

-- the numbers of those above n
abbrev pub numbers_above : finite.FinMap nat_cmp Package → Selection → ℕ → List ℕ
numbers_above packages sel n = map (λ e. e.0) (above n (picks packages sel))

-- A text cut off from the bytes after it.
use Rattle.std.specs.Prelude.{◌≡◌, ℕ, List, true, is_some}
use Rattle.std.specs.List.{before_first, after_first, position}
use Rattle.rpm_header.specs.Bytes.{is_zero}

-- a first text, and what stands after its zero byte
pub record Splits (bytes first rest : List ℕ) : Type 0 where
  pub ended : is_some (position is_zero bytes) ≡ true
  pub text : first ≡ before_first is_zero bytes
  pub others : rest ≡ after_first is_zero bytes

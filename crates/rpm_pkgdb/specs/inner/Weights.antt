-- What some bytes add to the second sum of a checksum where the first was 0.
use Rattle.std.specs.Prelude.{ℕ, ◌+◌, ◌*◌, List, [], ◌∷◌, length}

-- each byte as many times as there are bytes from it to the end
unfoldable pub weights : List ℕ → ℕ
weights [] = 0
weights (x ∷ xs) = length (x ∷ xs) * x + weights xs

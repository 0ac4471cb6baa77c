-- Marks of which none is so.
use Rattle.std.proofs.Common.{◌≡◌, ℕ, ◌+◌, ◌<◌, ◌≤◌, List, true, false, length, take, drop, get_or, refl, sym, ◌∙◌, arith}
use Rattle.std.specs.Prelude.{Bool, not}
use Rattle.std.proofs.lemmas.List.{length-take, length-drop, get_or-take, get_or-drop}
use mathlib.Core.Bool.{beq}

pub differs : (mark held : Bool) → beq mark held ≡ false → mark ≡ not held
differs true true unlike = absurd cc
differs true false unlike = refl
differs false true unlike = refl
differs false false unlike = absurd cc

-- each of these marks is otherwise, where a search of them found none
pub none_so : (marks : List Bool) (held : Bool) (from n : ℕ) → from + n ≤ length marks
    → ((k : ℕ) (d : Bool) → 0 ≤ k → k < length (take n (drop from marks)) → beq (get_or (take n (drop from marks)) k d) held ≡ false)
    → (k : ℕ) → k < n → get_or marks (from + k) false ≡ not held
none_so marks held from n within none k below =
    sym (get_or-take n (drop from marks) k false below ∙ get_or-drop from marks k false)
    ∙ differs (get_or (take n (drop from marks)) k false) held
    (none k false (omega arith) (omega (arith, length-take n (drop from marks), length-drop from marks)))

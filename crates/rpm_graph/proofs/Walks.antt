-- Walks one after the other.
use Rattle.std.proofs.Common.{ℕ, ◌++◌, List, [], ◌∷◌, sym, subst}
use Rattle.rpm_graph.proofs.Vocabulary.{IsWalk, Leads}

module _ (E : ℕ → ℕ → Type 0) where
  walk-append : (a b c : ℕ) (xs ys : List ℕ) → IsWalk E a xs b → IsWalk E b ys c → IsWalk E a (xs ++ ys) c
  walk-append a b c [] ys first second = subst (λ z. IsWalk E z ys c) (sym first) second
  walk-append a b c (x ∷ xs) ys first second = (first.0, walk-append x b c xs ys first.1 second)

  pub leads_on : (a b c : ℕ) → Leads E a b → Leads E b c → Leads E a c
  leads_on a b c first second = (first.0 ++ second.0, walk-append a b c first.0 second.0 first.1 second.1)

  pub leads_edge : (a b c : ℕ) → E a b → Leads E b c → Leads E a c
  leads_edge a b c edge rest = (b ∷ rest.0, (edge, rest.1))

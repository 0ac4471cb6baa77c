-- What follows from the tests that a number passes before it is put into a graph.
use Rattle.std.proofs.Common.{◌≡◌, ℕ, ◌<◌, List, [], ◌∷◌, true}
use Rattle.std.specs.Prelude.{nat_lt, ◌==◌, All, Contains}
use Rattle.std.specs.List.{list_all, list_any}
use Rattle.std.proofs.lemmas.Bool.{and_parts, ltb-true, eqb-true}
use Rattle.std.proofs.lemmas.List.Elements.{All-nil, All-cons}
use Rattle.std.proofs.lemmas.Map.Views.{Contains-from_any}

pub below : (number : ℕ) (ns : List ℕ) → list_all (λ n. nat_lt n number) ns ≡ true → All (λ n. n < number) ns
below number [] h = All-nil (λ n. n < number)
below number (n ∷ ns) h =
    let p = and_parts (nat_lt n number) (list_all (λ m. nat_lt m number) ns) h in
    All-cons (λ m. m < number) n ns (ltb-true n number p.0) (below number ns p.1)

pub among : (number : ℕ) (ns : List ℕ) → list_any (λ n. number == n) ns ≡ true → Contains ns number
among number ns h = Contains-from_any {eq = ◌==◌} eqb-true number ns h

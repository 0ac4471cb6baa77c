-- From places and their classes to the classes of a graph's numbers.
use Rattle.std.proofs.Common.{◌≡◌, ℕ, ◌≤◌, ◌<◌, List, [], ◌∷◌, length, get_or, map, inl, inr, sym, ap, subst, ◌∙◌, arith}
use Rattle.rpm_graph.proofs.Vocabulary.{Contains, Edge, edge, edge_at, IsEdge, HasEdge, HaveEdges, HaveMembers, IsClass, IsNetwork, IsSplit}
use Rattle.rpm_graph.proofs.Vocabulary.{IsWalk, Leads, Network}
use Rattle.std.proofs.lemmas.Bool.{cases_lt}
use Rattle.std.proofs.lemmas.List.{get_or_default}

-- each leads to the other
abbrev AreTogether : (ℕ → ℕ → Type 0) → ℕ → ℕ → Type 0
AreTogether E n m = Leads E n m × Leads E m n

module _ (g : Network) (net : IsNetwork g) (rows : List (List ℕ)) (have : HaveEdges g (length g.edges) rows) (classes : List ℕ) (count : ℕ)
    (split : IsSplit rows classes count) where
  abbrev number : ℕ → ℕ
  number v = get_or g.numbers v 0

  pub same_place : (v w : ℕ) → v < length g.numbers → w < length g.numbers → number v ≡ number w → v ≡ w
  same_place v w v_in w_in is = elim (cases_lt v w) [
    | inl less ↦ absurd (omega (arith, net.numbers v w less w_in, is))
    | inr behind ↦ elim (cases_lt w v) [
      | inl less ↦ absurd (omega (arith, net.numbers w v less v_in, is))
      | inr same ↦ omega (arith, behind, same)
    ]
  ]

  -- an edge ends at a place that the row of its number has
  pub edge_row : (v m : ℕ) → v < length g.numbers → HasEdge g (number v) m → (w : ℕ) × (w < length g.numbers) × (number w ≡ m) × IsEdge rows v w
  edge_row v m v_in (k, lt, is) =
      let at : edge_at g.edges k ≡ edge (number v) m = get_or_default g.edges k (edge 0 0) (edge (number v) m) lt ∙ is in
      let found = have.there k lt in
      let begins : found.0 ≡ v = same_place found.0 v found.2 v_in (found.3 ∙ ap (λ (e : Edge). e.from) at) in
      let inside : found.1 < length g.numbers = omega (arith, have.within found.0 found.1 found.5, have.sized) in
      (found.1, inside, found.4 ∙ ap (λ (e : Edge). e.to) at, subst (λ x. IsEdge rows x found.1) begins found.5)

  -- its class is no higher
  edge_falls : (v m : ℕ) → v < length g.numbers → HasEdge g (number v) m
      → (w : ℕ) × (w < length g.numbers) × (number w ≡ m) × (get_or classes w 0 ≤ get_or classes v 0)
  edge_falls v m v_in edge =
      let at = edge_row v m v_in edge in
      (at.0, at.1, at.2, split.falls v at.0 (omega (arith, v_in, have.sized)) at.3)

  walk_falls : (v w : ℕ) (walk : List ℕ) → v < length g.numbers → w < length g.numbers → IsWalk (HasEdge g) (number v) walk (number w)
      → get_or classes w 0 ≤ get_or classes v 0
  walk_falls v w [] v_in w_in is = let same = same_place v w v_in w_in is in omega (arith, ap (λ x. get_or classes x 0) same)
  walk_falls v w (m ∷ walk) v_in w_in steps =
      let next = edge_falls v m v_in steps.0 in
      let rest = walk_falls next.0 w walk next.1 w_in (subst (λ x. IsWalk (HasEdge g) x walk (number w)) (sym next.2) steps.1) in
      omega (arith, rest, next.3)

  walk_of : (v w : ℕ) (walk : List ℕ) → IsWalk (IsEdge rows) v walk w → IsWalk (HasEdge g) (number v) (map number walk) (number w)
  walk_of v w [] is = ap number is
  walk_of v w (x ∷ walk) steps = (have.back v x steps.0, walk_of x w walk steps.1)

  -- places of one class are places of numbers that are together, and no others are
  pub together_of : (v w : ℕ) → v < length g.numbers → w < length g.numbers → get_or classes v 0 ≡ get_or classes w 0
      → AreTogether (HasEdge g) (number v) (number w)
  together_of v w v_in w_in is =
      let v_row : v < length rows = omega (arith, v_in, have.sized) in
      let w_row : w < length rows = omega (arith, w_in, have.sized) in
      let there = split.together v w v_row w_row is in
      let back = split.together w v w_row v_row (sym is) in
      ((map number there.0, walk_of v w there.0 there.1), (map number back.0, walk_of w v back.0 back.1))

  pub class_of : (v w : ℕ) → v < length g.numbers → w < length g.numbers → AreTogether (HasEdge g) (number v) (number w)
      → get_or classes v 0 ≡ get_or classes w 0
  class_of v w v_in w_in together =
      let down = walk_falls v w together.0.0 v_in w_in together.0.1 in
      let up = walk_falls w v together.1.0 w_in v_in together.1.1 in
      omega (arith, down, up)

  module _ (members : List (List ℕ)) (grouped : HaveMembers g.numbers classes (length g.numbers) members) where
    whole_there : (c n m : ℕ) → Contains (get_or members c []) n → Contains (get_or members c []) m → Contains g.numbers m × AreTogether (HasEdge g) n m
    whole_there c n m has_n has_m =
        let v = grouped.only c n has_n in
        let w = grouped.only c m has_m in
        let both = together_of v.0 w.0 v.1 w.1 (v.2 ∙ sym w.2) in (
          (w.0, w.1, get_or_default g.numbers w.0 m 0 w.1 ∙ w.3),
          subst (λ x. AreTogether (HasEdge g) x m) v.3 (subst (λ y. AreTogether (HasEdge g) (number v.0) y) w.3 both),
        )

    whole_back : (c n m : ℕ) → Contains (get_or members c []) n → Contains g.numbers m → AreTogether (HasEdge g) n m → Contains (get_or members c []) m
    whole_back c n m has_n (j, lt, is) together =
        let v = grouped.only c n has_n in
        let at : number j ≡ m = get_or_default g.numbers j 0 m lt ∙ is in
        let both : AreTogether (HasEdge g) (number v.0) (number j)
        = subst (λ x. AreTogether (HasEdge g) x (number j)) (sym v.3) (subst (λ y. AreTogether (HasEdge g) n y) (sym at) together) in
        let same : get_or classes j 0 ≡ c = sym (class_of v.0 j v.1 lt both) ∙ v.2 in
        subst (λ y. Contains (get_or members c []) y) at (subst (λ d. Contains (get_or members d []) (number j)) same (grouped.there j lt))

    -- the numbers of a class of places are a class
    pub members_are_class : (c : ℕ) → c < count → IsClass g (get_or members c [])
    members_are_class c lt =
        let v = split.filled c lt in
        let has : Contains (get_or members c []) (number v.0)
        = subst (λ d. Contains (get_or members d []) (number v.0)) v.2 (grouped.there v.0 (omega (arith, v.1, have.sized))) in
        record {
          some = omega (arith, has.1);
          rises = grouped.rises c;
          whole = λ n m has_n. (whole_there c n m has_n, λ both. whole_back c n m has_n both.0 both.1);
        }

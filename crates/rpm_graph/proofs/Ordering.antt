-- The listing of the classes by their numbers is the order of the graph.
use Rattle.std.proofs.Common.{◌≡◌, ℕ, ◌≤◌, ◌<◌, ◌⊎◌, List, [], length, get_or, map, take, inl, inr, sym, ap, subst, ◌∙◌, arith}
use Rattle.rpm_graph.proofs.Vocabulary.{Contains, IsEdge, HasEdge, HaveEdges, HaveEnds, HaveMembers, IsAvailable, IsLeastReady, IsListing, IsNetwork, IsNextClass}
use Rattle.rpm_graph.proofs.Vocabulary.{IsOrder, IsListable, IsSplit, least, Lists, Network}
use Rattle.std.proofs.lemmas.List.{get_or_default, get_or-map, length-map, take-map}
use Rattle.rpm_graph.proofs.Bridge.{same_place, edge_row, together_of, class_of, members_are_class}
use Rattle.rpm_graph.proofs.Orderly.{le_of_rising}

module _ (members : List (List ℕ)) where
  abbrev pub class_at : ℕ → List ℕ
  class_at c = get_or members c []

  lists_of : (listed : List ℕ) (c n : ℕ) → Contains listed c → Contains (class_at c) n → Lists (map class_at listed) n
  lists_of listed c n (k, lt, is) has =
      let at : get_or (map class_at listed) k [] ≡ class_at c = get_or-map class_at listed k c [] lt ∙ ap class_at is in
      (k, omega (arith, lt, length-map listed class_at), subst (λ l. Contains l n) (sym at) has)

  lists_from : (listed : List ℕ) (n : ℕ) → Lists (map class_at listed) n → (c : ℕ) × Contains listed c × Contains (class_at c) n
  lists_from listed n (k, lt, has) =
      let inside : k < length listed = omega (arith, lt, length-map listed class_at) in
      let at : get_or (map class_at listed) k [] ≡ class_at (get_or listed k 0) = get_or-map class_at listed k 0 [] inside in
      (get_or listed k 0, (k, inside, get_or_default listed k (get_or listed k 0) 0 inside), subst (λ l. Contains l n) at has)

module _ (g : Network) (net : IsNetwork g) (rows : List (List ℕ)) (have : HaveEdges g (length g.edges) rows) (classes : List ℕ) (count : ℕ)
    (split : IsSplit rows classes count) (members : List (List ℕ)) (grouped : HaveMembers g.numbers classes (length g.numbers) members)
    (ends : List (List ℕ)) (sized : length ends ≡ count) (ended : HaveEnds rows classes (length rows) ends) where
  abbrev number : ℕ → ℕ
  number v = get_or g.numbers v 0

  row_in : (v : ℕ) → v < length g.numbers → v < length rows
  row_in v lt = omega (arith, lt, have.sized)

  place_in : (v : ℕ) → v < length rows → v < length g.numbers
  place_in v lt = omega (arith, lt, have.sized)

  -- the class in which a number stands is its place's
  class_is : (c v : ℕ) → v < length g.numbers → Contains (class_at members c) (number v) → get_or classes v 0 ≡ c
  class_is c v lt has =
      let at = grouped.only c (number v) has in
      let same : at.0 ≡ v = same_place g net rows have classes count split at.0 v at.1 lt at.3 in
      ap (λ x. get_or classes x 0) (sym same) ∙ at.2

  module _ (listed : List ℕ) where
    unlisted_then : (c n : ℕ) → (Contains listed c → ⊥) → Contains (class_at members c) n → Lists (map (class_at members) listed) n → ⊥
    unlisted_then c n free has lists =
        let at = lists_from members listed n lists in
        let v = grouped.only c n has in
        let same : get_or classes v.0 0 ≡ at.0 = class_is at.0 v.0 v.1 (subst (λ x. Contains (class_at members at.0) x) (sym v.3) at.2) in
        free (subst (λ x. Contains listed x) (sym same ∙ v.2) at.1)

    ends_then : (c n m : ℕ) → IsListable ends listed c → Contains (class_at members c) n → HasEdge g n m
        → Contains (class_at members c) m ⊎ Lists (map (class_at members) listed) m
    ends_then c n m r has edge =
        let v = grouped.only c n has in
        let w = edge_row g net rows have classes count split v.0 m v.1 (subst (λ x. HasEdge g x m) (sym v.3) edge) in
        let stands : Contains (class_at members (get_or classes w.0 0)) m
        = subst (λ x. Contains (class_at members (get_or classes w.0 0)) x) w.2 (grouped.there w.0 w.1) in
        elim (ended.there v.0 w.0 (row_in v.0 v.1) w.3) [
          | inl own ↦ inl (subst (λ d. Contains (class_at members d) m) (own ∙ v.2) stands)
          | inr goes ↦ inr (lists_of members listed (get_or classes w.0 0) m
              (r.ends_listed (get_or classes w.0 0) (subst (λ d. IsEdge ends d (get_or classes w.0 0)) v.2 goes)) stands)
        ]

    available_then : (c : ℕ) → IsListable ends listed c → IsAvailable g (map (class_at members) listed) (class_at members c)
    available_then c r = record {
      is_class = members_are_class g net rows have classes count split members grouped c (omega (arith, r.within, sized));
      unlisted = λ n has. unlisted_then c n r.unlisted has;
      ends = λ n m has edge. ends_then c n m r has edge;
    }

    module _ (other : List ℕ) (a : IsAvailable g (map (class_at members) listed) other) (v : ℕ) (lt : v < length g.numbers)
        (has : Contains other (number v)) where
      abbrev own : ℕ
      own = get_or classes v 0

      own_has : Contains (class_at members own) (number v)
      own_has = grouped.there v lt

      -- the other class has each number of the class of its number
      other_has : (x : ℕ) → x < length g.numbers → get_or classes x 0 ≡ own → Contains other (number x)
      other_has x inside is = (a.is_class.whole (number v) (number x) has).1 (
        (x, inside, get_or_default g.numbers x (number x) 0 inside),
        together_of g net rows have classes count split v x lt inside (sym is),
      )

      -- and no others
      other_only : (x : ℕ) → x < length g.numbers → Contains other (number x) → get_or classes x 0 ≡ own
      other_only x inside there =
          let both = (a.is_class.whole (number v) (number x) has).0 there in
          sym (class_of g net rows have classes count split v x lt inside both.1)

      own_ends : (d : ℕ) → IsEdge ends own d → Contains listed d
      own_ends d goes =
          let at = ended.back own d goes in
          let x_in = place_in at.0 at.2 in
          let y_in : at.1 < length g.numbers = omega (arith, have.within at.0 at.1 at.3, have.sized) in
          elim (a.ends (number at.0) (number at.1) (other_has at.0 x_in at.4) (have.back at.0 at.1 at.3)) [
            | inl there ↦ absurd (at.6 (sym at.5 ∙ other_only at.1 y_in there))
            | inr lists ↦
                let found = lists_from members listed (number at.1) lists in
                subst (λ x. Contains listed x) (sym (class_is found.0 at.1 y_in found.2) ∙ at.5) found.1
          ]

      own_ready : IsListable ends listed own
      own_ready = record {
        within = omega (arith, split.bounded v (row_in v lt), sized);
        unlisted = λ there. a.unlisted (number v) has (lists_of members listed own (number v) there own_has);
        ends_listed = own_ends;
      }

    module _ (leasts : List ℕ) (leasts_are : (c : ℕ) → c < count → get_or leasts c 0 ≡ least (class_at members c)) where
      first_then : (c : ℕ) → IsLeastReady ends leasts listed c → (other : List ℕ) → IsAvailable g (map (class_at members) listed) other
          → least (class_at members c) ≤ least other
      first_then c r other a =
          let n = least other in
          let has : Contains other n = (0, a.is_class.some, get_or_default other 0 n 0 a.is_class.some) in
          let at = ((a.is_class.whole n n has).0 has).0 in
          let is : number at.0 ≡ n = get_or_default g.numbers at.0 0 n at.1 ∙ at.2 in
          let there : Contains other (number at.0) = subst (λ x. Contains other x) (sym is) has in
          let e = get_or classes at.0 0 in
          let ready = own_ready other a at.0 at.1 there in
          let stands = grouped.there at.0 at.1 in
          let low = le_of_rising (class_at members e) (grouped.rises e) 0 stands.0 (omega arith) stands.1 in
          let high = get_or_default (class_at members e) stands.0 0 (number at.0) stands.1 ∙ stands.2 in
          omega (arith, r.first e ready, leasts_are c (omega (arith, r.ready.within, sized)), leasts_are e (omega (arith, ready.within, sized)), low, high, is)

      pub next_then : (c : ℕ) → IsLeastReady ends leasts listed c → IsNextClass g (map (class_at members) listed) (class_at members c)
      next_then c r = record { available = available_then c r.ready; first = first_then c r }

  pub order_then : (leasts : List ℕ) → ((c : ℕ) → c < count → get_or leasts c 0 ≡ least (class_at members c)) → (order : List ℕ)
      → IsListing ends leasts order → IsOrder g (map (class_at members) order)
  order_then leasts leasts_are order listing = record {
    each = λ k lt.
        let inside : k < length order = omega (arith, lt, length-map order (class_at members)) in
        let at : get_or (map (class_at members) order) k [] ≡ class_at members (get_or order k 0) = get_or-map (class_at members) order k 0 [] inside in
        subst (λ l. IsNextClass g l (get_or (map (class_at members) order) k [])) (sym (take-map (class_at members) k order))
        (subst (λ l. IsNextClass g (map (class_at members) (take k order)) l) (sym at)
        (next_then (take k order) leasts leasts_are (get_or order k 0) (listing.each k inside)));
    all = λ n (j, lt, is).
        let at : number j ≡ n = get_or_default g.numbers j 0 n lt ∙ is in
        lists_of members order (get_or classes j 0) n
        (listing.all (get_or classes j 0) (omega (arith, split.bounded j (row_in j lt), sized)))
        (subst (λ x. Contains (class_at members (get_or classes j 0)) x) at (grouped.there j lt));
  }

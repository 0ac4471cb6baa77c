-- What an iterator has left after some of its items were passed.
use Rattle.std.proofs.Common.{◌≡◌, ℕ, ◌+◌, ◌≤◌, List, ◌∷◌, ◌++◌, map, length, drop, get_or, [], Option, Some, None, sym, ap, ◌∙◌, arith, length-append, inl, inr}
use Rattle.std.specs.Prelude.{slice_get}
use Rattle.std.specs.Iterator.{SkipsThenYields, Yields, YieldsFirstBy}
use Rattle.std.proofs.Math.ListN.{drop_of_length-le}
use Rattle.std.proofs.Math.Seq.{drop-append-add}
use Rattle.std.proofs.lemmas.Bool.{cases_lt}
use Rattle.std.proofs.lemmas.List.{get_or-drop, length-drop, length-map}
use Rattle.std.proofs.lemmas.Option.{slice_get-get_or, slice_get_past}

module _ {A B : Type 0} (v : A → B) where
  -- what was yielded stands before what is left
  stepped : (xs : List A) (s t : List B) → Yields (YieldsFirstBy v (λ (z : List B). z)) s xs t → s ≡ map v xs ++ t
  stepped [] s t y = y
  stepped (x ∷ xs) s t y = y.1 ∙ ap (λ (z : List B). v x ∷ z) (stepped xs y.0 t y.2)

  pub skipped : (s u : List B) (n : ℕ) (r : Option A) → SkipsThenYields (YieldsFirstBy v (λ (z : List B). z)) s n r u → u ≡ drop (n + 1) s
  skipped s u n None h =
      let here = stepped h.0 s h.1.0 h.1.1 in
      let most : length h.0 ≤ n = h.2 in
      h.1.2.1 ∙ sym (drop_of_length-le s (omega (arith, ap length here, length-append (map v h.0) h.1.0, length-map h.0 v, ap length h.1.2.0, most)))
  skipped s u n (Some x) h =
      let cons : h.1.0 ≡ v x ∷ u = h.1.2 in
      let here : s ≡ map v h.0 ++ v x ∷ u = stepped h.0 s h.1.0 h.1.1 ∙ ap (λ (z : List B). map v h.0 ++ z) cons in
      let many : length h.0 ≡ n = h.2 in
      let far : n + 1 ≡ length (map v h.0) + 1 = omega (arith, length-map h.0 v, many) in
      sym (ap (drop (n + 1)) here ∙ ap (λ (k : ℕ). drop k (map v h.0 ++ v x ∷ u)) far ∙ drop-append-add (map v h.0) (v x ∷ u) 1)

-- an element behind those that were passed
pub slice_get-drop : {X : Type 0} (xs : List X) (d : X) (n i k : ℕ) → n + i ≡ k → slice_get (drop n xs) i ≡ slice_get xs k
slice_get-drop xs d n i k is = elim (cases_lt k (length xs)) [
  | inl lt ↦
      slice_get-get_or (drop n xs) i d (omega (arith, is, lt, length-drop n xs)) ∙ ap Some (get_or-drop n xs i d ∙ ap (λ (j : ℕ). get_or xs j d) is)
      ∙ sym (slice_get-get_or xs k d lt)
  | inr le ↦ slice_get_past (drop n xs) i (omega (arith, is, le, length-drop n xs)) ∙ sym (slice_get_past xs k le)
]

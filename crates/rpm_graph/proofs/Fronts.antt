-- A front of the waiting edges, and places of the path.
use Rattle.std.proofs.Common.{◌≡◌, ℕ, ◌≤◌, ◌<◌, ◌++◌, ◌⊎◌, List, [], ◌∷◌, length, get_or, inl, inr, refl, sym, ap, ◌∙◌, arith}
use Rattle.rpm_graph.proofs.Vocabulary.{Contains, IsOnPath, IsSearch, Link, link, link_at}
use Rattle.std.proofs.lemmas.Bool.{cases_lt}
use Rattle.std.proofs.lemmas.List.{get_or_append_left, get_or_push, get_or_default, length_push}

-- kept is a front of the links, and those after it end at the place
pub record IsFront (links kept : List Link) (place : ℕ) : Type 0 where
  pub shorter : length kept ≤ length links
  pub same : (i : ℕ) → i < length kept → link_at kept i ≡ link_at links i
  pub lost : (i : ℕ) → length kept ≤ i → i < length links → (link_at links i).to ≡ place

pub whole_front : (links : List Link) (place : ℕ) → IsFront links links place
whole_front links place = record { shorter = omega arith; same = λ i lt. refl; lost = λ i le lt. absurd (omega arith) }

pub front-push : (links kept : List Link) (last : Link) → links ≡ kept ++ last ∷ [] → IsFront links kept last.to
front-push links kept last is = rw is (record {
  shorter = omega (arith, length_push kept last);
  same = λ i lt. sym (get_or_append_left kept (last ∷ []) (link 0 0) i lt);
  lost = λ i le lt. let at : length kept ≡ i = omega (arith, length_push kept last) in ap (λ (l : Link). l.to) (get_or_push kept last (link 0 0) i at);
})

-- an edge that waited still waits, or ends at the place
pub kept_or_lost : (links kept : List Link) (place : ℕ) → IsFront links kept place → (v w : ℕ) → Contains links (link v w)
    → Contains kept (link v w) ⊎ (w ≡ place)
kept_or_lost links kept place front v w (i, lt, is) =
    let at : link_at links i ≡ link v w = get_or_default links i (link 0 0) (link v w) lt ∙ is in
    elim (cases_lt i (length kept)) [
      | inl inside ↦ inl (i, inside, get_or_default kept i (link v w) (link 0 0) inside ∙ front.same i inside ∙ at)
      | inr behind ↦ inr (sym (ap (λ (l : Link). l.to) at) ∙ front.lost i behind lt)
    ]

module _ {rows : List (List ℕ)} {ranks path roots : List ℕ} {pending : List Link} {closed : ℕ} (s : IsSearch rows ranks path roots pending closed) where
  -- an open place's rank is a place of the path, from 1 on
  pub open_rank : (v : ℕ) → IsOnPath (length rows) ranks v → get_or ranks v 0 ≤ length path
  open_rank v is_open = let at = s.ranked v is_open in omega (arith, at.1, at.2)

  -- an edge that waits begins at an open place
  pub waits_open : (v w : ℕ) → Contains pending (link v w) → IsOnPath (length rows) ranks v
  waits_open v w (i, lt, is) =
      let at : link_at pending i ≡ link v w = get_or_default pending i (link 0 0) (link v w) lt ∙ is in
      rw (ap (λ (l : Link). l.from) (sym at)) (s.pending_open i lt).0

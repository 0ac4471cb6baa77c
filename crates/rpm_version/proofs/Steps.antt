-- What the first piece of each text says of their order.
use Rattle.std.proofs.Common.{◌≡◌, ◌≢◌, ℕ, true, false, List, ◌∷◌, refl, sym, ap, ◌∙◌}
use Rattle.rpm_version.proofs.Vocabulary.{End, Equal, Greater, is_ne, Less, Ordering, ordering_then, Piece, segment_at, segment_order, segments}
use Rattle.rpm_version.proofs.Vocabulary.{segments_behind, slice_cmp, version_order}
use Rattle.rpm_version.specs.declared.segment.Piece.TheVariants as piece
use Rattle.rpm_version.proofs.Laws.{version_order-step, segment_order-Equal}

then_differs : (r s : Ordering) → is_ne r ≡ true → ordering_then r s ≡ r
then_differs Less s h = refl
then_differs Equal s h = cc
then_differs Greater s h = refl

tied : (r : Ordering) → is_ne r ≡ false → r ≡ Equal
tied Less h = cc
tied Equal h = refl
tied Greater h = cc

end_at : (q : Piece) → segment_at q ≡ End → q ≡ piece.End
end_at piece.Tilde e = cc
end_at piece.End e = refl
end_at piece.Caret e = cc
end_at (piece.Letters x) e = cc
end_at (piece.Digits x) e = cc

behind : (q : Piece) (rest : List ℕ) → q ≢ piece.End → segments_behind q rest ≡ segments rest
behind piece.Tilde rest h = refl
behind piece.End rest h = absurd (h refl)
behind piece.Caret rest h = refl
behind (piece.Letters x) rest h = refl
behind (piece.Digits x) rest h = refl

module _ (a b s t : List ℕ) (p q : Piece) (r : Ordering)
    (left : segments a ≡ segment_at p ∷ segments_behind p s)
    (right : segments b ≡ segment_at q ∷ segments_behind q t) (first : r ≡ segment_order (segment_at p) (segment_at q)) where
  step : version_order a b ≡ ordering_then r (slice_cmp segment_order (segments_behind p s) (segments_behind q t))
  step =
      version_order-step a b (segment_at p) (segment_at q) (segments_behind p s) (segments_behind q t) left right
      ∙ ap (λ o. ordering_then o (slice_cmp segment_order (segments_behind p s) (segments_behind q t))) (sym first)

  pub differs : is_ne r ≡ true → r ≡ version_order a b
  differs h = sym (step ∙ then_differs r (slice_cmp segment_order (segments_behind p s) (segments_behind q t)) h)

  same : is_ne r ≡ false → segment_at p ≡ segment_at q
  same h = segment_order-Equal (segment_at p) (segment_at q) (sym first ∙ tied r h)

  pub ends : is_ne r ≡ false → p ≡ piece.End → r ≡ version_order a b
  ends h e =
      let f : q ≡ piece.End = end_at q (sym (same h) ∙ ap segment_at e) in
      tied r h ∙ sym (step ∙ (λ i. ordering_then (tied r h i) (slice_cmp segment_order (segments_behind (e i) s) (segments_behind (f i) t))))

  pub decided_behind : is_ne r ≡ false → p ≢ piece.End → version_order a b ≡ version_order s t
  unfolding version_order
  decided_behind h n =
      let m : q ≢ piece.End = λ e. n (end_at p (same h ∙ ap segment_at e)) in
      step ∙ (λ i. ordering_then (tied r h i) (slice_cmp segment_order (behind p s n i) (behind q t m i)))

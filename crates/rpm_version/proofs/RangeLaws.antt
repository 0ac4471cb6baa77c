-- Two ranges overlap whichever is named first.
use Rattle.std.proofs.Common.{◌≡◌, ℕ, Bool, true, false, ◌||◌, ◌&&◌, List, refl, ap, ◌∙◌, Option, Some, None}
use Rattle.rpm_version.proofs.Vocabulary.{Equal, equal_but_release, evr, evr_order, EvrParts, Greater, has_equal, has_greater, has_less, is_open, Less, ranges_meet}
use Rattle.rpm_version.proofs.Vocabulary.{Ordering, ordering_reverse, overlaps, share_sense}
use Rattle.rpm_version.proofs.EvrLaws.{evr_converse}

or_turned : (a b : Bool) → (a || b) ≡ (b || a)
or_turned true true = refl
or_turned true false = refl
or_turned false true = refl
or_turned false false = refl

and_turned : (a b : Bool) → (a && b) ≡ (b && a)
and_turned true true = refl
and_turned true false = refl
and_turned false true = refl
and_turned false false = refl

three_turned : (a b c d e f : Bool) → ((a && b) || (c && d) || (e && f)) ≡ ((b && a) || (d && c) || (f && e))
three_turned a b c d e f = λ i. and_turned a b i || and_turned c d i || and_turned e f i

senses : (x y : ℕ) → share_sense x y ≡ share_sense y x
unfolding share_sense
senses x y = three_turned (has_equal x) (has_equal y) (has_less x) (has_less y) (has_greater x) (has_greater y)

releases : (x y : ℕ) (r s : Option (List ℕ)) → equal_but_release x r y s ≡ equal_but_release y s x r
unfolding equal_but_release
releases x y (Some r) (Some s) = refl
releases x y (Some r) None = refl
releases x y None (Some s) = refl
releases x y None None = refl

meets_turned : (x y : ℕ) (a b : EvrParts) (o : Ordering) → ranges_meet (ordering_reverse o) x a y b ≡ ranges_meet o y b x a
meets_turned x y a b Less = or_turned (has_less x) (has_greater y)
meets_turned x y a b Equal = λ i. senses x y i || releases x y a.release b.release i
meets_turned x y a b Greater = or_turned (has_greater x) (has_less y)

open_turned : (a b c : Bool) → (a || b || c) ≡ (b || a || c)
open_turned a b c = ap (λ v. v || c) (or_turned a b)

pub symmetric : (x y : ℕ) (s t : List ℕ) → overlaps x s y t ≡ overlaps y t x s
unfolding overlaps
symmetric x y s t =
    (λ i. is_open x s || is_open y t || ranges_meet (evr_converse (evr s) (evr t) i) x (evr s) y (evr t))
    ∙ (λ i. is_open x s || is_open y t || meets_turned x y (evr s) (evr t) (evr_order (evr t) (evr s)) i)
    ∙ open_turned (is_open x s) (is_open y t) (ranges_meet (evr_order (evr t) (evr s)) y (evr t) x (evr s))

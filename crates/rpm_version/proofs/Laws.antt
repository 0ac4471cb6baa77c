-- The order of versions is a total preorder, and its ties have the same segments.
use Rattle.std.proofs.Common.{◌≡◌, ◌≢◌, ◌⊎◌, ◌↔◌, ℕ, ◌<◌, true, false, List, [], ◌∷◌, refl, sym, ap, ◌∙◌, subst, inl, inr}
use Rattle.rpm_version.proofs.Vocabulary.{Caret, Digits, End, Equal, Greater, is_eq, is_gt, IsTotalOrder, IsUpTo, Less, Letters, MatchOrdering, nat_cmp, on}
use Rattle.rpm_version.proofs.Vocabulary.{Ordering, ordering_reverse, ordering_then, rank, Segment, segment_order, segments, slice_cmp, then_cmp, Tilde}
use Rattle.rpm_version.proofs.Vocabulary.{version_order}
use Rattle.std.proofs.lemmas.Cmp.{nat_cmp_total, nat_list_cmp_total, lists_total, on_total, then_total, upto, tied_itself, ranked}
use Rattle.std.proofs.lemmas.Map.Text.{is_eq-slice_cmp}
use Rattle.std.proofs.lemmas.Slice.Eq.{bytes_eq-Decides}

abbrev letters_of : Segment → List ℕ
letters_of (Letters text) = text
letters_of other = []

abbrev number_of : Segment → ℕ
number_of (Digits number) = number
number_of other = 0

abbrev by_keys : Segment → Segment → Ordering
by_keys = then_cmp (on rank nat_cmp) (then_cmp (on letters_of (slice_cmp nat_cmp)) (on number_of nat_cmp))

then_Equal : (r : Ordering) → r ≡ ordering_then r Equal
then_Equal Less = refl
then_Equal Equal = refl
then_Equal Greater = refl

keyed : (x y : Segment) → by_keys x y ≡ segment_order x y
unfolding segment_order
keyed Tilde Tilde = refl
keyed End End = refl
keyed Caret Caret = refl
keyed (Letters a) (Letters b) = sym (then_Equal (slice_cmp nat_cmp a b))
keyed (Digits a) (Digits b) = refl
keyed x Tilde = refl
keyed x End = refl
keyed x Caret = refl
keyed x (Letters b) = refl
keyed x (Digits b) = refl

pub segment_total : IsTotalOrder segment_order
segment_total =
    subst IsTotalOrder (λ i x y. keyed x y i)
    (then_total (on_total rank nat_cmp_total) (then_total (on_total letters_of nat_list_cmp_total) (on_total number_of nat_cmp_total)))

pub version_total : IsTotalOrder version_order
unfolding version_order
version_total = on_total segments (lists_total segment_total)

-- segments that tie are the same
texts_tie : (a b : List ℕ) → slice_cmp nat_cmp a b ≡ Equal → a ≡ b
texts_tie a b e = (bytes_eq-Decides a b).0 (sym (is_eq-slice_cmp a b) ∙ ap is_eq e)

numbers_tie : (a b : ℕ) (r : Ordering) → MatchOrdering r (a < b) (a ≡ b) (b < a) → r ≡ Equal → a ≡ b
numbers_tie a b Less h e = cc
numbers_tie a b Equal h e = h
numbers_tie a b Greater h e = cc

pub segment_order-Equal : (x y : Segment) → segment_order x y ≡ Equal → x ≡ y
unfolding segment_order
segment_order-Equal Tilde Tilde e = refl
segment_order-Equal End End e = refl
segment_order-Equal Caret Caret e = refl
segment_order-Equal (Letters a) (Letters b) e = ap Letters (texts_tie a b e)
segment_order-Equal (Digits a) (Digits b) e = ap Digits (numbers_tie a b (nat_cmp a b) (ranked a b (nat_cmp a b) refl) e)
segment_order-Equal x Tilde e = cc
segment_order-Equal x End e = cc
segment_order-Equal x Caret e = cc
segment_order-Equal x (Letters b) e = cc
segment_order-Equal x (Digits b) e = cc

first_ties : (r s : Ordering) → ordering_then r s ≡ Equal → (r ≡ Equal) × (s ≡ Equal)
first_ties Less s e = cc
first_ties Equal s e = (refl, e)
first_ties Greater s e = cc

lists_tie : (xs ys : List Segment) → slice_cmp segment_order xs ys ≡ Equal → xs ≡ ys
lists_tie [] [] e = refl
lists_tie [] (y ∷ ys) e = cc
lists_tie (x ∷ xs) [] e = cc
lists_tie (x ∷ xs) (y ∷ ys) e =
    let both = first_ties (segment_order x y) (slice_cmp segment_order xs ys) e in
    (λ i. segment_order-Equal x y both.0 i ∷ lists_tie xs ys both.1 i)

-- the laws
not_Greater : (r : Ordering) → r ≢ Greater → is_gt r ≡ false
not_Greater Less h = refl
not_Greater Equal h = refl
not_Greater Greater h = absurd (h refl)

by_first : (x y : List ℕ) (r : Ordering) → version_order x y ≡ r → version_order y x ≡ ordering_reverse r → IsUpTo x y ⊎ IsUpTo y x
by_first x y Less e h = inl (λ g. cc)
by_first x y Equal e h = inl (λ g. cc)
by_first x y Greater e h = inr (λ g. cc)

pub any_two_compare : (x y : List ℕ) → IsUpTo x y ⊎ IsUpTo y x
any_two_compare x y = by_first x y (version_order x y) refl (version_total.antisymm y x)

pub converse : (x y : List ℕ) → version_order x y ≡ ordering_reverse (version_order y x)
converse = version_total.antisymm

pub transitive : (x y z : List ℕ) → IsUpTo x y → IsUpTo y z → IsUpTo x z
transitive x y z h k g =
    let below = upto version_total x y z (not_Greater (version_order x y) h) (not_Greater (version_order y z) k) in
    let above : is_gt (version_order x z) ≡ true = ap is_gt g in
    cc

pub ties : (x y : List ℕ) → (version_order x y ≡ Equal) ↔ (segments x ≡ segments y)
unfolding version_order
ties x y = (
  lists_tie (segments x) (segments y),
  λ e. ap (slice_cmp segment_order (segments x)) (sym e) ∙ tied_itself (lists_total segment_total) (segments x),
)

-- one step of the comparison
pub version_order-step : (a b : List ℕ) (x y : Segment) (xs ys : List Segment) → segments a ≡ x ∷ xs → segments b ≡ y ∷ ys →
    version_order a b ≡ ordering_then (segment_order x y) (slice_cmp segment_order xs ys)
unfolding version_order
version_order-step a b x y xs ys h k = λ i. slice_cmp segment_order (h i) (k i)

-- The order of what is provided under a name is total, and the versions of one kind rise.
use Rattle.std.proofs.Common.{◌≡◌, ℕ, ◌+◌, ◌*◌, ◌<◌, ◌≤◌, ◌||◌, not, zero, suc, List, [], ◌∷◌, length, get_or, Bool, true, false, Option, Some, None, refl, sym, ap, ◌∙◌, subst, inl, inr, arith}
use Rattle.std.specs.Prelude.{is_some, unwrap_or}
use Rattle.std.specs.Cmp.{IsStrictWeakOrder, IsTotalOrder}
use Rattle.std.specs.Cmp.Lexicographic.{slice_cmp}
use Rattle.std.specs.List.Sorted.{IsNonDecreasingBy, IsSorted, IsSortedBy}
use Rattle.std.specs.Ordering.{is_lt, MatchOrdering, nat_cmp, on, ordering_index, ordering_then, then_cmp}
use Rattle.std.specs.declared.cmp.Ordering.{Ordering}
use Rattle.std.specs.declared.cmp.Ordering.TheVariants.{Equal, Greater, Less}
use Rattle.std.proofs.lemmas.Bool.{cases_Bool}
use Rattle.std.proofs.lemmas.Cmp.{lists_total, nat_cmp_total, nat_list_cmp_total, on_total, ranked, then_total, tied_itself}
use Rattle.std.proofs.lemmas.List.Sorted.{ranks_by, searchable_from_sorted, sorted_far}
use Rattle.rpm_version.specs.Evr.{evr, EvrParts, evr_order, release_order}
use Rattle.rpm_version.specs.Order.{rank, segment_order, version_order}
use Rattle.rpm_version.specs.Range.{is_open}
use Rattle.rpm_version.specs.laws.Senses.{epoch_number, has_equal, has_greater, has_less}
use Rattle.rpm_version.specs.Segment.{Caret, Digits, End, Letters, Segment, segments, Tilde}
use Rattle.rpm_check.specs.declared.offers.Offer.{Offer}
use Rattle.rpm_check.specs.inner.Kinds.{digit, offer_kind, offer_order}

-- ---- the order of versions

abbrev letters_of : Segment → List ℕ
letters_of (Letters text) = text
letters_of other = []

abbrev number_of : Segment → ℕ
number_of (Digits number) = number
number_of other = 0

abbrev by_rank : Segment → Segment → Ordering
by_rank = then_cmp (on rank nat_cmp) (then_cmp (on letters_of (slice_cmp nat_cmp)) (on number_of nat_cmp))

then_Equal : (r : Ordering) → ordering_then r Equal ≡ r
then_Equal Less = refl
then_Equal Equal = refl
then_Equal Greater = refl

ranked_so : (x y : Segment) → by_rank x y ≡ segment_order x y
unfolding segment_order
ranked_so Tilde Tilde = refl
ranked_so End End = refl
ranked_so Caret Caret = refl
ranked_so (Letters a) (Letters b) = then_Equal (slice_cmp nat_cmp a b)
ranked_so (Digits a) (Digits b) = refl
ranked_so x Tilde = refl
ranked_so x End = refl
ranked_so x Caret = refl
ranked_so x (Letters b) = refl
ranked_so x (Digits b) = refl

segment_total : IsTotalOrder segment_order
segment_total =
    subst IsTotalOrder (λ i x y. ranked_so x y i)
    (then_total (on_total rank nat_cmp_total) (then_total (on_total letters_of nat_list_cmp_total) (on_total number_of nat_cmp_total)))

version_total : IsTotalOrder version_order
unfolding version_order
version_total = on_total segments (lists_total segment_total)

-- ---- the order of versions with an epoch, all with a release, or all without

abbrev epoch_at : EvrParts → ℕ
epoch_at e = epoch_number e.epoch

abbrev version_at : EvrParts → List ℕ
version_at e = e.version

abbrev release_at : EvrParts → List ℕ
release_at e = unwrap_or e.release []

-- by epoch and version alone
abbrev by_head : EvrParts → EvrParts → Ordering
by_head = then_cmp (on epoch_at nat_cmp) (on version_at version_order)

-- by epoch, version and release, where a missing one is empty
abbrev by_parts : EvrParts → EvrParts → Ordering
by_parts = then_cmp (on epoch_at nat_cmp) (then_cmp (on version_at version_order) (on release_at version_order))

head_total : IsTotalOrder by_head
head_total = then_total (on_total epoch_at nat_cmp_total) (on_total version_at version_total)

parts_total : IsTotalOrder by_parts
parts_total = then_total (on_total epoch_at nat_cmp_total) (then_total (on_total version_at version_total) (on_total release_at version_total))

releases_alike : (r s : Option (List ℕ)) → is_some r ≡ is_some s → release_order r s ≡ version_order (unwrap_or r []) (unwrap_or s [])
unfolding release_order
releases_alike (Some a) (Some b) is = refl
releases_alike (Some a) None is = absurd cc
releases_alike None (Some b) is = absurd cc
releases_alike None None is = sym (tied_itself version_total [])

first_missing : (r s : Option (List ℕ)) → is_some r ≡ false → release_order r s ≡ Equal
unfolding release_order
first_missing (Some a) s is = absurd cc
first_missing None s is = refl

second_missing : (r s : Option (List ℕ)) → is_some s ≡ false → release_order r s ≡ Equal
unfolding release_order
second_missing (Some a) (Some b) is = absurd cc
second_missing (Some a) None is = refl
second_missing None s is = refl

module _ (x y : EvrParts) where
  whole : is_some x.release ≡ is_some y.release → evr_order x y ≡ by_parts x y
  unfolding evr_order
  whole is =
      ap (λ (o : Ordering). ordering_then (nat_cmp (epoch_at x) (epoch_at y)) (ordering_then (version_order x.version y.version) o))
      (releases_alike x.release y.release is)

  by_head_alone : release_order x.release y.release ≡ Equal → evr_order x y ≡ by_head x y
  unfolding evr_order
  by_head_alone is =
      ap (λ (o : Ordering). ordering_then (nat_cmp (epoch_at x) (epoch_at y)) (ordering_then (version_order x.version y.version) o)) is
      ∙ ap (ordering_then (nat_cmp (epoch_at x) (epoch_at y))) (then_Equal (version_order x.version y.version))

-- ---- kinds

digit_low : (b : Bool) → digit b ≤ 1
digit_low true = omega arith
digit_low false = omega arith

digit_tells : (a b : Bool) → digit a ≡ digit b → a ≡ b
digit_tells true true is = refl
digit_tells true false is = absurd (omega (arith, is))
digit_tells false true is = absurd (omega (arith, is))
digit_tells false false is = refl

-- what a kind says
pub record SaysSame (a b : Offer) : Type 0 where
  pub less : has_less a.flags ≡ has_less b.flags
  pub greater : has_greater a.flags ≡ has_greater b.flags
  pub equal : has_equal a.flags ≡ has_equal b.flags
  pub any : is_open a.flags a.version.items ≡ is_open b.flags b.version.items
  pub released : is_some (evr a.version.items).release ≡ is_some (evr b.version.items).release

-- two sums that begin with a digit are the same where the digits are, and the rests
last_digit : (a b : Bool) (m n : ℕ) → digit a + 2 * m ≡ digit b + 2 * n → (a ≡ b) × (m ≡ n)
last_digit a b m n same = (
  digit_tells a b (omega (arith, same, digit_low a, digit_low b)),
  omega (arith, same, digit_low a, digit_low b),
)

module _ (a b c d e : Bool) (a' b' c' d' e' : Bool)
    (same : digit a + 2 * digit b + 4 * digit c + 8 * digit d + 16 * digit e ≡ digit a' + 2 * digit b' + 4 * digit c' + 8 * digit d' + 16 * digit e') where
  first : (a ≡ a') × (digit b + 2 * digit c + 4 * digit d + 8 * digit e ≡ digit b' + 2 * digit c' + 4 * digit d' + 8 * digit e')
  first =
      last_digit a a' (digit b + 2 * digit c + 4 * digit d + 8 * digit e) (digit b' + 2 * digit c' + 4 * digit d' + 8 * digit e')
      (omega (arith, same))

  second : (b ≡ b') × (digit c + 2 * digit d + 4 * digit e ≡ digit c' + 2 * digit d' + 4 * digit e')
  second = last_digit b b' (digit c + 2 * digit d + 4 * digit e) (digit c' + 2 * digit d' + 4 * digit e') (omega (arith, first.1))

  third : (c ≡ c') × (digit d + 2 * digit e ≡ digit d' + 2 * digit e')
  third = last_digit c c' (digit d + 2 * digit e) (digit d' + 2 * digit e') (omega (arith, second.1))

  fourth : (d ≡ d') × (digit e ≡ digit e')
  fourth = last_digit d d' (digit e) (digit e') third.1

pub says_same : (a b : Offer) → offer_kind a ≡ offer_kind b → SaysSame a b
unfolding offer_kind is_open
says_same a b same =
    let less = (first _ _ _ _ _ _ _ _ _ _ same).0 in
    let greater = (second _ _ _ _ _ _ _ _ _ _ same).0 in
    let equal = (third _ _ _ _ _ _ _ _ _ _ same).0 in
    let rest = fourth _ _ _ _ _ _ _ _ _ _ same in
    record {
      less = less;
      greater = greater;
      equal = equal;
      any = λ i. not (less i || greater i || equal i) || rest.0 i;
      released = digit_tells _ _ rest.1;
    }

-- ---- the order of offers

abbrev parts_of : Offer → EvrParts
parts_of o = evr o.version.items

abbrev by_keys : Offer → Offer → Ordering
by_keys = then_cmp (on offer_kind nat_cmp) (on parts_of by_parts)

then_same : (o p q : Ordering) (x y : ℕ) → MatchOrdering o (x < y) (x ≡ y) (y < x) → (x ≡ y → p ≡ q) → ordering_then o p ≡ ordering_then o q
then_same Less p q x y is same = refl
then_same Equal p q x y is same = same is
then_same Greater p q x y is same = refl

keyed : (a b : Offer) → by_keys a b ≡ offer_order a b
unfolding offer_order
keyed a b =
    then_same (nat_cmp (offer_kind a) (offer_kind b)) (by_parts (parts_of a) (parts_of b)) (evr_order (parts_of a) (parts_of b)) (offer_kind a) (offer_kind b)
    (ranked (offer_kind a) (offer_kind b) (nat_cmp (offer_kind a) (offer_kind b)) refl)
    (λ same. sym (whole (parts_of a) (parts_of b) (says_same a b same).released))

pub offers_total : IsTotalOrder offer_order
offers_total = subst IsTotalOrder (λ i a b. keyed a b i) (then_total (on_total offer_kind nat_cmp_total) (on_total parts_of parts_total))

pub offers_rank : IsStrictWeakOrder (λ a b. is_lt (offer_order a b))
offers_rank = ranks_by offers_total (λ (o : Offer). o)

kinds_up : (o p : Ordering) (x y : ℕ) → MatchOrdering o (x < y) (x ≡ y) (y < x) → is_lt (ordering_then o p) ≡ false → y ≤ x
kinds_up Less p x y is up = absurd cc
kinds_up Equal p x y is up = omega (arith, is)
kinds_up Greater p x y is up = omega (arith, is)

kind_up : (a b : Offer) → is_lt (offer_order b a) ≡ false → offer_kind a ≤ offer_kind b
unfolding offer_order
kind_up a b up =
    kinds_up (nat_cmp (offer_kind b) (offer_kind a)) (evr_order (parts_of b) (parts_of a)) (offer_kind b) (offer_kind a)
    (ranked (offer_kind b) (offer_kind a) (nat_cmp (offer_kind b) (offer_kind a)) refl) up

module _ (offers : List Offer) (sorted : IsSorted offer_order offers) where
  -- none stands below an earlier one
  pub stands_up : (i j : ℕ) (d : Offer) → i ≤ j → j < length offers → is_lt (offer_order (get_or offers j d) (get_or offers i d)) ≡ false
  stands_up = sorted_far (λ a b. is_lt (offer_order a b)) offers_rank offers sorted

  -- their kinds rise
  pub kinds_rise : IsNonDecreasingBy offer_kind offers
  kinds_rise i j d le lt = kind_up (get_or offers i d) (get_or offers j d) (stands_up i j d le lt)

-- ---- offers of one kind

tied : (o p : Ordering) (x y : ℕ) → MatchOrdering o (x < y) (x ≡ y) (y < x) → x ≡ y → ordering_then o p ≡ p
tied Less p x y is same = absurd (omega (arith, is, same))
tied Equal p x y is same = refl
tied Greater p x y is same = absurd (omega (arith, is, same))

-- two of one kind stand by their versions
of_one_kind : (a b : Offer) → offer_kind a ≡ offer_kind b → offer_order a b ≡ by_parts (parts_of a) (parts_of b)
unfolding offer_order
of_one_kind a b same =
    tied (nat_cmp (offer_kind a) (offer_kind b)) (evr_order (parts_of a) (parts_of b)) (offer_kind a) (offer_kind b)
    (ranked (offer_kind a) (offer_kind b) (nat_cmp (offer_kind a) (offer_kind b)) refl) same
    ∙ whole (parts_of a) (parts_of b) (says_same a b same).released

head_up : (e v r : Ordering) → is_lt (ordering_then e (ordering_then v r)) ≡ false → is_lt (ordering_then e v) ≡ false
head_up Less v r is = absurd cc
head_up Equal Less r is = absurd cc
head_up Equal Equal r is = refl
head_up Equal Greater r is = refl
head_up Greater v r is = refl

sorted_pair : (lt : Offer → Offer → Bool) (a b : Offer) → lt b a ≡ false → IsSortedBy lt (a ∷ b ∷ [])
sorted_pair lt a b up zero d from less = up
sorted_pair lt a b up (suc k) d from less = absurd (omega (arith, less))

module _ (a b : Offer) (n : EvrParts) where
  abbrev index_of : Offer → ℕ
  index_of o = ordering_index (evr_order (parts_of o) n)

  rises_by : (R : EvrParts → EvrParts → Ordering) → IsTotalOrder R → is_lt (R (parts_of b) (parts_of a)) ≡ false → evr_order (parts_of a) n ≡ R (parts_of a) n
      → evr_order (parts_of b) n ≡ R (parts_of b) n → index_of a ≤ index_of b
  rises_by R total up same_a same_b =
      let rise = searchable_from_sorted total parts_of (a ∷ b ∷ []) n (sorted_pair (λ c d. is_lt (R (parts_of c) (parts_of d))) a b up) 0 1 a
      (omega arith) (omega arith) in
      omega (arith, rise, ap ordering_index same_a, ap ordering_index same_b)

  module _ (same : offer_kind a ≡ offer_kind b) (up : is_lt (offer_order b a) ≡ false) where
    parts_up : is_lt (by_parts (parts_of b) (parts_of a)) ≡ false
    parts_up = ap is_lt (sym (of_one_kind b a (sym same))) ∙ up

    by_head_up : is_lt (by_head (parts_of b) (parts_of a)) ≡ false
    by_head_up =
        head_up (nat_cmp (epoch_at (parts_of b)) (epoch_at (parts_of a))) (version_order (parts_of b).version (parts_of a).version)
        (version_order (release_at (parts_of b)) (release_at (parts_of a))) parts_up

    -- of two of one kind the later stands no lower, beside any version
    pub versions_up : index_of a ≤ index_of b
    versions_up =
        let released = (says_same a b same).released in
        elim (cases_Bool (is_some n.release)) [
          | inr none ↦
              rises_by by_head head_total by_head_up (by_head_alone (parts_of a) n (second_missing (parts_of a).release n.release none))
              (by_head_alone (parts_of b) n (second_missing (parts_of b).release n.release none))
          | inl some ↦ elim (cases_Bool (is_some (parts_of a).release)) [
            | inl there ↦
                rises_by by_parts parts_total parts_up (whole (parts_of a) n (there ∙ sym some)) (whole (parts_of b) n (sym released ∙ there ∙ sym some))
            | inr missing ↦
                rises_by by_head head_total by_head_up (by_head_alone (parts_of a) n (first_missing (parts_of a).release n.release missing))
                (by_head_alone (parts_of b) n (first_missing (parts_of b).release n.release (sym released ∙ missing)))
          ]
        ]

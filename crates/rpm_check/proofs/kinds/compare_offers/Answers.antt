use Rattle.std.proofs.Common.{◌≡◌, true, false, refl, sym, ap, ◌∙◌}
use Rattle.std.specs.Ordering.{is_ne, nat_cmp, ordering_then}
use Rattle.std.specs.declared.cmp.Ordering.{Ordering}
use Rattle.std.specs.declared.cmp.Ordering.TheVariants.{Equal, Greater, Less}
use Rattle.rpm_version.specs.Evr.{evr, evr_order}
use Rattle.rpm_check.specs.declared.offers.Offer.{Offer}
use Rattle.rpm_check.specs.inner.Kinds.{offer_kind, offer_order}
use Rattle.rpm_check.proofs.kinds.compare_offers.Goals as goal

first_decides : (o p : Ordering) → is_ne o ≡ true → o ≡ ordering_then o p
first_decides Less p is = refl
first_decides Equal p is = absurd cc
first_decides Greater p is = refl

second_decides : (o p : Ordering) → is_ne o ≡ false → p ≡ ordering_then o p
second_decides Less p is = absurd cc
second_decides Equal p is = refl
second_decides Greater p is = absurd cc

module _ (a b : Offer) (o : Ordering) (is : o ≡ nat_cmp (offer_kind a) (offer_kind b)) where
  by_kinds : is_ne o ≡ true → o ≡ offer_order a b
  unfolding offer_order
  by_kinds decides =
      let versions = evr_order (evr a.version.items) (evr b.version.items) in
      first_decides o versions decides ∙ ap (λ (q : Ordering). ordering_then q versions) is

  by_versions : (p : Ordering) → is_ne o ≡ false → p ≡ evr_order (evr a.version.items) (evr b.version.items) → p ≡ offer_order a b
  unfolding offer_order
  by_versions p tie same =
      second_decides o p tie ∙ (λ i. ordering_then (is i) (same i))

pub returns-then-is_ne : goal.returns-then-is_ne
returns-then-is_ne c =
    by_kinds c.args.a.now c.args.b.now c.cmp-kinds.result (c.cmp-kinds.ensures ∙ (λ i. nat_cmp (c.kind_of.ensures i) (c.kind_of-2.ensures i)))
    (sym c.is_ne.ensures ∙ c.if-is_ne.true)

pub returns : goal.returns
returns c =
    by_versions c.args.a.now c.args.b.now c.cmp-kinds.result (c.cmp-kinds.ensures ∙ (λ i. nat_cmp (c.kind_of.ensures i) (c.kind_of-2.ensures i)))
    c.compare_evr.result (sym c.is_ne.ensures ∙ c.if-is_ne.false)
    (c.compare_evr.ensures.order
    ∙ (λ i. evr_order ((c.read.ensures ∙ ap evr c.deref.ensures.value) i) ((c.read-2.ensures ∙ ap evr c.deref-2.ensures.value) i)))

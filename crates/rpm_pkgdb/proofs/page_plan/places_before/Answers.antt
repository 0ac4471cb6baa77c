use Rattle.std.proofs.Common.{inl, inr, ◌≡◌, ℕ, ◌+◌, ◌<◌, List, [], ◌∷◌, ◌++◌, length, true, false, sym, subst, ap, ◌∙◌, arith}
use Rattle.std.proofs.lemmas.Bool.{cases_lt}
use Rattle.std.proofs.lemmas.Grind.{common_steps}
use Rattle.std.proofs.lemmas.List.Elements.{Contains-append_left, Contains-push}
use Rattle.std.specs.Prelude.{Contains}
use Rattle.rpm_pkgdb.proofs.Vocabulary.{HasPlacesSoFar, is_used, Slot, slot_at}
use Rattle.rpm_pkgdb.proofs.Sound.{is_free}
use Rattle.rpm_pkgdb.proofs.Pairwise.{used_below}
use Rattle.rpm_pkgdb.proofs.page_plan.places_before.Goals.{else-slot-ne0, else-slot-ne0-via-else-slot-ne0}
use Rattle.rpm_pkgdb.proofs.page_plan.places_before.Goals.{else-slot-ne0-via-then-slot-ne0+else-slot-end}
use Rattle.rpm_pkgdb.proofs.page_plan.places_before.Goals.{then-slot-ne0+then-slot-end+in_ok-push}
use Rattle.rpm_pkgdb.proofs.page_plan.places_before.Goals as goal

-- a place more
place_more : (slots : List Slot) (end k : ℕ) (places : List ℕ) → k < length slots → HasPlacesSoFar slots end k places
    → HasPlacesSoFar slots end (k + 1) (places ++ k ∷ [])
place_more slots end k places below so = record {
  below = λ i lt. (let old = so.below i in grind (arith, common_steps));
  all = λ j lt used before. elim (cases_lt j k) [
    | inl old ↦ Contains-append_left places (k ∷ []) j (so.all j old used before)
    | inr new ↦ (let same : k ≡ j = omega (arith, lt, new) in subst (Contains (places ++ k ∷ [])) same (Contains-push places k))
  ];
}

-- a slot that isn't one of these
place_skip : (slots : List Slot) (end k : ℕ) (places : List ℕ) → (is_used (slot_at slots k) ≡ true → (slot_at slots k).offset < end → ⊥)
    → HasPlacesSoFar slots end k places → HasPlacesSoFar slots end (k + 1) places
place_skip slots end k places none so = record {
  below = so.below;
  all = λ j lt used before. elim (cases_lt j k) [
    | inl old ↦ so.all j old used before
    | inr new ↦
        (let same : j ≡ k = omega (arith, lt, new) in
        absurd (none (subst (λ (i : ℕ). is_used (slot_at slots i) ≡ true) same used) (subst (λ (i : ℕ). (slot_at slots i).offset < end) same before)))
  ];
}

pub loop-k-preserved : goal.loop-k-preserved
loop-k-preserved c =
    let slots = c.args.slots.now in
    let end = c.args.end in
    let k = c.loop-k.k in
    let so = c.loop-k.invariant in
    elim c.if-slot-ne0.branch [
      | then-slot-ne0+then-slot-end+in_ok-push w ↦
          subst (HasPlacesSoFar slots end (k + 1)) (sym (ap (λ v. v.items) w.places-is ∙ w.in_ok-push.ensures.items))
          (place_more slots end k c.loop-k.places.items (omega (arith, c.loop-k-test.true)) so)
      | else-slot-ne0 w ↦
          subst (HasPlacesSoFar slots end (k + 1)) (sym (ap (λ v. v.items) w.places-is))
          (place_skip slots end k c.loop-k.places.items (λ used before. elim w.else-slot-ne0.branch [
            | else-slot-ne0-via-then-slot-ne0+else-slot-end v ↦ omega (arith, before, v.if-slot-end.false)
            | else-slot-ne0-via-else-slot-ne0 v ↦ (let free = is_free (slot_at slots k) v.if-slot-ne0.false in cc)
          ]) so)
    ]

pub returns : goal.returns
returns c =
    let so = c.loop-k.invariant in
    record {
      below = so.below;
      all = λ j used. so.all j (omega (arith, used_below c.args.slots.now j used, c.loop-k.auto.k-end, c.loop-k-test.false)) used;
    }

-- Slots that were read without a fault are sound.
use Rattle.std.proofs.Common.{◌≡◌, inl, inr, ℕ, ◌^◌, ◌<◌, List, [], ◌∷◌, ◌++◌, length, true, Option, Some, None, refl, sym, ap, ◌∙◌, subst, arith, append_assoc}
use Rattle.rpm_pkgdb.proofs.Vocabulary.{AreSlotsApart, AreSound, free, is_used, IsPlaced, option_or, run, shared_reason, Slot, slot_at, slot_fault, slot_of}
use Rattle.rpm_pkgdb.proofs.Vocabulary.{slots_in, Units}
use Rattle.std.proofs.lemmas.List.{get_or_append_left, get_or_push, length_push, append-nil}
use Rattle.std.proofs.lemmas.Bool.{cases_lt}
use Rattle.rpm_pkgdb.proofs.Sound.{placed, no_own, no_shared}
use Rattle.rpm_pkgdb.proofs.Pairwise.{used_below, apart_from, apart_swapped}

module _ (pages units : ℕ) (slots : List Slot) (s : Slot) (sound : AreSound pages units slots) (placed_s : is_used s ≡ true → IsPlaced pages units s)
    (fresh : shared_reason slots s ≡ None) where
  at_old : (k : ℕ) → k < length slots → slot_at (slots ++ s ∷ []) k ≡ slot_at slots k
  at_old k below = get_or_append_left slots (s ∷ []) free k below

  at_new : (k : ℕ) → k ≡ length slots → slot_at (slots ++ s ∷ []) k ≡ s
  at_new k here = get_or_push slots s free k (sym here)

  last_apart : (j : ℕ) → j < length slots → is_used (slot_at slots j) ≡ true → is_used s ≡ true → AreSlotsApart (slot_at slots j) s
  last_apart j below used_j used = apart_from slots s j fresh used below used_j

  pub sound_push : AreSound pages units (slots ++ s ∷ [])
  sound_push = record {
    placed = λ k used. elim (cases_lt k (length slots)) [
      | inl below ↦ subst (IsPlaced pages units) (sym (at_old k below)) (sound.placed k (ap is_used (sym (at_old k below)) ∙ used))
      | inr past ↦
          (let here : k ≡ length slots = omega (arith, used_below (slots ++ s ∷ []) k used, length_push slots s) in
          subst (IsPlaced pages units) (sym (at_new k here)) (placed_s (ap is_used (sym (at_new k here)) ∙ used)))
    ];
    apart = λ j k differ used_j used_k. elim (cases_lt j (length slots)) [
      | inl below_j ↦ elim (cases_lt k (length slots)) [
        | inl below_k ↦
            subst (λ (t : Slot). AreSlotsApart t (slot_at (slots ++ s ∷ []) k)) (sym (at_old j below_j))
            (subst (AreSlotsApart (slot_at slots j)) (sym (at_old k below_k))
            (sound.apart j k differ (ap is_used (sym (at_old j below_j)) ∙ used_j) (ap is_used (sym (at_old k below_k)) ∙ used_k)))
        | inr past_k ↦
            (let here : k ≡ length slots = omega (arith, used_below (slots ++ s ∷ []) k used_k, length_push slots s) in
            subst (λ (t : Slot). AreSlotsApart t (slot_at (slots ++ s ∷ []) k)) (sym (at_old j below_j))
            (subst (AreSlotsApart (slot_at slots j)) (sym (at_new k here))
            (last_apart j below_j (ap is_used (sym (at_old j below_j)) ∙ used_j) (ap is_used (sym (at_new k here)) ∙ used_k))))
      ]
      | inr past_j ↦ elim (cases_lt k (length slots)) [
        | inl below_k ↦
            (let here : j ≡ length slots = omega (arith, used_below (slots ++ s ∷ []) j used_j, length_push slots s) in
            subst (λ (t : Slot). AreSlotsApart t (slot_at (slots ++ s ∷ []) k)) (sym (at_new j here))
            (subst (AreSlotsApart s) (sym (at_old k below_k)) (apart_swapped (slot_at slots k) s
            (last_apart k below_k (ap is_used (sym (at_old k below_k)) ∙ used_k) (ap is_used (sym (at_new j here)) ∙ used_j)))))
        | inr past_k ↦ absurd (differ (omega (arith, used_below (slots ++ s ∷ []) j used_j, used_below (slots ++ s ∷ []) k used_k, length_push slots s)))
      ]
    ];
  }

both_none : {X : Type 0} (a b : Option X) → option_or a b ≡ None → (a ≡ None) × (b ≡ None)
both_none None b e = (refl, e)
both_none (Some x) b e = absurd cc

pub limit_placed : (pages units : ℕ) (s : Slot) → IsPlaced pages units s → IsPlaced pages (2 ^ 28) s
limit_placed pages units s p = record { number = p.number; few = p.few; behind = p.behind; some = p.some; inside = p.below; below = p.below }

pub sound_run : (pages units : ℕ) (slots : List Slot) (us : Units) → AreSound pages (2 ^ 28) slots → run pages units slots us ≡ None
    → AreSound pages (2 ^ 28) (slots ++ slots_in us)
unfolding slots_in
sound_run pages units slots [] sound none = subst (AreSound pages (2 ^ 28)) (sym (append-nil slots)) sound
sound_run pages units slots (u ∷ us) sound none =
    let b = both_none (slot_fault pages units slots u) (run pages units (slots ++ slot_of u ∷ []) us) none in
    let pushed =
    sound_push pages (2 ^ 28) slots (slot_of u) sound (λ used. limit_placed pages units (slot_of u)
    (placed pages units u (no_own pages units slots u b.0) used)) (no_shared pages units slots u b.0) in
    subst (AreSound pages (2 ^ 28)) (append_assoc slots (slot_of u ∷ []) (slots_in us)) (sound_run pages units (slots ++ slot_of u ∷ []) us pushed b.1)

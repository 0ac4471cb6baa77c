-- The used ranges where a slot is set.
use Rattle.std.proofs.Common.{◌≡◌, ◌≢◌, inl, inr, ℕ, ◌^◌, List, true, sym, ap, ◌∙◌, subst, arith, set, Option, Some, None}
use Rattle.std.specs.Prelude.{Contains}
use Rattle.std.proofs.lemmas.Bool.{cases_eq}
use Rattle.rpm_pkgdb.proofs.Vocabulary.{AreRangesOf, AreSound, Blocks, Forgets, free, HasUsed, is_used, Range, range_of_slot, Slot, slot_at}
use Rattle.rpm_pkgdb.proofs.Vocabulary.{without, without_keeps, without_only}
use Rattle.rpm_pkgdb.proofs.ClearLaws.{set_here, set_other}
use Rattle.rpm_pkgdb.proofs.Pairwise.{used_below}

module _ (pages : ℕ) (slots : List Slot) (sound : AreSound pages (2 ^ 28) slots) where
  -- two used slots begin at different blocks
  pub other_start : (j k : ℕ) → j ≢ k → is_used (slot_at slots j) ≡ true → is_used (slot_at slots k) ≡ true
      → (slot_at slots j).offset ≢ (slot_at slots k).offset
  other_start j k differ used_j used_k same = elim (sound.apart j k differ used_j used_k).blocks [
    | inl l ↦ omega (arith, l, (sound.placed j used_j).some)
    | inr r ↦ omega (arith, r, (sound.placed k used_k).some)
  ]

  module _ (k : ℕ) (used_k : is_used (slot_at slots k) ≡ true) where
    freed_ranges : (b d : Blocks) → AreRangesOf b.ranges slots → d.ranges ≡ without (slot_at slots k).offset b.ranges → AreRangesOf d.ranges (set slots k free)
    freed_ranges b d has is =
        let below = used_below slots k used_k in
        record {
          each = λ j used. elim (cases_eq j k) [
            | inl here ↦
                absurd (let e : slot_at (set slots k free) j ≡ free = ap (slot_at (set slots k free)) here ∙ set_here pages (2 ^ 28) slots sound k below free in
                let f : is_used (slot_at (set slots k free) j) ≡ is_used free = ap is_used e in cc)
            | inr other ↦
                (let stays = set_other pages (2 ^ 28) slots sound k below free j other in
                let was : is_used (slot_at slots j) ≡ true = ap is_used (sym stays) ∙ used in
                subst (λ (l : List Range). Contains l (range_of_slot (slot_at (set slots k free) j))) (sym is)
                (subst (λ (t : Slot). Contains (without (slot_at slots k).offset b.ranges) (range_of_slot t)) (sym stays)
                (without_keeps (slot_at slots k).offset (range_of_slot (slot_at slots j)) b.ranges (other_start j k other was used_k) (has.each j was))))
          ];
          only = λ x there.
              let w = without_only (slot_at slots k).offset x b.ranges (subst (λ (l : List Range). Contains l x) is there) in
              let u = has.only x w.1 in
              let other : u.at ≢ k = λ here. w.0 (ap (λ (r : Range). r.start) u.is ∙ ap (λ (i : ℕ). (slot_at slots i).offset) here) in
              let stays = set_other pages (2 ^ 28) slots sound k below free u.at other in
              record { at = u.at; used = ap is_used stays ∙ u.used; is = u.is ∙ ap range_of_slot (sym stays) };
        }

    -- the range of a slot that is set free is taken out
    pub freed_used : (old new : Option Blocks) (spare : ℕ) → HasUsed old spare slots → Forgets (slot_at slots k).offset old new
        → HasUsed new spare (set slots k free)
    freed_used None None spare has gone = has
    freed_used (Some b) (Some d) spare has gone = (freed_ranges b d has.0 gone.0, omega (arith, has.1, gone.1))
    freed_used None (Some d) spare has gone = absurd gone
    freed_used (Some b) None spare has gone = absurd gone

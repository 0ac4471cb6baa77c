-- Slots that are right by themselves.
use Rattle.std.proofs.Common.{◌≡◌, ℕ, ◌+◌, ◌^◌, List, Bool, false, Option, Some, None, is_some, sym, ap, ◌∙◌, subst, arith, inl, inr}
use Rattle.std.proofs.lemmas.Bool.{cases_eq}
use Rattle.rpm_pkgdb.proofs.Vocabulary.{AreOwn, AreSound, own_reason, Slot, slot_at, slots_in, table_fault, unit_at, Units}
use Rattle.rpm_pkgdb.proofs.Pairwise.{sound_from}
use Rattle.rpm_pkgdb.proofs.SoundRuns.{limit_placed}

pub own_more : (pages units : ℕ) (us : Units) (k : ℕ) (unit : List ℕ) → AreOwn pages units us k → unit ≡ unit_at us k → own_reason pages units unit ≡ None
    → AreOwn pages units us (k + 1)
own_more pages units us k unit own is none j below = elim (cases_eq j k) [
  | inl here ↦ ap (λ (i : ℕ). own_reason pages units (unit_at us i)) here ∙ ap (own_reason pages units) (sym is) ∙ none
  | inr other ↦ own j (omega arith)
]

pub none_of : {X : Type 0} (o p : Option X) (b : Bool) → o ≡ p → b ≡ is_some o → b ≡ false → p ≡ None
none_of None p b same is not_b = sym same
none_of (Some x) p b same is not_b = absurd cc

pub none_limit : (pages units : ℕ) (us : Units) (slots : List Slot) → slots ≡ slots_in us → table_fault pages units us ≡ None → AreSound pages (2 ^ 28) slots
none_limit pages units us slots is none =
    let s = sound_from pages units us none in
    subst (AreSound pages (2 ^ 28)) (sym is) (record {
      placed = λ k used. limit_placed pages units (slot_at (slots_in us) k) (s.placed k used);
      apart =
          s.apart;
    })

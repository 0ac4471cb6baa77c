-- What is kept under names in a map.
use Rattle.std.proofs.Common.{◌≡◌, ℕ, List, [], ◌∷◌, Bool, Vec, refl, sym, subst, inl, inr}
use Rattle.std.specs.Prelude.{IfSome}
use Rattle.std.specs.BTreeMap.{insert_entry}
use Rattle.std.specs.Map.{lookup, remove_entry}
use Rattle.std.specs.Ordering.{match_ordering}
use Rattle.std.proofs.lemmas.Bool.{cases_Bool}
use Rattle.std.proofs.lemmas.Map.Lookups.{exact_bytes}
use Rattle.rpm_check.proofs.Keys.{equal_if}
use Rattle.rpm_check.proofs.Vocabulary.{AllByRecursion, Equal, FinMap, Global, Greater, is_at, IsOffered, Less, nat_cmp, Offer, Ordering, Package, slice_cmp}

abbrev pub Entry : Type 0
Entry = Vec ℕ Global × Vec Offer Global

module _ (all : FinMap nat_cmp Package) where
  abbrev pub IsKept : Entry → Type 0
  IsKept e = IsOffered all e.0.items e.1.items

  -- by a name, what is kept under it
  pub found_under : (name : List ℕ) (es : List Entry) → AllByRecursion IsKept es
      → IfSome (lookup (is_at (λ k. slice_cmp nat_cmp name k.items)) es) (λ offers. IsOffered all name offers.items)
  found_under name [] kept = tt
  found_under name (e ∷ es) kept = elim (cases_Bool (is_at (λ (k : Vec ℕ Global). slice_cmp nat_cmp name k.items) e.0)) [
    | inl at ↦
        rw at (subst (λ ns. IsOffered all ns e.1.items) (sym (exact_bytes name e.0.items (equal_if (slice_cmp nat_cmp name e.0.items) at))) kept.0)
    | inr other ↦ rw other (found_under name es kept.1)
  ]

  pub left_kept : (test : Vec ℕ Global → Bool) (es : List Entry) → AllByRecursion IsKept es → AllByRecursion IsKept (remove_entry test es)
  left_kept test [] kept = tt
  left_kept test (e ∷ es) kept = elim (cases_Bool (test e.0)) [
    | inl at ↦ rw at kept.1
    | inr other ↦ rw other (kept.0, left_kept test es kept.1)
  ]

  module _ (name : Vec ℕ Global) (offers : Vec Offer Global) (offered : IsOffered all name.items offers.items) where
    one_kept : (o : Ordering) (e : Entry) (es later : List Entry) → (o ≡ Equal → name.items ≡ e.0.items) → AllByRecursion IsKept (e ∷ es)
        → AllByRecursion IsKept later → AllByRecursion IsKept (match_ordering o ((name, offers) ∷ e ∷ es) ((e.0, offers) ∷ es) (e ∷ later))
    one_kept Less e es later same kept rest = (offered, kept)
    one_kept Equal e es later same kept rest = (subst (λ ns. IsOffered all ns offers.items) (same refl) offered, kept.1)
    one_kept Greater e es later same kept rest = (kept.0, rest)

    pub more_kept : (es : List Entry) → AllByRecursion IsKept es
        → AllByRecursion IsKept (insert_entry (λ a b. slice_cmp nat_cmp a.items b.items) es name offers)
    more_kept [] kept = (offered, tt)
    more_kept (e ∷ es) kept =
        one_kept (slice_cmp nat_cmp name.items e.0.items) e es (insert_entry (λ a b. slice_cmp nat_cmp a.items b.items) es name offers)
        (exact_bytes name.items e.0.items) kept (more_kept es kept.1)

-- The index while a change of it is written and sealed.
use Rattle.std.proofs.Common.{◌≡◌, ◌⊎◌, inl, inr, ℕ, ◌≤◌, List, ◌∷◌, [], length, sym, ap, ◌∙◌, subst}
use Rattle.rpm_db.proofs.Vocabulary.{file_after, buckets_after, IndexTo, IsSealed, IsSealedAfter, IsWellFormed, with_units, seal_unit, sealed_after, SealedOrSame, Units}
use Rattle.rpm_db.proofs.Vocabulary.{VoidOrSameSeal, Work}

module _ (g : ℕ) (work : Work) (file : Units) where
  -- a file to which the change is written, and which can be sealed
  pub record IsWritten (u : Units) : Type 0 where
    pub is : u ≡ file_after work file
    pub some : 1 ≤ length u
    pub seal : IsWellFormed (buckets_after work) (file_after work file)
        → IsSealed g (buckets_after work) (file_after work file) (sealed_after g work file)

  -- before the seal
  pub unsealed_yet : (x y : Units) → VoidOrSameSeal x y → IndexTo g work file x y
  unsealed_yet x y (inl void) = inl void
  unsealed_yet x y (inr seal) = inr (inl seal)

  -- after it
  pub sealed_now : (unit : List ℕ) (y z : Units) → unit ≡ seal_unit g (buckets_after work) → IsWritten y → z ≡ with_units 0 (unit ∷ []) y
      → IsSealedAfter g work file z
  sealed_now unit y z is w new =
      let here : z ≡ sealed_after g work file =
      new ∙ ap (λ (u : List ℕ). with_units 0 (u ∷ []) y) is ∙ ap (λ (u : Units). with_units 0 (seal_unit g (buckets_after work) ∷ []) u) w.is in
      record { is = here; sealed = λ whole. subst (IsSealed g (buckets_after work) (file_after work file)) (sym here) (w.seal whole) }

  -- and between
  pub sealing_rows : (unit : List ℕ) → unit ≡ seal_unit g (buckets_after work) → (x y z : Units) → VoidOrSameSeal x y → IsWritten y → SealedOrSame unit y z
      → IndexTo g work file x z
  sealing_rows unit is x y z before w seal = either (seal w.some)
    where
      either : (z ≡ y) ⊎ (z ≡ with_units 0 (unit ∷ []) y) → IndexTo g work file x z
      either (inl same) = unsealed_yet x z (subst (VoidOrSameSeal x) (sym same) before)
      either (inr new) = inr (inr (sealed_now unit y z is w new))

  -- each image of it, once it is durable
  pub is_written : (pending : ℕ) (mid u : Units) → pending ≡ buckets_after work → mid ≡ file_after work file → 1 ≤ length mid
      → (IsWellFormed pending mid → IsSealed g pending mid (with_units 0 (seal_unit g pending ∷ []) mid)) → u ≡ mid → IsWritten u
  is_written pending mid u buckets wrote some seal same = record {
    is = same ∙ wrote;
    some = subst (λ (f : Units). 1 ≤ length f) (sym same) some;
    seal = subst (λ (k : ℕ). IsWellFormed k (file_after work file)
        → IsSealed g k (file_after work file) (with_units 0 (seal_unit g k ∷ []) (file_after work file))) buckets
        (subst (λ (f : Units). IsWellFormed pending f → IsSealed g pending f (with_units 0 (seal_unit g pending ∷ []) f)) wrote seal);
  }

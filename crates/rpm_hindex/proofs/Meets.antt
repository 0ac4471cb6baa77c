-- The key of a record whose first unit was read before.
use Rattle.std.proofs.Common.{◌≡◌, ℕ, ◌+◌, ◌*◌, ◌/◌, ◌%◌, ◌^◌, ◌≤◌, true, sym, ap, ◌∙◌, arith, subst}
use Rattle.rpm_hindex.proofs.Vocabulary.{Ahead, Files, FindFault, follow, index_in, is_placed, IsRecordAhead, IsFaultOf, IsRecordHead, unit_at, units_at}
use Rattle.rpm_hindex.proofs.Steps.{moved, units_read}

module _ (B at : ℕ) (file later : Files) (a : Ahead) (same : later ≡ file) (here : a.head.at ≡ at) where
  -- it still can stand there
  pub placed_still : IsRecordAhead (index_in B file.idx) at a → is_placed (index_in B later.idx) a.head.at ≡ true
  placed_still ahead = ap (λ (f : Files). is_placed (index_in B f.idx) a.head.at) same ∙ ap (is_placed (index_in B file.idx)) here ∙ ahead.placed

  -- its head still is what was read
  pub head_still : IsRecordAhead (index_in B file.idx) at a → IsRecordHead (unit_at later.idx) a.head
  head_still ahead = subst (λ (f : Files). IsRecordHead (unit_at f.idx) a.head) (sym same) ahead.head

  -- a fault that its key has is one of the chain from it on
  pub fault_from : (b : ℕ) (e : FindFault) → IsFaultOf (follow (index_in B later.idx) b a.head.at a.head.at) e
      → IsFaultOf (follow (index_in B file.idx) b at at) e
  fault_from b e fault = moved (λ (f : Files) (p : ℕ). IsFaultOf (follow (index_in B f.idx) b p p) e) later file a.head.at at same here fault

  -- both reads are those of its units
  pub both_read : (old mid new : ℕ) → IsRecordAhead (index_in B file.idx) at a → mid ≤ old + 16 → new ≤ mid + 16 * ((a.head.size % 2 ^ 28 + 15) / 16)
      → new ≤ old + 16 * units_at (unit_at file.idx) at
  both_read old mid new ahead first key = omega (arith, first, key, units_read (unit_at file.idx) at a.head.at a.head.size here ahead.head.packed)

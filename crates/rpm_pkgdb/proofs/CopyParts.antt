-- A part more of blocks that are copied.
use Rattle.std.proofs.Common.{◌≡◌, ◌⊎◌, inl, inr, ℕ, ◌+◌, ◌-◌, ◌*◌, ◌/◌, ◌<◌, ◌≤◌, List, length, take, drop, ap, ◌∙◌, arith, length-drop}
use Rattle.std.proofs.lemmas.List.{get_or-take, get_or-drop, length-take}
use Rattle.std.proofs.lemmas.Bool.{cases_lt}
use Rattle.rpm_pkgdb.proofs.Vocabulary.{blank, length-put, with_units, put_before, put_inside, SameOutside, Torn, unit_at, Units}
use Rattle.rpm_pkgdb.proofs.ClearLaws.{torn_outside, outside_wider}

-- how many units are read
pub part_count : (some : ℕ) (page : List ℕ) → length page ≡ 4096 → some ≤ 256 → length (take (16 * some) page) / 16 ≡ some
part_count some page long le = omega (arith, length-take (16 * some) page)

module _ (from to count done some : ℕ) (F0 F1 F2 : Units) (us : Units) (apart : (to + count ≤ from) ⊎ (from + count ≤ to))
    (within : from + count ≤ length F0) (le : done + some ≤ count) (so_far : SameOutside to count F0 F1) (same : F2 ≡ F1)
    (read : us ≡ take some (drop (from + done) F1)) where
  pub count_read : length us ≡ some
  count_read = omega (arith, ap length read, length-take some (drop (from + done) F1), length-drop (from + done) F1, so_far.no_shorter)

  source : (i : ℕ) → from ≤ i → i < from + count → unit_at F1 i ≡ unit_at F0 i
  source i low high = elim apart [ inl l ↦ so_far.above i (omega arith) | inr r ↦ so_far.below i (omega arith) ]

  pub copied_more : (F3 : Units) → F3 ≡ with_units (to + done) us F2 → ((i : ℕ) → i < done → unit_at F1 (to + i) ≡ unit_at F0 (from + i)) → (i : ℕ)
      → i < done + some → unit_at F3 (to + i) ≡ unit_at F0 (from + i)
  copied_more F3 written before i below =
      ap (λ (u : Units). unit_at u (to + i)) written ∙ elim (cases_lt i done) [
        | inl old ↦ put_before (to + done) us F2 (to + i) (omega arith) ∙ ap (λ (u : Units). unit_at u (to + i)) same ∙ before i old
        | inr new ↦
            (let k = i - done in
            ap (unit_at (with_units (to + done) us F2)) (omega arith)
            ∙ put_inside (to + done) us F2 k (omega (arith, count_read))
            ∙ ap (λ (u : Units). unit_at u k) read
            ∙ get_or-take some (drop (from + done) F1) k blank (omega arith)
            ∙ get_or-drop (from + done) F1 k blank
            ∙ ap (unit_at F1) (omega arith)
            ∙ source (from + i) (omega arith) (omega arith))
      ]

  pub longer_more : (F3 : Units) → F3 ≡ with_units (to + done) us F2 → to + (done + some) ≤ length F3
  longer_more F3 written = omega (arith, ap length written, length-put (to + done) us F2, count_read)

-- a write within the range
pub part_within : (to count done some : ℕ) (us a b : Units) → length us ≤ some → done + some ≤ count → Torn (to + done) us a b → SameOutside to count a b
part_within to count done some us a b few le torn =
    outside_wider (to + done) (length us) to count a b (omega arith) (omega arith) (torn_outside (to + done) us a b torn)

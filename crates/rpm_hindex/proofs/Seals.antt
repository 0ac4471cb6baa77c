-- A file whose units after unit 0 stay.
use Rattle.std.proofs.Common.{◌≡◌, ℕ, ◌+◌, ◌/◌, ◌%◌, ◌<◌, ◌≤◌, max, List, [], ◌∷◌, length, take, refl, sym, ap, ◌∙◌, arith, subst}
use Rattle.rpm_hindex.proofs.Vocabulary.{AddsPadded, index_in, IsWellFormed, IsWhole, KeepsIndexValue, length-cut_up, length-put, places_of, with_units, put_after, put_before}
use Rattle.rpm_hindex.proofs.Vocabulary.{put_inside, records, IndexState, unit_at, unit_at-cut_up, Units, units_of, word}
use Rattle.rpm_hindex.proofs.Wholes.{has_chains}
use Rattle.rpm_hindex.proofs.Extends.{Extends, rows_same, whole_same}
use Rattle.rpm_hindex.proofs.Padding.{adds_same}

module _ (buckets : ℕ) (old new : Units) (same : (i : ℕ) → 1 ≤ i → unit_at new i ≡ unit_at old i) where
  extends : Extends (index_in buckets old) (index_in buckets new)
  extends = record {
    buckets = refl;
    used = omega (arith, ap (word 0) (same 1 (omega arith)));
    units = λ i from below. same i (omega arith);
  }

  heads : (b : ℕ) → b < buckets → word (b % 4) (unit_at new (2 + b / 4)) ≡ word (b % 4) (unit_at old (2 + b / 4))
  heads b below = ap (word (b % 4)) (same (2 + b / 4) (omega arith))

  pub whole_behind : IsWellFormed buckets old → IsWellFormed buckets new
  whole_behind whole =
      let u = same 1 (omega arith) in
      subst (λ (n : ℕ). IsWhole (word 1 (unit_at new 1)) n (index_in buckets new)) (sym (ap (word 2) u))
      (subst (λ (n : ℕ). IsWhole n (word 2 (unit_at old 1)) (index_in buckets new)) (sym (ap (word 1) u))
      (whole_same (index_in buckets old) (index_in buckets new) extends heads _ _ whole))

  pub records_behind : IsWellFormed buckets old → records buckets new ≡ records buckets old
  records_behind whole = rows_same (index_in buckets old) (index_in buckets new) extends heads (places_of (index_in buckets old))
      (has_chains (index_in buckets old) whole.chains)

  pub padded_behind : IsWellFormed buckets old → AddsPadded (index_in buckets old) (index_in buckets new)
  padded_behind whole = adds_same (index_in buckets old) (index_in buckets new) extends heads (places_of (index_in buckets old))
      (has_chains (index_in buckets old) whole.chains)

-- a new unit 0
module _ (unit : List ℕ) (old new : Units) (is : new ≡ with_units 0 (unit ∷ []) old) where
  pub front_behind : (i : ℕ) → 1 ≤ i → unit_at new i ≡ unit_at old i
  front_behind i from = ap (λ (f : Units). unit_at f i) is ∙ put_after 0 (unit ∷ []) old i (omega arith)

  pub front_kept : (s : IndexState) (units : ℕ) → KeepsIndexValue old s → units ≡ max s.units 1 → KeepsIndexValue new (record {
    first = unit;
    second = s.second;
    units = units;
    pending = 0;
  })
  front_kept s units keeps long = record {
    first = sym (ap (λ (f : Units). unit_at f 0) is ∙ put_inside 0 (unit ∷ []) old 0 (omega arith));
    second = keeps.second ∙ sym (front_behind 1 (omega arith));
    units = omega (arith, keeps.units, ap length is, length-put 0 (unit ∷ []) old);
  }

abbrev pub state : List ℕ → List ℕ → ℕ → IndexState
state first second units = record { first = first; second = second; units = units; pending = 0 }

pub same_state : (f g s t : List ℕ) (u v : ℕ) → f ≡ g → s ≡ t → u ≡ v → state f s u ≡ state g t v
same_state f g s t u v a b c = ap (λ (x : List ℕ). state x s u) a ∙ ap (λ (x : List ℕ). state g x u) b ∙ ap (λ (x : ℕ). state g t x) c

-- units from unit 1 on
module _ (bytes : List ℕ) (old new : Units) (is : new ≡ with_units 1 (units_of bytes) old) where
  pub image_held : (k : ℕ) → k < length (units_of bytes) → unit_at new (1 + k) ≡ unit_at (units_of bytes) k
  image_held k lt = ap (λ (f : Units). unit_at f (1 + k)) is ∙ put_inside 1 (units_of bytes) old k lt

  pub image_kept : (s : IndexState) (units pending : ℕ) → 16 ≤ length bytes → KeepsIndexValue old s → units ≡ max s.units (1 + length bytes / 16)
      → KeepsIndexValue new (record { first = s.first; second = take 16 bytes; units = units; pending = pending })
  image_kept s units pending some keeps long = record {
    first = keeps.first ∙ sym (ap (λ (f : Units). unit_at f 0) is ∙ put_before 1 (units_of bytes) old 0 (omega arith));
    second = sym (image_held 0 (omega (arith, length-cut_up (length bytes / 16) bytes)) ∙ unit_at-cut_up (length bytes / 16) bytes 0 (omega arith));
    units = omega (arith, long, keeps.units, ap length is, length-put 1 (units_of bytes) old, length-cut_up (length bytes / 16) bytes);
  }

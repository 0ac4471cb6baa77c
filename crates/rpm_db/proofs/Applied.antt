-- The state that a change makes, as the blobs of its store say it.
use Rattle.std.proofs.Common.{◌≡◌, ℕ, ◌+◌, Option, Some, None, Ok, sym, ap, ◌∙◌}
use Rattle.std.specs.FinMap as finite
use Rattle.rpm_db.proofs.Vocabulary.{apply, BlobMap, blobs, change_at, Erase, field_for, Good, Header, header, nat_cmp, next-state, next_number, number_for}
use Rattle.rpm_db.proofs.Vocabulary.{Package, packages, Says, Represents, state, state-blobs, state_of, state_with, Store, Units}
use Rattle.rpm_db.specs.State.{State}
use Rattle.rpm_db.proofs.Edited.{put_packages, erased_packages}

-- a header under a number that is there, or a new one
pub put_state : (file : Units) (value : Store) (n : Option ℕ) (h : Header) → header h.blob ≡ Ok h
    → state_of (finite.insert (blobs file value) (number_for n value) (Some h.blob)) (field_for n value) ≡ apply (change_at n h.blob) (state file value)
put_state file value None h own =
    ap (λ (ps : finite.FinMap nat_cmp Package). state_with ps (next_number value + 1)) (put_packages file value (next_number value) h own)
    ∙ ap (λ (k : ℕ). state_with (finite.insert (packages file value) k (Good h.blob)) (k + 1)) (sym (next-state file value))
put_state file value (Some n) h own =
    ap (λ (ps : finite.FinMap nat_cmp Package). state_with ps value.field) (put_packages file value n h own)

-- a number that is taken out
pub erase_state : (file : Units) (value : Store) (n : ℕ)
    → state_of (finite.remove (blobs file value) n) value.field ≡ apply (Erase n) (state file value)
erase_state file value n = ap (λ (ps : finite.FinMap nat_cmp Package). state_with ps value.field) (erased_packages file value n)

-- what an image says that represents a file
says_state : (generation field : ℕ) (map : BlobMap) (image : Units) (s : Represents generation field map image) → state image s.value ≡ state_of map field
says_state generation field map image s =
    state-blobs image s.value ∙ ap (λ (k : BlobMap). state_of k s.value.field) s.blobs_are ∙ ap (state_of map) s.field_is

pub held_by : (file image : Units) (value : Store) (after : State) → state file value ≡ after
    → Represents value.generation value.field (blobs file value) image → Says (λ t. t ≡ after) image
held_by file image value after is s = record {
  value = s.value;
  undamaged = s.undamaged;
  is = says_state value.generation value.field (blobs file value) image s ∙ sym (state-blobs file value) ∙ is;
}

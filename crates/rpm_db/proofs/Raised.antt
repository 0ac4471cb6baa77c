-- A store whose generation is raised before its blobs change.
use Rattle.std.proofs.Common.{◌≡◌, inl, inr, ℕ, ◌+◌, List, refl, ap, ◌∙◌}
use Rattle.rpm_db.proofs.Vocabulary.{BlobMap, blobs, BlobsTo, Edit, edit_cost, edited_blobs, EditsTo, field_edited, RaisesTo, Represents, Store}
use Rattle.rpm_db.proofs.Vocabulary.{Units, with_generation}
use Rattle.rpm_db.specs.declared.writing.Edit.TheVariants as edit

pub cost_raised : (g : ℕ) (it : Edit) (value : Store) → edit_cost it (with_generation g value) ≡ edit_cost it value
cost_raised g (edit.Put plan) value = refl
cost_raised g (edit.Erase n) value = refl

pub stands_same : (g f g' f' : ℕ) (B B' : BlobMap) (image : Units) → g ≡ g' → f ≡ f' → B ≡ B' → Represents g f B image → Represents g' f' B' image
stands_same g f g' f' B B' image e_g e_f e_B s =
    record { value = s.value; undamaged = s.undamaged; generation_is = s.generation_is ∙ e_g; field_is = s.field_is ∙ e_f; blobs_are = s.blobs_are ∙ e_B }

pub raises_to : (value : Store) (next : ℕ) (after : BlobMap) (file image : Units) → RaisesTo value (value.generation + 1) file image
    → BlobsTo value.generation value.field next (blobs file value) after image
raises_to value next after file image (inl s) = inl s
raises_to value next after file image (inr s) = inr (inl s)

module _ (g f : ℕ) (B : BlobMap) (v : Store) (file image : Units) (e_g : v.generation ≡ g + 1) (e_f : v.field ≡ f) (e_B : blobs file v ≡ B) where
  pub edits_to : (it : Edit) (blob : List ℕ) → EditsTo v it blob file image → BlobsTo g f (field_edited it f) B (edited_blobs it blob B) image
  edits_to (edit.Put plan) blob (inl s) = inr (inl (stands_same _ _ _ _ _ _ image e_g e_f e_B s))
  edits_to (edit.Put plan) blob (inr (inl s)) = inr (inr (inl (stands_same _ _ _ _ _ _ image e_g (ap (field_edited (edit.Put plan)) e_f) e_B s)))
  edits_to (edit.Put plan) blob (inr (inr s)) =
      inr (inr (inr (stands_same _ _ _ _ _ _ image e_g (ap (field_edited (edit.Put plan)) e_f) (ap (edited_blobs (edit.Put plan) blob) e_B) s)))
  edits_to (edit.Erase n) blob (inl s) = inr (inl (stands_same _ _ _ _ _ _ image e_g e_f e_B s))
  edits_to (edit.Erase n) blob (inr s) = inr (inr (inr (stands_same _ _ _ _ _ _ image e_g e_f (ap (edited_blobs (edit.Erase n) blob) e_B) s)))

-- How far a change makes the index reach.
use Rattle.std.proofs.Common.{◌≡◌, ℕ, [], Option, Some, None, Ok, refl, ap, ◌∙◌}
use Rattle.rpm_db.proofs.Vocabulary.{added_units, added_rows, change_at, dropped_rows, Header, header, header_rows, live_of, next, next-state, number_for}
use Rattle.rpm_db.proofs.Vocabulary.{old_rows, packages, rows_read, state, Store, Units}

pub live_none : live_of [] ≡ 0
unfolding live_of
live_none = refl

-- what a header drops and adds
pub dropped_are : (pkg : Units) (value : Store) (n : Option ℕ) (h : Header)
    → old_rows n (packages pkg value) ≡ dropped_rows (state pkg value) (change_at n h.blob)
dropped_are pkg value None h = refl
dropped_are pkg value (Some n) h = refl

pub added_are : (pkg : Units) (value : Store) (n : Option ℕ) (h : Header) → header h.blob ≡ Ok h
    → added_rows (state pkg value) (change_at n h.blob) ≡ header_rows (number_for n value) h
added_are pkg value None h own =
    ap (rows_read (next (state pkg value))) own ∙ ap (λ (k : ℕ). header_rows k h) (next-state pkg value)
added_are pkg value (Some n) h own = ap (rows_read n) own

pub added_is : (pkg : Units) (value : Store) (n : Option ℕ) (h : Header) → header h.blob ≡ Ok h
    → added_units (state pkg value) (change_at n h.blob) ≡ live_of (header_rows (number_for n value) h)
added_is pkg value None h own = ap live_of (added_are pkg value None h own)
added_is pkg value (Some n) h own = ap live_of (added_are pkg value (Some n) h own)

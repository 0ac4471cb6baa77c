-- What a change asks and leaves of the store and then of the index, from one call to the next.
use Rattle.std.proofs.Common.{◌≡◌, ℕ, ◌+◌, ◌≤◌, true, sym, ap, ◌∙◌, subst}
use Rattle.std.specs.Prelude.{IsTrue}
use Rattle.rpm_outside.specs.declared.disk.Disk as disk
use Rattle.rpm_db.proofs.Vocabulary.{AreLawful, BlobMap, blobs, BlobsTo, Changes, Files, Idx, images, IndexTo, IsApplied, IsPutAside, SameLog}
use Rattle.rpm_db.proofs.Vocabulary.{IsChangedStill, IsLawful, IsQuiet, IsSealedAfter, IsDurable, IsStoreWritten, KeepsStore, CrashLeaves, packages_of, Pkg, rows, Runs}
use Rattle.rpm_db.proofs.Vocabulary.{SameFiles, Represents, state, state-blobs, state_of, IsTornOnly, Store, store, Units, Work, WritesRows, HasRows, nat_cmp}
use Rattle.rpm_db.proofs.Vocabulary.{Package, packages, packages-blobs, IsImageOfChange, leaves_then, leaves_weaker}
use Rattle.rpm_db.specs.State.{State}
use Rattle.std.specs.FinMap as finite
use Rattle.rpm_hindex.specs.State as hindex
use Rattle.rpm_db.proofs.Both.{quiet_then}
use Rattle.rpm_db.proofs.Unwritten.{quiet_same, durable_same, crashes_written}
use Rattle.rpm_db.proofs.Changed.{Fits, index_crash, rows_sealed, store_crash}
use Rattle.rpm_db.proofs.Raised.{stands_same}
use Rattle.rpm_db.proofs.Making.{no_later_of_lawful, rows_of_lawful}

-- the state of these blobs and this number field
pub state_written : (pkg : Units) (value : Store) (after : BlobMap) (field : ℕ) → blobs pkg value ≡ after → value.field ≡ field
    → state pkg value ≡ state_of after field
state_written pkg value after field is same =
    state-blobs pkg value ∙ ap (λ (k : BlobMap). state_of k value.field) is ∙ ap (state_of after) same

-- their rows, once the change of the index is sealed
pub rows_written : (pkg from idx : Units) (value : Store) (generation : ℕ) (work : Work) (after : BlobMap) → blobs pkg value ≡ after
    → WritesRows (rows (packages_of after)) work from → IsSealedAfter generation work from idx → HasRows (packages pkg value) idx
rows_written pkg from idx value generation work after is writes sealed =
    subst (λ (ps : finite.FinMap nat_cmp Package). HasRows ps idx) (sym (packages-blobs pkg value ∙ ap packages_of is))
    (rows_sealed generation (packages_of after) work from idx writes sealed).0

-- the index of lawful files fits the store of the file
fits_lawful : (pkg idx : Units) (value : Store) → KeepsStore pkg value → 1 ≤ value.pages → IsLawful pkg idx → Fits value.generation (blobs pkg value) idx
fits_lawful pkg idx value keeps made lawful = record {
  behind = no_later_of_lawful pkg idx value keeps made lawful;
  rows_are = λ current.
      subst (λ (ps : finite.FinMap nat_cmp Package). HasRows ps idx) (packages-blobs pkg value)
      (rows_of_lawful pkg idx value keeps made lawful current);
}

module _ {D : Type 0} (d : disk.Ghosts D) where
  -- the store stays as it was written while the index changes
  pub stored_then : (value : Store) (was to : BlobMap) (S : Units → Units → Type 0) (n : ℕ) (b c : D) → (IsTrue d.tells → was ≡ to)
      → Changes d Idx S n b c → IsStoreWritten d b value was → IsStoreWritten d c value to
  stored_then value was to S n b c same run s = record {
    kept = λ told. ap store (run.pkg told) ∙ s.kept told;
    blobs_are = λ told. ap (λ (u : Units). blobs u value) (run.pkg told) ∙ s.blobs_are told ∙ same told;
    quiet = λ told.
        quiet_then d told value S n b c run (s.quiet told);
    stands = λ told image here.
        (let moved = run.now told image here in
        subst (λ (u : Units). Represents value.generation value.field (blobs u value) image.pkg) (sym (run.pkg told))
        (subst (Represents value.generation value.field (blobs (d.files b).pkg value)) (sym moved.pkg) (s.stands told moved.from moved.was)));
  }

  -- the index was changed from what it was before the store was
  pub applied_since : (before after : hindex.IndexState) (work : Work) (generation told_as : ℕ) (a b c : D)
      → (IsTrue d.tells → (d.files b).idx ≡ (d.files a).idx) → told_as ≡ generation → IsApplied d b c before after told_as work
      → IsApplied d a c before after generation work
  applied_since before after work generation told_as a b c same is s = record {
    current = subst (λ (n : ℕ). hindex.is_current n after ≡ true) is s.current;
    grows = s.grows;
    kept = s.kept;
    sealed = λ told. rw (is, same told) at (s.sealed told);
    durable = s.durable;
  }

  -- what crashes leave while the store is written, said of the files from before the plan
  module _ (a b e : D) (told : IsTrue d.tells) (lawful : AreLawful (images d a)) (now : images d a (d.files a)) (run : Runs d SameFiles a b) (value : Store)
      (keeps : KeepsStore (d.files a).pkg value) (made : 1 ≤ value.pages) (quiet : IsQuiet value (d.files a) (images d a))
      (durable : IsDurable Idx (d.files a) (images d a)) (next : ℕ) (after : BlobMap)
      (crashes : IsQuiet value (d.files a) (images d b) → CrashLeaves d b e (IsTornOnly Pkg
      (BlobsTo value.generation value.field next (blobs (d.files a).pkg value) after) (images d b))) where
    abbrev was : BlobMap
    was = blobs (d.files a).pkg value

    abbrev Leaves : D → Type 0
    Leaves x = CrashLeaves d a x (IsChangedStill (state (d.files a).pkg value) (state_of after next) (images d a))

    since : (x : D) → CrashLeaves d b x (IsChangedStill (state_of was value.field) (state_of after next) (images d b)) → Leaves x
    since x left =
        crashes_written (state (d.files a).pkg value) (state_of after next) d a b x told lawful run
        (subst (λ (s : State). CrashLeaves d b x (IsChangedStill s (state_of after next) (images d b))) (sym (state-blobs (d.files a).pkg value)) left)

    fits : Fits value.generation was (d.files b).idx
    fits =
        subst (λ (f : Files). Fits value.generation was f.idx) (sym (run.reads_as told))
        (fits_lawful (d.files a).pkg (d.files a).idx value keeps made (lawful (d.files a) now))

    first : CrashLeaves d b e (IsTornOnly Pkg (BlobsTo value.generation value.field next was after) (images d b))
    first = crashes (rw (run.reads_as told) at (quiet_same d a b told run value quiet))

    still : IsDurable Idx (d.files b) (images d b)
    still = durable_same d a b told run durable

    abbrev Still : Files → Type 0
    Still = IsChangedStill (state_of was value.field) (state_of after next) (images d b)

    in_store : CrashLeaves d b e Still
    in_store = leaves_weaker d b e (IsTornOnly Pkg (BlobsTo value.generation value.field next was after) (images d b)) Still
        (λ image s. store_crash value.generation value.field next was after (d.files b).idx fits (images d b) image s.from s.was
        (s.idx ∙ still s.from s.was) s.log s.pkg) first

    pub half_crashes : Leaves e
    half_crashes = since e in_store

  -- and while the index is written after it
  pub index_crashes : (a e c : D) → IsTrue d.tells → AreLawful (images d a) → images d a (d.files a) → (value after : Store) → KeepsStore (d.files a).pkg value
      → 1 ≤ value.pages → (to : BlobMap) (next generation : ℕ) (work : Work) → Runs d SameLog a e → (d.files e).idx ≡ (d.files a).idx
      → IsPutAside d e value after to next → generation ≡ after.generation → WritesRows (rows (packages_of to)) work (d.files a).idx
      → CrashLeaves d a e (IsChangedStill (state (d.files a).pkg value) (state_of to next) (images d a))
      → Changes d Idx (IndexTo generation work (d.files e).idx) 0 e c
      → CrashLeaves d a c (IsChangedStill (state (d.files a).pkg value) (state_of to next) (images d a))
  index_crashes a e c told lawful now value after keeps made to next generation work run same put is writes first change =
      let idx = (d.files a).idx in
      let was = blobs (d.files a).pkg value in
      let Still = IsChangedStill (state_of was value.field) (state_of to next) (images d a) in
      let fits = fits_lawful (d.files a).pkg idx value keeps made (lawful (d.files a) now) in
      let in_index = subst (λ (u : Units). CrashLeaves d e c (IsImageOfChange Idx (IndexTo (value.generation + 1) work u) (images d e))) same
      (subst (λ (n : ℕ). CrashLeaves d e c (IsImageOfChange Idx (IndexTo n work (d.files e).idx) (images d e))) (is ∙ put.generation_is)
      (change.any_moment told)) in
      subst (λ (s : State). CrashLeaves d a c (IsChangedStill s (state_of to next) (images d a))) (sym (state-blobs (d.files a).pkg value))
      (leaves_then d a e c Still
      (subst (λ (s : State). CrashLeaves d a e (IsChangedStill s (state_of to next) (images d a))) (state-blobs (d.files a).pkg value) first)
      (leaves_weaker d e c (IsImageOfChange Idx (IndexTo (value.generation + 1) work idx) (images d e)) Still (λ image s.
      (let m = run.now told s.from s.was in
      index_crash value.generation value.field next was to idx fits (images d a) work writes image m.from s.from m.was m.came
      (put.durable told s.from s.was ∙ same) (stands_same _ _ _ _ _ _ s.from.pkg put.generation_is put.field_is
      (put.stored.blobs_are told) (put.stored.stands told s.from s.was)) s.pkg s.log s.idx)) in_index))

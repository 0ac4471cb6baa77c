-- What the blobs say of a number, by the frame that its blocks hold.
use Rattle.std.proofs.Common.{◌≡◌, ℕ, List, Option, Some, None, Err, ap, ◌∙◌}
use Rattle.rpm_pkgdb.proofs.Vocabulary.{AnswerIs, Bad, blob_in, blobs, Frame, frame_in, frames, get-blobs-frames, GetFault, NoSuch, option_map, Store, Units}
use Rattle.std.specs.FinMap as finite
use Rattle.rpm_pkgdb.specs.declared.blob.GetFault.TheVariants.{DiskFault, NoMemory}

module _ (file : Units) (store : Store) (n : ℕ) where
  pub at_frames : (o : Option (Option Frame)) → frames file store n ≡ o → finite.get (blobs file store) n ≡ option_map (option_map blob_in) o
  at_frames o is = get-blobs-frames file store n ∙ ap (option_map (option_map blob_in)) is

  -- a fault that is told of the frame is told of whatever the frame gives
  pub fault_told : {Y : Type 0} (shows : Y → List ℕ) (fault : GetFault) → AnswerIs frame_in (frames file store n) (Err fault)
      → AnswerIs shows (finite.get (blobs file store) n) (Err fault)
  fault_told shows NoSuch said = at_frames None said
  fault_told shows Bad said = at_frames (Some None) said
  fault_told shows DiskFault said = tt
  fault_told shows NoMemory said = tt

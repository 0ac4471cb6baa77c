-- Copies of durable moments stay what they are, and one is as good a start as moment 0.
use Rattle.std.proofs.Common.{◌≡◌, inl, inr, ⊎_elim, ℕ, true, false, List, [], ◌∷◌, ◌++◌, take, length, sym, ◌∙◌, ap, subst, arith}
use Rattle.std.specs.Prelude.{Some, slice_get}
use Rattle.std.proofs.lemmas.List.{take_all}
use Rattle.rpm_outside.proofs.Vocabulary.{AddsCopy, after_steps, after_steps-push, cases_file, Copies, Copy, File, file_of, file_of-with, Files, HoldCopies}
use Rattle.rpm_outside.proofs.Vocabulary.{Idx, is_loose, IsCopy, Log, is_loose_after_write, NoneLoose, other_file, Pick, units_of_pick, picked_image, Pkg, with_units, same_files}
use Rattle.rpm_outside.proofs.Vocabulary.{SyncsFile, Step, Synced, Units, with_file, Wrote, WroteAny, WroteOnce}
use Rattle.rpm_outside.proofs.Picking.{picked_image-push}
use Rattle.rpm_outside.proofs.Loosening.{Loosens, copy_longer, loosened_other, loosened_same, loosens_each, pushed_get, syncs_each, tightened_other}

module _ (old new : Copies) (past : List Step) (first files : Files) (hold : HoldCopies old past first files) where
  -- nothing was written
  none_held : (steps : List Step) (now : Files) (file : File) → Loosens old new file → now ≡ files → steps ≡ past → HoldCopies new steps first now
  none_held steps now file l same none = record {
    each = λ k copy there. subst (λ (s : List Step). IsCopy s first copy) (sym none)
        (hold.each k copy (ap (λ (cs : List Copy). slice_get cs k) (sym l.kept) ∙ there));
    durable = λ f tight pick. elim (cases_file f file) [
      | inl is ↦
          let wrong : true ≡ false = sym (loosened_same file (is_loose old f)) ∙ ap (λ (g : File). is_loose_after_write file g (is_loose old f)) (sym is)
          ∙ sym (loosens_each old new file l f) ∙ tight in
          absurd cc
      | inr differ ↦
          let before : is_loose old f ≡ false = sym (loosened_other file f (is_loose old f) differ) ∙ sym (loosens_each old new file l f) ∙ tight in
          ap (λ (s : List Step). file_of f (picked_image pick s first first)) none ∙ hold.durable f before pick ∙ ap (λ (x : Files). file_of f x) (sym same)
    ];
  }

  -- units were written
  once_held : (steps : List Step) (now : Files) (file : File) (at : ℕ) (units : Units) → Loosens old new file → WroteOnce files now past steps file at units
      → HoldCopies new steps first now
  once_held steps now file at units l write =
      let step : Step = Wrote file at write.kept in
      record {
        each = λ k copy there. subst (λ (s : List Step). IsCopy s first copy) (sym write.step)
            (copy_longer past step first copy (hold.each k copy (ap (λ (cs : List Copy). slice_get cs k) (sym l.kept) ∙ there)));
        durable = λ f tight pick. elim (cases_file f file) [
          | inl is ↦
              let wrong : true ≡ false = sym (loosened_same file (is_loose old f)) ∙ ap (λ (g : File). is_loose_after_write file g (is_loose old f)) (sym is)
              ∙ sym (loosens_each old new file l f) ∙ tight in
              absurd cc
          | inr differ ↦
              let before : is_loose old f ≡ false = sym (loosened_other file f (is_loose old f) differ) ∙ sym (loosens_each old new file l f) ∙ tight in
              let image = picked_image pick past first first in
              ap (λ (s : List Step). file_of f (picked_image pick s first first)) write.step
              ∙ ap (λ (x : Files). file_of f x) (picked_image-push pick past step first first)
              ∙ other_file f file (units_of_pick pick at write.kept.items (file_of file image)) image differ
              ∙ hold.durable f before pick
              ∙ sym (other_file f file (with_units at units (file_of file files)) files differ)
              ∙ ap (λ (x : Files). file_of f x) (sym write.files)
        ];
      }

  pub any_held : (steps : List Step) (now : Files) (file : File) (at : ℕ) (units : Units) → Loosens old new file → WroteAny files now past steps file at units
      → HoldCopies new steps first now
  any_held steps now file at [] l any = none_held steps now file l any.files any.none
  any_held steps now file at (unit ∷ units) l any = once_held steps now file at (unit ∷ units) l any

  -- a file was made durable
  pub sync_held : (steps : List Step) (file : File) (at : ℕ) → files ≡ after_steps past first → steps ≡ past ++ Synced file ∷ [] → at ≡ length steps
      → SyncsFile old new file at files → HoldCopies new steps first files
  sync_held steps file at read is end s = record {
    each = λ k copy there. ⊎_elim
        (λ same. longer k copy (ap (λ (cs : List Copy). slice_get cs k) (sym same) ∙ there))
        (λ adds. ⊎_elim (longer k copy)
        (λ last. subst (λ (c : Copy). IsCopy steps first c) (sym last) (added adds.0 adds.1))
        (pushed_get old.kept.items adds.1.copy copy k (ap (λ (cs : List Copy). slice_get cs k) (sym adds.1.is) ∙ there)))
        s.kept;
    durable = durable;
  }
    where
      step : Step
      step = Synced file

      longer : (k : ℕ) (copy : Copy) → slice_get old.kept.items k ≡ Some copy → IsCopy steps first copy
      longer k copy there = subst (λ (s : List Step). IsCopy s first copy) (sym is) (copy_longer past step first copy (hold.each k copy there))

      read_now : files ≡ after_steps steps first
      read_now = read ∙ sym (after_steps-push past step first) ∙ ap (λ (s : List Step). after_steps s first) (sym is)

      pushed : (pick : Pick) → picked_image pick steps first first
          ≡ with_file file (file_of file (after_steps past first)) (picked_image pick past first first)
      pushed pick = ap (λ (s : List Step). picked_image pick s first first) is ∙ picked_image-push pick past step first first

      durable : (f : File) → is_loose new f ≡ false → (pick : Pick) → file_of f (picked_image pick steps first first) ≡ file_of f files
      durable f tight pick = elim (cases_file f file) [
        | inl same ↦
            ap (λ (x : Files). file_of f x) (pushed pick)
            ∙ ap (λ (g : File). file_of g (with_file file (file_of file (after_steps past first)) (picked_image pick past first first))) same
            ∙ file_of-with file (file_of file (after_steps past first)) (picked_image pick past first first)
            ∙ ap (λ (x : Files). file_of file x) (sym read)
            ∙ ap (λ (g : File). file_of g files) (sym same)
        | inr differ ↦
            let before : is_loose old f ≡ false = sym (tightened_other file f (is_loose old f) differ) ∙ sym (syncs_each old new file at files s f) ∙ tight in
            ap (λ (x : Files). file_of f x) (pushed pick)
            ∙ other_file f file (file_of file (after_steps past first)) (picked_image pick past first first) differ
            ∙ hold.durable f before pick
      ]

      tight_each : NoneLoose new → (f : File) → is_loose new f ≡ false
      tight_each none Pkg = none.pkg
      tight_each none Idx = none.idx
      tight_each none Log = none.log

      added : NoneLoose new → (adds : AddsCopy old.kept.items new.kept.items at files) → IsCopy steps first adds.copy
      added none adds =
          let all : take adds.copy.at steps ≡ steps = take_all adds.copy.at steps (omega (arith, adds.moment, end)) in
          record {
            within = omega (arith, adds.moment, end);
            read = adds.files_are ∙ read_now ∙ ap (λ (s : List Step). after_steps s first) (sym all);
            picked = λ pick. ap (λ (s : List Step). picked_image pick s first first) all
                ∙ same_files (picked_image pick steps first first) files (λ f. durable f (tight_each none f) pick)
                ∙ sym adds.files_are;
          }

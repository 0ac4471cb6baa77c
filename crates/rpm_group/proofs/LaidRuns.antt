-- All runs together are what is held.
use Rattle.std.proofs.Common.{◌≡◌, inl, inr, ℕ, ◌-◌, ◌<◌, List, sym, ap, subst, ◌∙◌, arith}
use Rattle.std.specs.Prelude.{Option, None, unwrap_or}
use Rattle.std.proofs.lemmas.Bool.{cases_lt}
use Rattle.rpm_group.proofs.Vocabulary.{cases_file, IsHeldBelow, Entry, File, file_of, file_of-with, Files, held_at, Idx, laid_units, Log, EntriesOfTable, other_file, Pkg}
use Rattle.rpm_group.proofs.Vocabulary.{same_units, Table, unit_at, Units, with_entries, with_file}
use Rattle.rpm_group.proofs.Laids.{length-laid, unit_at-laid}
use Rattle.rpm_group.proofs.LoggedLaws.{unheld_is}

-- all runs together are what is held
pub logged_laid : (entries : List Entry) (file : File) (table : Table) (end : ℕ) → EntriesOfTable entries file table end → IsHeldBelow table end
    → (0 < end → held_at table (end - 1) ≡ None → ⊥)
    → (files : Files) → with_entries entries files ≡ with_file file (laid_units table end (file_of file files)) files
logged_laid entries file table end all past last files = same_files (with_entries entries files) (with_file file whole files)
    (λ other. elim (cases_file other file) [
      | inl same ↦ subst (λ (g : File). file_of g (with_entries entries files) ≡ file_of g (with_file file whole files)) (sym same)
          (here ∙ sym (file_of-with file whole files))
      | inr differ ↦ all.others files other differ ∙ sym (other_file other file whole files differ)
    ])
  where
    whole : Units
    whole = laid_units table end (file_of file files)

    same_files : (a b : Files) → ((f : File) → file_of f a ≡ file_of f b) → a ≡ b
    same_files a b same =
        ap (λ (u : Units). record { pkg = u; idx = a.idx; log = a.log }) (same Pkg)
        ∙ ap (λ (u : Units). record { pkg = b.pkg; idx = u; log = a.log }) (same Idx)
        ∙ ap (λ (u : Units). record { pkg = b.pkg; idx = b.idx; log = u }) (same Log)

    end_is : all.end ≡ end
    end_is = elim (cases_lt all.end end) [
      | inl shorter ↦ absurd (last (omega (arith, shorter))
          (unheld_is (held_at table (end - 1)) (all.gap (end - 1) (omega (arith, shorter)) (omega (arith, shorter)))))
      | inr longer ↦ omega (arith, longer, all.end_below)
    ]

    here : file_of file (with_entries entries files) ≡ whole
    here = same_units (file_of file (with_entries entries files)) whole (omega (arith, all.long files, length-laid table end (file_of file files), end_is))
        (λ i. elim (cases_lt i end) [
          | inl below ↦ all.units files i below ∙ sym (unit_at-laid table end (file_of file files) past i)
          | inr from ↦
              all.rest files i from
              ∙ sym (ap (λ (o : Option (List ℕ)). unwrap_or o (unit_at (file_of file files) i)) (past i from))
              ∙ sym (unit_at-laid table end (file_of file files) past i)
        ])

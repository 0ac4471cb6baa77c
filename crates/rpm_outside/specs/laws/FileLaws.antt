-- Three files, one of them replaced.
use Rattle.std.proofs.Common.{◌≡◌, refl, ap, ◌∙◌}
use Rattle.rpm_outside.specs.declared.disk.File.{File}
use Rattle.rpm_outside.specs.declared.disk.File.TheVariants.{Pkg, Idx, Log}
use Rattle.rpm_outside.specs.Files.{Units, Files, file_of, with_file}

pub file_of-with : (file : File) (units : Units) (files : Files) → file_of file (with_file file units files) ≡ units
file_of-with Pkg units files = refl
file_of-with Idx units files = refl
file_of-with Log units files = refl

pub with_itself : (file : File) (files : Files) → files ≡ with_file file (file_of file files) files
with_itself Pkg files = refl
with_itself Idx files = refl
with_itself Log files = refl

pub with_file-with_file : (file : File) (a b : Units) (files : Files)
    → with_file file a (with_file file b files) ≡ with_file file a files
with_file-with_file Pkg a b files = refl
with_file-with_file Idx a b files = refl
with_file-with_file Log a b files = refl

pub other_file : (file other : File) (units : Units) (files : Files) → (file ≡ other → ⊥)
    → file_of file (with_file other units files) ≡ file_of file files
other_file Pkg Pkg units files differ = absurd (differ refl)
other_file Pkg Idx units files differ = refl
other_file Pkg Log units files differ = refl
other_file Idx Pkg units files differ = refl
other_file Idx Idx units files differ = absurd (differ refl)
other_file Idx Log units files differ = refl
other_file Log Pkg units files differ = refl
other_file Log Idx units files differ = refl
other_file Log Log units files differ = absurd (differ refl)

pub same_files : (a b : Files) → ((file : File) → file_of file a ≡ file_of file b) → a ≡ b
same_files a b same =
    ap (λ (u : Units). record { pkg = u; idx = a.idx; log = a.log }) (same Pkg)
    ∙ ap (λ (u : Units). record { pkg = b.pkg; idx = u; log = a.log }) (same Idx)
    ∙ ap (λ (u : Units). record { pkg = b.pkg; idx = b.idx; log = u }) (same Log)

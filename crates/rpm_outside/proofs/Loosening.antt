-- The flags of a file after a write, and copies one step on.
use Rattle.std.proofs.Common.{◌≡◌, inl, inr, ℕ, zero, suc, Bool, true, List, [], ◌∷◌, ◌++◌, take, refl, sym, ◌∙◌, ap, arith}
use Rattle.std.specs.Prelude.{Some, slice_get, ◌⊎◌}
use Rattle.std.proofs.lemmas.List.{take-append-le, length_push}
use Rattle.rpm_outside.proofs.Vocabulary.{after_steps, Copies, Copy, File, Files, Idx, is_loose, IsCopy, Log, is_loose_after_write, picked_image, Pkg, SyncsFile, Step}
use Rattle.rpm_outside.proofs.Vocabulary.{is_loose_after_sync}

pub loosened_same : (file : File) (loose : Bool) → is_loose_after_write file file loose ≡ true
loosened_same Pkg loose = refl
loosened_same Idx loose = refl
loosened_same Log loose = refl

pub loosened_other : (file other : File) (loose : Bool) → (other ≡ file → ⊥) → is_loose_after_write file other loose ≡ loose
loosened_other Pkg Pkg loose differ = absurd (differ refl)
loosened_other Pkg Idx loose differ = refl
loosened_other Pkg Log loose differ = refl
loosened_other Idx Pkg loose differ = refl
loosened_other Idx Idx loose differ = absurd (differ refl)
loosened_other Idx Log loose differ = refl
loosened_other Log Pkg loose differ = refl
loosened_other Log Idx loose differ = refl
loosened_other Log Log loose differ = absurd (differ refl)

pub tightened_other : (file other : File) (loose : Bool) → (other ≡ file → ⊥) → is_loose_after_sync file other loose ≡ loose
tightened_other Pkg Pkg loose differ = absurd (differ refl)
tightened_other Pkg Idx loose differ = refl
tightened_other Pkg Log loose differ = refl
tightened_other Idx Pkg loose differ = refl
tightened_other Idx Idx loose differ = absurd (differ refl)
tightened_other Idx Log loose differ = refl
tightened_other Log Pkg loose differ = refl
tightened_other Log Idx loose differ = refl
tightened_other Log Log loose differ = absurd (differ refl)

-- the flags of a file after a write
pub record Loosens (old new : Copies) (file : File) : Type 0 where
  pub kept : new.kept.items ≡ old.kept.items
  pub pkg : new.loose_pkg ≡ is_loose_after_write file Pkg old.loose_pkg
  pub idx : new.loose_idx ≡ is_loose_after_write file Idx old.loose_idx
  pub log : new.loose_log ≡ is_loose_after_write file Log old.loose_log

pub loosens_each : (old new : Copies) (file : File) → Loosens old new file → (f : File) → is_loose new f ≡ is_loose_after_write file f (is_loose old f)
loosens_each old new file l Pkg = l.pkg
loosens_each old new file l Idx = l.idx
loosens_each old new file l Log = l.log

pub syncs_each : (old new : Copies) (file : File) (at : ℕ) (files : Files) → SyncsFile old new file at files → (f : File) → is_loose new f
    ≡ is_loose_after_sync file f (is_loose old f)
syncs_each old new file at files s Pkg = s.pkg
syncs_each old new file at files s Idx = s.idx
syncs_each old new file at files s Log = s.log

pub copy_longer : (past : List Step) (step : Step) (first : Files) (copy : Copy) → IsCopy past first copy → IsCopy (past ++ step ∷ []) first copy
copy_longer past step first copy is =
    let same : take copy.at (past ++ step ∷ []) ≡ take copy.at past = take-append-le copy.at past (step ∷ []) is.within in
    record {
      within = omega (arith, is.within, length_push past step);
      read = is.read ∙ ap (λ (s : List Step). after_steps s first) (sym same);
      picked = λ pick. ap (λ (s : List Step). picked_image pick s first first) same ∙ is.picked pick;
    }

-- an element of a list that is one longer
pub pushed_get : (copies : List Copy) (last copy : Copy) (k : ℕ) → slice_get (copies ++ last ∷ []) k ≡ Some copy
    → (slice_get copies k ≡ Some copy) ⊎ (copy ≡ last)
pushed_get [] last copy zero is = inr (let same : Some last ≡ Some copy = is in cc)
pushed_get [] last copy (suc k) is = inl is
pushed_get (c ∷ copies) last copy zero is = inl is
pushed_get (c ∷ copies) last copy (suc k) is = pushed_get copies last copy k is

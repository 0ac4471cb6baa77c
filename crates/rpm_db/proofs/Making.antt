-- Making the index.
use Rattle.std.proofs.Common.{◌≡◌, ◌⊎◌, ℕ, zero, suc, ◌<◌, ◌≤◌, ◌∷◌, [], List, length, true, Ok, refl, sym, ap, ◌∙◌, subst, inl, inr, arith}
use Rattle.std.proofs.lemmas.Bool.Decides.{nat_tests}
use Rattle.rpm_db.proofs.Vocabulary.{blank, blobs, bytes_for, Changes, File, Files, HasRows, Idx, in_file, is_bucket_count, is_current, is_current_at}
use Rattle.rpm_db.proofs.Vocabulary.{IsIndexOf, IsLawful, IsOfRows, IsSealed, IsUnsealed, IsWellFormed, packages, with_units, records, Remade, Row, rows, SameRows}
use Rattle.rpm_db.proofs.Vocabulary.{seal_unit, sealed_generation, SealedOrSame, IndexState, Store, store, unit_at, Units, VoidOrSame}
use Rattle.rpm_db.proofs.Vocabulary.{is_in_order, is_ordered, Log, OnlyReads, remade_none, remade_then, Runs, runs_index, runs_looks, runs_then}
use Rattle.rpm_outside.specs.declared.disk.Disk as disk
use Rattle.rpm_hindex.specs.State as hindex

-- numbers in order are those of a file that has units
pub ordered_some : (buckets units : ℕ) (second : List ℕ) → is_ordered buckets second units ≡ true → 1 ≤ units
unfolding is_ordered
ordered_some buckets units second t = grind (arith, nat_tests)

pub ordered_pending : (buckets units : ℕ) (second : List ℕ) → is_ordered buckets second units ≡ true → 0 < buckets
unfolding is_ordered is_bucket_count
ordered_pending zero units second t = absurd cc
ordered_pending (suc n) units second t = omega arith

-- an index that is written, and gets its seal
pub sealed_index : (g buckets : ℕ) (pkg idx new : Units) → IsUnsealed g buckets pkg idx → IsSealed g buckets idx new → IsIndexOf pkg new
sealed_index g buckets pkg idx new is s = record {
  value = is.value;
  undamaged = is.undamaged;
  sealed_at = s.generation_is ∙ sym is.generation_is;
  rows_are = record {
    whole = subst (λ (b : ℕ). IsWellFormed b new) (sym s.buckets_are) s.whole;
    same = subst (λ (b : ℕ). SameRows (rows (packages pkg is.value)) (records b new)) (sym s.buckets_are)
        (subst (SameRows (rows (packages pkg is.value))) (sym s.records_are) is.same);
  };
}

-- files whose index is written and can be sealed
pub record CanSeal (g buckets : ℕ) (idx : Units) (f : Files) : Type 0 where
  pub same : f.idx ≡ idx
  pub written : IsUnsealed g buckets f.pkg idx
  pub some : 1 ≤ length idx
  pub seal : IsSealed g buckets idx (with_units 0 (seal_unit g buckets ∷ []) idx)

-- a sealing write that was cut short, or not
pub sealing : (g buckets : ℕ) (idx : Units) (from image : Files) → CanSeal g buckets idx from → image.pkg ≡ from.pkg
    → SealedOrSame (seal_unit g buckets) from.idx image.idx → image.log ≡ from.log → Remade from image
sealing g buckets idx from image m pkg seal log = record {
  pkg = pkg;
  log = log;
  idx = either (seal (subst (λ (u : Units). 1 ≤ length u) (sym m.same) m.some));
}
  where
    either : (image.idx ≡ from.idx) ⊎ (image.idx ≡ with_units 0 (seal_unit g buckets ∷ []) from.idx)
        → (image.idx ≡ from.idx) ⊎ ((unit_at image.idx 0 ≡ blank) ⊎ IsIndexOf image.pkg image.idx)
    either (inl same) = inl same
    either (inr new) = inr (inr (subst (λ (p : Units). IsIndexOf p image.idx) (sym pkg)
        (sealed_index g buckets from.pkg idx image.idx m.written (subst (IsSealed g buckets idx)
        (sym (new ∙ ap (λ (u : Units). with_units 0 (seal_unit g buckets ∷ []) u) m.same)) m.seal))))

-- an index that is made from scratch
pub voiding : (from image : Files) → Unit {0} → image.pkg ≡ from.pkg → VoidOrSame from.idx image.idx → image.log ≡ from.log → Remade from image
voiding from image m pkg void log = record { pkg = pkg; log = log; idx = either void }
  where
    either : VoidOrSame from.idx image.idx → (image.idx ≡ from.idx) ⊎ ((unit_at image.idx 0 ≡ blank) ⊎ IsIndexOf image.pkg image.idx)
    either (inl zeros) = inr (inl zeros)
    either (inr same) = inl same

-- runs of calls that leave the packages, and make the index anew at most
module _ {D : Type 0} (d : disk.Ghosts D) where
  pub remade_look : {file : File} {n : ℕ} {a b : D} → OnlyReads d file n a b → bytes_for file Log n ≡ 0 → Runs d Remade a b
  remade_look {file} {n} {a} {b} looks none = runs_looks d Remade remade_none file n a b none looks

  pub remade_void : {a b : D} → Changes d Idx VoidOrSame 0 a b → Runs d Remade a b
  remade_void {a} {b} = runs_index d Remade VoidOrSame (λ f. Unit {0}) 0 a b voiding (λ told. tt) (λ told image left. tt)

  pub remade_both : ((a b c : D) → d.follows a b → d.follows b c → d.follows a c) → {a b c : D} → Runs d Remade a b → Runs d Remade b c → Runs d Remade a c
  remade_both trans {a} {b} {c} = runs_then d trans Remade Remade Remade a b c (λ x y r. r) remade_then

-- the packages of a value are those of its file
pub packages-in_file : (file : Units) (value : Store) → packages file (in_file value) ≡ packages file value
unfolding packages blobs
packages-in_file file value = refl

pub of_rows : (file : Units) (value : Store) (all : List Row) → store file ≡ Ok (in_file value) → all ≡ rows (packages file value)
    → IsOfRows value.generation all file
of_rows file value all keeps is = record {
  value = in_file value;
  undamaged = keeps;
  generation_is = refl;
  rows_are = is ∙ ap rows (sym (packages-in_file file value));
}

-- ---- what opening knows of the index

same_store : (pkg : Units) (a b : Store) → store pkg ≡ Ok a → store pkg ≡ Ok b → a ≡ b
same_store pkg a b p q = cc

-- the index of a store's file holds the rows of its packages
pub rows_of_index : (pkg idx : Units) (value : Store) → store pkg ≡ Ok (in_file value) → IsIndexOf pkg idx → HasRows (packages pkg value) idx
rows_of_index pkg idx value keeps is =
    let same : is.value ≡ in_file value = same_store pkg is.value (in_file value) is.undamaged keeps in
    subst (λ p. HasRows p idx) (ap (packages pkg) same ∙ packages-in_file pkg value) is.rows_are

-- a lawful index that is current does too
pub rows_of_lawful : (pkg idx : Units) (value : Store) → store pkg ≡ Ok (in_file value) → 1 ≤ value.pages → IsLawful pkg idx
    → is_current_at value.generation idx ≡ true → HasRows (packages pkg value) idx
rows_of_lawful pkg idx value keeps made (inl none) current = absurd (omega (arith, made, ap (λ (s : Store). s.pages) (same_store pkg _ _ none keeps)))
rows_of_lawful pkg idx value keeps made (inr is) current =
    let same : is.0 ≡ in_file value = same_store pkg is.0 (in_file value) is.1 keeps in
    subst (λ p. HasRows p idx) (ap (packages pkg) same ∙ packages-in_file pkg value)
    (is.2.rows_are (ap (λ (s : Store). is_current_at s.generation idx) same ∙ current))

-- nor is it sealed later
pub no_later_of_lawful : (pkg idx : Units) (value : Store) → store pkg ≡ Ok (in_file value) → 1 ≤ value.pages → IsLawful pkg idx
    → sealed_generation (unit_at idx 0) ≤ value.generation
no_later_of_lawful pkg idx value keeps made (inl none) = absurd (omega (arith, made, ap (λ (s : Store). s.pages) (same_store pkg _ _ none keeps)))
no_later_of_lawful pkg idx value keeps made (inr is) =
    omega (arith, is.2.no_later, ap (λ (s : Store). s.generation) (same_store pkg is.0 (in_file value) is.1 keeps))

-- whether a value's units are current is whether its file's are
pub current_same : (g : ℕ) (idx : Units) (s : IndexState) → hindex.KeepsIndexValue idx s → is_current g s ≡ is_current_at g idx
unfolding is_current is_in_order
current_same g idx s keeps = rw (keeps.first, keeps.second, keeps.units) refl

-- Lawful files, and what making the index anew leaves of them.
use Rattle.std.proofs.Common.{◌≡◌, ◌⊎◌, length, false, eqb, refl, sym, ap, ◌∙◌, subst, inl, inr, arith}
use Rattle.std.proofs.lemmas.Bool.{and_parts}
use Rattle.rpm_outside.specs.Files.{Units, Files, unit_at, blank}
use Rattle.rpm_pkgdb.specs.Store.{Store}
use Rattle.rpm_outside.specs.Words.{word}
use Rattle.rpm_hindex.specs.State.{opened_state, sealed_generation, is_headed, is_in_order, is_ordered, is_current, buckets_of}
use Rattle.rpm_outside.proofs.laws.Moments.{leaves_weaker}
use Rattle.rpm_db.specs.Lawful.{Agrees, IsLawful, AreLawful, IsLawfulStill, IsIndexOf, Remade}
use Rattle.rpm_db.specs.Runs.{ImageFrom}
use Rattle.rpm_outside.specs.declared.disk.Disk as disk
use Rattle.rpm_outside.specs.Frame.{CrashLeaves, images}

void_unsealed : sealed_generation blank ≡ 0
unfolding blank word
void_unsealed = refl

void_not_headed : is_headed blank ≡ false
unfolding blank word
void_not_headed = refl

-- an index whose first unit is zeros agrees with each store
pub void_agrees : (value : Store) (pkg idx : Units) → unit_at idx 0 ≡ blank → Agrees value pkg idx
unfolding is_current is_in_order
void_agrees value pkg idx void = record {
  rows_are = λ current.
      (let order = (and_parts (eqb (sealed_generation (unit_at idx 0)) value.generation)
      (is_in_order (opened_state idx)) current).1 in
      let head = (and_parts (is_headed (unit_at idx 0))
      (is_ordered (buckets_of (unit_at idx 0)) (unit_at idx 1) (length idx)) order).0 in
      let no : is_headed (unit_at idx 0) ≡ false = ap is_headed void ∙ void_not_headed in
      absurd cc);
  no_later = omega (arith, ap sealed_generation void, void_unsealed);
}

pub index_agrees : (pkg idx : Units) (made : IsIndexOf pkg idx) → Agrees made.value pkg idx
index_agrees pkg idx made = record { rows_are = λ current. made.rows_are; no_later = omega (arith, made.sealed_at) }

-- files stay lawful where their index is rebuilt
remade_index : (pkg idx : Units) → IsLawful pkg idx → (new : Units) → (new ≡ idx)
    ⊎ ((unit_at new 0 ≡ blank) ⊎ IsIndexOf pkg new) → IsLawful pkg new
remade_index pkg idx lawful new (inl same) = subst (IsLawful pkg) (sym same) lawful
remade_index pkg idx (inl none) new (inr (inl void)) = inl none
remade_index pkg idx (inr made) new (inr (inl void)) = inr (made.0, made.1, void_agrees made.0 pkg new void)
remade_index pkg idx lawful new (inr (inr is)) = inr (is.value, is.undamaged, index_agrees pkg new is)

pub remade_lawful : (from image : Files) → Remade from image → IsLawful from.pkg from.idx → IsLawful image.pkg image.idx
remade_lawful from image made lawful =
    remade_index image.pkg from.idx (subst (λ (pkg : Units). IsLawful pkg from.idx) (sym made.pkg) lawful) image.idx
    made.idx

pub remade_none : (files : Files) → Remade files files
remade_none files = record { pkg = refl; log = refl; idx = inl refl }

remade_twice : (pkg a b c : Units) → (b ≡ a) ⊎ ((unit_at b 0 ≡ blank) ⊎ IsIndexOf pkg b) → (c ≡ b)
    ⊎ ((unit_at c 0 ≡ blank) ⊎ IsIndexOf pkg c)
    → (c ≡ a) ⊎ ((unit_at c 0 ≡ blank) ⊎ IsIndexOf pkg c)
remade_twice pkg a b c (inl first) (inl second) = inl (second ∙ first)
remade_twice pkg a b c (inr (inl void)) (inl second) = inr (inl (ap (λ (u : Units). unit_at u 0) second ∙ void))
remade_twice pkg a b c (inr (inr made)) (inl second) = inr (inr (subst (IsIndexOf pkg) (sym second) made))
remade_twice pkg a b c first (inr second) = inr second

pub remade_then : (a b c : Files) → Remade a b → Remade b c → Remade a c
remade_then a b c first second = record {
  pkg = second.pkg ∙ first.pkg;
  log = second.log ∙ first.log;
  idx = remade_twice c.pkg a.idx b.idx c.idx
      (subst (λ (pkg : Units). (b.idx ≡ a.idx) ⊎ ((unit_at b.idx 0 ≡ blank) ⊎ IsIndexOf pkg b.idx))
      (sym second.pkg) first.idx) second.idx;
}

-- and what crashes leave meanwhile is lawful, where the images at the start are
pub crashes_lawful : {D : Type 0} (d : disk.Ghosts D) (a b : D) → AreLawful (images d a)
    → CrashLeaves d a b (ImageFrom Remade (images d a)) → CrashLeaves d a b (IsLawfulStill (images d a))
crashes_lawful d a b lawful =
    leaves_weaker d a b (ImageFrom Remade (images d a)) (IsLawfulStill (images d a))
    (λ image c. record {
      from = c.from;
      was = c.was;
      pkg = c.came.pkg;
      log = c.came.log;
      lawful = remade_lawful c.from image c.came (lawful c.from c.was);
    })

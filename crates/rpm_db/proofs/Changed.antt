-- What crashes leave while a change is made.
use Rattle.std.proofs.Common.{◌≡◌, inl, inr, ℕ, ◌+◌, ◌<◌, ◌≤◌, List, true, eqb, refl, sym, ap, ◌∙◌, subst, arith}
use Rattle.std.specs.FinMap as finite
use Rattle.rpm_db.proofs.Vocabulary.{Agrees, BlobMap, BlobsTo, buckets_of, Files, HasRows, IndexTo, is_current, is_current_at, is_in_order, IsBetween}
use Rattle.rpm_db.proofs.Vocabulary.{IsChangedStill, IsLawful, IsOfRows, IsSealedAfter, IsWellFormed, nat_cmp, Package, packages, packages-blobs, packages_of}
use Rattle.rpm_db.proofs.Vocabulary.{records, Row, rows, SameRows, sealed_generation, Represents, state, state_with, Store, unit_at, Units, void_agrees, Work, WritesRows}
use Rattle.std.proofs.lemmas.Bool.{and_parts}
use Rattle.std.proofs.lemmas.Bool.Decides.{nat_tests}
use Rattle.rpm_hindex.specs.State.{opened_state}
use Rattle.rpm_db.specs.inner.Writes as writes

-- the packages of an image, and its state
image_packages : (g f : ℕ) (B : BlobMap) (image : Units) (s : Represents g f B image) → packages image s.value ≡ packages_of B
image_packages g f B image s = packages-blobs image s.value ∙ ap packages_of s.blobs_are

image_state : (g f : ℕ) (B : BlobMap) (image : Units) (s : Represents g f B image) → state image s.value ≡ writes.state_of B f
image_state g f B image s =
    ap (λ (p : finite.FinMap nat_cmp Package). state_with p s.value.field) (image_packages g f B image s)
    ∙ ap (state_with (packages_of B)) s.field_is

-- an index that is sealed at an earlier generation agrees with each store
pub earlier_agrees : (value : Store) (pkg idx : Units) → sealed_generation (unit_at idx 0) < value.generation → Agrees value pkg idx
unfolding is_current
earlier_agrees value pkg idx early = record {
  rows_are = λ current.
      (let at = (and_parts (eqb (sealed_generation (unit_at idx 0)) value.generation) (is_in_order (opened_state idx)) current).0 in
      let is : sealed_generation (unit_at idx 0) ≡ value.generation = grind (arith, nat_tests) in
      absurd (omega (arith, early, is)));
  no_later = omega (arith, early);
}

-- an index that is sealed no later than a store, and holds the rows of its packages where it is current
pub record Fits (g : ℕ) (B : BlobMap) (idx : Units) : Type 0 where
  pub behind : sealed_generation (unit_at idx 0) ≤ g
  pub rows_are : is_current_at g idx ≡ true → HasRows (packages_of B) idx

pub fits_now : (g : ℕ) (B : BlobMap) (idx : Units) → sealed_generation (unit_at idx 0) ≡ g → HasRows (packages_of B) idx → Fits g B idx
fits_now g B idx at has = record { behind = omega (arith, at); rows_are = λ current. has }

now_lawful : (g f : ℕ) (B : BlobMap) (pkg idx : Units) → Represents g f B pkg → Fits g B idx → IsLawful pkg idx
now_lawful g f B pkg idx s fits = inr (
  s.value,
  s.undamaged,
  record {
    rows_are = λ current.
        subst (λ p. HasRows p idx) (sym (image_packages g f B pkg s))
        (fits.rows_are (subst (λ (n : ℕ). is_current_at n idx ≡ true) s.generation_is current));
    no_later = omega (arith, fits.behind, s.generation_is);
  },
)

later_lawful : (g f : ℕ) (B : BlobMap) (pkg idx : Units) → Represents g f B pkg → sealed_generation (unit_at idx 0) < g → IsLawful pkg idx
later_lawful g f B pkg idx s early = inr (s.value, s.undamaged, earlier_agrees s.value pkg idx (omega (arith, early, s.generation_is)))

-- the index that is sealed after a change
pub rows_sealed : (g : ℕ) (packages : finite.FinMap nat_cmp Package) (work : Work) (file idx : Units) → WritesRows (rows packages) work file
    → IsSealedAfter g work file idx → HasRows packages idx × (sealed_generation (unit_at idx 0) ≡ g)
rows_sealed g packages work file idx w s =
    let sealed_is = s.sealed w.whole in (
      record {
        whole = subst (λ (b : ℕ). IsWellFormed b idx) (sym sealed_is.buckets_are) sealed_is.whole;
        same = subst (λ (b : ℕ). SameRows (rows packages) (records b idx)) (sym sealed_is.buckets_are)
            (subst (SameRows (rows packages)) (sym sealed_is.records_are) w.same);
      },
      sealed_is.generation_is,
    )

-- while an index that was sealed earlier gets the rows of the packages beside it, the files stay lawful
pub filled_lawful : (g : ℕ) (work : Work) (index : Units) (to : finite.FinMap nat_cmp Package) → WritesRows (rows to) work index
    → (sealed_generation (unit_at index 0) ≡ g → ⊥) → (pkg mid idx : Units) → mid ≡ index → IsOfRows g (rows to) pkg → IndexTo g work index mid idx
    → IsLawful pkg mid → IsLawful pkg idx
filled_lawful g work index to writes apart pkg mid idx same of change (inl none) = inl none
filled_lawful g work index to writes apart pkg mid idx same of (inl void) (inr is) = inr (is.0, is.1, void_agrees is.0 pkg idx void)
filled_lawful g work index to writes apart pkg mid idx same of (inr (inl seal)) (inr is) =
    let store_is : is.0 ≡ of.value = (let first = is.1 in let second = of.undamaged in cc) in
    let generation : is.0.generation ≡ g = ap (λ (s : Store). s.generation) store_is ∙ of.generation_is in
    let at : sealed_generation (unit_at idx 0) ≡ sealed_generation (unit_at index 0) =
    ap sealed_generation seal ∙ ap (λ (u : Units). sealed_generation (unit_at u 0)) same in
    let behind : sealed_generation (unit_at index 0) ≤ g = omega (arith, is.2.no_later, generation, ap (λ (u : Units). sealed_generation (unit_at u 0)) same) in
    inr (is.0, is.1, earlier_agrees is.0 pkg idx (omega (arith, at, behind, generation, apart)))
filled_lawful g work index to writes apart pkg mid idx same of (inr (inr sealed_is)) (inr is) =
    let r = rows_sealed g to work index idx writes sealed_is in
    inr (
      of.value,
      of.undamaged,
      record {
        rows_are = λ current. record {
          whole = r.0.whole;
          same = subst (λ (rs : List Row). SameRows rs (records (buckets_of (unit_at idx 0)) idx)) of.rows_are r.0.same;
        };
        no_later = omega (arith, r.1, of.generation_is);
      },
    )

module _ (g f next : ℕ) (B after : BlobMap) (index : Units) (fits : Fits g B index) (images : Files → Type 0) where
  abbrev Still : Files → Type 0
  Still = IsChangedStill (writes.state_of B f) (writes.state_of after next) images

  -- while the store is written
  pub store_crash : (image from : Files) → images from → image.idx ≡ index → image.log ≡ from.log → BlobsTo g f next B after image.pkg → Still image
  store_crash image from was idx log to = either to
    where
      early : sealed_generation (unit_at image.idx 0) < g + 1
      early = omega (arith, ap (λ (u : Units). sealed_generation (unit_at u 0)) idx, fits.behind)

      still : {h k : ℕ} {C : BlobMap} → Represents h k C image.pkg → IsLawful image.pkg image.idx
          → IsBetween (writes.state_of B f) (writes.state_of after next) (writes.state_of C k) → Still image
      still s lawful is = record {
        from = from;
        was = was;
        log = log;
        lawful = lawful;
        says = inr (record {
          value = s.value;
          undamaged = s.undamaged;
          is = subst (IsBetween (writes.state_of B f) (writes.state_of after next)) (sym (image_state _ _ _ image.pkg s)) is;
        });
      }

      either : BlobsTo g f next B after image.pkg → Still image
      either (inl s) = still s (now_lawful g f B image.pkg image.idx s (subst (Fits g B) (sym idx) fits)) (inl refl)
      either (inr (inl s)) = still s (later_lawful (g + 1) f B image.pkg image.idx s early) (inl refl)
      either (inr (inr (inl s))) = still s (later_lawful (g + 1) next B image.pkg image.idx s early) (inr (inl refl))
      either (inr (inr (inr s))) = still s (later_lawful (g + 1) next after image.pkg image.idx s early) (inr (inr refl))

  -- while the index is: the store says what it will
  module _ (work : Work) (writes_rows : WritesRows (rows (packages_of after)) work index) where
    index_lawful : (pkg mid idx : Units) → Represents (g + 1) next after pkg → mid ≡ index → IndexTo (g + 1) work index mid idx → IsLawful pkg idx
    index_lawful pkg mid idx s same (inl void) = inr (s.value, s.undamaged, void_agrees s.value pkg idx void)
    index_lawful pkg mid idx s same (inr (inl seal)) =
        later_lawful (g + 1) next after pkg idx s
        (omega (arith, ap sealed_generation seal, ap (λ (u : Units). sealed_generation (unit_at u 0)) same, fits.behind))
    index_lawful pkg mid idx s same (inr (inr sealed_is)) =
        let r = rows_sealed (g + 1) (packages_of after) work index idx writes_rows sealed_is in
        now_lawful (g + 1) next after pkg idx s (fits_now (g + 1) after idx r.1 r.0)

    pub index_crash : (image from mid : Files) → images from → mid.log ≡ from.log → mid.idx ≡ index → Represents (g + 1) next after mid.pkg
        → image.pkg ≡ mid.pkg → image.log ≡ mid.log → IndexTo (g + 1) work index mid.idx image.idx → Still image
    index_crash image from mid was log idx stands pkg same_log to =
        let s = subst (Represents (g + 1) next after) (sym pkg) stands in
        record {
          from = from;
          was = was;
          log = same_log ∙ log;
          lawful = index_lawful image.pkg mid.idx image.idx s idx to;
          says = inr (record { value = s.value; undamaged = s.undamaged; is = inr (inr (image_state (g + 1) next after image.pkg s)) });
        }

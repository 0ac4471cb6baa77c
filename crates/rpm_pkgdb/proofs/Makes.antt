-- What a crash leaves while a database is made.
use Rattle.std.proofs.Common.{◌≡◌, inl, inr, ℕ, ◌+◌, List, [], ◌∷◌, length, replicate, true, not, None, Ok, refl, sym, ap, ◌∙◌, subst, arith}
use Rattle.rpm_pkgdb.proofs.Vocabulary.{AreSound, blank_store, blob_in, blobs, Files, frame_of, free, get-blobs, has_number, in_file, is_blank, is_nonzero}
use Rattle.rpm_pkgdb.proofs.Vocabulary.{is_used, IsFirstPage, IsHeadUnit, IsMade, IsQuiet, IsSlotUnit, KeepsStore, list_any, made_new, MakesTo, nat_cmp}
use Rattle.rpm_pkgdb.proofs.Vocabulary.{option_map, with_units, SameOutside, Slot, slot_at, slot_with, Store, store, Torn, unit_at, Units, word}
use Rattle.std.specs.FinMap as finite
use Rattle.std.proofs.lemmas.Cmp.{nat_cmp_total}
use Rattle.std.proofs.lemmas.Bool.{cases_lt}
use Rattle.std.proofs.lemmas.List.{get_or-replicate, get_or_past, length-replicate}
use Rattle.rpm_pkgdb.proofs.Facts.{cases_Bool}
use Rattle.rpm_pkgdb.proofs.Made.{from_made, made_pages}
use Rattle.rpm_pkgdb.proofs.ClearLaws.{torn_one, put_here, put_elsewhere, put_length}
use Rattle.rpm_pkgdb.proofs.Places.{Search, Here, Nowhere, search_for}
use Rattle.rpm_pkgdb.proofs.ErasesTo.{unfolded}

-- ---- blank files

pub blank_says : (file : Units) → is_blank file ≡ true → store file ≡ Ok blank_store
unfolding store
blank_says file blank = rw blank refl

-- a store of no pages is a blank file's
pub says_blank : (file : Units) (st : Store) → KeepsStore file st → st.pages ≡ 0 → is_blank file ≡ true
says_blank file st keeps none = elim (cases_Bool (is_blank file)) [
  | inl blank ↦ blank
  | inr made ↦ absurd (omega (arith, made_pages file (in_file st) made keeps, none))
]

still_blank : (file image : Units) → unit_at image 0 ≡ unit_at file 0 → is_blank file ≡ true → store image ≡ Ok blank_store
still_blank file image same blank = blank_says image (subst (λ (u : List ℕ). not (list_any is_nonzero u) ≡ true) (sym same) blank)

-- a crash while units 1 to 255 are written
pub while_first : (from image : Units) → is_blank from ≡ true → SameOutside 1 255 from image → MakesTo image
while_first from image blank same = inl (still_blank from image (same.below 0 (omega arith)) blank)

pub blank_after : (from image : Units) → is_blank from ≡ true → SameOutside 1 255 from image → is_blank image ≡ true
blank_after from image blank same = subst (λ (u : List ℕ). not (list_any is_nonzero u) ≡ true) (sym (same.below 0 (omega arith))) blank

-- ---- a new database

all_free : (k : ℕ) → slot_at (replicate 254 free) k ≡ free
all_free k = elim (cases_lt k 254) [
  | inl below ↦ get_or-replicate 254 k free free below
  | inr past ↦ get_or_past (replicate 254 free) k free (omega (arith, length-replicate 254 free))
]

pub not_used : (k : ℕ) → is_used (slot_at (replicate 254 free) k) ≡ true → ⊥
not_used k used = (let e : is_used (slot_at (replicate 254 free) k) ≡ is_used free = ap is_used (all_free k) in cc)

pub new_sound : (pages units : ℕ) → AreSound pages units (replicate 254 free)
new_sound pages units = record { placed = λ k used. absurd (not_used k used); apart = λ j k differ used_j used_k. absurd (not_used j used_j) }

no_blob : (image : Units) (n : ℕ) → Search n (replicate 254 free)
    → option_map (λ s. option_map blob_in (frame_of n s image)) (slot_with n (replicate 254 free)) ≡ None
no_blob image n (Nowhere none is_none) = ap (option_map (λ s. option_map blob_in (frame_of n s image))) is_none
no_blob image n (Here k below has found) =
    absurd (let e : has_number n (slot_at (replicate 254 free) k) ≡ has_number n free = ap (has_number n) (all_free k) in cc)

-- it has no blobs
pub new_map : (value : Store) (image : Units) → value.slots ≡ replicate 254 free → blobs image value ≡ finite.empty
new_map value image is = finite.same_map nat_cmp_total finite.nat_cmp-IsAntisymmetric (blobs image value) finite.empty (λ n.
    get-blobs image value n ∙ ap (λ (l : List Slot). option_map (λ s. option_map blob_in (frame_of n s image)) (slot_with n l)) is
    ∙ no_blob image n (search_for n (replicate 254 free)) ∙ sym (finite.get-empty nat_cmp n))

module _ (st : Store) (unit : List ℕ) (is : IsHeadUnit unit 1 1) where
  abbrev after : Store
  after = made_new st

  pub new_made : (file : Units) → IsFirstPage file → IsMade (with_units 0 (unit ∷ []) file) after
  new_made file page =
      let next = with_units 0 (unit ∷ []) file in
      let long = put_length 0 unit file (omega (arith, page.long)) in
      record {
        lawful = record { some = omega arith; inside = omega (arith, long, page.long); below = omega arith };
        head = subst (λ (u : List ℕ). IsHeadUnit u 1 1) (sym (put_here 0 unit file)) is;
        field = ap (word 0) (put_elsewhere 0 unit file 1 (omega arith)) ∙ page.field;
        count = length-replicate 254 free;
        each = λ k below. subst (IsSlotUnit (unit_at next (2 + k))) (sym (all_free k))
            (subst (λ (u : List ℕ). IsSlotUnit u free) (sym (put_elsewhere 0 unit file (2 + k) (omega arith)))
            (page.slots (2 + k) (omega arith) (omega (arith, below, length-replicate 254 free))));
        sound = new_sound 1 (length next);
      }

  -- a crash while unit 0 is written
  pub while_headed : (from image : Units) → is_blank from ≡ true → IsFirstPage from → Torn 0 (unit ∷ []) from image → MakesTo image
  while_headed from image blank page torn = elim (torn_one 0 unit from image (omega (arith, page.long)) torn) [
    | inl same ↦ inl (subst (λ (u : Units). store u ≡ Ok blank_store) (sym same) (blank_says from blank))
    | inr new ↦ inr (record {
      value = in_file after;
      undamaged = subst (λ (u : Units). KeepsStore u after) (sym new) (from_made (with_units 0 (unit ∷ []) from) after (new_made from page));
      generation_is = refl;
      field_is = refl;
      blobs_are = unfolded image after ∙ new_map after image refl;
    })
  ]

  pub new_keeps : (file next : Units) → IsFirstPage file → next ≡ with_units 0 (unit ∷ []) file → KeepsStore next after
  new_keeps file next page written =
      subst (λ (u : Units). KeepsStore u after) (sym written) (from_made (with_units 0 (unit ∷ []) file) after (new_made file page))

  pub new_quiet : (next : Files) (images : Files → Type 0) → KeepsStore next.pkg after → ((image : Files) → images image → image.pkg ≡ next.pkg)
      → IsQuiet after next images
  new_quiet next images keeps durable image here = record {
    keeps = subst (λ (u : Units). KeepsStore u after) (sym (durable image here)) keeps;
    blocks = λ k i used from to. absurd (not_used k used);
  }

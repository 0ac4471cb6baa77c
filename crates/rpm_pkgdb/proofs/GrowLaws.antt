-- What a crash leaves while a slot page is added.
use Rattle.std.proofs.Common.{◌≡◌, inl, inr, ℕ, zero, suc, ◌+◌, ◌-◌, ◌*◌, ◌<◌, ◌≤◌, List, [], ◌∷◌, ◌++◌, length, replicate, true, None, refl, sym, ap, ◌∙◌, subst, arith, length-append}
use Rattle.std.specs.FinMap as finite
use Rattle.std.proofs.lemmas.Cmp.{nat_cmp_total}
use Rattle.std.proofs.lemmas.Bool.{cases_lt}
use Rattle.std.proofs.lemmas.List.{get_or_append_left, get_or-append_right, get_or-replicate, get_or_past, length-replicate}
use Rattle.rpm_pkgdb.proofs.Vocabulary.{AreSlotsApart, AreSound, StoreBeforeOrAfter, blobs, CanGrow, end_of, free, has_number, HasFreePage, is_used, IsClear}
use Rattle.rpm_pkgdb.proofs.Vocabulary.{IsHeadUnit, IsMade, IsPlaced, IsSlotUnit, KeepsStore, with_units, SameOutside, Slot, slot_at, slot_with, RepresentsStore, Store, Torn}
use Rattle.rpm_pkgdb.proofs.Vocabulary.{unit_at, Units, with_page, word}
use Rattle.rpm_pkgdb.proofs.Facts.{cases_Bool, number_facts}
use Rattle.rpm_pkgdb.proofs.BlobMaps.{same_get}
use Rattle.rpm_pkgdb.proofs.Made.{made, from_made}
use Rattle.rpm_pkgdb.proofs.Pairwise.{used_below}
use Rattle.rpm_pkgdb.proofs.ClearLaws.{torn_one, put_here, put_elsewhere, put_length, outside_made, outside_blocks}
use Rattle.rpm_pkgdb.proofs.Erases.{blocks_then}

-- ---- free slots after others

pub at_front : (slots : List Slot) (k : ℕ) → k < length slots → slot_at (slots ++ replicate 256 free) k ≡ slot_at slots k
at_front slots k below = get_or_append_left slots (replicate 256 free) free k below

pub at_back : (slots : List Slot) (k : ℕ) → length slots ≤ k → slot_at (slots ++ replicate 256 free) k ≡ free
at_back slots k past = elim (cases_lt (k - length slots) 256) [
  | inl below ↦ get_or-append_right slots (replicate 256 free) (length slots) k free refl past ∙ get_or-replicate 256 (k - length slots) free free below
  | inr far ↦ get_or_past (slots ++ replicate 256 free) k free (omega (arith, length-append slots (replicate 256 free), length-replicate 256 free))
]

pub still_used : (slots : List Slot) (k : ℕ) → is_used (slot_at (slots ++ replicate 256 free) k) ≡ true
    → (k < length slots) × (slot_at (slots ++ replicate 256 free) k ≡ slot_at slots k)
still_used slots k used = elim (cases_lt k (length slots)) [
  | inl below ↦ (below, at_front slots k below)
  | inr past ↦ absurd (let e : is_used (slot_at (slots ++ replicate 256 free) k) ≡ is_used free = ap is_used (at_back slots k past) in cc)
]

none_free : (n m : ℕ) → slot_with n (replicate m free) ≡ None
none_free n zero = refl
none_free n (suc m) = none_free n m

pub with_free_behind : (n m : ℕ) (slots : List Slot) → slot_with n (slots ++ replicate m free) ≡ slot_with n slots
with_free_behind n m [] = none_free n m
with_free_behind n m (s ∷ slots) = elim (cases_Bool (has_number n s)) [
  | inl holds ↦ rw holds refl
  | inr fails ↦ rw fails (with_free_behind n m slots)
]

-- ---- the store

module _ (st : Store) (can : CanGrow st) where
  abbrev after : Store
  after = with_page st

  page_clear : IsClear st (256 * st.pages) 256
  page_clear = record { behind = omega arith; apart = λ k used. inl (omega (arith, can.clear k used)) }

  -- while the page is written
  pub while_page : (file from image : Units) → RepresentsStore st file from → SameOutside (256 * st.pages) 256 from image → RepresentsStore st file image
  while_page file from image stands same =
      let m = made from st stands.keeps can.made in
      record {
        keeps = from_made image st (outside_made from st m (256 * st.pages) 256 image page_clear same);
        blocks = blocks_then st.slots file from image stands.blocks (outside_blocks from st m (256 * st.pages) 256 image page_clear same);
      }

  pub grown_sound : (units : ℕ) → AreSound st.pages units st.slots → AreSound (st.pages + 1) units after.slots
  grown_sound units sound = record {
    placed = λ k used.
        let was = still_used st.slots k used in
        let u = ap is_used (sym was.1) ∙ used in
        let p = sound.placed k u in
        subst (IsPlaced (st.pages + 1) units) (sym was.1) (record {
          number = p.number;
          few = p.few;
          behind = can.clear k u;
          some = p.some;
          inside =
              p.inside;
          below = p.below;
        });
    apart = λ j k differs used_j used_k.
        let was_j = still_used st.slots j used_j in
        let was_k = still_used st.slots k used_k in
        let both = sound.apart j k differs (ap is_used (sym was_j.1) ∙ used_j) (ap is_used (sym was_k.1) ∙ used_k) in
        subst (λ (t : Slot). AreSlotsApart t (slot_at after.slots k)) (sym was_j.1) (subst (AreSlotsApart (slot_at st.slots j)) (sym was_k.1) both);
  }

  module _ (unit : List ℕ) (is : IsHeadUnit unit st.generation (st.pages + 1)) where
    grown_made : (file : Units) → IsMade file st → HasFreePage st.pages file → IsMade (with_units 0 (unit ∷ []) file) after
    grown_made file m page =
        let next = with_units 0 (unit ∷ []) file in
        let long = put_length 0 unit file (omega (arith, page.long)) in
        record {
          lawful = record { some = omega arith; inside = omega (arith, long, page.long); below = can.limit };
          head = subst (λ (u : List ℕ). IsHeadUnit u st.generation (st.pages + 1)) (sym (put_here 0 unit file)) is;
          field = ap (word 0) (put_elsewhere 0 unit file 1 (omega arith)) ∙ m.field;
          count = omega (arith, length-append st.slots (replicate 256 free), length-replicate 256 free, m.count, m.lawful.some);
          each =
              λ k below. subst (λ (u : List ℕ). IsSlotUnit u (slot_at after.slots k)) (sym (put_elsewhere 0 unit file (2 + k) (omega arith)))
              (elim (cases_lt k (length st.slots)) [
                | inl old ↦ subst (IsSlotUnit (unit_at file (2 + k))) (sym (at_front st.slots k old)) (m.each k old)
                | inr new ↦
                    subst (IsSlotUnit (unit_at file (2 + k))) (sym (at_back st.slots k new))
                    (page.slots (2 + k) (omega (arith, m.count, m.lawful.some))
                    (omega (arith, below, length-append st.slots (replicate 256 free), length-replicate 256 free, m.count, m.lawful.some)))
              ]);
          sound = subst (λ (n : ℕ). AreSound (st.pages + 1) n after.slots) (sym long) (grown_sound (length file) m.sound);
        }

    pub grown_stands : (file from : Units) → RepresentsStore st file from → HasFreePage st.pages from
        → RepresentsStore after file (with_units 0 (unit ∷ []) from)
    grown_stands file from stands page =
        let m = made from st stands.keeps can.made in
        record {
          keeps = from_made (with_units 0 (unit ∷ []) from) after (grown_made from m page);
          blocks = λ j i used low high.
              let was = still_used st.slots j used in
              let u = ap is_used (sym was.1) ∙ used in
              let at_low = subst (λ (t : Slot). t.offset ≤ i) was.1 low in
              let at_high = subst (λ (t : Slot). i < end_of t) was.1 high in
              put_elsewhere 0 unit from i (omega (arith, at_low, can.clear j u)) ∙ stands.blocks j i u at_low at_high;
        }

    -- while unit 0 is written
    pub while_grown : (file from image : Units) → RepresentsStore st file from → HasFreePage st.pages from → Torn 0 (unit ∷ []) from image
        → StoreBeforeOrAfter st after file image
    while_grown file from image stands page torn = elim (torn_one 0 unit from image (omega (arith, page.long)) torn) [
      | inl same ↦ inl (subst (RepresentsStore st file) (sym same) stands)
      | inr new ↦ inr (subst (RepresentsStore after file) (sym new) (grown_stands file from stands page))
    ]

  -- the blobs stay
  pub grown_map : (file image : Units) → KeepsStore file st → RepresentsStore after file image → blobs image after ≡ blobs file st
  grown_map file image keeps stands =
      let here = made file st keeps can.made in
      let there = made image after stands.keeps (omega arith) in
      let fewer : AreSound st.pages (length image) after.slots = record {
        placed =
            λ k used. (let p = there.sound.placed k used in record {
              number = p.number;
              few = p.few;
              behind = omega (arith, p.behind);
              some =
                  p.some;
              inside = p.inside;
              below = p.below;
            });
        apart = there.sound.apart;
      } in
      finite.same_map nat_cmp_total finite.nat_cmp-IsAntisymmetric (blobs image after) (blobs file st) (λ n.
      same_get file image st.pages st after n here.sound fewer (with_free_behind n 256 st.slots)
      (λ k has. at_front st.slots k (used_below st.slots k (number_facts n (slot_at st.slots k) has).used))
      (λ k i has low high.
      let u = (number_facts n (slot_at st.slots k) has).used in
      let stays = at_front st.slots k (used_below st.slots k u) in
      stands.blocks k i (ap is_used stays ∙ u) (subst (λ (t : Slot). t.offset ≤ i) (sym stays) low) (subst (λ (t : Slot). i < end_of t) (sym stays) high)))

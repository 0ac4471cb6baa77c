-- What a crash leaves while a slot is set free and its blocks become zeros.
use Rattle.std.proofs.Common.{◌≡◌, ◌≢◌, inl, inr, ℕ, ◌+◌, ◌*◌, ◌<◌, ◌≤◌, List, [], ◌∷◌, length, true, refl, sym, ap, ◌∙◌, subst, arith}
use Rattle.std.proofs.lemmas.Bool.{cases_eq}
use Rattle.rpm_pkgdb.proofs.Vocabulary.{AreSlotsApart, AreSound, StoreBeforeOrAfter, end_of, free, HasSlot, is_used, IsClear, IsMade, IsSlotUnit, KeepsStore, with_units}
use Rattle.rpm_pkgdb.proofs.Vocabulary.{SameBlocks, SameOutside, Slot, slot_at, RepresentsStore, Store, Torn, Units, with_free}
use Rattle.rpm_pkgdb.proofs.Made.{made, from_made}
use Rattle.rpm_pkgdb.proofs.ClearLaws.{torn_one, put_length, sound_longer, set_here, set_other, free_sound, set_made, page_blocks, outside_made, outside_blocks}

-- ---- used blocks

pub blocks_then : (slots : List Slot) (a b c : Units) → SameBlocks slots a b → SameBlocks slots b c → SameBlocks slots a c
blocks_then slots a b c one two k i used from to = two k i used from to ∙ one k i used from to

pub blocks_back : (slots : List Slot) (a b : Units) → SameBlocks slots a b → SameBlocks slots b a
blocks_back slots a b same k i used from to = sym (same k i used from to)

-- an image that stands as a file does, of another that does
pub stands_by : (st : Store) (a b c : Units) → RepresentsStore st a b → RepresentsStore st a c → RepresentsStore st b c
stands_by st a b c one two = record { keeps = two.keeps; blocks = blocks_then st.slots b a c (blocks_back st.slots a b one.blocks) two.blocks }

module _ (st : Store) (k : ℕ) (s : Slot) (has : HasSlot st k s) where
  abbrev after : Store
  after = with_free k st

  used_here : is_used (slot_at st.slots k) ≡ true
  used_here = ap is_used has.is ∙ has.used

  module _ (units : ℕ) (sound : AreSound st.pages units st.slots) where
    after_sound : AreSound st.pages units after.slots
    after_sound = free_sound st.pages units st.slots sound k has.below

    -- a slot that is used after was used before, at another place
    still : (j : ℕ) → is_used (slot_at after.slots j) ≡ true → (j ≢ k) × (slot_at after.slots j ≡ slot_at st.slots j)
    still j used = elim (cases_eq j k) [
      | inl here ↦
          absurd (let e : slot_at after.slots j ≡ free = ap (slot_at after.slots) here ∙ set_here st.pages units st.slots sound k has.below free in
          let f : is_used (slot_at after.slots j) ≡ is_used free = ap is_used e in cc)
      | inr other ↦ (other, set_other st.pages units st.slots sound k has.below free j other)
    ]

    pub freed_clear : IsClear after s.offset s.count
    freed_clear = record {
      behind = subst (λ (t : Slot). 256 * st.pages ≤ t.offset) has.is (sound.placed k used_here).behind;
      apart = λ j used.
          let was = still j used in
          let apart = sound.apart j k was.0 (ap is_used (sym was.1) ∙ used) used_here in
          let both : AreSlotsApart (slot_at after.slots j) s =
          subst (AreSlotsApart (slot_at after.slots j)) has.is (subst (λ (t : Slot). AreSlotsApart t (slot_at st.slots k)) (sym was.1) apart) in
          elim both.blocks [ inl l ↦ inr l | inr r ↦ inl r ];
    }

    fewer_blocks : (a b : Units) → SameBlocks st.slots a b → SameBlocks after.slots a b
    fewer_blocks a b same j i used from to =
        let was = still j used in
        same j i (ap is_used (sym was.1) ∙ used) (subst (λ (t : Slot). t.offset ≤ i) was.1 from) (subst (λ (t : Slot). i < end_of t) was.1 to)

  module _ (unit : List ℕ) (is : IsSlotUnit unit free) where
    freed_made : (file : Units) → IsMade file st → IsMade (with_units (2 + k) (unit ∷ []) file) after
    freed_made file m = set_made file st m k unit free has.below is (after_sound (length file) m.sound)

    -- the slot was freed
    pub freed_stands : (file from : Units) → RepresentsStore st file from → RepresentsStore after file (with_units (2 + k) (unit ∷ []) from)
    freed_stands file from stands =
        let m = made from st stands.keeps has.made in
        let next = freed_made from m in
        let inside : 2 + k < 256 * st.pages = omega (arith, has.below, m.count) in
        let behind : (j : ℕ) → is_used (slot_at after.slots j) ≡ true → 256 * st.pages ≤ (slot_at after.slots j).offset =
        λ j used. (next.sound.placed j used).behind in
        record {
          keeps = from_made (with_units (2 + k) (unit ∷ []) from) after next;
          blocks =
              blocks_then after.slots file from (with_units (2 + k) (unit ∷ []) from) (fewer_blocks (length from) m.sound file from stands.blocks)
              (page_blocks from st m (2 + k) unit after.slots inside behind);
        }

    -- a crash while the slot is written
    pub while_freed : (file from image : Units) → RepresentsStore st file from → Torn (2 + k) (unit ∷ []) from image → StoreBeforeOrAfter st after file image
    while_freed file from image stands torn =
        let m = made from st stands.keeps has.made in
        elim (torn_one (2 + k) unit from image (omega (arith, has.below, m.count, m.lawful.inside)) torn) [
          | inl same ↦ inl (subst (RepresentsStore st file) (sym same) stands)
          | inr new ↦ inr (subst (RepresentsStore after file) (sym new) (freed_stands file from stands))
        ]

  -- a crash while its blocks become zeros
  pub zeroed_stands : (file from image : Units) → RepresentsStore after file from → SameOutside s.offset s.count from image
      → AreSound st.pages (length from) st.slots → RepresentsStore after file image
  zeroed_stands file from image stands same sound =
      let m = made from after stands.keeps has.made in
      let clear = freed_clear (length from) sound in
      record {
        keeps = from_made image after (outside_made from after m s.offset s.count image clear same);
        blocks = blocks_then after.slots file from image stands.blocks (outside_blocks from after m s.offset s.count image clear same);
      }

  -- the file once the slot is written
  pub record Freed (file mid : Units) : Type 0 where
    pub stands : RepresentsStore after file mid
    pub sound : AreSound st.pages (length mid) st.slots

  pub freed : (unit : List ℕ) → IsSlotUnit unit free → (file mid : Units) → KeepsStore file st → mid ≡ with_units (2 + k) (unit ∷ []) file → Freed file mid
  freed unit is file mid keeps written =
      let m = made file st keeps has.made in
      let here : RepresentsStore st file file = record { keeps = keeps; blocks = λ j i used from to. refl } in
      let long = put_length (2 + k) unit file (omega (arith, has.below, m.count, m.lawful.inside)) in
      record {
        stands = subst (RepresentsStore after file) (sym written) (freed_stands unit is file file here);
        sound = sound_longer st.pages (length file) (length mid) st.slots (omega (arith, long, ap length written)) m.sound;
      }

  -- any file that was this one, after zeros
  pub zeroed : (file mid from image : Units) → Freed file mid → from ≡ mid → SameOutside s.offset s.count from image → RepresentsStore after file image
  zeroed file mid from image was same changed =
      let stands : RepresentsStore after file from = subst (RepresentsStore after file) (sym same) was.stands in
      zeroed_stands file from image stands changed (subst (λ (n : ℕ). AreSound st.pages n st.slots) (ap length (sym same)) was.sound)

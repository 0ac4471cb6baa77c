-- What stays of a store where units are written.
use Rattle.std.proofs.Common.{◌≡◌, ◌≢◌, inl, inr, ℕ, ◌+◌, ◌*◌, ◌<◌, ◌≤◌, List, [], ◌∷◌, length, true, refl, sym, ap, ◌∙◌, subst, arith, set, get_or-set_same, get_or-set_other, length-set}
use Rattle.std.proofs.lemmas.Bool.{cases_lt, cases_eq}
use Rattle.rpm_pkgdb.proofs.Vocabulary.{AreSlotsApart, AreSound, free, is_used, IsClear, IsHeadUnit, IsLawfulCount, IsMade, IsPlaced, IsSlotUnit, length-put, with_units}
use Rattle.rpm_pkgdb.proofs.Vocabulary.{put_after, put_before, put_inside, same_units, SameBlocks, SameOutside, Slot, slot_at, Store, Torn, unit_at, Units}
use Rattle.rpm_pkgdb.proofs.Vocabulary.{word}
use Rattle.rpm_pkgdb.proofs.Pairwise.{apart_swapped}
use Rattle.rpm_pkgdb.specs.inner.Clear.{IsPut}

-- ---- files

pub outside_refl : (at n : ℕ) (a : Units) → SameOutside at n a a
outside_refl at n a = record { below = λ i lt. refl; above = λ i le. refl; no_shorter = omega arith; no_longer = omega arith }

pub outside_then : (at n : ℕ) (a b c : Units) → SameOutside at n a b → SameOutside at n b c → SameOutside at n a c
outside_then at n a b c one two =
    record {
      below = λ i lt. two.below i lt ∙ one.below i lt;
      above = λ i le. two.above i le
          ∙ one.above i le;
      no_shorter = omega (arith, one.no_shorter, two.no_shorter);
      no_longer = omega (arith, one.no_longer, two.no_longer);
    }

-- a range that lies in another
pub outside_wider : (at n from m : ℕ) (a b : Units) → from ≤ at → at + n ≤ from + m → SameOutside at n a b → SameOutside from m a b
outside_wider at n from m a b first last same =
    record {
      below = λ i lt. same.below i (omega arith);
      above = λ i le. same.above i (omega arith);
      no_shorter = same.no_shorter;
      no_longer = omega (arith, same.no_longer);
    }

pub torn_outside : (at : ℕ) (units a b : Units) → Torn at units a b → SameOutside at (length units) a b
torn_outside at units a b torn = record {
  below = λ i lt. elim (torn.each i) [ inl same ↦ same | inr new ↦ new ∙ put_before at units a i lt ];
  above = λ i le. elim (torn.each i) [ inl same ↦ same | inr new ↦ new ∙ put_after at units a i le ];
  no_shorter = torn.no_shorter;
  no_longer = omega (arith, torn.no_longer, length-put at units a);
}

-- a unit that lies in the file is written whole or not at all
pub torn_one : (at : ℕ) (unit : List ℕ) (a b : Units) → at < length a → Torn at (unit ∷ []) a b → IsPut at unit a b
torn_one at unit a b inside torn =
    let same = torn_outside at (unit ∷ []) a b torn in
    let long : length b ≡ length a = omega (arith, torn.no_shorter, torn.no_longer, length-put at (unit ∷ []) a) in
    elim (torn.each at) [
      | inl old ↦ inl (same_units b a long (λ i. elim (cases_eq i at) [
        | inl here ↦ ap (unit_at b) here ∙ old ∙ ap (unit_at a) (sym here)
        | inr other ↦ elsewhere same i other
      ]))
      | inr new ↦ inr (same_units b (with_units at (unit ∷ []) a) (long ∙ omega (arith, length-put at (unit ∷ []) a)) (λ i. elim (cases_eq i at) [
        | inl here ↦ ap (unit_at b) here ∙ new ∙ ap (unit_at (with_units at (unit ∷ []) a)) (sym here)
        | inr other ↦ elsewhere same i other ∙ sym (elsewhere (torn_outside at (unit ∷ []) a (with_units at (unit ∷ []) a) (whole at unit a)) i other)
      ]))
    ]
  where
    elsewhere : {x : Units} → SameOutside at 1 a x → (i : ℕ) → i ≢ at → unit_at x i ≡ unit_at a i
    elsewhere same i other = elim (cases_lt i at) [ inl lt ↦ same.below i lt | inr ge ↦ same.above i (omega arith) ]

    whole : (at : ℕ) (unit : List ℕ) (a : Units) → Torn at (unit ∷ []) a (with_units at (unit ∷ []) a)
    whole at unit a = record { each = λ i. inr refl; no_shorter = omega (arith, length-put at (unit ∷ []) a); no_longer = omega arith }

pub put_here : (at : ℕ) (unit : List ℕ) (a : Units) → unit_at (with_units at (unit ∷ []) a) at ≡ unit
put_here at unit a = ap (unit_at (with_units at (unit ∷ []) a)) (omega arith) ∙ put_inside at (unit ∷ []) a 0 (omega arith)

pub put_elsewhere : (at : ℕ) (unit : List ℕ) (a : Units) (i : ℕ) → i ≢ at → unit_at (with_units at (unit ∷ []) a) i ≡ unit_at a i
put_elsewhere at unit a i other = elim (cases_lt i at) [ inl lt ↦ put_before at (unit ∷ []) a i lt | inr ge ↦ put_after at (unit ∷ []) a i (omega arith) ]

pub put_length : (at : ℕ) (unit : List ℕ) (a : Units) → at < length a → length (with_units at (unit ∷ []) a) ≡ length a
put_length at unit a inside = omega (arith, length-put at (unit ∷ []) a)

-- ---- sound slots

pub placed_longer : (pages u v : ℕ) (s : Slot) → u ≤ v → IsPlaced pages u s → IsPlaced pages v s
placed_longer pages u v s le p = record { number = p.number; few = p.few; behind = p.behind; some = p.some; inside = omega (arith, p.inside); below = p.below }

pub sound_longer : (pages u v : ℕ) (slots : List Slot) → u ≤ v → AreSound pages u slots → AreSound pages v slots
sound_longer pages u v slots le sound = record { placed = λ k used. placed_longer pages u v (slot_at slots k) le (sound.placed k used); apart = sound.apart }

module _ (pages units : ℕ) (slots : List Slot) (sound : AreSound pages units slots) (k : ℕ) (below : k < length slots) where
  pub set_here : (s : Slot) → slot_at (set slots k s) k ≡ s
  set_here s = get_or-set_same slots k s free below

  pub set_other : (s : Slot) (j : ℕ) → j ≢ k → slot_at (set slots k s) j ≡ slot_at slots j
  set_other s j other = get_or-set_other slots k j s free other

  pub free_sound : AreSound pages units (set slots k free)
  free_sound = record {
    placed = λ j used. elim (cases_eq j k) [
      | inl here ↦ absurd (not_used j here used)
      | inr other ↦ subst (IsPlaced pages units) (sym (set_other free j other)) (sound.placed j (ap is_used (sym (set_other free j other)) ∙ used))
    ];
    apart = λ i j differ used_i used_j. elim (cases_eq i k) [
      | inl here ↦ absurd (not_used i here used_i)
      | inr other_i ↦ elim (cases_eq j k) [
        | inl here ↦ absurd (not_used j here used_j)
        | inr other_j ↦
            (let was = sound.apart i j differ (ap is_used (sym (set_other free i other_i)) ∙ used_i) (ap is_used (sym (set_other free j other_j)) ∙ used_j) in
            subst (λ (t : Slot). AreSlotsApart t (slot_at (set slots k free) j)) (sym (set_other free i other_i))
            (subst (AreSlotsApart (slot_at slots i)) (sym (set_other free j other_j)) was))
      ]
    ];
  }
    where
      not_used : (j : ℕ) → j ≡ k → is_used (slot_at (set slots k free) j) ≡ true → ⊥
      not_used j here used =
          (let e : slot_at (set slots k free) j ≡ free = ap (slot_at (set slots k free)) here
          ∙ set_here free in let f : is_used (slot_at (set slots k free) j) ≡ is_used free = ap is_used e in cc)

  pub put_sound : (s : Slot) → IsPlaced pages units s → ((j : ℕ) → j ≢ k → is_used (slot_at slots j) ≡ true → AreSlotsApart s (slot_at slots j))
      → AreSound pages units (set slots k s)
  put_sound s placed apart = record {
    placed = λ j used. elim (cases_eq j k) [
      | inl here ↦ subst (IsPlaced pages units) (sym (ap (slot_at (set slots k s)) here ∙ set_here s)) placed
      | inr other ↦ subst (IsPlaced pages units) (sym (set_other s j other)) (sound.placed j (ap is_used (sym (set_other s j other)) ∙ used))
    ];
    apart = λ i j differ used_i used_j. elim (cases_eq i k) [
      | inl here_i ↦ elim (cases_eq j k) [
        | inl here_j ↦ absurd (differ (here_i ∙ sym here_j))
        | inr other_j ↦
            subst (λ (t : Slot). AreSlotsApart t (slot_at (set slots k s) j)) (sym (ap (slot_at (set slots k s)) here_i ∙ set_here s))
            (subst (AreSlotsApart s) (sym (set_other s j other_j)) (apart j other_j (ap is_used (sym (set_other s j other_j)) ∙ used_j)))
      ]
      | inr other_i ↦ elim (cases_eq j k) [
        | inl here_j ↦
            apart_swapped (slot_at (set slots k s) j) (slot_at (set slots k s) i)
            (subst (λ (t : Slot). AreSlotsApart t (slot_at (set slots k s) i)) (sym (ap (slot_at (set slots k s)) here_j ∙ set_here s))
            (subst (AreSlotsApart s) (sym (set_other s i other_i)) (apart i other_i (ap is_used (sym (set_other s i other_i)) ∙ used_i))))
        | inr other_j ↦
            (let was = sound.apart i j differ (ap is_used (sym (set_other s i other_i)) ∙ used_i) (ap is_used (sym (set_other s j other_j)) ∙ used_j) in
            subst (λ (t : Slot). AreSlotsApart t (slot_at (set slots k s) j)) (sym (set_other s i other_i))
            (subst (AreSlotsApart (slot_at slots i)) (sym (set_other s j other_j)) was))
      ]
    ];
  }

-- ---- a store that is made

module _ (file : Units) (st : Store) (m : IsMade file st) where
  pub outside_made : (at n : ℕ) (image : Units) → IsClear st at n → SameOutside at n file image → IsMade image st
  outside_made at n image clear same = record {
    lawful = record { some = m.lawful.some; inside = omega (arith, m.lawful.inside, same.no_shorter); below = m.lawful.below };
    head = subst (λ (u : List ℕ). IsHeadUnit u st.generation st.pages) (sym (same.below 0 (omega (arith, m.lawful.some, clear.behind)))) m.head;
    field = ap (word 0) (same.below 1 (omega (arith, m.lawful.some, clear.behind))) ∙ m.field;
    count = m.count;
    each =
        λ k below. subst (λ (u : List ℕ). IsSlotUnit u (slot_at st.slots k)) (sym (same.below (2 + k) (omega (arith, m.count, clear.behind))))
        (m.each k below);
    sound = sound_longer st.pages (length file) (length image) st.slots same.no_shorter m.sound;
  }

  pub outside_blocks : (at n : ℕ) (image : Units) → IsClear st at n → SameOutside at n file image → SameBlocks st.slots file image
  outside_blocks at n image clear same k i used from to = elim (clear.apart k used) [ inl l ↦ same.above i (omega arith) | inr r ↦ same.below i (omega arith) ]

  -- a slot is written
  pub set_made : (k : ℕ) (unit : List ℕ) (s : Slot) → k < length st.slots → IsSlotUnit unit s → AreSound st.pages (length file) (set st.slots k s)
      → IsMade (with_units (2 + k) (unit ∷ []) file) (record st { slots = set st.slots k s })
  set_made k unit s below is sound =
      let next = with_units (2 + k) (unit ∷ []) file in
      let inside : 2 + k < length file = omega (arith, m.count, m.lawful.inside) in
      let long = put_length (2 + k) unit file inside in
      record {
        lawful = subst (λ (n : ℕ). IsLawfulCount n st.pages) (sym long) m.lawful;
        head = subst (λ (u : List ℕ). IsHeadUnit u st.generation st.pages) (sym (put_elsewhere (2 + k) unit file 0 (omega arith))) m.head;
        field = ap (word 0) (put_elsewhere (2 + k) unit file 1 (omega arith)) ∙ m.field;
        count = length-set st.slots k s ∙ m.count;
        each = λ j lt. elim (cases_eq j k) [
          | inl here ↦
              subst (IsSlotUnit (unit_at next (2 + j))) (sym (ap (slot_at (set st.slots k s)) here
              ∙ set_here st.pages (length file) st.slots m.sound k below s))
              (subst (λ (u : List ℕ). IsSlotUnit u s) (sym (ap (λ (i : ℕ). unit_at next (2 + i)) here ∙ put_here (2 + k) unit file)) is)
          | inr other ↦
              subst (IsSlotUnit (unit_at next (2 + j))) (sym (set_other st.pages (length file) st.slots m.sound k below s j other))
              (subst (λ (u : List ℕ). IsSlotUnit u (slot_at st.slots j)) (sym (put_elsewhere (2 + k) unit file (2 + j) (omega arith)))
              (m.each j (omega (arith, lt, length-set st.slots k s))))
        ];
        sound = subst (λ (n : ℕ). AreSound st.pages n (set st.slots k s)) (sym long) sound;
      }

  -- unit 0 is written
  pub head_made : (unit : List ℕ) (generation : ℕ) → IsHeadUnit unit generation st.pages
      → IsMade (with_units 0 (unit ∷ []) file) (record st { generation = generation })
  head_made unit generation is =
      let inside : 0 < length file = omega (arith, m.lawful.some, m.lawful.inside) in
      let long = put_length 0 unit file inside in
      record {
        lawful = subst (λ (n : ℕ). IsLawfulCount n st.pages) (sym long) m.lawful;
        head = subst (λ (u : List ℕ). IsHeadUnit u generation st.pages) (sym (put_here 0 unit file)) is;
        field = ap (word 0) (put_elsewhere 0 unit file 1 (omega arith)) ∙ m.field;
        count = m.count;
        each = λ j lt. subst (λ (u : List ℕ). IsSlotUnit u (slot_at st.slots j)) (sym (put_elsewhere 0 unit file (2 + j) (omega arith))) (m.each j lt);
        sound = subst (λ (n : ℕ). AreSound st.pages n st.slots) (sym long) m.sound;
      }

  -- a unit of the slot pages is written
  pub page_blocks : (at : ℕ) (unit : List ℕ) (slots : List Slot) → at < 256 * st.pages
      → ((k : ℕ) → is_used (slot_at slots k) ≡ true → 256 * st.pages ≤ (slot_at slots k).offset) → SameBlocks slots file (with_units at (unit ∷ []) file)
  page_blocks at unit slots low behind k i used from to = put_elsewhere at unit file i (omega (arith, behind k used))

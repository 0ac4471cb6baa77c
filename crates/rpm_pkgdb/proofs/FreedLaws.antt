-- Blocks that become zeros, and stay so.
use Rattle.std.proofs.Common.{◌≡◌, ◌⊎◌, inl, inr, ℕ, zero, suc, ◌+◌, ◌*◌, ◌<◌, ◌≤◌, List, [], ◌∷◌, ◌++◌, length, replicate, true, Option, Some, None, refl, sym, ap, ◌∙◌, subst, arith, set}
use Rattle.std.proofs.lemmas.Bool.{cases_eq, cases_lt, cases_Bool}
use Rattle.rpm_pkgdb.proofs.Vocabulary.{AreFreed, blank, BlobPut, end_of, FieldPut, free, HasBlock, is_used, KeepsBlank, Move, moved_slot, with_units, put_after}
use Rattle.rpm_pkgdb.proofs.Vocabulary.{put_before, SameOutside, Slot, slot_at, unit_at, Units}
use Rattle.rpm_pkgdb.proofs.ClearLaws.{put_elsewhere}
use Rattle.rpm_pkgdb.proofs.GrowLaws.{at_front}
use Rattle.rpm_pkgdb.proofs.Pairwise.{used_below}
use Rattle.std.proofs.Common.{get_or-set_same, get_or-set_other}

-- ---- zeros that stay

pub outside_blank : (end at n : ℕ) (a b : Units) → SameOutside at n a b → KeepsBlank end at n a b
outside_blank end at n a b same i low aside was = elim aside [ inl below ↦ same.below i below ∙ was | inr above ↦ same.above i above ∙ was ]

pub zeros_blank : (end at n t m : ℕ) (a b : Units) → SameOutside at n a b → ((i : ℕ) → at ≤ i → i < at + n → unit_at b i ≡ blank) → KeepsBlank end t m a b
zeros_blank end at n t m a b same zeros i low aside was = elim (cases_lt i at) [
  | inl below ↦ same.below i below ∙ was
  | inr from ↦ elim (cases_lt i (at + n)) [ inl inside ↦ zeros i from inside | inr above ↦ same.above i above ∙ was ]
]

pub put_blank : (at : ℕ) (unit : List ℕ) (end t m : ℕ) (a b : Units) → at < end → b ≡ with_units at (unit ∷ []) a → KeepsBlank end t m a b
put_blank at unit end t m a b before written i low aside was =
    ap (λ (u : Units). unit_at u i) written ∙ put_elsewhere at unit a i (omega arith) ∙ was

pub blank_then : (end at n : ℕ) (a b c : Units) → KeepsBlank end at n a b → KeepsBlank end at n b c → KeepsBlank end at n a c
blank_then end at n a b c first second i low aside was = second i low aside (first i low aside was)

field_blank : (field : Option ℕ) (end at n : ℕ) (a b : Units) → 2 ≤ end → FieldPut field a b → KeepsBlank end at n a b
field_blank None end at n a b low is i from aside was = ap (λ (u : Units). unit_at u i) is ∙ was
field_blank (Some next) end at n a b low (unit, has, is) i from aside was = put_blank 1 unit end at n a b (omega arith) is i from aside was

pub blob_blank : (field : Option ℕ) (units : Units) (end at n : ℕ) (a b : Units) → 2 ≤ end → length units ≡ n → BlobPut at units field a b
    → KeepsBlank end at n a b
blob_blank field units end at n a b low long was =
    blank_then end at n a was.mid b
    (λ i from aside before. ap (λ (u : Units). unit_at u i) was.blocks ∙ elim aside [
      | inl below ↦ put_before at units a i below ∙ before
      | inr above ↦ put_after at units a i (omega (arith, long, above)) ∙ before
    ]) (field_blank field end at n was.mid b low was.field_put)

-- where a blob is written alone, the number field stays
pub blob_aside : (field : Option ℕ) (units : Units) (at : ℕ) (a b : Units) → field ≡ None → 2 ≤ at → BlobPut at units field a b → unit_at b 1 ≡ unit_at a 1
blob_aside None units at a b none low was =
    ap (λ (u : Units). unit_at u 1) was.field_put ∙ ap (λ (u : Units). unit_at u 1) was.blocks ∙ put_before at units a 1 (omega (arith, low))
blob_aside (Some next) units at a b none low was = absurd (let e : Some next ≡ None = none in cc)

-- blocks are copied, their slot is written, and the old ones become zeros
pub moved_blank : (place to count at n : ℕ) (unit : List ℕ) (a b c d : Units) → SameOutside to count a b → c ≡ with_units (2 + place) (unit ∷ []) b
    → SameOutside at n c d → ((i : ℕ) → at ≤ i → i < at + n → unit_at d i ≡ blank) → KeepsBlank (place + 3) to count a d
moved_blank place to count at n unit a b c d copied written changed zeros =
    let end = place + 3 in
    blank_then end to count a c d
    (blank_then end to count a b c (outside_blank end to count a b copied) (put_blank (2 + place) unit end to count b c (omega arith) written))
    (zeros_blank end at n to count c d changed zeros)

-- a blob and perhaps the number field are written, its slot, and the blocks that it replaces become zeros
pub put_blank_all : (field : Option ℕ) (units : Units) (place start n at m : ℕ) (unit : List ℕ) (a b c d : Units) → length units ≡ n
    → BlobPut start units field a b → c ≡ with_units (2 + place) (unit ∷ []) b → SameOutside at m c d
    → ((i : ℕ) → at ≤ i → i < at + m → unit_at d i ≡ blank) → KeepsBlank (place + 3) start n a d
put_blank_all field units place start n at m unit a b c d long blob written changed zeros =
    let end = place + 3 in
    blank_then end start n a c d
    (blank_then end start n a b c (blob_blank field units end start n a b (omega arith) long blob)
    (put_blank (2 + place) unit end start n b c (omega arith) written))
    (zeros_blank end at m start n c d changed zeros)

-- a slot page is written after the others, and unit 0
pub page_blank : (pages : ℕ) (unit : List ℕ) (a b c : Units) → SameOutside (256 * pages) 256 a b → c ≡ with_units 0 (unit ∷ []) b
    → KeepsBlank (256 * (pages + 1)) 0 0 a c
page_blank pages unit a b c changed written i low aside was =
    put_blank 0 unit (256 * (pages + 1)) 0 0 b c (omega arith) written i low aside (changed.above i (omega (arith, low)) ∙ was)

-- ---- one slot set

module _ (slots : List Slot) (place : ℕ) (below : place < length slots) (s : Slot) where
  abbrev after : List Slot
  after = set slots place s

  set_here : slot_at after place ≡ s
  set_here = get_or-set_same slots place s free below

  -- a block of the slots from before that none has now was the set slot's
  pub was_there : (i : ℕ) → HasBlock slots i → ¬ HasBlock after i → (slot_at slots place).offset ≤ i × (i < end_of (slot_at slots place))
  was_there i has not = elim (cases_eq has.at place) [
    | inl here ↦
        (subst (λ (k : ℕ). (slot_at slots k).offset ≤ i) here has.from, subst (λ (k : ℕ). i < end_of (slot_at slots k)) here has.below)
    | inr other ↦
        (let stays : slot_at after has.at ≡ slot_at slots has.at = get_or-set_other slots place has.at s free other in
        absurd (not (record {
          at = has.at;
          used = ap is_used stays ∙ has.used;
          from = subst (λ (t : Slot). t.offset ≤ i) (sym stays) has.from;
          below = subst (λ (t : Slot). i < end_of t) (sym stays) has.below;
        })))
  ]

  -- a block that no slot has now isn't the new one's
  pub not_there : is_used s ≡ true → (i : ℕ) → ¬ HasBlock after i → (i < s.offset) ⊎ (end_of s ≤ i)
  not_there used i not = elim (cases_lt i s.offset) [
    | inl before ↦ inl before
    | inr from ↦ elim (cases_lt i (end_of s)) [
      | inr behind ↦ inr behind
      | inl inside ↦
          absurd (not (record {
            at = place;
            used = ap is_used set_here ∙ used;
            from = subst (λ (t : Slot). t.offset ≤ i) (sym set_here) from;
            below = subst (λ (t : Slot). i < end_of t) (sym set_here) inside;
          }))
    ]
  ]

-- nothing was done
pub freed_none : (end : ℕ) (slots : List Slot) (file : Units) → AreFreed end slots file slots file
freed_none end slots file i had from not = elim had [ inl has ↦ absurd (not has) | inr zero_before ↦ zero_before ]

-- one move more
pub freed_more : (end : ℕ) (slots now : List Slot) (m : Move) (old : Slot) (F0 F1 F2 : Units) → slot_at now m.place ≡ old → m.place < length now
    → is_used (moved_slot old m.to) ≡ true → m.place + 3 ≤ end → AreFreed end slots F0 now F1
    → ((i : ℕ) → old.offset ≤ i → end ≤ i → i < end_of old → unit_at F2 i ≡ blank)
    → KeepsBlank (m.place + 3) m.to old.count F1 F2 → AreFreed end slots F0 (set now m.place (moved_slot old m.to)) F2
freed_more end slots now m old F0 F1 F2 is below used low freed zeros keeps i had from not =
    elim (cases_lt i old.offset) [
      | inl before ↦ stays (λ x. omega (arith, before, x.0))
      | inr at ↦ elim (cases_lt i (end_of old)) [
        | inl inside ↦ zeros i at from inside
        | inr behind ↦ stays (λ x. omega (arith, behind, x.1))
      ]
    ]
  where
    stays : (old.offset ≤ i × (i < end_of old) → ⊥) → unit_at F2 i ≡ blank
    stays aside =
        keeps i (omega (arith, low, from)) (not_there now m.place below (moved_slot old m.to) used i not)
        (freed i had from (λ has. aside (subst (λ (t : Slot). t.offset ≤ i × (i < end_of t)) is (was_there now m.place below (moved_slot old m.to) i has not))))

-- ---- free slots after

pub behind_has : (slots : List Slot) (i : ℕ) → HasBlock slots i → HasBlock (slots ++ replicate 256 free) i
behind_has slots i has =
    let stays : slot_at (slots ++ replicate 256 free) has.at ≡ slot_at slots has.at = at_front slots has.at (used_below slots has.at has.used) in
    record {
      at = has.at;
      used = ap is_used stays ∙ has.used;
      from = subst (λ (t : Slot). t.offset ≤ i) (sym stays) has.from;
      below = subst (λ (t : Slot). i < end_of t) (sym stays) has.below;
    }

-- ---- the slot of a blob

-- once a blob is put, in slots in which those from before are free
pub freed_put : (end : ℕ) (slots now : List Slot) (place : ℕ) (s old : Slot) (F0 F1 F2 : Units) → place < length now → is_used s ≡ true
    → (is_used (slot_at now place) ≡ true → slot_at now place ≡ old) → place + 3 ≤ end → AreFreed end slots F0 now F1
    → ((i : ℕ) → old.offset ≤ i → i < end_of old → unit_at F2 i ≡ blank) → KeepsBlank (place + 3) s.offset s.count F1 F2
    → ((i : ℕ) → HasBlock now i ⊎ (HasBlock now i → ⊥)) → AreFreed end slots F0 (set now place s) F2
freed_put end slots now place s old F0 F1 F2 below used held low freed zeros keeps decide i had from not = elim (decide i) [
  | inl has ↦
      (let there = was_there now place below s i has not in
      let here : has.at ≡ place = at_place has in
      let is : slot_at now place ≡ old = held (ap (λ (k : ℕ). is_used (slot_at now k)) (sym here) ∙ has.used) in
      zeros i (subst (λ (t : Slot). t.offset ≤ i) is there.0) (subst (λ (t : Slot). i < end_of t) is there.1))
  | inr none ↦ keeps i (omega (arith, low, from)) (not_there now place below s used i not) (freed i had from none)
]
  where
    at_place : (has : HasBlock now i) → has.at ≡ place
    at_place has = elim (cases_eq has.at place) [
      | inl here ↦ here
      | inr other ↦
          (let stays : slot_at (set now place s) has.at ≡ slot_at now has.at = get_or-set_other now place has.at s free other in
          absurd (not (record {
            at = has.at;
            used = ap is_used stays ∙ has.used;
            from = subst (λ (t : Slot). t.offset ≤ i) (sym stays) has.from;
            below = subst (λ (t : Slot). i < end_of t) (sym stays) has.below;
          })))
    ]

-- a used slot has a block or none has
pub decide_block : (slots : List Slot) (i : ℕ) → HasBlock slots i ⊎ (HasBlock slots i → ⊥)
decide_block [] i = inr (λ has. absurd (let u = has.used in cc))
decide_block (s ∷ slots) i = elim (cases_Bool (is_used s)) [
  | inr unused ↦ later (λ has at. absurd (let u : is_used s ≡ true = subst (λ (k : ℕ). is_used (slot_at (s ∷ slots) k) ≡ true) at has.used in cc))
      (decide_block slots i)
  | inl used ↦ elim (cases_lt i s.offset) [
    | inl before ↦
        later (λ has at. omega (arith, before, subst (λ (k : ℕ). (slot_at (s ∷ slots) k).offset ≤ i) at has.from)) (decide_block slots i)
    | inr from ↦ elim (cases_lt i (end_of s)) [
      | inl inside ↦ inl (record { at = 0; used = used; from = from; below = inside })
      | inr behind ↦
          later (λ has at. omega (arith, behind, subst (λ (k : ℕ). i < end_of (slot_at (s ∷ slots) k)) at has.below)) (decide_block slots i)
    ]
  ]
]
  where
    first_or : ((has : HasBlock (s ∷ slots) i) → has.at ≡ 0 → ⊥) → (HasBlock slots i → ⊥) → (has : HasBlock (s ∷ slots) i) → (k : ℕ) → has.at ≡ k → ⊥
    first_or not_first none has zero at = not_first has at
    first_or not_first none has (suc k) at = none (record {
      at = k;
      used = subst (λ (j : ℕ). is_used (slot_at (s ∷ slots) j) ≡ true) at has.used;
      from = subst (λ (j : ℕ). (slot_at (s ∷ slots) j).offset ≤ i) at has.from;
      below = subst (λ (j : ℕ). i < end_of (slot_at (s ∷ slots) j)) at has.below;
    })

    later : ((has : HasBlock (s ∷ slots) i) → has.at ≡ 0 → ⊥) → HasBlock slots i ⊎ (HasBlock slots i → ⊥)
        → HasBlock (s ∷ slots) i ⊎ (HasBlock (s ∷ slots) i → ⊥)
    later not_first (inl has) = inl (record { at = suc has.at; used = has.used; from = has.from; below = has.below })
    later not_first (inr none) = inr (λ has. first_or not_first none has has.at refl)

-- a slot page more
pub freed_page : (end : ℕ) (slots now : List Slot) (F0 F1 F2 : Units) → AreFreed end slots F0 now F1 → KeepsBlank end 0 0 F1 F2
    → AreFreed end slots F0 (now ++ replicate 256 free) F2
freed_page end slots now F0 F1 F2 freed keeps i had from not =
    keeps i from (inr (omega arith)) (freed i had from (λ has. not (behind_has now i has)))

-- How far the writes of a call reach.
use Rattle.std.proofs.Common.{◌≡◌, ◌≢◌, inl, inr, ℕ, zero, suc, ◌+◌, ◌*◌, ◌<◌, ◌≤◌, List, [], ◌∷◌, length, take, true, false, Option, Some, None, if◌then◌else◌, refl, sym, ap, ◌∙◌, subst, arith, set, get_or-set_same, get_or-set_other}
use Rattle.std.proofs.lemmas.Bool.{cases_eq, cases_lt}
use Rattle.std.proofs.lemmas.Bool.Decides.{nat_tests}
use Rattle.std.proofs.lemmas.List.{take_all}
use Rattle.rpm_pkgdb.proofs.Vocabulary.{AreMovesOf, BlobPut, CanAdd, end_of, KeepsEnd, FieldPut, free, grown, is_used, IsKept, IsPlan, AreBlocksWithin, KeepsStore}
use Rattle.rpm_pkgdb.proofs.Vocabulary.{last_end, length-put, Move, move_at, moved_slot, moves_of, MovesWithin, Pairs, Plan, with_units, SameOutside, Slot, slot_at}
use Rattle.rpm_pkgdb.proofs.Vocabulary.{slot_for, Store, store_end, Units, with_moves, with_plan}
use Rattle.rpm_pkgdb.proofs.Facts.{cases_Bool, number_facts}
use Rattle.rpm_pkgdb.proofs.GrowLaws.{at_front}
use Rattle.rpm_pkgdb.proofs.GrowSteps.{moved_within}
use Rattle.rpm_pkgdb.proofs.Made.{made}
use Rattle.rpm_pkgdb.proofs.MoveListLaws.{next_of, keep_all, unmoved, after_more}
use Rattle.rpm_pkgdb.proofs.Pairwise.{used_below}
use Rattle.rpm_pkgdb.proofs.PlannedLaws.{grown_kept, grown_made, may_grow, count_moved}
use Rattle.rpm_pkgdb.proofs.PutSteps.{after, was_held, at_place}

-- ---- writes

-- one unit
pub unit_ends : (limit at : ℕ) (unit : List ℕ) (a b : Units) → at + 1 ≤ limit → b ≡ with_units at (unit ∷ []) a → KeepsEnd limit a b
unit_ends limit at unit a b last written short = omega (arith, ap length written, length-put at (unit ∷ []) a)

pub outside_ends : (limit at n : ℕ) (a b : Units) → at + n ≤ limit → SameOutside at n a b → KeepsEnd limit a b
outside_ends limit at n a b last same short = omega (arith, same.no_longer)

field_ends : (limit : ℕ) (field : Option ℕ) (a b : Units) → 2 ≤ limit → FieldPut field a b → KeepsEnd limit a b
field_ends limit None a b last written short = omega (arith, ap length written)
field_ends limit (Some next) a b last written short = unit_ends limit 1 written.0 a b last written.2 short

-- a blob and the number field
pub blob_ends : (limit at : ℕ) (units : Units) (field : Option ℕ) (a b : Units) → at + length units ≤ limit → 2 ≤ limit → BlobPut at units field a b
    → KeepsEnd limit a b
blob_ends limit at units field a b last two written short =
    field_ends limit field written.mid b two written.field_put (omega (arith, ap length written.blocks, length-put at units a))

-- ---- stores

far_used : (s : Slot) (pages : ℕ) → 1 ≤ pages → 256 * pages ≤ s.offset → is_used s ≡ true
far_used s pages some behind = let far : s.offset ≢ 0 = omega arith in grind (arith, nat_tests)

used_end : (slots : List Slot) (k : ℕ) → is_used (slot_at slots k) ≡ true → end_of (slot_at slots k) ≤ last_end slots
used_end [] k used = absurd (omega (arith, used_below [] k used))
used_end (s ∷ ss) zero used = let e : (if is_used s then end_of s else 0) ≡ end_of s = rw used refl in omega arith
used_end (s ∷ ss) (suc k) used = let rest = used_end ss k used in omega arith

-- what a store's end is by
pub end_within : (limit : ℕ) (value : Store) → store_end value ≤ limit → AreBlocksWithin limit value
end_within limit value le = record { pages = omega arith; used = λ k used. omega (arith, used_end value.slots k used) }

-- what a file keeps ends in it
pub file_within : (file : Units) (value : Store) → KeepsStore file value → 1 ≤ value.pages → AreBlocksWithin (length file) value
file_within file value keeps some =
    let m = made file value keeps some in record { pages = m.lawful.inside; used = λ k used. (m.sound.placed k used).inside }

-- ---- moves

module _ (value : Store) (moves : List Move) (k : ℕ) (are : AreMovesOf value moves) (below : k < length moves) where
  abbrev m : Move
  m = move_at moves k

  abbrev there : Slot
  there = moved_slot (slot_at value.slots m.place) m.to

  abbrev to_step : ℕ → List Slot
  to_step j = (with_moves value (take j moves)).slots

  -- a slot that was moved stays there
  landed_by : (j : ℕ) → k < j → j ≤ length moves → slot_at (to_step j) m.place ≡ there
  landed_by zero past last = absurd (omega arith)
  landed_by (suc j) past last =
      let one : suc j ≡ j + 1 = omega arith in
      let u = with_moves value (take j moves) in
      let n = move_at moves j in
      let more : with_moves value (take (suc j) moves) ≡ record u { slots = set u.slots n.place (moved_slot (slot_at u.slots n.place) n.to) } =
      ap (λ (i : ℕ). with_moves value (take i moves)) one ∙ after_more value moves j (omega arith) in
      let next = next_of value moves j are (omega arith) in
      let same : slot_at (to_step (suc j)) m.place ≡ slot_at (set u.slots n.place (moved_slot (slot_at u.slots n.place) n.to)) m.place =
      ap (λ (v : Store). slot_at v.slots m.place) more in
      elim (cases_lt k j) [
        | inl later ↦
            (let before = landed_by j later (omega arith) in
            let first = next_of value moves k are below in
            let base = keep_all value moves k are (omega arith) in
            let now = keep_all value moves j are (omega arith) in
            elim (cases_eq m.place n.place) [
              | inl here ↦
                  absurd (let at : (slot_at u.slots n.place).offset ≡ m.to = ap (λ (i : ℕ). (slot_at u.slots i).offset) (sym here)
                  ∙ ap (λ (s : Slot). s.offset) before in
                  omega (arith, next.before, first.least.from_on, base.pages_are, now.pages_are, at))
              | inr other ↦ same ∙ get_or-set_other u.slots n.place m.place (moved_slot (slot_at u.slots n.place) n.to) free other ∙ before
            ])
        | inr here ↦
            (let at : j ≡ k = omega arith in
            let old : slot_at u.slots m.place ≡ slot_at value.slots m.place =
            ap (λ (i : ℕ). slot_at (to_step i) m.place) at ∙ unmoved value moves k are below in
            let to : n ≡ m = ap (move_at moves) at in
            same ∙ ap (λ (x : Move). slot_at (set u.slots x.place (moved_slot (slot_at u.slots x.place) x.to)) m.place) to
            ∙ get_or-set_same u.slots m.place (moved_slot (slot_at u.slots m.place) m.to) free
            (used_below u.slots m.place (subst (λ (x : Move). is_used (slot_at u.slots x.place) ≡ true) to next.used))
            ∙ ap (λ (s : Slot). moved_slot s m.to) old)
      ]

  landed : slot_at (with_moves value moves).slots m.place ≡ there
  landed = ap (λ (l : List Move). slot_at (with_moves value l).slots m.place) (sym (take_all (length moves) moves (omega arith)))
      ∙ landed_by (length moves) below (omega arith)

  -- in a store that grew by them
  pub moves_within : (numbers : Pairs) → IsKept numbers value.pages value.slots → 1 ≤ value.pages → CanAdd value moves → (file : Units)
      → KeepsStore file value → (limit : ℕ) → AreBlocksWithin limit (grown (Some moves) value) → length file ≤ limit → MovesWithin limit value.slots m
  moves_within numbers kept some can file keeps limit within short =
      let next = next_of value moves k are below in
      let used : is_used (slot_at value.slots m.place) ≡ true = ap is_used (sym (unmoved value moves k are below)) ∙ next.used in
      let here = used_below value.slots m.place used in
      let count = count_moved numbers value kept some moves can in
      let at : slot_at (grown (Some moves) value).slots m.place ≡ there = at_front (with_moves value moves).slots m.place (omega (arith, here, count)) ∙
      landed in
      let still = far_used there value.pages some (omega (arith, next.least.from_on, (keep_all value moves k are (omega arith)).pages_are)) in
      record {
        place = omega (arith, here, kept.count, some, within.pages);
        from = omega (arith, moved_within value some moves can k below file keeps);
        to = subst (λ (s : Slot). end_of s ≤ limit) at (within.used m.place (ap is_used at ∙ still));
      }

-- ---- a plan

module _ (numbers : Pairs) (v : Store) (kept : IsKept numbers v.pages v.slots) (some : 1 ≤ v.pages) (plan : Plan) (is : IsPlan v plan) (old : Slot)
    (new : plan.target.is_new ≡ true → old ≡ free) (held : plan.target.is_new ≡ false → old ≡ slot_at v.slots plan.target.place) (file : Units)
    (keeps : KeepsStore file v) (limit : ℕ) (short : length file ≤ limit) (within : AreBlocksWithin limit (with_plan plan v)) where
  abbrev grew : Store
  grew = after v plan is some

  -- what is replaced ends in the file
  pub old_ends : end_of old ≤ limit
  old_ends = elim (cases_Bool plan.target.is_new) [
    | inl is_new ↦ omega (arith, ap end_of (new is_new))
    | inr not_new ↦
        (let used = (number_facts plan.target.number (slot_at v.slots plan.target.place) (was_held v plan is some not_new)).used in
        omega (arith, ap end_of (held not_new), (file_within file v keeps some).used plan.target.place used))
  ]

  -- neither what is replaced nor what is put stands in the first units
  pub old_far : plan.target.is_new ≡ false → 2 ≤ old.offset
  old_far not_new =
      let used = (number_facts plan.target.number (slot_at v.slots plan.target.place) (was_held v plan is some not_new)).used in
      omega (arith, ap (λ (s : Slot). s.offset) (held not_new), ((made file v keeps some).sound.placed plan.target.place used).behind)

  pub start_far : 2 ≤ plan.target.start
  start_far = omega (arith, is.target.start.from_on, grown_made v (moves_of plan.page) some)

  pub place_ends : plan.target.place + 3 ≤ limit
  place_ends =
      let k = grown_kept numbers v kept some (moves_of plan.page) (may_grow v plan.target.is_new (moves_of plan.page) is.page) in
      omega (arith, is.target.below, k.count, within.pages)

  pub grown_within : AreBlocksWithin limit grew
  grown_within = record {
    pages = within.pages;
    used = λ k used. elim (cases_eq k plan.target.place) [
      | inl here ↦
          (let at = at_place v plan is some old held (ap (λ (i : ℕ). is_used (slot_at grew.slots i)) (sym here) ∙ used) in
          omega (arith, ap (λ (i : ℕ). end_of (slot_at grew.slots i)) here, ap end_of at, old_ends))
      | inr other ↦
          (let stays = get_or-set_other grew.slots plan.target.place k (slot_for plan.target) free other in
          subst (λ (s : Slot). end_of s ≤ limit) stays (within.used k (ap is_used stays ∙ used)))
    ];
  }

  pub target_ends : end_of (slot_for plan.target) ≤ limit
  target_ends =
      let at = get_or-set_same grew.slots plan.target.place (slot_for plan.target) free is.target.below in
      let first = grown_made v (moves_of plan.page) some in
      let used : is_used (slot_for plan.target) ≡ true = far_used (slot_for plan.target) grew.pages first is.target.start.from_on in
      subst (λ (s : Slot). end_of s ≤ limit) at (within.used plan.target.place (ap is_used at ∙ used))

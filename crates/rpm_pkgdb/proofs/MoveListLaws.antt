-- What moves that follow each other keep.
use Rattle.std.proofs.Common.{◌≡◌, ◌⊎◌, inl, inr, ℕ, zero, suc, ◌+◌, ◌*◌, ◌<◌, ◌≤◌, List, [], ◌∷◌, ◌++◌, length, take, refl, sym, ap, ◌∙◌, subst, arith, set, get_or-set_same, get_or-set_other}
use Rattle.std.proofs.lemmas.Bool.{cases_eq}
use Rattle.std.proofs.lemmas.List.{take_more}
use Rattle.rpm_pkgdb.proofs.Vocabulary.{AreMovesOf, CanMove, free, IsNextOf, Move, move_at, moved_slot, no_move, Slot, slot_at, Store, with_move, with_moves}
use Rattle.rpm_pkgdb.proofs.Pairwise.{used_below}

pub next_can : (value : Store) (m : Move) → 1 ≤ value.pages → IsNextOf value m → CanMove value m.place (slot_at value.slots m.place) m.to
next_can value m made next = record {
  slot = record { made = made; below = used_below value.slots m.place next.used; is = refl; used = next.used };
  behind = omega (arith, next.least.from_on);
  fits = next.least.fits;
}

pub after_push : (value : Store) (moves : List Move) (m : Move) → with_moves value (moves ++ m ∷ []) ≡ with_move (with_moves value moves) m
after_push value [] m = refl
after_push value (x ∷ moves) m = after_push (with_move value x) moves m

-- the next of several
pub next_of : (value : Store) (moves : List Move) (k : ℕ) → AreMovesOf value moves → k < length moves
    → IsNextOf (with_moves value (take k moves)) (move_at moves k)
next_of value [] k are below = absurd (omega arith)
next_of value (m ∷ moves) zero are below = are.0
next_of value (m ∷ moves) (suc k) are below = next_of (with_move value m) moves k are.1 (omega arith)

pub after_more : (value : Store) (moves : List Move) (k : ℕ) → k < length moves
    → with_moves value (take (k + 1) moves) ≡ with_move (with_moves value (take k moves)) (move_at moves k)
after_more value moves k below = ap (with_moves value) (take_more moves k no_move below) ∙ after_push value (take k moves) (move_at moves k)

-- what moves keep
pub record Keep (value after : Store) : Type 0 where
  pub generation_is : after.generation ≡ value.generation
  pub pages_are : after.pages ≡ value.pages
  pub field_is : after.field ≡ value.field
  -- a slot is as it was, or its blocks are after the page
  pub each : (j : ℕ) → (slot_at after.slots j ≡ slot_at value.slots j) ⊎ (256 * (value.pages + 1) ≤ (slot_at after.slots j).offset)

pub keep_none : (value : Store) → Keep value value
keep_none value = record { generation_is = refl; pages_are = refl; field_is = refl; each = λ j. inl refl }

pub keep_more : (value after : Store) (m : Move) → Keep value after → IsNextOf after m → Keep value (with_move after m)
keep_more value after m kept next = record {
  generation_is = kept.generation_is;
  pages_are = kept.pages_are;
  field_is = kept.field_is;
  each = λ j. elim (cases_eq j m.place) [
    | inl here ↦
        (let s : Slot = moved_slot (slot_at after.slots m.place) m.to in
        let now : slot_at (set after.slots m.place s) j ≡ s =
        ap (slot_at (set after.slots m.place s)) here ∙ get_or-set_same after.slots m.place s free (used_below after.slots m.place next.used) in
        inr (subst (λ (t : Slot). 256 * (value.pages + 1) ≤ t.offset) (sym now) (omega (arith, next.least.from_on, kept.pages_are))))
    | inr other ↦
        (let s : Slot = moved_slot (slot_at after.slots m.place) m.to in
        let stays : slot_at (set after.slots m.place s) j ≡ slot_at after.slots j = get_or-set_other after.slots m.place j s free other in
        elim (kept.each j) [
          | inl same ↦ inl (stays ∙ same)
          | inr behind ↦ inr (subst (λ (t : Slot). 256 * (value.pages + 1) ≤ t.offset) (sym stays) behind)
        ])
  ];
}

pub keep_all : (value : Store) (moves : List Move) (k : ℕ) → AreMovesOf value moves → k ≤ length moves → Keep value (with_moves value (take k moves))
keep_all value moves zero are le = keep_none value
keep_all value moves (suc k) are le =
    let before = keep_all value moves k are (omega arith) in
    let next = next_of value moves k are (omega arith) in
    let one : suc k ≡ k + 1 = omega arith in
    let e : take (suc k) moves ≡ take (k + 1) moves = ap (λ (i : ℕ). take i moves) one in
    subst (Keep value) (sym (ap (with_moves value) e ∙ after_more value moves k (omega arith)))
    (keep_more value (with_moves value (take k moves)) (move_at moves k) before next)

-- the slot that is moved is as it was at first
pub unmoved : (value : Store) (moves : List Move) (k : ℕ) → AreMovesOf value moves → k < length moves
    → slot_at (with_moves value (take k moves)).slots (move_at moves k).place ≡ slot_at value.slots (move_at moves k).place
unmoved value moves k are below =
    let kept = keep_all value moves k are (omega arith) in
    let next = next_of value moves k are below in
    elim (kept.each (move_at moves k).place) [
      | inl same ↦ same
      | inr behind ↦ absurd (omega (arith, behind, next.before, kept.pages_are))
    ]

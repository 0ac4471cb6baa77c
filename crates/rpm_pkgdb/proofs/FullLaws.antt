-- A plan shows that the store isn't full: only one list of moves is asked for.
use Rattle.std.proofs.Common.{◌≡◌, ◌≢◌, inl, inr, ℕ, ◌+◌, ◌*◌, ◌<◌, ◌≤◌, List, [], ◌∷◌, true, Bool, Option, Some, None, is_none, refl, sym, ap, ◌∙◌, subst, arith}
use Rattle.std.proofs.lemmas.Bool.{cases_eq, cases_lt}
use Rattle.rpm_pkgdb.proofs.Vocabulary.{after_move, after_moves, AreAllUsed, AreBehind, AreMoves, blocks_for, CanAdd, CantMove, FitsSlots, FitsNowhere, grown}
use Rattle.rpm_pkgdb.proofs.Vocabulary.{is_used, IsFor, IsStoreFull, IsLeast, IsNextMove, IsPlan, Move, moves_of, NeedsPage, next_end, NoMove, NoRoom, Plan, Slot}
use Rattle.rpm_pkgdb.proofs.Vocabulary.{slot_at, Store}

pub least_same : (slots : List Slot) (count from a b : ℕ) → IsLeast slots count from a → IsLeast slots count from b → a ≡ b
least_same slots count from a b in_a in_b = elim (cases_lt a b) [
  | inl below ↦ absurd (in_b.least a in_a.from_on below in_a.fits)
  | inr le ↦ elim (cases_lt b a) [
    | inl above ↦ absurd (in_a.least b in_b.from_on above in_b.fits)
    | inr ge ↦ omega arith
  ]
]

abbrev move_of : ℕ → ℕ → Move
move_of place to = record { place = place; to = to }

next_same : (slots : List Slot) (end : ℕ) (a b : Move) → IsNextMove slots end a → IsNextMove slots end b → a ≡ b
next_same slots end a b in_a in_b =
    let place : a.place ≡ b.place = elim (cases_eq a.place b.place) [
      | inl same ↦ same
      | inr other ↦
          (let back : b.place ≢ a.place = λ same. other (sym same) in
          absurd (omega (arith, in_a.first b.place back in_b.used, in_b.first a.place other in_a.used)))
    ] in
    let to : a.to ≡ b.to =
    least_same slots (slot_at slots b.place).count end a.to b.to (subst (λ (k : ℕ). IsLeast slots (slot_at slots k).count end a.to) place in_a.least)
    in_b.least in
    ap (λ (k : ℕ). move_of k a.to) place ∙ ap (move_of b.place) to

module _ (end : ℕ) where
  cant : (slots : List Slot) (stuck : List Move) → AreMoves slots end stuck → (place : ℕ) → is_used (slot_at (after_moves slots stuck) place) ≡ true
      → (slot_at (after_moves slots stuck) place).offset < end
      → ((j : ℕ) → is_used (slot_at (after_moves slots stuck) j) ≡ true
      → (slot_at (after_moves slots stuck) place).offset ≤ (slot_at (after_moves slots stuck) j).offset)
      → FitsNowhere (after_moves slots stuck) (slot_at (after_moves slots stuck) place).count end
      → (done : List Move) → AreMoves slots end done → AreBehind (after_moves slots done) end → ⊥
  cant slots [] are place used before first nowhere [] also behind = omega (arith, behind place used, before)
  cant slots [] are place used before first nowhere (n ∷ done) also behind = elim (cases_eq n.place place) [
    | inl same ↦ nowhere n.to also.0.least.from_on (subst (λ (k : ℕ). FitsSlots slots (slot_at slots k).count n.to) same also.0.least.fits)
    | inr other ↦
        (let back : place ≢ n.place = λ same. other (sym same) in
        omega (arith, also.0.first place back used, first n.place also.0.used))
  ]
  cant slots (m ∷ stuck) are place used before first nowhere [] also behind = omega (arith, behind m.place are.0.used, are.0.before)
  cant slots (m ∷ stuck) are place used before first nowhere (n ∷ done) also behind =
      let same : n ≡ m = next_same slots end n m also.0 are.0 in
      cant (after_move slots m) stuck are.1 place used before first nowhere done
      (subst (λ (x : Move). AreMoves (after_move slots x) end done) same also.1)
      (subst (λ (x : Move). AreBehind (after_moves (after_move slots x) done) end) same behind)

  same_moves : (slots : List Slot) (a b : List Move) → AreMoves slots end a → AreBehind (after_moves slots a) end → AreMoves slots end b
      → AreBehind (after_moves slots b) end → a ≡ b
  same_moves slots [] [] are behind also too = refl
  same_moves slots [] (n ∷ b) are behind also too = absurd (omega (arith, behind n.place also.0.used, also.0.before))
  same_moves slots (m ∷ a) [] are behind also too = absurd (omega (arith, too m.place are.0.used, are.0.before))
  same_moves slots (m ∷ a) (n ∷ b) are behind also too =
      let same : n ≡ m = next_same slots end n m also.0 are.0 in
      let rest : a ≡ b =
      same_moves (after_move slots m) a b are.1 behind (subst (λ (x : Move). AreMoves (after_move slots x) end b) same also.1)
      (subst (λ (x : Move). AreBehind (after_moves (after_move slots x) b) end) same too) in
      ap (λ (x : Move). x ∷ a) (sym same) ∙ ap (λ (l : List Move). n ∷ l) rest

same_needs : (v : Store) (is_new : Bool) (a b : Option (List Move)) → NeedsPage v is_new a → NeedsPage v is_new b → a ≡ b
same_needs v is_new None None in_a in_b = refl
same_needs v is_new None (Some b) in_a in_b = absurd (in_a in_b.0 in_b.1.all_used)
same_needs v is_new (Some a) None in_a in_b = absurd (in_b in_a.0 in_a.1.all_used)
same_needs v is_new (Some a) (Some b) in_a in_b =
    ap Some (same_moves (next_end v) v.slots a b in_a.1.are in_a.1.behind in_b.1.are in_b.1.behind)

not_stuck : (v : Store) (is_new : Bool) (moves : Option (List Move)) → NeedsPage v is_new moves → is_new ≡ true → AreAllUsed v.slots
    → CantMove v.slots (next_end v) → ⊥
not_stuck v is_new None needs new all stuck = needs new all
not_stuck v is_new (Some moves) needs new all stuck =
    cant (next_end v) v.slots stuck.moves stuck.are stuck.place stuck.used stuck.before stuck.first stuck.nowhere moves needs.1.are needs.1.behind

full_not : (v : Store) (is_new : Bool) (length : ℕ) (moves : Option (List Move)) (start : ℕ) → NeedsPage v is_new moves
    → IsLeast (grown moves v).slots (blocks_for length) (256 * (grown moves v).pages) start → IsStoreFull v is_new length → ⊥
full_not v is_new length moves start needs least (NoRoom others also nowhere) =
    let same : others ≡ moves = same_needs v is_new others moves also needs in
    subst (λ (o : Option (List Move)). FitsNowhere (grown o v).slots (blocks_for length) (256 * (grown o v).pages)) same nowhere
    start least.from_on least.fits
full_not v is_new length moves start needs least (NoMove new all stuck) = not_stuck v is_new moves needs new all stuck

pub not_full : (v : Store) (n : Option ℕ) (length : ℕ) (plan : Plan) → IsPlan v plan → IsFor n length plan → ¬ IsStoreFull v (is_none n) length
not_full v n length plan is for full =
    let least = is.target.start in
    full_not v (is_none n) length (moves_of plan.page) plan.target.start (subst (λ (b : Bool). NeedsPage v b (moves_of plan.page)) for.new is.page)
    (subst (λ (k : ℕ). IsLeast (grown (moves_of plan.page) v).slots (blocks_for k) (256 * (grown (moves_of plan.page) v).pages) plan.target.start)
    for.length_is least) full

-- it looks at slots and pages alone
pub same_full : (v w : Store) (is_new : Bool) (length : ℕ) → v.slots ≡ w.slots → v.pages ≡ w.pages → IsStoreFull v is_new length → IsStoreFull w is_new length
same_full v w is_new length slots pages (NoRoom moves needs nowhere) = NoRoom moves (same_page moves needs) (same_room moves nowhere)
  where
    same_can : (l : List Move) → CanAdd v l → CanAdd w l
    same_can l can =
        subst (λ (n : ℕ). CanAdd (record w { pages = n }) l) pages (subst (λ (s : List Slot). CanAdd (record w { slots = s; pages = v.pages }) l) slots
        (record { all_used = can.all_used; are = can.are; behind = can.behind }))

    same_page : (o : Option (List Move)) → NeedsPage v is_new o → NeedsPage w is_new o
    same_page None none = λ new all. none new (subst AreAllUsed (sym slots) all)
    same_page (Some l) can = (can.0, same_can l can.1)

    same_room : (o : Option (List Move)) → FitsNowhere (grown o v).slots (blocks_for length) (256 * (grown o v).pages)
        → FitsNowhere (grown o w).slots (blocks_for length) (256 * (grown o w).pages)
    same_room None none = subst (λ (s : List Slot). FitsNowhere s (blocks_for length) (256 * w.pages)) slots
        (subst (λ (n : ℕ). FitsNowhere v.slots (blocks_for length) (256 * n)) pages none)
    same_room (Some l) none = subst (λ (s : List Slot). FitsNowhere (grown (Some l) (record w { slots = s })).slots (blocks_for length)
        (256 * (w.pages + 1))) slots
        (subst (λ (n : ℕ). FitsNowhere (grown (Some l) v).slots (blocks_for length) (256 * (n + 1))) pages none)
same_full v w is_new length slots pages (NoMove new all stuck) =
    NoMove new (subst AreAllUsed slots all)
    (subst (λ (n : ℕ). CantMove w.slots (256 * (n + 1))) pages (subst (λ (s : List Slot). CantMove s (next_end v)) slots stuck))

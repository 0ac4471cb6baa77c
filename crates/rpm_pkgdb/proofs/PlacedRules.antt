-- Plans are those that the rule of places says, and the store is full where it says so.
use Rattle.std.proofs.Common.{◌≡◌, ℕ, ◌*◌, ◌≤◌, List, length, true, false, Bool, Option, Some, None, is_none, if◌then◌else◌, refl, sym, ap, ◌∙◌, subst, arith}
use Rattle.std.specs.Prelude.{IfSome}
use Rattle.rpm_pkgdb.proofs.Vocabulary.{after_moves, AreAllUsed, blocks_for, CantMove, first_free, FitsNowhere, grown, has_number, IsFirstBefore, IsFirstFree}
use Rattle.rpm_pkgdb.proofs.Vocabulary.{IsFor, IsStoreFull, IsKept, IsLeast, IsPlan, IsTarget, Move, moves_of, NeedsPage, next_end, next_number, NoMove, NoRoom}
use Rattle.rpm_pkgdb.proofs.Vocabulary.{option_and_then, option_map, page_moves, Pairs, placement, placed_in, Placement, placement_of, Plan, position_or_len}
use Rattle.rpm_pkgdb.proofs.Vocabulary.{replaced_by, slot_at, Store, Target}
use Rattle.rpm_pkgdb.proofs.Pairwise.{used_below}
use Rattle.rpm_pkgdb.proofs.RangeLaws.{other_start}
use Rattle.rpm_pkgdb.proofs.PlannedLaws.{first_behind, moves_sound, none_for}
use Rattle.rpm_pkgdb.proofs.FirstFits.{first_fit_some, first_fit_none}
use Rattle.rpm_pkgdb.proofs.MoveRules.{some_stuck, stuck_here}
use Rattle.rpm_pkgdb.proofs.PageRules.{first_free_is, none_free, number_at, a_page, needs_moves}

-- ---- a blob

abbrev made : ℕ → ℕ → ℕ → ℕ → Bool → Option (List Move) → Placement
made number place start size is_new moves =
    record { target = record { number = number; place = place; start = start; length = size; is_new = is_new }; moves = moves }

found_in : (v : Store) (number place start size : ℕ) (is_new : Bool) (moves : Option (List Move))
    → IsLeast (grown moves v).slots (blocks_for size) (256 * (grown moves v).pages) start
    → placed_in v number place size is_new moves ≡ Some (made number place start size is_new moves)
unfolding placed_in
found_in v number place start size is_new moves least =
    ap (option_map (λ (k : ℕ). made number place k size is_new moves))
    (first_fit_some (grown moves v).slots (blocks_for size) (256 * (grown moves v).pages) start least)

nowhere_in : (v : Store) (number place size : ℕ) (is_new : Bool) (moves : Option (List Move))
    → FitsNowhere (grown moves v).slots (blocks_for size) (256 * (grown moves v).pages) → placed_in v number place size is_new moves ≡ None
unfolding placed_in
nowhere_in v number place size is_new moves nowhere =
    ap (option_map (λ (k : ℕ). made number place k size is_new moves))
    (first_fit_none (grown moves v).slots (blocks_for size) (256 * (grown moves v).pages) nowhere)

module _ (numbers : Pairs) (v : Store) (kept : IsKept numbers v.pages v.slots) (some : 1 ≤ v.pages) where
  place_of_new : (moves : Option (List Move)) (place : ℕ) → NeedsPage v true moves → IsFirstFree (grown moves v).slots place
      → first_free v.slots ≡ place
  place_of_new None place needs is = first_free_is v.slots place is
  place_of_new (Some moves) place needs is =
      none_free v.slots needs.1.all_used
      ∙ sym (first_free_is (grown (Some moves) v).slots (length v.slots) (first_behind numbers v kept some moves needs.1))
      ∙ first_free_is (grown (Some moves) v).slots place is

  new_at : (number place start size : ℕ) (moves : Option (List Move)) → NeedsPage v true moves → number ≡ next_number v
      → IsFirstFree (grown moves v).slots place → IsLeast (grown moves v).slots (blocks_for size) (256 * (grown moves v).pages) start
      → placement None size v ≡ Some (made number place start size true moves)
  unfolding placement
  new_at number place start size moves needs next first least =
      ap (option_and_then (placed_in v (next_number v) (first_free v.slots) size true)) (needs_moves v moves needs)
      ∙ found_in v (next_number v) (first_free v.slots) start size true moves least
      ∙ ap (λ (k : ℕ). Some (made k (first_free v.slots) start size true moves)) (sym next)
      ∙ ap (λ (p : ℕ). Some (made number p start size true moves)) (place_of_new moves place needs first)

  held_at : (number place start size : ℕ) → has_number number (slot_at v.slots place) ≡ true
      → IsLeast v.slots (blocks_for size) (256 * v.pages) start → placement (Some number) size v ≡ Some (made number place start size false None)
  unfolding placement
  held_at number place start size has least =
      ap (λ (p : ℕ). placed_in v number p size false None) (number_at v.pages v.slots kept.sound number place has)
      ∙ found_in v number place start size false None least

  by_target : (n : Option ℕ) (t : Target) (moves : Option (List Move)) → NeedsPage v t.is_new moves → (t.is_new ≡ true → t.number ≡ next_number v)
      → IsTarget (grown moves v) t → t.is_new ≡ is_none n → IfSome n (λ m. t.number ≡ m)
      → placement n t.length v ≡ Some (record { target = t; moves = moves })
  by_target None t moves needs next is new same =
      let all = subst (λ (b : Bool). NeedsPage v b moves) new needs in
      new_at t.number t.place t.start t.length moves all (next new) (is.new new).1 is.start
      ∙ ap (λ (b : Bool). Some (made t.number t.place t.start t.length b moves)) (sym new)
  by_target (Some m) t moves needs next is held same =
      let none : moves ≡ None = none_for v t.is_new moves needs held in
      let here : IsTarget v t = subst (λ (o : Option (List Move)). IsTarget (grown o v) t) none is in
      ap (λ (k : ℕ). placement (Some k) t.length v) (sym same)
      ∙ held_at t.number t.place t.start t.length (here.held held) here.start
      ∙ ap (λ (b : Bool). Some (made t.number t.place t.start t.length b None)) (sym held)
      ∙ ap (λ (o : Option (List Move)). Some (made t.number t.place t.start t.length t.is_new o)) (sym none)

  -- a plan is what the rule of places says
  pub plan_placed : (n : Option ℕ) (size : ℕ) (plan : Plan) → IsPlan v plan → IsFor n size plan → placement n size v ≡ Some (placement_of plan)
  plan_placed n size plan is for =
      ap (λ (k : ℕ). placement n k v) (sym for.length_is)
      ∙ by_target n plan.target (moves_of plan.page) is.page is.number is.target for.new for.number

  own_new : (b : Bool) (number : ℕ) → b ≡ is_none (if b then None else Some number)
  own_new true number = refl
  own_new false number = refl

  own_number : (b : Bool) (number : ℕ) → IfSome (if b then None else Some number) (λ m. number ≡ m)
  own_number true number = tt
  own_number false number = refl

  pub own_placed : (plan : Plan) → IsPlan v plan → placement (replaced_by plan.target) plan.target.length v ≡ Some (placement_of plan)
  own_placed plan is =
      by_target (replaced_by plan.target) plan.target (moves_of plan.page) is.page is.number is.target
      (own_new plan.target.is_new plan.target.number) (own_number plan.target.is_new plan.target.number)

  -- a range that can't be moved asks for no page
  no_moves : AreAllUsed v.slots → CantMove v.slots (next_end v) → page_moves v ≡ None
  no_moves all stuck =
      let slots = after_moves v.slots stuck.moves in
      let sound = moves_sound v.pages (next_end v) some (omega arith) v.slots stuck.moves kept.sound stuck.are in
      let first : IsFirstBefore slots (next_end v) stuck.place = record {
        below = used_below slots stuck.place stuck.used;
        used = stuck.used;
        before = stuck.before;
        first = stuck.first;
      } in
      a_page v all
      ∙ ap (option_map Some) (some_stuck v.slots (next_end v) stuck.moves stuck.are
      (stuck_here slots (next_end v) stuck.place first (λ j other used.
      let differ = other_start v.pages slots sound j stuck.place other used stuck.used in
      let le = stuck.first j used in
      let apart : ¬ ((slot_at slots stuck.place).offset ≡ (slot_at slots j).offset) = λ same. differ (sym same) in
      omega arith) stuck.nowhere))

  -- a store is full only where the rule of places finds none
  pub full_placed : (n : Option ℕ) (size : ℕ) → IsStoreFull v (is_none n) size → placement n size v ≡ None
  unfolding placement
  full_placed None size (NoRoom moves needs nowhere) =
      ap (option_and_then (placed_in v (next_number v) (first_free v.slots) size true)) (needs_moves v moves needs)
      ∙ nowhere_in v (next_number v) (first_free v.slots) size true moves nowhere
  full_placed None size (NoMove new all stuck) =
      ap (option_and_then (placed_in v (next_number v) (first_free v.slots) size true)) (no_moves all stuck)
  full_placed (Some m) size (NoRoom moves needs nowhere) =
      let none : moves ≡ None = none_for v false moves needs refl in
      nowhere_in v m (position_or_len (has_number m) v.slots) size false None
      (subst (λ (o : Option (List Move)). FitsNowhere (grown o v).slots (blocks_for size) (256 * (grown o v).pages)) none nowhere)
  full_placed (Some m) size (NoMove new all stuck) = absurd (let e : false ≡ true = new in cc)

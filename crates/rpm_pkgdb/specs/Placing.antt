-- The rule of places as a function over slots: where a blob goes, and what moves for it.
use Rattle.std.specs.Prelude.{◌≡◌, ℕ, suc, zero, ◌+◌, ◌*◌, ◌^◌, List, [], ◌∷◌, length, map, min, Bool, true, false, not}
use Rattle.std.specs.Prelude.{◌&&◌, nat_lt, nat_le, if◌then◌else◌, Option, Some, None, refl}
use Rattle.std.proofs.Common.{ap, ◌∙◌}
use Rattle.std.specs.List.{filter, reduce, list_any, position_or_len, sum_by}
use Rattle.std.specs.Option.{option_map, option_and_then}
use Rattle.rpm_pkgdb.specs.declared.slot.Slot.{Slot}
use Rattle.rpm_pkgdb.specs.declared.added_page.Move.{Move}
use Rattle.rpm_pkgdb.specs.declared.plan.Target.{Target}
use Rattle.rpm_pkgdb.specs.declared.plan.Plan.{Plan}
use Rattle.rpm_pkgdb.specs.Slots.{slot_at, is_used, end_of, slots_meet, has_number}
use Rattle.rpm_pkgdb.specs.Store.{Store, next_number}
use Rattle.rpm_pkgdb.specs.Blobs.{blocks_for}
use Rattle.rpm_pkgdb.specs.Growing.{after_move, grown}
use Rattle.rpm_pkgdb.specs.Planned.{moves_of}
use Rattle.rpm_pkgdb.specs.Written.{with_put, with_generation, with_spare}

-- a count of blocks fits at a block when it ends by the limit, and meets no used slot's
abbrev pub fits : List Slot → ℕ → ℕ → Bool
fits slots count start = nat_le (start + count) (2 ^ 28)
    && not (list_any (slots_meet (record { number = 0; offset = start; count = count })) slots)

-- the least block from one on at which so many fit, and None where there is none: it is that one, or the end of a
-- slot's blocks
unfoldable pub first_fit : List Slot → ℕ → ℕ → Option ℕ
first_fit slots count from = reduce min (filter (fits slots count) (from ∷ filter (nat_le from) (map end_of slots)))

-- ---- moves

-- the place of the first used slot by offset: no other's blocks begin before its own
unfoldable pub first_used : List Slot → ℕ
first_used slots =
    position_or_len (λ s. is_used s && not (list_any (λ t. is_used t && nat_lt t.offset s.offset) slots)) slots

-- the first used slot is moved next, to the first fit from a block on
unfoldable pub next_move : List Slot → ℕ → Option Move
next_move slots end = option_map (λ to. record { place = first_used slots; to = to })
    (first_fit slots (slot_at slots (first_used slots)).count end)

-- a count of moves is made one after the other, each the next one after those before it
unfoldable pub moves_from : ℕ → List Slot → ℕ → Option (List Move)
moves_from zero slots end = Some []
moves_from (suc n) slots end = option_and_then
    (λ m. option_map (λ moves. m ∷ moves) (moves_from n (after_move slots m) end)) (next_move slots end)

-- how many used ranges begin before this block
unfoldable pub count_before : ℕ → List Slot → ℕ
count_before end slots = sum_by (λ s. if is_used s && nat_lt s.offset end then 1 else 0) slots

-- ---- a blob

-- the place of the first free slot; where none is free, that of the first slot of a page more
unfoldable pub first_free : List Slot → ℕ
first_free slots = position_or_len (λ s. not (is_used s)) slots

-- the moves of the page that a new number asks for, if it asks for one, and None where they find no place: those of
-- all ranges that begin before the end of the slot pages and one more, to places from it on
unfoldable pub page_moves : Store → Option (Option (List Move))
page_moves value = if nat_lt (first_free value.slots) (length value.slots) then Some None else option_map Some
    (moves_from (count_before (256 * (value.pages + 1)) value.slots) value.slots (256 * (value.pages + 1)))

-- number, slot and blocks of a blob, and the moves of the slot page that is added for it, if one is
pub record Placement : Type 0 where
  pub target : Target
  pub moves : Option (List Move)

-- a blob goes to the first fit after the slot pages, counted with the one that is added
unfoldable pub placed_in : Store → ℕ → ℕ → ℕ → Bool → Option (List Move) → Option Placement
placed_in value number place size is_new moves =
    option_map (λ start. record {
      target = record { number = number; place = place; start = start; length = size; is_new = is_new };
      moves = moves;
    }) (first_fit (grown moves value).slots (blocks_for size) (256 * (grown moves value).pages))

-- where a blob of a length goes that replaces this number's, or under a new number, and None where the store is full
unfoldable pub placement : Option ℕ → ℕ → Store → Option Placement
placement None size value =
    option_and_then (placed_in value (next_number value) (first_free value.slots) size true) (page_moves value)
placement (Some n) size value = placed_in value n (position_or_len (has_number n) value.slots) size false None

-- the store once a blob of this length was put, and None where the store is full
abbrev pub put_in : Option ℕ → ℕ → Store → Option Store
put_in n size value = option_map (λ p. with_put p.target (grown p.moves value)) (placement n size value)

-- where a plan puts its blob
abbrev pub placement_of : Plan → Placement
placement_of plan = record { target = plan.target; moves = moves_of plan.page }

-- the number that a target replaces
abbrev pub replaced_by : Target → Option ℕ
replaced_by target = if target.is_new then None else Some target.number

-- ---- laws: places look at slots, pages and number field alone

-- the store once the blob was put there
abbrev pub with_placed : Placement → Store → Store
with_placed p value = with_put p.target (grown p.moves value)

pub placed_generation : (n : Option ℕ) (size generation : ℕ) (value : Store)
    → placement n size (with_generation generation value) ≡ placement n size value
unfolding placement placed_in page_moves
placed_generation None size generation value = refl
placed_generation (Some n) size generation value = refl

pub placed_spare : (n : Option ℕ) (size spare : ℕ) (value : Store)
    → placement n size (with_spare spare value) ≡ placement n size value
unfolding placement placed_in page_moves
placed_spare None size spare value = refl
placed_spare (Some n) size spare value = refl

option_then : {X Y : Type 0} (f : X → Y) (g : Store → Y) (h : X → Store) → ((x : X) → f x ≡ g (h x)) → (o : Option X)
    → option_map f o ≡ option_map g (option_map h o)
option_then f g h same None = refl
option_then f g h same (Some x) = ap Some (same x)

-- so changes are gone through in order: each raises the generation, and what it puts goes where the one before left
-- room
pub put_generation : (n : Option ℕ) (size generation : ℕ) (value : Store)
    → put_in n size (with_generation generation value) ≡ option_map (with_generation generation) (put_in n size value)
put_generation n size generation value =
    ap (option_map (λ p. with_placed p (with_generation generation value))) (placed_generation n size generation value)
    ∙ option_then (λ p. with_placed p (with_generation generation value)) (with_generation generation)
    (λ p. with_placed p value) (λ p. refl)
    (placement n size value)

pub put_spare : (n : Option ℕ) (size spare : ℕ) (value : Store)
    → put_in n size (with_spare spare value) ≡ option_map (with_spare spare) (put_in n size value)
put_spare n size spare value =
    ap (option_map (λ p. with_placed p (with_spare spare value))) (placed_spare n size spare value)
    ∙ option_then (λ p. with_placed p (with_spare spare value)) (with_spare spare) (λ p. with_placed p value)
    (λ p. refl) (placement n size value)

-- A plan: where a blob goes, and the slot page that is added for it.
use Rattle.std.specs.Prelude.{◌≡◌, ℕ, ◌*◌, ◌<◌, ◌≤◌, List, true, Bool, Option, Some, None, is_none, IfSome}
use Rattle.rpm_pkgdb.specs.declared.slot.Slot.{Slot}
use Rattle.rpm_pkgdb.specs.declared.added_page.Move.{Move}
use Rattle.rpm_pkgdb.specs.declared.page_plan.Page.{Page}
use Rattle.rpm_pkgdb.specs.declared.plan.Plan.{Plan}
use Rattle.rpm_pkgdb.specs.Slots.{slot_at, is_used}
use Rattle.rpm_pkgdb.specs.Store.{Store, next_number}
use Rattle.rpm_pkgdb.specs.Blobs.{blocks_for}
use Rattle.rpm_pkgdb.specs.Plans.{FitsNowhere, AreAllUsed, IsTarget}
use Rattle.rpm_pkgdb.specs.Growing.{after_moves, AreMoves, NeedsPage, grown, next_end}
use Rattle.rpm_pkgdb.specs.inner.Ranges.{AreRangesOf}

-- the moves of a plan, where it adds a page
abbrev pub moves_of : Option Page → Option (List Move)
moves_of None = None
moves_of (Some page) = Some page.moves.items

-- what a plan of a page holds in memory: the slots after it, their ranges, and room for one more
abbrev pub HoldsPage : Store → Option Page → Type 0
HoldsPage value None = Unit {0}
HoldsPage value (Some page) =
    (page.slots.items ≡ (grown (Some page.moves.items) value).slots) × AreRangesOf page.used.ranges page.slots.items
    × (1 ≤ page.used.spare)

-- a plan that was made of these slots and this number field
pub record IsPlan (value : Store) (plan : Plan) : Type 0 where
  pub page : NeedsPage value plan.target.is_new (moves_of plan.page)
  pub held : HoldsPage value plan.page
  pub number : plan.target.is_new ≡ true → plan.target.number ≡ next_number value
  pub target : IsTarget (grown (moves_of plan.page) value) plan.target

-- a plan for this number, or for a new one, and this length
pub record IsFor (n : Option ℕ) (length : ℕ) (plan : Plan) : Type 0 where
  pub new : plan.target.is_new ≡ is_none n
  pub number : IfSome n (λ m. plan.target.number ≡ m)
  pub length_is : plan.target.length ≡ length

-- after some moves the first used range still begins before this block, and fits nowhere after it
pub record CantMove (slots : List Slot) (end : ℕ) : Type 0 where
  pub moves : List Move
  pub are : AreMoves slots end moves
  pub place : ℕ
  pub used : is_used (slot_at (after_moves slots moves) place) ≡ true
  pub before : (slot_at (after_moves slots moves) place).offset < end
  pub first : (j : ℕ) → is_used (slot_at (after_moves slots moves) j) ≡ true
      → (slot_at (after_moves slots moves) place).offset ≤ (slot_at (after_moves slots moves) j).offset
  pub nowhere : FitsNowhere (after_moves slots moves) (slot_at (after_moves slots moves) place).count end

-- a blob of this length, under a new number or one that is there, finds no place: it fits nowhere, or a range in the
-- way of its page doesn't
pub data IsStoreFull (value : Store) (is_new : Bool) (length : ℕ) : Type 0 where
  NoRoom : (moves : Option (List Move)) → NeedsPage value is_new moves
      → FitsNowhere (grown moves value).slots (blocks_for length) (256 * (grown moves value).pages)
      → IsStoreFull value is_new length
  NoMove : is_new ≡ true → AreAllUsed value.slots → CantMove value.slots (next_end value)
      → IsStoreFull value is_new length

-- Where a change finds room.
use Rattle.std.proofs.Common.{◌≡◌, ℕ, ◌+◌, List, length, Option, Some, None, Ok, Err, refl, sym, ap, ◌∙◌, subst}
use Rattle.std.specs.Prelude.{IfErr, IsSome, Result}
use Rattle.rpm_db.proofs.Vocabulary.{BadIndex, change_at, ChangeFault, DiskFault, without_number, IndexFull, IsOfIndex, LaterCause}
use Rattle.rpm_db.proofs.Vocabulary.{next_store, option_map, placement, placed_generation, Placement, placement_of, Plan, put_in}
use Rattle.rpm_db.proofs.Vocabulary.{raised_store, RoomCause, Store, StoreFull, with_placed, with_plan, with_spare}
use Rattle.rpm_db.specs.Room.{RoomIs}

some_is : {X : Type 0} (said : Option X) (x : X) → said ≡ Some x → IsSome said
some_is None x is = absurd cc
some_is (Some y) x is = refl

-- the index comes after a place
pub room_of_index : {X : Type 0} (said : Option X) (x : X) (fault : ChangeFault) → IsOfIndex fault → said ≡ Some x → RoomCause said fault
room_of_index said x StoreFull kind is = absurd kind
room_of_index said x (IndexFull needed) kind is = some_is said x is
room_of_index said x (BadIndex unit) kind is = some_is said x is
room_of_index said x others kind is = tt

some_mapped : {X Y : Type 0} (f : X → Y) (o : Option X) → IsSome o → IsSome (option_map f o)
some_mapped f None is = absurd cc
some_mapped f (Some x) is = refl

mapped : {X Y : Type 0} (f : X → Y) (o : Option X) (fault : ChangeFault) → RoomCause o fault → RoomCause (option_map f o) fault
mapped f o StoreFull room = ap (option_map f) room
mapped f o (IndexFull needed) room = some_mapped f o room
mapped f o (BadIndex unit) room = some_mapped f o room
mapped f o others room = tt

-- what a place says, the store with the blob says
pub room_put : (n : Option ℕ) (size : ℕ) (value : Store) (fault : ChangeFault) → RoomCause (placement n size value) fault
    → RoomCause (put_in n size (raised_store value)) fault
room_put n size value fault room =
    mapped (λ (p : Placement). with_placed p (raised_store value)) (placement n size (raised_store value)) fault
    (subst (λ (o : Option Placement). RoomCause o fault) (sym (placed_generation n size (value.generation + 1) value)) room)

-- a plan that was written
pub put_placed : (n : Option ℕ) (size : ℕ) (old mid new : Store) (plan : Plan) → placement n size old ≡ Some (placement_of plan)
    → mid ≡ with_spare mid.spare old → new ≡ with_spare new.spare (with_plan plan (raised_store mid))
    → put_in n size (raised_store old) ≡ Some (with_spare old.spare new)
put_placed n size old mid new plan said room ok =
    ap (option_map (λ (p : Placement). with_placed p (raised_store old))) (placed_generation n size (old.generation + 1) old ∙ said)
    ∙ ap Some (sym (ap (with_spare old.spare) (ok ∙ ap (λ (v : Store). with_spare new.spare (with_plan plan (raised_store v))) room)))

-- a store that was written, also where the disk fails then
pub room_written : {A : Type 0} (said : Option Store) (old new : Store) (result : Result A ChangeFault) → said ≡ Some (with_spare old.spare new)
    → IfErr result (λ e. e ≡ DiskFault) → RoomIs said old new result
room_written said old new (Ok done) is kind = is
room_written said old new (Err fault) is kind = subst (RoomCause said) (sym kind) tt

-- a header under a new number, or one that is there
pub put_next : (n : Option ℕ) (bytes : List ℕ) (value : Store) → put_in n (length bytes) (raised_store value) ≡ next_store (change_at n bytes) value
put_next None bytes value = refl
put_next (Some n) bytes value = refl

-- a number that is taken out leaves room
pub room_erased : (generation n : ℕ) (value : Store) (fault : ChangeFault) → LaterCause generation ⊥ fault
    → RoomCause (Some (without_number n value)) fault
room_erased generation n value StoreFull later = absurd later.1
room_erased generation n value (IndexFull needed) later = refl
room_erased generation n value (BadIndex unit) later = refl
room_erased generation n value others later = tt

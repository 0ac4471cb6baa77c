-- What one change is, or none: what refuses it.
use Rattle.std.proofs.Common.{◌≡◌, ◌≢◌, ℕ, ◌+◌, ◌^◌, ◌≤◌, Bool, true, false, List, [], ◌∷◌, Option, Some, None, Ok, Err}
use Rattle.std.proofs.Common.{refl, sym, ap, ◌∙◌, arith}
use Rattle.std.specs.Prelude.{IsSome, is_none, nat_lt, ◌==◌, ◌&&◌, if◌then◌else◌}
use Rattle.std.specs.Option.{option_and_then, option_or}
use Rattle.std.proofs.lemmas.Bool.Decides.{nat_tests}
use Rattle.rpm_outside.specs.Files.{Files}
use Rattle.rpm_pkgdb.specs.Reaches.{ReachesTo}
use Rattle.rpm_pkgdb.specs.Store.{Store}
use Rattle.rpm_pkgdb.specs.Written.{with_spare}
use Rattle.rpm_db.specs.declared.change_fault.ChangeFault.{ChangeFault}
use Rattle.rpm_db.specs.declared.change_fault.ChangeFault.TheVariants as fault
use Rattle.rpm_db.specs.Changes.{Change, Add, Put, Erase, next}
use Rattle.rpm_db.specs.Database.{Database, generation_of, next_package_number}
use Rattle.rpm_db.specs.Reaches.{Reaches}
use Rattle.rpm_db.specs.Refusals.{AddAnswer, PutAnswer, EraseCause, FullCause, IsRefusal}
use Rattle.rpm_db.specs.Room.{RoomBecomes, RoomCause, next_store}
use Rattle.rpm_db.specs.State.{State}
use Rattle.rpm_effects.specs.declared.tally.Tally.{Tally}
use Rattle.rpm_effects.specs.declared.tally.Halt.{Halt}
use Rattle.rpm_effects.specs.declared.tally.Halt.TheVariants as halt
use Rattle.rpm_effects.specs.Progress.{halt_of}
use Rattle.rpm_change.specs.Limits.{is_spent, limit_of_change, next_stores, is_limit}
use Rattle.rpm_db.specs.Reaches.{units_needed_after}
use Rattle.rpm_change.specs.Limits.{LimitsTurn}
use Rattle.rpm_change.specs.Singles.{IsOfChange, IsRefusing, IsSpent}
use Rattle.rpm_change.proofs.laws.ReachLaws.{reached_none, reached_one}
use Rattle.rpm_db.specs.Database.{store_of}

-- the index that a change leaves is too large
abbrev pub is_large : State → Change → Bool
is_large s change = nat_lt (2 ^ 28) (units_needed_after s change)

-- a number is left for a change that needs a new one
abbrev pub HasNumber : State → Change → Type 0
HasNumber s (Add bytes) = next s ≢ 4294967295
HasNumber s others = Unit {0}

-- ---- what refuses a change

not_last : (n : ℕ) → n ≢ 4294967295 → (n == 4294967295) ≡ false
not_last n other = grind (arith, nat_tests, other)

is_last : (n : ℕ) → n ≡ 4294967295 → (n == 4294967295) ≡ true
is_last n same = grind (arith, nat_tests, same)

is_left : (s : State) (c : Change) → HasNumber s c → is_spent s c ≡ false
is_left s (Add bytes) number = not_last (next s) number
is_left s (Put n bytes) number = refl
is_left s (Erase n) number = refl

some_place : (o : Option Store) → IsSome o → is_none o ≡ false
some_place None some = absurd cc
some_place (Some w) some = refl

-- no number is told to be spent, and no room, where it takes none
no_number : (s : State) (c : Change) → is_spent s c ≡ true → IsRefusing halt.NumbersSpent c
no_number s (Add bytes) is = tt
no_number s (Put n bytes) is = absurd cc
no_number s (Erase n) is = absurd cc

no_room : (c : Change) (v : Store) → next_store c v ≡ None → IsRefusing halt.StoreFull c
no_room (Add bytes) v none = tt
no_room (Put n bytes) v none = tt
no_room (Erase n) v none = absurd cc

-- a change is refused by the first of these that holds
abbrev chosen_limit : Bool → Bool → Bool → Bool → ℕ → Option Halt
chosen_limit spent last nowhere large units =
    if spent then Some halt.NumbersSpent
    else if last then Some halt.GenerationSpent
    else if nowhere then Some halt.StoreFull
    else if large then Some (halt.IndexFull units)
    else None

same_chosen : (a b c d a' b' c' d' : Bool) (n : ℕ) → a ≡ a' → b ≡ b' → c ≡ c' → d ≡ d'
    → chosen_limit a b c d n ≡ chosen_limit a' b' c' d' n
same_chosen a b c d a' b' c' d' n p q r t = rw (p, q, r, t) refl

fits_index : (i : Bool) (n : ℕ) → (i ≡ true → n ≤ 2 ^ 28) → (i && nat_lt (2 ^ 28) n) ≡ false
fits_index false n fits = refl
fits_index true n fits = let most = fits refl in grind (arith, nat_tests, most)

module _ (i : Bool) (s : State) (c : Change) (v : Store) where
  pub none_refuses : (w : Store) → HasNumber s c → v.generation ≢ 4294967295 → next_store c v ≡ Some w
      → (i ≡ true → units_needed_after s c ≤ 2 ^ 28)
      → limit_of_change i s v c ≡ None
  none_refuses w number unspent placed fits =
      same_chosen (is_spent s c) (v.generation == 4294967295) (is_none (next_store c v))
      (i && is_large s c) false false false false (units_needed_after s c)
      (is_left s c number) (not_last v.generation unspent) (ap is_none placed) (fits_index i (units_needed_after s c) fits)

  -- what a fault says of it
  abbrev pub SingleFaultIs : ChangeFault → Type 0
  SingleFaultIs fault.NumbersSpent = is_spent s c ≡ true
  SingleFaultIs fault.GenerationSpent = HasNumber s c × (v.generation ≡ 4294967295)
  SingleFaultIs fault.StoreFull = HasNumber s c × (v.generation ≢ 4294967295) × (next_store c v ≡ None)
  SingleFaultIs (fault.IndexFull told) =
      HasNumber s c × (v.generation ≢ 4294967295) × IsSome (next_store c v)
      × (i ≡ true → FullCause (units_needed_after s c) (fault.IndexFull told))
  SingleFaultIs (fault.BadIndex unit) = i ≡ true → ⊥
  SingleFaultIs others = Unit {0}

  fault_refuses : (f : ChangeFault) → SingleFaultIs f → is_limit i (halt_of f) ≡ true
      → limit_of_change i s v c ≡ Some (halt_of f)
  fault_refuses fault.NumbersSpent is limit =
      same_chosen (is_spent s c) (v.generation == 4294967295) (is_none (next_store c v)) (i && is_large s c) true _ _ _
      (units_needed_after s c) is refl refl refl
  fault_refuses fault.GenerationSpent is limit =
      same_chosen (is_spent s c) (v.generation == 4294967295) (is_none (next_store c v))
      (i && is_large s c) false true _ _ (units_needed_after s c)
      (is_left s c is.0) (is_last v.generation is.1) refl refl
  fault_refuses fault.StoreFull is limit =
      same_chosen (is_spent s c) (v.generation == 4294967295) (is_none (next_store c v))
      (i && is_large s c) false false true _ (units_needed_after s c)
      (is_left s c is.0) (not_last v.generation is.1) (ap is_none is.2) refl
  fault_refuses (fault.IndexFull told) is limit =
      let full = is.3 limit in
      let large : is_large s c ≡ true = (let more = full.0 in grind (arith, nat_tests, more)) in
      same_chosen (is_spent s c) (v.generation == 4294967295) (is_none (next_store c v))
      (i && is_large s c) false false false true (units_needed_after s c)
      (is_left s c is.0) (not_last v.generation is.1) (some_place (next_store c v) is.2) (rw (limit, large) refl)
      ∙ ap (λ (n : ℕ). Some (halt.IndexFull n)) (sym full.1)
  fault_refuses (fault.BadIndex unit) is limit = absurd (is limit)
  fault_refuses others is limit = absurd cc

  -- what it is never stopped for
  pub fault_kind : (f : ChangeFault) → SingleFaultIs f → IsOfChange c (halt_of f)
  fault_kind fault.NumbersSpent is = (λ same. cc, λ same. cc, λ same. cc, no_number s c is)
  fault_kind fault.StoreFull is = (λ same. cc, λ same. cc, λ same. cc, no_room c v is.2)
  fault_kind others is = (λ same. cc, λ same. cc, λ same. cc, tt)

  -- ---- a change

  pub one_made : {old new : Files} (w : Store) (tally : Tally) → HasNumber s c → v.generation ≢ 4294967295
      → RoomBecomes (next_store c v) v w
      → w.generation ≡ v.generation + 1 → (i ≡ true → units_needed_after s c ≤ 2 ^ 28) → ReachesTo w old.pkg new.pkg
      → (i ≡ true → Reaches s c old.idx new.idx) → LimitsTurn i s v w old new (c ∷ []) (Ok tally)
  one_made {old = old} {new = new} w tally number unspent placed raised fits pkg idx = record {
    first = ap (λ (o : Option Halt). option_or o None) (none_refuses (with_spare v.spare w) number unspent placed fits);
    stores = ap (option_and_then (next_stores [])) placed;
    raised = raised;
    reached = reached_one i s c v w old new placed pkg idx;
  }

  pub one_refused : {old new : Files} (w : Store) (f : ChangeFault) → SingleFaultIs f
      → LimitsTurn i s v w old new (c ∷ []) (Err (halt_of f))
  one_refused w f is = record {
    first = λ limit. ap (λ (o : Option Halt). option_or o None) (fault_refuses f is limit);
    stores = tt;
    raised = tt;
    reached = tt;
  }

-- a stop for none of these limits
pub other_stop : {old new : Files} (i : Bool) (s : State) (v w : Store) (changes : List Change) (h : Halt)
    → is_limit i h ≡ false
    → LimitsTurn i s v w old new changes (Err h)
other_stop i s v w changes h other = record { first = λ limit. absurd cc; stores = tt; raised = tt; reached = tt }

-- a fault of a call that makes it
pub add_fault : (i : Bool) (A : Type 0) (db : Database) (s : State) (bytes blob : List ℕ) (f : ChangeFault)
    → next s ≡ next_package_number db
    → AddAnswer {A = A} db bytes (Err f) → RoomCause (next_store (Add blob) (store_of db)) f
    → (i ≡ true → FullCause (units_needed_after s (Add blob)) f)
    → SingleFaultIs i s (Add blob) (store_of db) f
add_fault i A db s bytes blob fault.NumbersSpent law cause room full = is_last (next s) (law ∙ cause.1)
add_fault i A db s bytes blob fault.GenerationSpent law cause room full = (λ is. cause.0 (sym law ∙ is), cause.1.later)
add_fault i A db s bytes blob fault.StoreFull law cause room full =
    (λ is. cause.0 (sym law ∙ is), cause.1.later.0, room)
add_fault i A db s bytes blob (fault.IndexFull told) law cause room full =
    (λ is. cause.0 (sym law ∙ is), cause.1.later.0, room, full)
add_fault i A db s bytes blob (fault.BadIndex unit) law cause room full = full
add_fault i A db s bytes blob others law cause room full = tt

pub put_fault : (i : Bool) (A : Type 0) (db : Database) (s : State) (n : ℕ) (bytes blob : List ℕ) (f : ChangeFault)
    → PutAnswer {A = A} db n bytes (Err f)
    → RoomCause (next_store (Put n blob) (store_of db)) f → (i ≡ true → FullCause (units_needed_after s (Put n blob)) f)
    → SingleFaultIs i s (Put n blob) (store_of db) f
put_fault i A db s n bytes blob fault.NumbersSpent cause room full = absurd cause.1.later
put_fault i A db s n bytes blob fault.GenerationSpent cause room full = (tt, cause.1.later)
put_fault i A db s n bytes blob fault.StoreFull cause room full = (tt, cause.1.later.0, room)
put_fault i A db s n bytes blob (fault.IndexFull told) cause room full = (tt, cause.1.later.0, room, full)
put_fault i A db s n bytes blob (fault.BadIndex unit) cause room full = full
put_fault i A db s n bytes blob others cause room full = tt

pub erase_fault : (i : Bool) (db : Database) (s : State) (n : ℕ) (f : ChangeFault) → EraseCause db n f
    → (i ≡ true → FullCause (units_needed_after s (Erase n)) f)
    → SingleFaultIs i s (Erase n) (store_of db) f
erase_fault i db s n fault.NumbersSpent cause full = absurd cause.2
erase_fault i db s n fault.GenerationSpent cause full = (tt, cause.2)
erase_fault i db s n fault.StoreFull cause full = absurd cause.2.1
erase_fault i db s n (fault.IndexFull told) cause full = (tt, cause.2.0, refl, full)
erase_fault i db s n (fault.BadIndex unit) cause full = full
erase_fault i db s n others cause full = tt

-- what it says to be spent is
spent_number : (s : State) (c : Change) → is_spent s c ≡ true → next s ≡ 4294967295
spent_number s (Add bytes) is = grind (arith, nat_tests, is)
spent_number s (Put n bytes) is = absurd cc
spent_number s (Erase n) is = absurd cc

pub fault_spent : (i : Bool) (s : State) (c : Change) (db after kept : Database) (f : ChangeFault)
    → next s ≡ next_package_number db
    → next_package_number kept ≡ next_package_number db → generation_of kept ≡ generation_of db
    → (IsRefusal f → after ≡ kept)
    → SingleFaultIs i s c (store_of db) f
    → IsSpent after (halt_of f)
fault_spent i s c db after kept fault.NumbersSpent law number generation same is =
    ap next_package_number (same tt) ∙ number ∙ sym law ∙ spent_number s c is
fault_spent i s c db after kept fault.GenerationSpent law number generation same is =
    ap generation_of (same tt) ∙ generation ∙ is.1
fault_spent i s c db after kept others law number generation same is = tt

-- ---- no change

-- the store stays, and so do the files
pub none_made : {files : Files} (i : Bool) (s : State) (v w : Store) (tally : Tally) → w ≡ v
    → LimitsTurn i s v w files files [] (Ok tally)
none_made {files = files} i s v w tally same = record {
  first = refl;
  stores = ap (λ (u : Store). Some (with_spare v.spare u)) (sym same);
  raised = ap (λ (u : Store). u.generation) same ∙ omega arith;
  reached = reached_none i s v files;
}

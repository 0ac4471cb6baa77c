-- The limits of several changes: of some of them, and then of the others.
use Rattle.std.proofs.Common.{◌≡◌, ◌⊎◌, ◌^◌, ◌<◌, ◌≤◌, inl, inr, ℕ, Bool, true, false, List, [], ◌∷◌, ◌++◌, Option}
use Rattle.std.proofs.Common.{Some, None, Result, Ok, Err, refl, sym, ap, ◌∙◌, subst, length-append, arith}
use Rattle.std.specs.Prelude.{◌==◌, ◌&&◌, if◌then◌else◌, is_none, unwrap_or, nat_lt}
use Rattle.std.specs.Option.{option_map, option_or, option_and_then}
use Rattle.std.proofs.lemmas.Bool.Decides.{nat_tests}
use Rattle.rpm_hindex.specs.Sizes.{units_for}
use Rattle.rpm_outside.specs.Files.{Files}
use Rattle.rpm_pkgdb.specs.Store.{Store}
use Rattle.rpm_pkgdb.specs.Written.{with_spare}
use Rattle.rpm_db.specs.Changes.{Change, apply}
use Rattle.rpm_db.specs.Room.{next_store}
use Rattle.rpm_db.specs.Rows.{rows}
use Rattle.rpm_db.specs.State.{State}
use Rattle.rpm_db.proofs.laws.RoomLaws.{next_spare}
use Rattle.rpm_effects.specs.declared.tally.Tally.{Tally}
use Rattle.rpm_effects.specs.declared.tally.Halt.{Halt}
use Rattle.rpm_effects.specs.declared.tally.Halt.TheVariants as halt
use Rattle.rpm_change.specs.Limits.{is_spent, limit_of_change, limit_of_changes}
use Rattle.rpm_db.specs.Reaches.{units_needed_after}
use Rattle.rpm_change.specs.Limits.{limit_of_command, next_stores, is_limit, MeetsLimit, LimitsTurn}
use Rattle.rpm_effects.specs.Steps.{apply_all}
use Rattle.rpm_change.proofs.laws.ReachLaws.{reached_more}
use Rattle.rpm_change.proofs.laws.Single.{is_large, none_made}
use Rattle.rpm_change.proofs.laws.Stores.{stores_behind}

-- ---- room in memory is nothing to a limit

none_spare : (k : ℕ) (o : Option Store) → is_none (option_map (with_spare k) o) ≡ is_none o
none_spare k None = refl
none_spare k (Some w) = refl

unwrap_spare : (k : ℕ) (o : Option Store) (v : Store)
    → unwrap_or (option_map (with_spare k) o) (with_spare k v) ≡ with_spare k (unwrap_or o v)
unwrap_spare k None v = refl
unwrap_spare k (Some w) v = refl

refusal_spare : (i : Bool) (s : State) (k : ℕ) (v : Store) (c : Change)
    → limit_of_change i s (with_spare k v) c ≡ limit_of_change i s v c
refusal_spare i s k v c =
    ap (λ (nowhere : Bool). if is_spent s c then Some halt.NumbersSpent
    else if v.generation == 4294967295 then Some halt.GenerationSpent
    else if nowhere then Some halt.StoreFull else if i && is_large s c then Some (halt.IndexFull (units_needed_after s c))
    else None)
    (ap is_none (next_spare c k v) ∙ none_spare k (next_store c v))

first_spare : (i : Bool) (cs : List Change) (s : State) (k : ℕ) (v : Store)
    → limit_of_changes i s (with_spare k v) cs ≡ limit_of_changes i s v cs
first_spare i [] s k v = refl
first_spare i (c ∷ cs) s k v =
    ap (λ (o : Option Halt). option_or o (limit_of_changes i (apply c s)
    (unwrap_or (next_store c (with_spare k v)) (with_spare k v)) cs))
    (refusal_spare i s k v c)
    ∙ ap (λ (w : Store). option_or (limit_of_change i s v c) (limit_of_changes i (apply c s) w cs))
    (ap (λ (o : Option Store). unwrap_or o (with_spare k v)) (next_spare c k v) ∙ unwrap_spare k (next_store c v) v)
    ∙ ap (option_or (limit_of_change i s v c)) (first_spare i cs (apply c s) k (unwrap_or (next_store c v) v))

-- ---- some changes and then others

or_none : (a b : Option Halt) → option_or a b ≡ None → (a ≡ None) × (b ≡ None)
or_none None b is = (refl, is)
or_none (Some h) b is = absurd cc

or_some : (a b b' : Option Halt) (h : Halt) → (b ≡ Some h → b' ≡ Some h) → option_or a b ≡ Some h
    → option_or a b' ≡ Some h
or_some None b b' h more is = more is
or_some (Some g) b b' h more is = is

or_cases : (a b : Option Halt) (h : Halt) → option_or a b ≡ Some h → (a ≡ Some h) ⊎ ((a ≡ None) × (b ≡ Some h))
or_cases None b h is = inr (refl, is)
or_cases (Some g) b h is = inl is

and_then_some : (cs : List Change) (o : Option Store) (w : Store) → option_and_then (next_stores cs) o ≡ Some w
    → (u : Store) × ((o ≡ Some u) × (next_stores cs u ≡ Some w))
and_then_some cs None w is = absurd cc
and_then_some cs (Some u) w is = (u, (refl, is))

-- after changes of which none is refused the others go on
first_later : (i : Bool) (xs ys : List Change) (s : State) (v w : Store) → limit_of_changes i s v xs ≡ None
    → next_stores xs v ≡ Some w
    → limit_of_changes i s v (xs ++ ys) ≡ limit_of_changes i (apply_all xs s) w ys
first_later i [] ys s v w none stores =
    let same : v ≡ w = cc in ap (λ (u : Store). limit_of_changes i s u ys) same
first_later i (x ∷ xs) ys s v w none stores =
    let parts = or_none (limit_of_change i s v x)
    (limit_of_changes i (apply x s) (unwrap_or (next_store x v) v) xs) none in
    let mid = and_then_some xs (next_store x v) w stores in
    let here : unwrap_or (next_store x v) v ≡ mid.0 = ap (λ (o : Option Store). unwrap_or o v) mid.1.0 in
    ap (λ (o : Option Halt). option_or o (limit_of_changes i (apply x s) (unwrap_or (next_store x v) v) (xs ++ ys)))
    parts.0
    ∙ ap (λ (u : Store). limit_of_changes i (apply x s) u (xs ++ ys)) here
    ∙ first_later i xs ys (apply x s) mid.0 w (subst
    (λ (u : Store). limit_of_changes i (apply x s) u xs ≡ None) here parts.1) mid.1.1

-- one that is refused is refused whatever comes after it
first_before : (i : Bool) (xs ys : List Change) (s : State) (v : Store) (h : Halt) → limit_of_changes i s v xs ≡ Some h
    → limit_of_changes i s v (xs ++ ys) ≡ Some h
first_before i [] ys s v h is = absurd cc
first_before i (x ∷ xs) ys s v h is =
    let w = unwrap_or (next_store x v) v in
    or_some (limit_of_change i s v x) (limit_of_changes i (apply x s) w xs)
    (limit_of_changes i (apply x s) w (xs ++ ys)) h
    (first_before i xs ys (apply x s) w h) is

-- ---- numbers, generations and places

-- no limit is met where there are no changes
pub limits_none : {files : Files} (i : Bool) (s : State) (v : Store) (tally : Tally)
    → LimitsTurn i s v v files files [] (Ok tally)
limits_none i s v tally = none_made i s v v tally refl

-- the first of several changes were made
module _ {old mid : Files} (i : Bool) (xs ys : List Change) (s t : State) (v w x : Store) (tally : Tally)
    (is : t ≡ apply_all xs s)
    (first : LimitsTurn i s v w old mid xs (Ok tally)) where
  behind : (zs : List Change) → limit_of_changes i s v (xs ++ zs) ≡ limit_of_changes i t w zs
  behind zs = first_later i xs zs s v (with_spare v.spare w) first.first first.stores
      ∙ first_spare i zs (apply_all xs s) v.spare w ∙ ap (λ (p : State). limit_of_changes i p w zs) (sym is)

  -- and then the others
  pub limits_more : {new : Files} (more all : Tally) → LimitsTurn i t w x mid new ys (Ok more)
      → LimitsTurn i s v x old new (xs ++ ys) (Ok all)
  limits_more {new = new} more all next = record {
    first = behind ys ∙ next.first;
    stores = stores_behind xs ys v.spare v w first.stores ∙ ap (option_map (with_spare v.spare)) next.stores;
    raised = next.raised ∙ omega (arith, first.raised, length-append xs ys);
    reached = reached_more i xs ys s t v w old mid new is first.stores first.reached next.reached;
  }

  -- and then it was stopped among these others
  pub limits_stop : {new : Files} (zs : List Change) (h : Halt) → LimitsTurn i t w x mid new ys (Err h)
      → LimitsTurn i s v x old new (xs ++ (ys ++ zs))
      (Err h)
  limits_stop zs h p = record {
    first = λ limit. behind (ys ++ zs) ∙ first_before i ys zs t w h (p.first limit);
    stores = tt;
    raised = tt;
    reached = tt;
  }

-- what a command counts says nothing of its limits
pub limits_counted : {old new : Files} (i : Bool) (s : State) (v w : Store) (changes : List Change) (a b : Tally)
    → LimitsTurn i s v w old new changes (Ok a)
    → LimitsTurn i s v w old new changes (Ok b)
limits_counted i s v w changes a b l =
    record { first = l.first; stores = l.stores; raised = l.raised; reached = l.reached }

-- ---- a bad index refuses nothing

chosen_bad : (a b c d : Bool) (n unit : ℕ)
    → (if a then Some halt.NumbersSpent else if b then Some halt.GenerationSpent else if c then Some halt.StoreFull
    else if d then Some (halt.IndexFull n) else None) ≡ Some (halt.BadIndex unit) → ⊥
chosen_bad true b c d n unit is = cc
chosen_bad false true c d n unit is = cc
chosen_bad false false true d n unit is = cc
chosen_bad false false false true n unit is = cc
chosen_bad false false false false n unit is = cc

pub never_bad : (i : Bool) (cs : List Change) (s : State) (v : Store) (unit : ℕ)
    → limit_of_changes i s v cs ≡ Some (halt.BadIndex unit) → ⊥
never_bad i [] s v unit is = cc
never_bad i (c ∷ cs) s v unit is =
    let w = unwrap_or (next_store c v) v in
    elim (or_cases (limit_of_change i s v c) (limit_of_changes i (apply c s) w cs) (halt.BadIndex unit) is) [
      | inl here ↦ chosen_bad (is_spent s c) (v.generation == 4294967295) (is_none (next_store c v)) (i && is_large s c)
          (units_needed_after s c) unit here
      | inr both ↦ never_bad i cs (apply c s) w unit both.1
    ]

made_bad : (b : Bool) (n unit : ℕ) (o : Option Halt) → (o ≡ Some (halt.BadIndex unit) → ⊥)
    → (if b then Some (halt.IndexFull n) else o) ≡ Some (halt.BadIndex unit) → ⊥
made_bad true n unit o never is = cc
made_bad false n unit o never is = never is

pub never_bad_made : (makes : Bool) (cs : List Change) (s : State) (v : Store) (unit : ℕ)
    → limit_of_command makes s v cs ≡ Some (halt.BadIndex unit) → ⊥
never_bad_made makes cs s v unit is =
    made_bad (makes && nat_lt (2 ^ 28) (units_for (rows s.packages))) (units_for (rows s.packages)) unit
    (limit_of_changes true s v cs)
    (never_bad true cs s v unit) is

-- ---- an index that is made before

-- it has no room
pub makes_large : (s : State) (v : Store) (changes : List Change) (told : ℕ) → 2 ^ 28 < told
    → told ≡ units_for (rows s.packages)
    → limit_of_command true s v changes ≡ Some (halt.IndexFull told)
makes_large s v changes told more same =
    let large : nat_lt (2 ^ 28) (units_for (rows s.packages)) ≡ true = grind (arith, nat_tests, more, same) in
    ap (λ (b : Bool). if b then Some (halt.IndexFull (units_for (rows s.packages)))
    else limit_of_changes true s v changes) large
    ∙ ap (λ (n : ℕ). Some (halt.IndexFull n)) (sym same)

-- it has room, or isn't made
pub makes_small : (makes : Bool) (s : State) (v : Store) (changes : List Change)
    → (makes ≡ true → units_for (rows s.packages) ≤ 2 ^ 28)
    → limit_of_command makes s v changes ≡ limit_of_changes true s v changes
makes_small false s v changes fits = refl
makes_small true s v changes fits =
    let most = fits refl in
    let small : nat_lt (2 ^ 28) (units_for (rows s.packages)) ≡ false = grind (arith, nat_tests, most) in
    ap (λ (b : Bool). if b then Some (halt.IndexFull (units_for (rows s.packages)))
    else limit_of_changes true s v changes) small

-- ---- with the index or without

chosen_before : (a b c d : Bool) (n : ℕ) (h : Halt) → is_limit false h ≡ true
    → (if a then Some halt.NumbersSpent else if b then Some halt.GenerationSpent else if c then Some halt.StoreFull
    else if d then Some (halt.IndexFull n) else None) ≡ Some h
    → (if a then Some halt.NumbersSpent else if b then Some halt.GenerationSpent else if c then Some halt.StoreFull
    else if false then Some (halt.IndexFull n) else None) ≡ Some h
chosen_before true b c d n h limit is = is
chosen_before false true c d n h limit is = is
chosen_before false false true d n h limit is = is
chosen_before false false false true n h limit is =
    absurd (let same : h ≡ halt.IndexFull n = cc in let other : is_limit false h ≡ false = ap (is_limit false) same in
    cc)
chosen_before false false false false n h limit is = absurd cc

chosen_none : (a b c d : Bool) (n : ℕ)
    → (if a then Some halt.NumbersSpent else if b then Some halt.GenerationSpent else if c then Some halt.StoreFull
    else if d then Some (halt.IndexFull n) else None) ≡ None
    → (if a then Some halt.NumbersSpent else if b then Some halt.GenerationSpent else if c then Some halt.StoreFull
    else if false then Some (halt.IndexFull n) else None) ≡ None
chosen_none true b c d n is = absurd cc
chosen_none false true c d n is = absurd cc
chosen_none false false true d n is = absurd cc
chosen_none false false false true n is = absurd cc
chosen_none false false false false n is = is

unasked_none : (cs : List Change) (s : State) (v : Store) → limit_of_changes true s v cs ≡ None
    → limit_of_changes false s v cs ≡ None
unasked_none [] s v none = refl
unasked_none (c ∷ cs) s v none =
    let w = unwrap_or (next_store c v) v in
    let parts = or_none (limit_of_change true s v c) (limit_of_changes true (apply c s) w cs) none in
    ap (λ (o : Option Halt). option_or o (limit_of_changes false (apply c s) w cs))
    (chosen_none (is_spent s c) (v.generation == 4294967295) (is_none (next_store c v)) (is_large s c)
    (units_needed_after s c) parts.0)
    ∙ unasked_none cs (apply c s) w parts.1

unasked_some : (cs : List Change) (s : State) (v : Store) (h : Halt) → is_limit false h ≡ true
    → limit_of_changes true s v cs ≡ Some h
    → limit_of_changes false s v cs ≡ Some h
unasked_some [] s v h limit is = absurd cc
unasked_some (c ∷ cs) s v h limit is =
    let w = unwrap_or (next_store c v) v in
    elim (or_cases (limit_of_change true s v c) (limit_of_changes true (apply c s) w cs) h is) [
      | inl here ↦ ap (λ (o : Option Halt). option_or o (limit_of_changes false (apply c s) w cs))
          (chosen_before (is_spent s c) (v.generation == 4294967295) (is_none (next_store c v)) (is_large s c)
          (units_needed_after s c) h limit here)
      | inr both ↦ ap (λ (o : Option Halt). option_or o (limit_of_changes false (apply c s) w cs))
          (chosen_none (is_spent s c) (v.generation == 4294967295) (is_none (next_store c v)) (is_large s c)
          (units_needed_after s c) both.0)
          ∙ unasked_some cs (apply c s) w h limit both.1
    ]

limit_more : (h : Halt) → is_limit false h ≡ true → is_limit true h ≡ true
limit_more (halt.IndexFull told) is = refl
limit_more (halt.BadIndex unit) is = refl
limit_more others is = is

-- the limits after which the index comes are met as if it were not asked
pub stops_unasked : (s : State) (v : Store) (changes : List Change) (r : Result Tally Halt)
    → MeetsLimit true (limit_of_changes true s v changes) r
    → MeetsLimit false (limit_of_changes false s v changes) r
stops_unasked s v changes (Ok tally) none = unasked_none changes s v none
stops_unasked s v changes (Err h) stops = λ limit. unasked_some changes s v h limit (stops (limit_more h limit))

-- Changes that put no package under a new number of their own: then the field goes on above each number, and the numbers that are given rise.
use Rattle.std.proofs.Common.{◌≡◌, ℕ, ◌+◌, ◌≤◌, ◌<◌, List, [], ◌∷◌, ◌++◌, sym, subst, arith}
use Rattle.rpm_history.proofs.Vocabulary.{Add, AllByRecursion, apply, apply_all, Change, Erase, Good, IsAhead, next, numbers_given, Put, RiseWithin, State}
use Rattle.rpm_history.proofs.Greatest.{HeldBelow, held_below, greatest_below, insert_below, remove_below, later_below}

-- ---- one change

pub record Ahead (s : State) : Type 0 where
  pub some : 1 ≤ s.field
  pub below : HeldBelow s.packages s.field

pub ahead_of : (s : State) → IsAhead s → Ahead s
ahead_of s is = record { some = omega (arith, is); below = held_below s.packages s.field (omega (arith, is)) }

pub is_ahead : (s : State) → Ahead s → IsAhead s
is_ahead s ahead = let le = greatest_below s.packages s.field ahead.some ahead.below in omega (arith, le)

added_ahead : (bytes : List ℕ) (s : State) → Ahead s → Ahead (apply (Add bytes) s)
added_ahead bytes s ahead =
    let is : next s ≡ s.field = is_ahead s ahead in
    record {
      some = omega arith;
      below = insert_below s.packages (next s + 1) (next s) (Good bytes) (omega arith)
          (later_below s.packages s.field (next s + 1) (omega (arith, is)) ahead.below);
    }

put_ahead : (n : ℕ) (bytes : List ℕ) (s : State) → n < s.field → Ahead s → Ahead (apply (Put n bytes) s)
put_ahead n bytes s less ahead = record { some = ahead.some; below = insert_below s.packages s.field n (Good bytes) less ahead.below }

erased_ahead : (n : ℕ) (s : State) → Ahead s → Ahead (apply (Erase n) s)
erased_ahead n s ahead = record { some = ahead.some; below = remove_below s.packages s.field n ahead.below }

-- ---- several

-- what is put under a number of its own goes below f
abbrev pub Under : ℕ → Change → Type 0
Under f (Put n bytes) = n < f
Under f others = Unit {0}

-- below the field, at its turn
abbrev pub Fits : List Change → State → Type 0
Fits [] s = Unit {0}
Fits (c ∷ cs) s = Under s.field c × Fits cs (apply c s)

pub fits_then : (cs ds : List Change) (s : State) → Fits cs s → Fits ds (apply_all cs s) → Fits (cs ++ ds) s
fits_then [] ds s first second = second
fits_then (c ∷ cs) ds s first second = (first.0, fits_then cs ds (apply c s) first.1 second)

-- or below f, whatever the state
abbrev pub PutsUnder : ℕ → List Change → Type 0
PutsUnder f = AllByRecursion (Under f)

pub under_then : (f : ℕ) (cs ds : List Change) → PutsUnder f cs → PutsUnder f ds → PutsUnder f (cs ++ ds)
under_then f [] ds first second = second
under_then f (c ∷ cs) ds first second = (first.0, under_then f cs ds first.1 second)

under_later : (c : Change) (f g : ℕ) → f ≤ g → Under f c → Under g c
under_later (Put n bytes) f g le is = omega (arith, le, is)
under_later others f g le is = tt

-- the field never falls
field_later : (c : Change) (f : ℕ) (s : State) → f ≤ s.field → f ≤ (apply c s).field
field_later (Add bytes) f s le = omega (arith, le)
field_later others f s le = le

pub under_fits : (f : ℕ) (cs : List Change) (s : State) → f ≤ s.field → PutsUnder f cs → Fits cs s
under_fits f [] s le under = tt
under_fits f (c ∷ cs) s le under = (under_later c f s.field le under.0, under_fits f cs (apply c s) (field_later c f s le) under.1)

field_rises : (cs : List Change) (s : State) → Ahead s → Fits cs s
    → RiseWithin s.field (numbers_given cs s) (apply_all cs s).field × Ahead (apply_all cs s)
field_rises [] s ahead fits = (omega arith, ahead)
field_rises (Put n bytes ∷ cs) s ahead fits = field_rises cs (apply (Put n bytes) s) (put_ahead n bytes s fits.0 ahead) fits.1
field_rises (Add bytes ∷ cs) s ahead fits =
    let is : next s ≡ s.field = is_ahead s ahead in
    let rest = field_rises cs (apply (Add bytes) s) (added_ahead bytes s ahead) fits.1 in
    ((omega (arith, is), rest.0), rest.1)
field_rises (Erase n ∷ cs) s ahead fits = field_rises cs (apply (Erase n) s) (erased_ahead n s ahead) fits.1

pub changes_rise : (cs : List Change) (s : State) → IsAhead s → Fits cs s
    → RiseWithin (next s) (numbers_given cs s) (next (apply_all cs s)) × IsAhead (apply_all cs s)
changes_rise cs s is fits =
    let rises = field_rises cs s (ahead_of s is) fits in
    let behind : IsAhead (apply_all cs s) = is_ahead (apply_all cs s) rises.1 in (
      subst (λ (to : ℕ). RiseWithin (next s) (numbers_given cs s) to) (sym behind)
          (subst (λ (from : ℕ). RiseWithin from (numbers_given cs s) (apply_all cs s).field) (sym is) rises.0),
      behind,
    )

-- ---- numbers that rise

pub rise_from : (from at to : ℕ) (ns : List ℕ) → from ≤ at → RiseWithin at ns to → RiseWithin from ns to
rise_from from at to [] le rise = omega (arith, le, rise)
rise_from from at to (n ∷ ns) le rise = (omega (arith, le, rise.0), rise.1)

pub rise_then : (from at to : ℕ) (ns ms : List ℕ) → RiseWithin from ns at → RiseWithin at ms to → RiseWithin from (ns ++ ms) to
rise_then from at to [] ms first second = rise_from from at to ms first second
rise_then from at to (n ∷ ns) ms first second = (first.0, rise_then (n + 1) at to ns ms first.1 second)

pub rise_least : (from to : ℕ) (ns : List ℕ) → RiseWithin from ns to → from ≤ to
rise_least from to [] rise = rise
rise_least from to (n ∷ ns) rise = let rest = rise_least (n + 1) to ns rise.1 in omega (arith, rise.0, rest)

pub rise_later : (from at to : ℕ) (ns : List ℕ) → at ≤ to → RiseWithin from ns at → RiseWithin from ns to
rise_later from at to [] le rise = omega (arith, le, rise)
rise_later from at to (n ∷ ns) le rise = (rise.0, rise_later (n + 1) at to ns le rise.1)

-- What the exercise puts goes under a number that the field has passed.
use Rattle.std.proofs.Common.{◌≡◌, ℕ, ◌+◌, ◌-◌, ◌≤◌, Bool, true, false, ◌==◌, ◌%◌, zero, suc, List, [], ◌∷◌, ◌++◌, arith}
use Rattle.std.specs.Prelude.{if◌then◌else◌}
use Rattle.rpm_history.proofs.Vocabulary.{Add, apply, apply_all, Change, changes, Erase, flat_map, made_blob, next, Put, range_with_len, round_changes, State, round_turn}
use Rattle.rpm_exercise.specs.declared.rounds.Round.TheVariants as round
use Rattle.rpm_history.proofs.Ahead.{Ahead, Fits, PutsUnder, is_ahead, fits_then, under_then, under_fits}

if_under : (f : ℕ) (changes : List Change) (some : Bool) → PutsUnder f changes → PutsUnder f (if some then changes else [])
if_under f changes true under = under
if_under f changes false under = tt

module _ (f b : ℕ) where
  added_under : (k len : ℕ) → PutsUnder f (flat_map (round_turn round.Adding b) (range_with_len k len))
  added_under k zero = tt
  added_under k (suc len) = (tt, added_under (k + 1) len)

  put_under : (k len : ℕ) → b + k + len ≤ f → PutsUnder f (flat_map (round_turn round.Replacing b) (range_with_len k len))
  put_under k zero le = tt
  put_under k (suc len) le =
      under_then f (round_turn round.Replacing b k) (flat_map (round_turn round.Replacing b) (range_with_len (k + 1) len))
      (if_under f (Put (b + k) (made_blob k 2) ∷ []) (k % 3 == 0) (omega (arith, le), tt)) (put_under (k + 1) len (omega (arith, le)))

  erased_each : (k len : ℕ) → PutsUnder f (flat_map (round_turn round.Erasing b) (range_with_len k len))
  erased_each k zero = tt
  erased_each k (suc len) =
      under_then f (round_turn round.Erasing b k) (flat_map (round_turn round.Erasing b) (range_with_len (k + 1) len))
      (if_under f (Erase (b + k) ∷ []) (k % 5 == 0) (tt, tt)) (erased_each (k + 1) len)

added_field : (b k len : ℕ) (s : State) → s.field + len ≤ (apply_all (flat_map (round_turn round.Adding b) (range_with_len k len)) s).field
added_field b k zero s = omega arith
added_field b k (suc len) s =
    let rest = added_field b (k + 1) len (apply (Add (made_blob k 1)) s) in
    let more : s.field + 1 ≤ (apply (Add (made_blob k 1)) s).field = omega arith in
    omega (arith, rest, more)

pub exercise_fits : (n : ℕ) (s : State) → Ahead s → Fits (changes n s) s
unfolding changes
exercise_fits n s ahead =
    let b = next s - 1 in
    let adds = round_changes round.Adding b n in
    let t = apply_all adds s in
    let is : next s ≡ s.field = is_ahead s ahead in
    let high : s.field + n ≤ t.field = added_field b 1 n s in
    let some : 1 ≤ s.field = ahead.some in
    fits_then adds (round_changes round.Replacing b n ++ round_changes round.Erasing b n) s
    (under_fits 0 adds s (omega arith) (added_under 0 b 1 n))
    (under_fits t.field (round_changes round.Replacing b n ++ round_changes round.Erasing b n) t (omega arith)
    (under_then t.field (round_changes round.Replacing b n) (round_changes round.Erasing b n)
    (put_under t.field b 1 n (omega (arith, is, high, some))) (erased_each t.field b 1 n)))

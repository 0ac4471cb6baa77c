-- A text that is written a piece at a time.
use Rattle.std.specs.Prelude.{◌≡◌, ℕ, ◌≤◌, List, [], ◌++◌, Result, Ok, Err, IsErr}
use Rattle.std.proofs.Common.{refl, sym, ap, ◌∙◌, subst, append_assoc, arith}
use Rattle.std.proofs.lemmas.List.{append-nil}
use Rattle.rpm_outside.specs.declared.sink.Sink as sink
use Rattle.rpm_outside.specs.SinkFrame.{Writes}
use Rattle.rpm_outside.specs.Sinks.{GainIs, GainedPart}
use Rattle.rpm_outside.specs.laws.Taken.{gained_none, gained_more, then_part, part_then}

-- all is written but for what is left
pub record Upto {S : Type 0} (s : sink.Ghosts S) (all left : List ℕ) (old now : S) : Type 0 where
  pub front : List ℕ
  pub gained : GainIs s.tells (s.taken old) (s.taken now) front
  pub whole : front ++ left ≡ all
  pub later : s.faults old ≤ s.faults now
  pub goes_on : s.follows old now

module _ {S : Type 0} {s : sink.Ghosts S} where
  pub upto_start : {all left : List ℕ} {x : S} → ((x : S) → s.follows x x) → left ≡ all → Upto s all left x x
  upto_start {x = x} same e = record {
    front = [];
    gained = gained_none s.tells (s.taken x);
    whole = e;
    later = omega arith;
    goes_on = same x;
  }

  pub upto_done : {T E : Type 0} {all left : List ℕ} {old new : S} {t : T} → left ≡ [] → Upto s all left old new
      → Writes s {T = T} {E = E} old new all (Ok t)
  upto_done {old = old} {new = new} e u = record {
    ok = subst (GainIs s.tells (s.taken old) (s.taken new))
        (sym (append-nil u.front) ∙ sym (ap (λ (y : List ℕ). u.front ++ y) e) ∙ u.whole) u.gained;
    err = tt;
    cause = record { later = u.later; failed = tt };
    goes_on = u.goes_on;
  }

  -- the first of two pieces fails
  pub first_stops : {T U E F : Type 0} {all x : List ℕ} {old new : S} {e : E} (y : List ℕ) (r : Result U F) → IsErr r
      → x ++ y ≡ all
      → Writes s {T = T} {E = E} old new x (Err e) → Writes s old new all r
  first_stops y (Ok t) fails eq w = absurd cc
  first_stops {x = x} {old = old} {new = new} y (Err f) fails eq w = record {
    ok = tt;
    err = subst (GainedPart s.tells (s.taken old) (s.taken new)) eq
        (part_then s.tells (s.taken old) (s.taken new) x y w.err);
    cause = record { later = w.cause.later; failed = w.cause.failed };
    goes_on = w.goes_on;
  }

  module _ (then : (a b c : S) → s.follows a b → s.follows b c → s.follows a c) where
    -- what is left begins with x, and x is written
    pub upto_more : {T E : Type 0} {all left x rest : List ℕ} {old mid new : S} {t : T} → left ≡ x ++ rest
        → Upto s all left
        old mid → Writes s {T = T} {E = E} mid new x (Ok t) → Upto s all rest old new
    upto_more {x = x} {rest = rest} {old = old} {mid = mid} {new = new} e u w = record {
      front = u.front ++ x;
      gained = gained_more s.tells (s.taken old) (s.taken mid) (s.taken new) u.front x u.gained w.ok;
      whole = append_assoc u.front x rest ∙ sym (ap (λ (y : List ℕ). u.front ++ y) e) ∙ u.whole;
      later = omega (arith, u.later, w.cause.later);
      goes_on = then old mid new u.goes_on w.goes_on;
    }

    -- or the sink failed
    pub upto_stop : {T U E F : Type 0} {all left x : List ℕ} {old mid new : S} {e : E} (rest : List ℕ) (r : Result U F)
        → IsErr r → left ≡ x ++ rest
        → Upto s all left old mid → Writes s {T = T} {E = E} mid new x (Err e) → Writes s old new all r
    upto_stop rest (Ok t) fails eq u w = absurd cc
    upto_stop {x = x} {old = old} {mid = mid} {new = new} rest (Err f) fails eq u w = record {
      ok = tt;
      err =
          subst (GainedPart s.tells (s.taken old) (s.taken new)) (sym (ap (λ (y : List ℕ). u.front ++ y) eq) ∙ u.whole)
          (then_part s.tells (s.taken old) (s.taken mid) (s.taken new) u.front (x ++ rest) u.gained
          (part_then s.tells (s.taken mid) (s.taken new) x rest w.err));
      cause =
          record {
            later = omega (arith, u.later, w.cause.later);
            failed = omega
                (arith, u.later, w.cause.later, w.cause.failed);
          };
      goes_on = then old mid new u.goes_on w.goes_on;
    }

    -- the last call writes what is left
    last : {T E : Type 0} {all left : List ℕ} {old mid new : S} (r : Result T E) → Upto s all left old mid
        → Writes s mid new left r → Writes s old new all r
    last {left = left} (Ok t) u w = upto_done refl (upto_more (sym (append-nil left)) u w)
    last {left = left} (Err e) u w = upto_stop [] (Err e) refl (sym (append-nil left)) u w

    pub upto_last : {T E : Type 0} {all left : List ℕ} {old mid new : S} {r : Result T E} → Upto s all left old mid
        → Writes s mid new left r → Writes s old new all r
    upto_last {r = r} u w = last r u w

    -- two pieces, one after the other
    pub both : {T U E F : Type 0} {all x y : List ℕ} {old mid new : S} {t : T} {r : Result U E}
        → ((x : S) → s.follows x x) → x ++ y ≡ all
        → Writes s {T = T} {E = F} old mid x (Ok t) → Writes s mid new y r → Writes s old new all r
    both same e p q = upto_last (upto_more (sym e) (upto_start same refl) p) q

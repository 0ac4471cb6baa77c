-- Faults that an object counts, over several calls.
use Rattle.std.proofs.Common.{◌≡◌, ◌∙◌, ℕ, ◌+◌, ◌≤◌, true, false, sym, ap, arith}
use Rattle.rpm_outside.specs.declared.sink.Sink as sink
use Rattle.rpm_effects.specs.Hands.{EndHands}
use Rattle.rpm_tool.proofs.Vocabulary.{Buffered, HasCauseAt, inner, is_of_streams, Rose, Why}

pub le_self : (n : ℕ) → n ≤ n
le_self n = omega arith

-- what never comes has no cause
pub never_cause : {What : Type 0} (n : ℕ) → (What → ⊥) → HasCauseAt What n n
never_cause n never = record { later = le_self n; rose = λ is. absurd (never is) }

-- what comes only where a later call has its cause
pub cause_then : {What : Type 0} (x y z : ℕ) → x ≤ y → HasCauseAt What y z → HasCauseAt What x z
cause_then x y z le cause = record {
  later = omega (arith, le, cause.later);
  rose = λ is. (let rose : Rose y z = cause.rose is in omega (arith, le, rose));
}

-- where nothing of a file was read
pub le_more : (n m k : ℕ) → n ≤ m + 0 → n ≤ m + k
le_more n m k le = omega (arith, le)

pub le_first : (n m k l : ℕ) → n ≤ m + k → n ≤ m + (k + l)
le_first n m k l le = omega (arith, le)

pub le_none : (n m : ℕ) → n ≤ m + 0 → n ≤ m
le_none n m le = omega (arith, le)

-- a command that made no call on the sinks
pub hands_none : {O E : Type 0} (o : sink.Ghosts O) (e : sink.Ghosts E) → ((x : O) → o.follows x x) → ((x : E) → e.follows x x) → (w : Why)
    → is_of_streams w ≡ false → (out : Buffered O) (err : Buffered E) → EndHands o e w out err out err
hands_none o e out_same err_same w none out err = record {
  out = record {
    cause = never_cause (o.faults (inner out)) (λ is. let both : true ≡ false = sym (ap is_of_streams is) ∙ none in absurd cc);
    goes_on = out_same (inner out);
  };
  err = record {
    cause = never_cause (e.faults (inner err)) (λ is. let both : true ≡ false = sym (ap is_of_streams is) ∙ none in absurd cc);
    goes_on = err_same (inner err);
  };
}

-- What a sink behind a buffer took, where nothing was held before.
use Rattle.std.specs.Prelude.{◌≡◌, ℕ, ◌≤◌, Bool, true, false, IsTrue, List, [], ◌++◌, length, take, drop, Result, Ok}
use Rattle.std.specs.Prelude.{Err, IsErr}
use Rattle.std.proofs.Common.{refl, sym, ap, ◌∙◌, subst, append_assoc, arith, length-append}
use Rattle.std.proofs.Math.Seq.{take-append_seam}
use Rattle.std.proofs.lemmas.List.{append-nil, append_cancel_left, take-append-drop}
use Rattle.rpm_outside.specs.declared.sink.Sink as sink
use Rattle.rpm_outside.specs.declared.buffered.Buffered.{Buffered}
use Rattle.rpm_outside.specs.SinkFrame.{Writes}
use Rattle.rpm_outside.specs.Sinks.{GainIs, GainedPart, IsPrefix}
use Rattle.rpm_outside.specs.Buffered.{inner, held_bytes, all_taken, buffer_sink, Flushes}

-- what a sink gained is the first of the bytes, where the rest of them is held
front : (a b held bytes : List ℕ) → IsPrefix a b → b ++ held ≡ a ++ bytes → (n : ℕ) × (n ≤ length bytes)
    × (b ≡ a ++ take n bytes)
front a b held bytes (x, grew) whole =
    let cut : x ++ held ≡ bytes = append_cancel_left a (x ++ held) bytes
    (sym (append_assoc a x held) ∙ ap (λ (y : List ℕ). y ++ held) (sym grew) ∙ whole) in
    let within : length x ≤ length (x ++ held) = omega (arith, length-append x held) in (
      length x,
      subst (λ (y : List ℕ). length x ≤ length y) cut within,
      subst (λ (y : List ℕ). b ≡ a ++ take (length x) y) cut
          (subst (λ (y : List ℕ). b ≡ a ++ y) (sym (take-append_seam x held)) grew),
    )

front_part : (tells : Bool) (a b held bytes : List ℕ) → (IsTrue tells → IsPrefix a b)
    → (IsTrue tells → b ++ held ≡ a ++ bytes) → GainedPart tells a b bytes
front_part true a b held bytes grew whole =
    let f = front a b held bytes (grew refl) (whole refl) in
    (f.0, f.1, λ told. f.2)
front_part false a b held bytes grew whole = (0, omega arith, λ told. cc)

-- bytes that were written to a buffer that held nothing reached the sink, but for those that are held
reached : (tells : Bool) (a before b held bytes : List ℕ) → before ≡ [] → (IsTrue tells → IsPrefix a b)
    → (IsTrue tells → b ++ held ≡ (a ++ before)
    ++ bytes) → GainedPart tells a b bytes
reached tells a before b held bytes nothing grew whole =
    front_part tells a b held bytes grew (λ told. whole told ∙ ap (λ (y : List ℕ). (a ++ y) ++ bytes) nothing
    ∙ ap (λ (y : List ℕ). y ++ bytes) (append-nil a))

-- what a flush left, and what it gave the sink
pub handed : (tells : Bool) (a b out held holds : List ℕ) → GainIs tells a b out → out ++ holds ≡ held → IsTrue tells
    → b ++ holds ≡ a ++ held
handed tells a b out held holds g whole told =
    ap (λ (y : List ℕ). y ++ holds) (g told) ∙ append_assoc a out holds ∙ ap (λ (y : List ℕ). a ++ y) whole

module _ {O : Type 0} {o : sink.Ghosts O} (grows : (a b : O) → o.follows a b → IsTrue o.tells
    → IsPrefix (o.taken a) (o.taken b)) where
  -- a call that failed
  pub stopped : {T U E F : Type 0} {bytes : List ℕ} {old new : Buffered O} {e : E} (r : Result U F) → IsErr r
      → held_bytes old ≡ []
      → Writes (buffer_sink o) {T = T} {E = E} old new bytes (Err e) → Writes o (inner old) (inner new) bytes r
  stopped (Ok u) fails nothing w = absurd cc
  stopped {bytes = bytes} {old = old} {new = new} (Err f) fails nothing w = record {
    ok = tt;
    err = reached o.tells (o.taken (inner old)) (held_bytes old) (o.taken (inner new))
        (held_bytes new ++ drop w.err.0 bytes) bytes nothing
        (grows (inner old) (inner new) w.goes_on.0) (λ told.
        sym (append_assoc (o.taken (inner new)) (held_bytes new) (drop w.err.0 bytes))
        ∙ ap (λ (y : List ℕ). y ++ drop w.err.0 bytes) (w.err.2 told)
        ∙ append_assoc (all_taken o old) (take w.err.0 bytes) (drop w.err.0 bytes)
        ∙ ap (λ (y : List ℕ). all_taken o old ++ y)
        (take-append-drop w.err.0 bytes));
    cause = record { later = w.cause.later; failed = w.cause.failed };
    goes_on = w.goes_on.0;
  }

  -- a flush after one that didn't
  pub flushed : {T U E F : Type 0} {bytes : List ℕ} {old mid : Buffered O} {t : T}
      (then : (a b c : O) → o.follows a b → o.follows b c → o.follows a c)
      (new : Buffered O) (r : Result U F) → held_bytes old ≡ []
      → Writes (buffer_sink o) {T = T} {E = E} old mid bytes (Ok t) → Flushes o mid new r
      → Writes o (inner old) (inner new) bytes r
  flushed {bytes = bytes} {old = old} {mid = mid} then new (Ok u) nothing w f = record {
    ok = λ told.
        sym (append-nil (o.taken (inner new))) ∙ ap (λ (y : List ℕ). o.taken (inner new) ++ y) (sym f.none)
        ∙ handed o.tells (o.taken (inner mid))
        (o.taken (inner new)) f.out (held_bytes mid) (held_bytes new) f.gained f.whole told ∙ w.ok told
        ∙ ap (λ (y : List ℕ). (o.taken (inner old) ++ y) ++ bytes) nothing
        ∙ ap (λ (y : List ℕ). y ++ bytes) (append-nil (o.taken (inner old)));
    err = tt;
    cause = record { later = omega (arith, w.cause.later, f.cause.later); failed = tt };
    goes_on = then (inner old) (inner mid) (inner new) w.goes_on.0 f.goes_on;
  }
  flushed {bytes = bytes} {old = old} {mid = mid} then new (Err e) nothing w f = record {
    ok = tt;
    err = reached o.tells (o.taken (inner old)) (held_bytes old) (o.taken (inner new)) (held_bytes new) bytes nothing
        (grows (inner old) (inner new) (then (inner old) (inner mid) (inner new) w.goes_on.0 f.goes_on))
        (λ told. handed o.tells (o.taken (inner mid)) (o.taken (inner new)) f.out (held_bytes mid)
        (held_bytes new) f.gained f.whole told ∙ w.ok told);
    cause =
        record {
          later = omega (arith, w.cause.later, f.cause.later);
          failed = omega
              (arith, w.cause.later, f.cause.failed);
        };
    goes_on = then (inner old) (inner mid) (inner new) w.goes_on.0 f.goes_on;
  }

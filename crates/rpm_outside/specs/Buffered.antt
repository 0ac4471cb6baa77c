-- What a sink with a buffer took, and what a flush does.
use Rattle.std.specs.Prelude.{◌≡◌, ℕ, IsTrue, List, [], ◌++◌, drop, Result, OnOk}
use Rattle.rpm_outside.specs.declared.sink.Sink as sink
use Rattle.rpm_outside.specs.declared.buffered.Buffered.{Buffered}
use Rattle.rpm_outside.specs.Causes.{HasCause}
use Rattle.rpm_outside.specs.Sinks.{GainIs, IsPrefix}

-- the sink that stands behind a buffer
abbrev pub inner : {O : Type 0} → Buffered O → O
inner b = b.sink

-- the bytes that a buffer holds and hasn't handed on
abbrev pub held_bytes : {O : Type 0} → Buffered O → List ℕ
held_bytes b = drop b.gone b.held.items

module _ {S : Type 0} (s : sink.Ghosts S) where
  -- what the sink behind took, then what the buffer holds
  abbrev pub all_taken : Buffered S → List ℕ
  all_taken b = s.taken (inner b) ++ held_bytes b

  -- what the sink behind a buffer keeps is kept, and nothing that was held is lost
  abbrev pub KeepsHeld : Buffered S → Buffered S → Type 0
  KeepsHeld old new = s.follows (inner old) (inner new) × (IsTrue s.tells → IsPrefix (all_taken old) (all_taken new))

  -- the sink behind a buffer took the first bytes that the buffer held, and the buffer holds the others: none, where
  -- the call didn't fail
  pub record Flushes {T E : Type 0} (old new : Buffered S) (result : Result T E) : Type 0 where
    pub out : List ℕ
    pub gained : GainIs s.tells (s.taken (inner old)) (s.taken (inner new)) out
    pub whole : out ++ held_bytes new ≡ held_bytes old
    pub none : OnOk result (held_bytes new ≡ [])
    pub cause : HasCause (s.faults (inner old)) (s.faults (inner new)) result
    pub goes_on : s.follows (inner old) (inner new)

  -- a buffer is a sink, by what the sink behind it says
  abbrev pub buffer_sink : sink.Ghosts (Buffered S)
  buffer_sink =
      record {
        tells = s.tells;
        taken = all_taken;
        faults = λ b. s.faults (inner b);
        follows = KeepsHeld;
        outcome = λ old failed new. Unit {0};
      }

-- What stands around a call that takes a sink: the sink by the ghost members of its kind, which a clause names
-- `O.Sink`.
use Rattle.std.specs.Prelude.{ℕ, List, Result, OnErr, OnOk}
use Rattle.rpm_outside.specs.declared.sink.Sink as sink
use Rattle.rpm_outside.specs.Causes.{HasCause}
use Rattle.rpm_outside.specs.Sinks.{GainIs, GainedPart}

module _ {S : Type 0} (s : sink.Ghosts S) where
  -- a call that writes these bytes to a sink, or fails after the first of them
  pub record Writes {T E : Type 0} (old new : S) (bytes : List ℕ) (result : Result T E) : Type 0 where
    pub ok : OnOk result (GainIs s.tells (s.taken old) (s.taken new) bytes)
    pub err : OnErr result (GainedPart s.tells (s.taken old) (s.taken new) bytes)
    pub cause : HasCause (s.faults old) (s.faults new) result
    pub goes_on : s.follows old new

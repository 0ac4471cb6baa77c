-- What the sink in memory holds, and when it fails.
use Rattle.std.specs.Prelude.{◌≡◌, ◌⊎◌, ℕ, ◌+◌, ◌<◌, ◌≤◌, max, Bool, true, List, length, Option, IfSome, IsSomeAnd}
use Rattle.rpm_outside.specs.declared.mem_sink.MemSink.{MemSink}
use Rattle.rpm_outside.specs.Causes.{Rose, CountsFailures}

-- the bytes that the sink took
abbrev pub sink_bytes : MemSink → List ℕ
sink_bytes sink = sink.bytes.items

-- after how many bytes the sink is to fail
abbrev pub sink_limit : MemSink → Option ℕ
sink_limit sink = sink.limit

-- how many bytes a write takes at most
abbrev pub sink_most : MemSink → ℕ
sink_most sink = sink.more + 1

-- how often a call failed
abbrev pub sink_faults : MemSink → ℕ
sink_faults sink = sink.faults

-- how often memory was wanting
abbrev pub sink_starved : MemSink → ℕ
sink_starved sink = sink.starved

-- a sink is full when it took as many bytes as it may take
abbrev pub IsSinkFull : MemSink → Type 0
IsSinkFull sink = IsSomeAnd (sink_limit sink) (λ most. most ≤ length (sink_bytes sink))

-- the sink holds no more than it may, or than it held
abbrev pub HoldsNoMore : MemSink → MemSink → Type 0
HoldsNoMore old new = IfSome (sink_limit old) (λ most. length (sink_bytes new) ≤ max most (length (sink_bytes old)))

-- a write fails where the sink is full, or where memory was wanting, and nowhere else; none takes more than so many
-- bytes
pub record FailsWhereFull (old : MemSink) (failed : Bool) (new : MemSink) : Type 0 where
  pub full : IsSinkFull old → failed ≡ true
  pub faults : CountsFailures failed (sink_faults old) (sink_faults new)
  pub later : sink_starved old ≤ sink_starved new
  pub by_one : sink_starved new ≤ sink_starved old + 1
  pub starved : sink_starved old < sink_starved new → failed ≡ true
  pub cause : failed ≡ true → IsSinkFull old ⊎ Rose (sink_starved old) (sink_starved new)
  pub limit : sink_limit new ≡ sink_limit old
  pub most : sink_most new ≡ sink_most old
  pub few : length (sink_bytes new) ≤ length (sink_bytes old) + sink_most old
  pub bounded : HoldsNoMore old new

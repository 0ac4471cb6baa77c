use Rattle.std.proofs.Common.{◌-◌, ◌+◌, arith, refl}
use native.Mathlib.Numerals.{unary_clauses}
use Rattle.rpm_header.proofs.Texts.{ended_first, ended_rest}
use Rattle.rpm_header.proofs.Stored.{past_none, past_more, past_all, past_within}
use Rattle.rpm_header.proofs.bytes.texts_end.Goals as goal

pub next_text-requires : goal.next_text-requires
next_text-requires c = ended_first (c.args.count - c.loop.counter) c.loop.rest.now (omega arith) c.loop.invariant.ended

pub loop-init : goal.loop-init
loop-init c = record { ended = simp unary_clauses c.requires; past = past_none c.args.count (c.args.count - 0) c.args.bytes.now (omega arith) }

pub loop-preserved : goal.loop-preserved
loop-preserved c = record {
  ended =
      ended_rest (c.args.count - c.loop.counter) (c.args.count - (c.loop.counter + 1)) c.loop.rest.now _ _
      (omega arith) c.next_text.ensures c.loop.invariant.ended;
  past =
      past_more c.args.count (c.args.count - c.loop.counter) (c.args.count - (c.loop.counter + 1)) c.args.bytes.now c.loop.rest.now _ _
      (omega arith) c.next_text.ensures c.loop.invariant.past;
}

pub overflow_sub-result : goal.overflow_sub-result
overflow_sub-result c = past_within c.args.count (c.args.count - c.loop.counter) c.args.bytes.now c.loop.rest.now c.loop.invariant.past

pub returns-clause-value : goal.returns-clause-value
returns-clause-value c = past_all c.args.count (c.args.count - c.loop.counter) _ c.args.bytes.now c.loop.rest.now (omega arith) refl c.loop.invariant.past

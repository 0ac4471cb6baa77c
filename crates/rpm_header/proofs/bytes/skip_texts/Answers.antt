use Rattle.std.proofs.Common.{◌-◌, ◌+◌, arith, sym, ◌∙◌}
use Rattle.rpm_header.proofs.Texts.{ended_first, ended_rest}
use Rattle.rpm_header.proofs.Skipped.{skip_split, skip_none}
use Rattle.rpm_header.proofs.bytes.skip_texts.Goals as goal

pub next_text-requires : goal.next_text-requires
next_text-requires c = ended_first (c.args.count - c.loop.counter) c.loop.rest.now (omega arith) c.loop.invariant.ended

pub loop-preserved : goal.loop-preserved
loop-preserved c = record {
  ended =
      ended_rest (c.args.count - c.loop.counter) (c.args.count - (c.loop.counter + 1)) c.loop.rest.now _ _
      (omega arith) c.next_text.ensures c.loop.invariant.ended;
  same =
      sym (skip_split (c.args.count - c.loop.counter) (c.args.count - (c.loop.counter + 1)) c.loop.rest.now _ _ (omega arith) c.next_text.ensures)
      ∙ c.loop.invariant.same;
}

pub returns : goal.returns
returns c = sym (skip_none (c.args.count - c.loop.counter) c.loop.rest.now (omega arith)) ∙ c.loop.invariant.same

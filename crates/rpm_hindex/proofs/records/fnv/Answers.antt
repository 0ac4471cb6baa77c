use Rattle.std.proofs.Common.{sym, ◌∙◌}
use Rattle.std.proofs.lemmas.List.{at_drop_more, at_drop_all}
use Rattle.rpm_hindex.proofs.Vocabulary.{fnv}
use Rattle.rpm_hindex.proofs.records.fnv.Goals as goal

pub loop-b-preserved : goal.loop-b-preserved
loop-b-preserved c = sym (at_drop_more (fnv c.loop-b.hash) c.args.bytes.now c.loop-b.b-index 0 c.loop-b-test.true) ∙ c.loop-b.invariant

pub returns : goal.returns
returns c = sym (at_drop_all (fnv c.loop-b.hash) c.args.bytes.now c.loop-b.b-index c.loop-b-test.false) ∙ c.loop-b.invariant

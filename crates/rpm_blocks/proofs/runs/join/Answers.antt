use Rattle.std.proofs.Common.{List, sym, subst}
use Rattle.rpm_blocks.proofs.Vocabulary.{IsFree, Range}
use Rattle.rpm_blocks.proofs.runs.join.Goals as goal

pub join_between-requires-clause-free : goal.join_between-requires-clause-free
join_between-requires-clause-free c =
    subst (λ (l : List Range). IsFree l c.args.range) (sym (c.extend_last.ensures.not c.if-not-extend_last.true)) c.requires.free

use Rattle.std.proofs.Common.{sym, ◌∙◌}
use Rattle.rpm_tags.proofs.Beside.{counts_then}
use Rattle.rpm_tags.proofs.wanted.counts.Goals as goal

pub returns-then-eq-clause-value : goal.returns-then-eq-clause-value
returns-then-eq-clause-value c =
    c.eq-then-eq.ensures
    ∙ sym (counts_then c.args.front.now c.args.base.now c.dir.result.now c.args.text.now c.args.directories.now c.args.index c.requires.cut
    c.dir.ensures.value c.if-eq.ensures)

use Rattle.std.proofs.Common.{◌≡◌, true, false, sym, ◌∙◌}
use Rattle.rpm_tags.proofs.Vocabulary.{counts_for, file_name}
use Rattle.rpm_tags.proofs.Paths.{next_index, next_left}
use Rattle.rpm_tags.proofs.Beside.{next_counts, none_counts}
use Rattle.rpm_tags.proofs.wanted.is_any_at.Goals as goal

pub counts-requires-clause-below : goal.counts-requires-clause-below
counts-requires-clause-below c =
    rw c.loop-text.invariant.dirs (next_index c.args.directories.now c.args.indexes.now c.loop-text.left c.loop-text.place c.number-index.result
    c.loop-text.invariant.left c.number-index.ensures)

pub returns-then-counts : goal.returns-then-counts
returns-then-counts c =
    let answer : true ≡ counts_for c.args.path.now (file_name c.args.directories.now (c.number-index.result, c.in-Some.text.now), c.in-Some.text.now) =
    rw (← c.split_path.ensures.whole, ← c.loop-text.invariant.dirs) c.if-counts.ensures.value in
    next_counts c.args.path.now c.in-Some.text.now c.args.directories.now c.args.indexes.now c.loop-text.place c.number-index.result c.loop-text.left
    c.next.new.self true _ c.in-Some.ensures.steps c.number-index.ensures answer c.loop-text.invariant.same

pub loop-text-preserved : goal.loop-text-preserved
loop-text-preserved c =
    let answer : false ≡ counts_for c.args.path.now (file_name c.args.directories.now (c.number-index.result, c.in-Some.text.now), c.in-Some.text.now) =
    rw (← c.split_path.ensures.whole, ← c.loop-text.invariant.dirs) c.if-counts.ensures.value in
    record {
      same =
          next_counts c.args.path.now c.in-Some.text.now c.args.directories.now c.args.indexes.now c.loop-text.place c.number-index.result c.loop-text.left
          c.next.new.self false _ c.in-Some.ensures.steps c.number-index.ensures answer c.loop-text.invariant.same;
      left =
          next_left c.args.directories.now c.args.indexes.now c.loop-text.left c.loop-text.place c.number-index.result c.in-Some.text.now c.next.new.self
          c.loop-text.invariant.left c.in-Some.ensures.steps c.number-index.ensures;
      dirs = c.counts.ensures.same ∙ c.loop-text.invariant.dirs;
    }

pub returns : goal.returns
returns c = sym (none_counts c.args.path.now _ c.loop-text.left c.in_default.ensures.steps.0) ∙ c.loop-text.invariant.same

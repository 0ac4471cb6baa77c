use Rattle.std.proofs.Common.{◌∙◌, ap, List, length, ◌+◌}
use Rattle.rpm_header.proofs.Vocabulary.{data_from, Item, lengths_of}
use Rattle.rpm_header.proofs.LaidParts.{region_lengths}
use Rattle.rpm_header.proofs.builder.Builder.lengths.Goals as goal

pub returns-then-region : goal.returns-then-region
returns-then-region c =
    rw c.if-region.true (c.lengths_of.ensures ∙ ap (λ (es : List Item). lengths_of (1 + length es) (0 + length (data_from 0 es) + 16))
    c.entries.ensures.value ∙ region_lengths c.args.self.now)

use Rattle.std.proofs.Common.{ap, ◌∙◌, arith, length, ◌≤◌, ◌^◌}
use Rattle.rpm_hindex.proofs.Vocabulary.{bucket_count, is_bucket_count}
use Rattle.rpm_hindex.proofs.Drafting.{length-le-live}
use Rattle.rpm_hindex.proofs.Scratch.{count_is}
use Rattle.rpm_hindex.proofs.image.image_of.Goals as goal

pub of_rows-requires-clause-count : goal.of_rows-requires-clause-count
of_rows-requires-clause-count c =
    let rows = c.args.rows in
    let is = c.bucket_count-buckets.ensures.count ∙ ap bucket_count c.len.ensures in
    let few_rows : length rows ≤ 2 ^ 28 = omega (arith, length-le-live rows, c.in_ok-check_room.ensures.full) in
    ap is_bucket_count is ∙ count_is (length rows) few_rows

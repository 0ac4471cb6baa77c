use Rattle.std.proofs.Common.{ltb, rules}
use Rattle.std.proofs.lemmas.List.Sorted.{IsPartitionPoint-from_clause, IsPartitionedBy-ltb}
use Rattle.rpm_blocks.proofs.Parts.{starts_rise, place_of_point}
use Rattle.rpm_blocks.proofs.places.place_by_search.Goals as goal

-- the closure tells whether a range begins below the block, which those at the front do
pub returns : goal.returns
returns c =
    let l = c.args.ranges.now in
    let rise = IsPartitionedBy-ltb (λ r. r.start) l c.args.block (starts_rise l c.requires) in
    let point = IsPartitionPoint-from_clause (λ r. ltb r.start c.args.block) l c.partition_point.result c.partition_point.ensures.partitioned rise
    (λ a r f called. search rules) in
    place_of_point l c.args.block c.partition_point.result c.partition_point.ensures.bound point

use Rattle.std.proofs.Common.{◌<◌, length, get_or, arith}
use Rattle.std.proofs.lemmas.List.{length-map}
use Rattle.rpm_graph.proofs.Vocabulary.{row_lists}
use Rattle.rpm_graph.proofs.Gathering.{members_more}
use Rattle.rpm_graph.proofs.grouping.put_numbers.Goals as goal

pub loop-place-preserved : goal.loop-place-preserved
loop-place-preserved c =
    let k = c.loop-place.place in
    let members = c.loop-place.members in
    let lt : k < length c.args.numbers.now = omega arith in
    let inside : get_or c.args.classes.now k 0 < length (row_lists members)
    = omega (arith, c.requires.bounded k lt, length-map members (λ row. row.items)) in
    rw c.in_ok-push_number.ensures (members_more c.args.numbers.now c.args.classes.now c.requires.rises k (row_lists members) c.loop-place.invariant lt inside)

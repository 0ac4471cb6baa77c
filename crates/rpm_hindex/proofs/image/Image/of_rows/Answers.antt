use Rattle.std.proofs.Common.{◌≡◌, ℕ, ◌++◌, length, drop, ap, ◌∙◌, arith}
use Rattle.rpm_hindex.proofs.Vocabulary.{length-unit}
use Rattle.rpm_hindex.proofs.Orders.{few, Few}
use Rattle.rpm_hindex.proofs.Drafting.{length-le-live}
use Rattle.rpm_hindex.proofs.Imaging.{image_made}
use Rattle.rpm_hindex.proofs.image.Image.of_rows.Goals as goal

pub add_all-requires-clause-front : goal.add_all-requires-clause-front
add_all-requires-clause-front c =
    let f : Few c.args.buckets = few c.args.buckets c.requires.count in
    omega (arith, f.fours, c.in_ok-draft.ensures.long)

pub returns-clause-made : goal.returns-clause-made
returns-clause-made c =
    let bytes = c.add_all.new.bytes.items in
    let second = c.counts_of-second.result in
    let size : length second ≡ 16 = ap length c.counts_of-second.ensures ∙ length-unit _ _ _ _ in
    let is = c.with_front-bytes.ensures ∙ ap (λ (n : ℕ). second ++ drop n bytes) size in
    image_made c.args.rows c.args.buckets bytes second c.with_front-bytes.result.items c.requires.count
    (c.in_ok-add_all.ensures.rows c.in_ok-draft.ensures.rows)
    (omega (arith, c.in_ok-add_all.ensures.long, c.in_ok-draft.ensures.long)) c.requires.room c.counts_of-second.ensures
    (omega (arith, length-le-live c.args.rows, c.requires.room)) is

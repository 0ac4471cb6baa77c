use Rattle.std.proofs.Common.{ap, ◌∙◌, arith, ℕ, length, take, ◌+◌, ◌≤◌, ◌^◌, ◌++◌}
use Rattle.rpm_hindex.proofs.Vocabulary.{bucket_count, first_record, is_ordered, live_of}
use Rattle.rpm_hindex.proofs.Drafting.{length-le-live}
use Rattle.rpm_hindex.proofs.Scratch.{image_ordered, image_zero}
use Rattle.rpm_hindex.proofs.plan.from_scratch.Goals as goal

pub returns-in-Ok-clause-leaves : goal.returns-in-Ok-clause-leaves
returns-in-Ok-clause-leaves g c =
    let rows = c.reverse.new.self ++ c.args.adds in
    let image = c.in-Ok.image in
    let made = c.in-Ok.ensures.made in
    let room : first_record (bucket_count (length rows)) + live_of rows ≤ 2 ^ 28 = omega (arith, c.in-Ok.ensures.fits) in
    let few_rows : length rows ≤ 2 ^ 28 = omega (arith, length-le-live rows, room) in
    record {
      can = λ units. (omega (arith, made.long), made.whole_units, omega (arith, made.long, room));
      ordered = λ units fits. ap (λ (b : ℕ). is_ordered b (take 16 image.bytes.items) units) c.in-Ok.ensures.buckets
          ∙ image_ordered rows image.bytes.items units made room few_rows fits;
      zero = image_zero rows (bucket_count (length rows)) image.bytes.items made;
    }

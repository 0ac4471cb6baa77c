use Rattle.std.proofs.Common.{◌≡◌, ◌-◌, ◌∙◌, ℕ, ap, length, arith}
use Rattle.std.proofs.lemmas.List.{length-take-le}
use Rattle.rpm_file.proofs.Vocabulary.{padding_of}
use Rattle.rpm_file.proofs.Packaged.{padding_skipped}
use Rattle.rpm_file.proofs.package.skip_padding.Goals as goal

pub returns-clause-answers : goal.returns-clause-answers
returns-clause-answers g c = λ told.
    let long : length c.take_all.new.into ≡ padding_of c.args.blob.now = c.take_all.auto.into
    ∙ length-take-le (c.next_multiple_of.result - length c.args.blob.now) _ (omega (arith, c.next_multiple_of.ensures.upper_bound))
    ∙ ap (λ (m : ℕ). m - length c.args.blob.now) c.next_multiple_of.ensures.value in
    padding_skipped c.args.blob.now (g.S.Shelf.rest c.args.shelf.now) (g.S.Shelf.rest c.take_all.new.shelf) c.take_all.new.into c.take_all.result long
    (c.take_all.ensures.answers told)

pub returns-clause-extent : goal.returns-clause-extent
returns-clause-extent g c = λ told.
    let long : length c.take_all.new.into ≡ padding_of c.args.blob.now = c.take_all.auto.into
    ∙ length-take-le (c.next_multiple_of.result - length c.args.blob.now) _ (omega (arith, c.next_multiple_of.ensures.upper_bound))
    ∙ ap (λ (m : ℕ). m - length c.args.blob.now) c.next_multiple_of.ensures.value in
    omega (arith, c.take_all.ensures.extent told, c.take_all.auto.into, long)

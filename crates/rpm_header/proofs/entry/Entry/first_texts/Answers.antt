use Rattle.std.proofs.Common.{◌≤◌, arith, ap, ◌∙◌, take}
use Rattle.std.specs.Prelude.{IsTrue}
use Rattle.rpm_header.proofs.Vocabulary.{has_texts, Item, texts_of}
use Rattle.rpm_header.proofs.Placed.{first_ended, first_texts}
use Rattle.rpm_header.proofs.entry.Entry.first_texts.Goals as goal

pub invariant_of-result : goal.invariant_of-result
invariant_of-result c =
    let is : IsTrue (has_texts c.self.inside.form) = rw (ap (λ (v : Item). v.form) c.self.view_is) c.requires.texts in
    let within : c.args.first ≤ c.self.inside.count = omega (arith, ap (λ (v : Item). v.count) c.self.view_is) in
    first_ended c.self.inside.form c.args.first c.self.inside.count c.self.inside.bytes.now is within c.self.invariant.room

pub returns : goal.returns
returns c =
    let is : IsTrue (has_texts c.self.inside.form) = rw (ap (λ (v : Item). v.form) c.self.view_is) c.requires.texts in
    let within : c.args.first ≤ c.self.inside.count = omega (arith, ap (λ (v : Item). v.count) c.self.view_is) in
    first_texts c.self.inside.form c.args.first c.self.inside.count c.self.inside.bytes.now is within
    ∙ ap (λ (v : Item). take c.args.first (texts_of v.values)) c.self.view_is

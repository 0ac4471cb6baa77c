use Rattle.std.proofs.Common.{◌+◌, ◌/◌, ◌%◌, ◌^◌, Bool, if◌then◌else◌, [], sym, ◌∙◌, ap, eq-eqb}
use Rattle.std.proofs.lemmas.List.{get_or_default}
use Rattle.rpm_outside.proofs.Vocabulary.{blank, with_units, put_inside, unit_at}
use Rattle.rpm_outside.proofs.steps.mixed_unit.Goals as goal

pub returns-then-seed-at-eq1 : goal.returns-then-seed-at-eq1
returns-then-seed-at-eq1 c =
    let at = c.args.at in
    let k = c.args.k in
    let units = c.args.units.now in
    let file = c.args.file.now in
    get_or_default units k [] blank c.requires.within
    ∙ sym (put_inside at units file k c.requires.within)
    ∙ ap (λ (b : Bool). if b then unit_at (with_units at units file) (at + k) else unit_at file (at + k))
    (sym (eq-eqb (c.args.seed / 2 ^ ((at + k) % 64) % 2) 1 c.if-seed-at-eq1.true))

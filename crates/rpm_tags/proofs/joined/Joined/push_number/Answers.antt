use Rattle.std.proofs.Common.{◌≡◌, ◌-◌, ◌≤◌, length, arith}
use Rattle.rpm_tags.proofs.Vocabulary.{decimal}
use Rattle.rpm_tags.proofs.Parts.{has_room, pushed, is_pushed}
use Rattle.rpm_tags.proofs.joined.Joined.push_number.Goals as goal

pub bounds-self-inside-self-inside : goal.bounds-self-inside-self-inside
bounds-self-inside-self-inside c = has_room c.self.inside.count c.self.inside.len c.self.inside.parts c.args.self.now c.self.view_is c.self.invariant c.requires

pub invariant_of-self : goal.invariant_of-self
invariant_of-self c =
    let room = has_room c.self.inside.count c.self.inside.len c.self.inside.parts c.args.self.now c.self.view_is c.self.invariant c.requires in
    let long : 20 - c.digits_in-digits.result.start ≡ length (decimal c.args.number) = omega arith in
    let short : length (decimal c.args.number) ≤ 67108864 = omega arith in
    rw long (is_pushed c.self.inside.count c.self.inside.len c.self.inside.parts _ _ c.self.invariant.nine room c.digits_in-digits.ensures.value
    c.digits_in-digits.ensures.within short c.self.invariant)

pub returns : goal.returns
returns c =
    let room = has_room c.self.inside.count c.self.inside.len c.self.inside.parts c.args.self.now c.self.view_is c.self.invariant c.requires in
    rw (← c.self.view_is) (pushed c.self.inside.count c.self.inside.parts _ _ c.self.invariant.nine room c.digits_in-digits.ensures.value)

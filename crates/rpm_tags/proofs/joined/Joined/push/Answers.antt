use Rattle.std.proofs.Common.{refl}
use Rattle.rpm_tags.proofs.Parts.{has_room, pushed, is_pushed}
use Rattle.rpm_tags.proofs.joined.Joined.push.Goals as goal

pub bounds-self-inside-self-inside : goal.bounds-self-inside-self-inside
bounds-self-inside-self-inside c =
    has_room c.self.inside.count c.self.inside.len c.self.inside.parts c.args.self.now c.self.view_is c.self.invariant c.requires.room

pub invariant_of-self : goal.invariant_of-self
invariant_of-self c =
    let room = has_room c.self.inside.count c.self.inside.len c.self.inside.parts c.args.self.now c.self.view_is c.self.invariant c.requires.room in
    is_pushed c.self.inside.count c.self.inside.len c.self.inside.parts _ _ c.self.invariant.nine room refl tt c.requires.short c.self.invariant

pub returns : goal.returns
returns c =
    let room = has_room c.self.inside.count c.self.inside.len c.self.inside.parts c.args.self.now c.self.view_is c.self.invariant c.requires.room in
    rw (← c.self.view_is) (pushed c.self.inside.count c.self.inside.parts _ _ c.self.invariant.nine room refl)

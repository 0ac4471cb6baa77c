use Rattle.std.proofs.Common.{◌≡◌, ◌≤◌, ◌-◌, ◌++◌, ◌∙◌, sym, subst, take, drop, length, arith, length-drop, length-append}
use Rattle.std.proofs.lemmas.List.{length-take, length-take-le}
use Rattle.rpm_file.proofs.Vocabulary.{browses_then, reads_one, Takes, takes_then}
use Rattle.rpm_file.proofs.Filled.{front_put}
use Rattle.rpm_file.proofs.filling.fill.Goals as goal
use borrow.Rule.Slice.PartMut.{post_of}

pub loop-done-preserved : goal.loop-done-preserved
loop-done-preserved g c =
    let rest = g.S.Shelf.rest in
    let done = c.loop-done.done in
    let count = c.in_ok-count.count in
    let into = c.loop-done.into in
    let part = c.read.new.into in
    let room = length into - done in
    let asked : length (take room (drop done into)) ≡ room = omega (arith, length-take room (drop done into), length-drop done into) in
    let long : length part ≡ room = c.read.auto.into ∙ asked in
    let few : count ≤ room = omega (arith, c.in_ok-count.ensures.within, asked) in
    let inside : done ≤ length into = c.loop-done.invariant.within in
    let came = λ (told : _). (reads_one (rest c.loop-done.shelf) (rest c.read.new.self) (take count part) (c.in_ok-count.ensures.taken told)).takes in
    record {
      within = omega (
        arith,
        length-append (take done into) (part ++ post_of done room into),
        length-append part (post_of done room into),
        length-take-le done into inside,
      );
      taken = λ told. subst (Takes (rest c.args.shelf.now) (rest c.read.new.self)) (sym (front_put done room count into part inside (omega arith)))
          (takes_then (rest c.args.shelf.now) (rest c.loop-done.shelf) (rest c.read.new.self) (take done into) (take count part)
          (c.loop-done.invariant.taken told) (came told));
      browses = browses_then g.S.Shelf c.args.shelf.now c.loop-done.shelf
          c.read.new.self c.loop-done.invariant.browses
          (record {
            paths_stay = c.in_ok-count.ensures.paths;
            taken = λ told. (take count part, came told);
            absences_stay =
                c.in_ok-count.ensures.absences;
            later = c.in_ok-count.ensures.cause.later;
          });
    }

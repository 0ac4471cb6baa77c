use Rattle.std.proofs.Common.{IfErr, List, [], ◌∷◌, ◌++◌, length, refl, sym, ap, ◌∙◌, subst, arith}
use Rattle.std.proofs.lemmas.List.{length-take, take_all, take_more}
use Rattle.rpm_pkgdb.proofs.Vocabulary.{find_in, free, HasPlaces, first_shared_fault, SaysHere, Slot, slot_at}
use Rattle.rpm_pkgdb.proofs.Changing.{err_given}
use Rattle.rpm_pkgdb.proofs.MeetingLaws.{meeting_more, meeting_says}
use Rattle.rpm_pkgdb.proofs.table.exact_numbers.Goals as goal

pub loop-k-init : goal.loop-k-init
loop-k-init c = record { known = c.new-opening.ensures.known; slots = c.new-opening.ensures.slots; none = refl }

pub add-requires : goal.add-requires
add-requires c = record {
  known = c.loop-k.invariant.known;
  room = omega (arith, ap length c.loop-k.invariant.slots, length-take c.loop-k.k c.args.slots.now, c.requires.few, c.loop-k-test.true);
  end = λ used. (c.requires.bounded c.loop-k.k used).1;
  some = λ used. (c.requires.bounded c.loop-k.k used).0;
  number = λ used. c.requires.numbered c.loop-k.k c.loop-k-test.true used;
}

pub returns-in_err-add-clause-says : goal.returns-in_err-add-clause-says
returns-in_err-add-clause-says c =
    err_given (λ r. IfErr r (λ e. SaysHere e (first_shared_fault [] c.args.slots.now))) _ c.from_residual.result c.from_residual.ensures
    (meeting_says c.args.slots.now c.loop-k.opening.slots.items c.loop-k.k c.loop-k-test.true c.loop-k.invariant.slots c.loop-k.invariant.none
    _ c.in_err-add.ensures.says)

pub loop-k-preserved : goal.loop-k-preserved
loop-k-preserved c =
    let slots = c.args.slots.now in
    let k = c.loop-k.k in
    let was = c.loop-k.invariant in
    let added = c.in_ok-add.ensures in
    record {
      known = added.known;
      slots = added.slots ∙ ap (λ (ss : List Slot). ss ++ slot_at slots k ∷ []) was.slots ∙ sym (take_more slots k free c.loop-k-test.true);
      none = meeting_more slots c.loop-k.opening.slots.items k c.loop-k-test.true was.slots was.none added.sound;
    }

pub returns-clause-places : goal.returns-clause-places
returns-clause-places c =
    let all = c.loop-k.invariant.slots ∙ take_all c.loop-k.k c.args.slots.now c.loop-k-test.false in
    let places = c.loop-k.invariant.known.places in
    let same = c.in_ok-numbers.ensures in
    subst (HasPlaces (find_in c.in_ok-numbers.numbers.pairs)) all (record {
      each = λ k below used. same _ ∙ places.each k below used;
      only = λ n k found. places.only n k (sym (same n) ∙ found);
    })

pub returns-clause-sound : goal.returns-clause-sound
returns-clause-sound c =
    ap (first_shared_fault []) (sym (take_all c.loop-k.k c.args.slots.now c.loop-k-test.false)) ∙ c.loop-k.invariant.none

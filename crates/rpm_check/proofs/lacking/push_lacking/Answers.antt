use Rattle.std.proofs.Common.{◌≡◌, ℕ, ◌+◌, List, [], ◌∷◌, ◌++◌, Bool, true, false, length, Ok, sym, ap, ◌∙◌, append_assoc, append-nil, arith, refl}
use Rattle.rpm_check.proofs.Vocabulary.{Knows, lacks, Need, packages, store_of, Unmet, unmet_in}
use Rattle.rpm_check.proofs.Asking.{asking_then, asks_ended, asks_failed, asks_memory, asks_then, known_back, known_here}
use Rattle.rpm_check.proofs.Enumerating.{none_left}
use Rattle.rpm_check.proofs.lacking.push_lacking.Goals.{then-branch+in_ok-push, else-branch}
use Rattle.rpm_check.proofs.lacking.push_lacking.Goals as goal

module _ (is_lacking : Need → Bool) (number place : ℕ) (need : Need) (needs : List Need) (old new : List Unmet) where
  one_more : is_lacking need ≡ true → new ≡ old ++ record { number = number; place = place } ∷ []
      → new ++ unmet_in is_lacking number needs (place + 1) ≡ old ++ unmet_in is_lacking number (need ∷ needs) place
  one_more lacking is = rw (lacking, is) (append_assoc old (record { number = number; place = place } ∷ []) (unmet_in is_lacking number needs (place + 1)))

  none_more : is_lacking need ≡ false → new ≡ old
      → new ++ unmet_in is_lacking number needs (place + 1) ≡ old ++ unmet_in is_lacking number (need ∷ needs) place
  none_more met is = rw (met, is) refl

pub loop-place-preserved : goal.loop-place-preserved
loop-place-preserved g c =
    let db = c.args.db.now in
    let inv = c.loop-place.invariant in
    let done = c.in_ok-lacks.ensures in
    let place = c.loop-place.place in
    let old = c.loop-place.found.items in
    let rest = c.next.new.self in
    let need : Need = record { name = c.in-Some.needed.name.now; flags = c.in-Some.needed.flags; version = c.in-Some.needed.version.now } in
    let cons : c.loop-place.left ≡ need ∷ rest = c.in-Some.ensures.steps in
    record {
      asking = asking_then g.D.Disk g.met.D.Disk.follows_trans c.args.disk.now c.loop-place.disk c.lacks.new.disk db inv.asking done.asks;
      places = omega (arith, inv.places, ap length cons);
      remembers = known_back g.D.Disk (λ all. Knows all c.lacks.new.memo) inv.asking done.remembered;
      told = λ told has.
          let is_lacking = lacks (packages (g.D.Disk.files c.args.disk.now).pkg (store_of db)) in
          let said = known_back g.D.Disk (λ all. c.in_ok-lacks.field-0 ≡ lacks all need) inv.asking done.told told has in
          (elim c.if-branch.branch [
            | then-branch+in_ok-push w ↦
                one_more is_lacking c.args.number place need rest old c.if-branch.found.items (sym said ∙ w.if-branch.true)
                (ap (λ v. v.items) w.found-is ∙ w.in_ok-push.ensures.items)
            | else-branch w ↦
                none_more is_lacking c.args.number place need rest old c.if-branch.found.items (sym said ∙ w.if-branch.false) (ap (λ v. v.items) w.found-is)
          ])
          ∙ ap (λ (needs : List Need). old ++ unmet_in is_lacking c.args.number needs place) (sym cons) ∙ inv.told told has;
    }

pub lacks-requires-clause-remembers : goal.lacks-requires-clause-remembers
lacks-requires-clause-remembers g c = known_here g.D.Disk (λ all. Knows all c.loop-place.memo) c.loop-place.invariant.asking c.loop-place.invariant.remembers

pub returns-in_err-lacks-clause-remembered : goal.returns-in_err-lacks-clause-remembered
returns-in_err-lacks-clause-remembered g c =
    known_back g.D.Disk (λ all. Knows all c.lacks.new.memo) c.loop-place.invariant.asking c.in_err-lacks.ensures.remembered

pub returns-in_err-lacks-clause-asks : goal.returns-in_err-lacks-clause-asks
returns-in_err-lacks-clause-asks g c =
    asks_failed g.D.Disk (asks_then g.D.Disk g.met.D.Disk.follows_trans c.loop-place.invariant.asking c.in_err-lacks.ensures.asks) c.from_residual.ensures.1

pub returns-in_err-push-clause-remembered : goal.returns-in_err-push-clause-remembered
returns-in_err-push-clause-remembered g c =
    known_back g.D.Disk (λ all. Knows all c.lacks.new.memo) c.loop-place.invariant.asking c.in_ok-lacks.ensures.remembered

pub returns-in_err-push-clause-asks : goal.returns-in_err-push-clause-asks
returns-in_err-push-clause-asks g c =
    asks_memory g.D.Disk (asking_then g.D.Disk g.met.D.Disk.follows_trans _ _ _ _ c.loop-place.invariant.asking c.in_ok-lacks.ensures.asks)
    c.from_residual-in_err-push.ensures.1

pub returns-in_default-clause-told : goal.returns-in_default-clause-told
returns-in_default-clause-told g c = λ told has.
    let is_lacking = lacks (packages (g.D.Disk.files c.args.disk.now).pkg (store_of c.args.db.now)) in
    let old = c.loop-place.found.items in
    sym (append-nil old)
    ∙ ap (λ (needs : List Need). old ++ unmet_in is_lacking c.args.number needs c.loop-place.place) (sym c.in_default.ensures.steps.0)
    ∙ c.loop-place.invariant.told told has

pub returns-clause-told : goal.returns-clause-told
returns-clause-told g c = λ told has.
    let is_lacking = lacks (packages (g.D.Disk.files c.args.disk.now).pkg (store_of c.args.db.now)) in
    let old = c.loop-place.found.items in
    let none : length c.loop-place.left ≡ 0
    = omega (arith, c.loop-place.invariant.places, c.loop-place-test.false, c.required_count-place-end.ensures) in
    sym (append-nil old)
    ∙ ap (λ (us : List Unmet). old ++ us) (sym (none_left is_lacking c.args.number c.loop-place.place c.loop-place.left none))
    ∙ c.loop-place.invariant.told told has

pub returns-clause-asks : goal.returns-clause-asks
returns-clause-asks g c = asks_ended g.D.Disk (Ok tt) c.loop-place.invariant.asking tt

pub returns-in_default-clause-asks : goal.returns-in_default-clause-asks
returns-in_default-clause-asks g c = asks_ended g.D.Disk (Ok tt) c.loop-place.invariant.asking tt

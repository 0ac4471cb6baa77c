use Rattle.rpm_check.proofs.Vocabulary.{is_above_pair, IsFirst, Knows, lacks, Need, packages, store_of, Unmet, unmet_in}
use Rattle.std.proofs.Common.{◌≡◌, ◌∷◌, length, Some, Ok, arith, true, false, sym, ap, ◌∙◌, subst}
use Rattle.std.specs.Prelude.{filter, List}
use Rattle.rpm_check.proofs.Enumerating.{first_lacking, none_left, not_above, not_lacking}
use Rattle.rpm_check.proofs.next.next_lacking.Goals as goal
use Rattle.rpm_check.proofs.Asking.{asking_then, asks_ended, asks_failed, asks_then, known_back, known_here}

pub returns-then-branch-clause-told : goal.returns-then-branch-clause-told
returns-then-branch-clause-told g c = λ told has.
    let db = c.args.db.now in
    let inv = c.loop-place.invariant in
    let need : Need = record { name = c.in-Some.needed.name.now; flags = c.in-Some.needed.flags; version = c.in-Some.needed.version.now } in
    let cons : c.loop-place.left ≡ need ∷ c.next.new.self = c.in-Some.ensures.steps in
    let is_lacking = lacks (packages (g.D.Disk.files c.args.disk.now).pkg (store_of db)) in
    let lacking : is_lacking need ≡ true =
    sym (known_back g.D.Disk (λ all. c.in_ok-lacks.field-0 ≡ lacks all need) inv.asking c.in_ok-lacks.ensures.told told has) ∙ c.if-branch.true in
    let pair : Unmet = record { number = c.args.number; place = c.loop-place.place } in
    let over : is_above_pair c.args.n c.args.i pair ≡ true = sym c.is_above.ensures ∙ c.if-not-is_above.false in
    subst (λ (us : List Unmet). IsFirst us (Some pair)) (sym (inv.told told has))
    (subst (λ (needs : List Need). IsFirst (filter (is_above_pair c.args.n c.args.i) (unmet_in is_lacking c.args.number needs c.loop-place.place))
    (Some pair)) (sym cons)
    (first_lacking is_lacking c.args.n c.args.i c.args.number c.loop-place.place need c.next.new.self over lacking))

pub loop-place-preserved : goal.loop-place-preserved
loop-place-preserved g c =
    let db = c.args.db.now in
    let inv = c.loop-place.invariant in
    let done = c.in_ok-lacks.ensures in
    let need : Need = record { name = c.in-Some.needed.name.now; flags = c.in-Some.needed.flags; version = c.in-Some.needed.version.now } in
    let cons : c.loop-place.left ≡ need ∷ c.next.new.self = c.in-Some.ensures.steps in
    record {
      asking = asking_then g.D.Disk g.met.D.Disk.follows_trans c.args.disk.now c.loop-place.disk c.lacks.new.disk db inv.asking done.asks;
      places = omega (arith, inv.places, ap length cons);
      remembers = known_back g.D.Disk (λ all. Knows all c.lacks.new.memo) inv.asking done.remembered;
      told = λ told has.
          let is_lacking = lacks (packages (g.D.Disk.files c.args.disk.now).pkg (store_of db)) in
          let met : is_lacking need ≡ false =
          sym (known_back g.D.Disk (λ all. c.in_ok-lacks.field-0 ≡ lacks all need) inv.asking done.told told has) ∙ c.if-branch.false in
          inv.told told has
          ∙ ap (λ (needs : List Need). filter (is_above_pair c.args.n c.args.i) (unmet_in is_lacking c.args.number needs c.loop-place.place)) cons
          ∙ not_lacking is_lacking c.args.n c.args.i c.args.number c.loop-place.place need c.next.new.self met;
    }

pub loop-place-preserved-then-not-is_above : goal.loop-place-preserved-then-not-is_above
loop-place-preserved-then-not-is_above g c =
    let inv = c.loop-place.invariant in
    let n = c.args.n in
    let i = c.args.i in
    let number = c.args.number in
    let place = c.loop-place.place in
    let need : Need = record { name = c.in-Some.needed.name.now; flags = c.in-Some.needed.flags; version = c.in-Some.needed.version.now } in
    let cons : c.loop-place.left ≡ need ∷ c.next.new.self = c.in-Some.ensures.steps in
    record {
      asking = inv.asking;
      places = omega (arith, inv.places, ap length cons);
      remembers = inv.remembers;
      told = λ told has.
          let is_lacking = lacks (packages (g.D.Disk.files c.args.disk.now).pkg (store_of c.args.db.now)) in
          inv.told told has ∙ ap (λ (needs : List Need). filter (is_above_pair n i) (unmet_in is_lacking number needs place)) cons
          ∙ not_above is_lacking n i number place need c.next.new.self (sym c.is_above.ensures ∙ c.if-not-is_above.true);
    }

pub returns-in_default-clause-told : goal.returns-in_default-clause-told
returns-in_default-clause-told g c = λ told has.
    let is_lacking = lacks (packages (g.D.Disk.files c.args.disk.now).pkg (store_of c.args.db.now)) in
    let above = is_above_pair c.args.n c.args.i in
    c.loop-place.invariant.told told has
    ∙ ap (λ (needs : List Need). filter above (unmet_in is_lacking c.args.number needs c.loop-place.place)) c.in_default.ensures.steps.0

pub returns-clause-told : goal.returns-clause-told
returns-clause-told g c = λ told has.
    let is_lacking = lacks (packages (g.D.Disk.files c.args.disk.now).pkg (store_of c.args.db.now)) in
    let none : length c.loop-place.left ≡ 0
    = omega (arith, c.loop-place.invariant.places, c.loop-place-test.false, c.required_count-place-end.ensures) in
    c.loop-place.invariant.told told has
    ∙ ap (filter (is_above_pair c.args.n c.args.i)) (none_left is_lacking c.args.number c.loop-place.place c.loop-place.left none)

pub lacks-requires-clause-remembers : goal.lacks-requires-clause-remembers
lacks-requires-clause-remembers g c = known_here g.D.Disk (λ all. Knows all c.loop-place.memo) c.loop-place.invariant.asking c.loop-place.invariant.remembers

pub returns-in_err-lacks-clause-remembered : goal.returns-in_err-lacks-clause-remembered
returns-in_err-lacks-clause-remembered g c =
    known_back g.D.Disk (λ all. Knows all c.lacks.new.memo) c.loop-place.invariant.asking c.in_err-lacks.ensures.remembered

pub returns-in_err-lacks-clause-asks : goal.returns-in_err-lacks-clause-asks
returns-in_err-lacks-clause-asks g c =
    asks_failed g.D.Disk (asks_then g.D.Disk g.met.D.Disk.follows_trans c.loop-place.invariant.asking c.in_err-lacks.ensures.asks) c.from_residual.ensures.1

pub returns-then-branch-clause-remembered : goal.returns-then-branch-clause-remembered
returns-then-branch-clause-remembered g c =
    known_back g.D.Disk (λ all. Knows all c.lacks.new.memo) c.loop-place.invariant.asking c.in_ok-lacks.ensures.remembered

pub returns-then-branch-clause-asks : goal.returns-then-branch-clause-asks
returns-then-branch-clause-asks g c =
    asks_ended g.D.Disk (Ok _) (asking_then g.D.Disk g.met.D.Disk.follows_trans _ _ _ _ c.loop-place.invariant.asking c.in_ok-lacks.ensures.asks) tt

pub returns-in_default-clause-asks : goal.returns-in_default-clause-asks
returns-in_default-clause-asks g c = asks_ended g.D.Disk (Ok _) c.loop-place.invariant.asking tt

pub returns-clause-asks : goal.returns-clause-asks
returns-clause-asks g c = asks_ended g.D.Disk (Ok _) c.loop-place.invariant.asking tt

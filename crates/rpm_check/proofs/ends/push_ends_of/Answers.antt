use Rattle.std.proofs.Common.{◌≡◌, ◌++◌, List, Ok, sym, ap, ◌∙◌, append-nil}
use Rattle.std.specs.FinMap as finite
use Rattle.rpm_check.proofs.Vocabulary.{flat_map, givers, KnowsGivers, Need, packages, requirements, store_of}
use Rattle.rpm_check.proofs.Heading.{needs_none, needs_some}
use Rattle.rpm_check.proofs.Asking.{asking_of, asking_then, asks_ended, asks_failed, asks_then, known_back, known_here}
use Rattle.rpm_check.proofs.ends.push_ends_of.Goals as goal

pub push_ends-requires-clause-remembers : goal.push_ends-requires-clause-remembers
push_ends-requires-clause-remembers g c =
    known_here g.D.Disk (λ all. KnowsGivers all c.args.memo.now) (asking_of g.D.Disk c.in_ok-view.ensures.asks) c.requires.remembers

pub returns-in_err-view-clause-asks : goal.returns-in_err-view-clause-asks
returns-in_err-view-clause-asks g c = asks_failed g.D.Disk c.in_err-view.ensures.asks c.from_residual.ensures.1

pub returns-in-None-clause-asks : goal.returns-in-None-clause-asks
returns-in-None-clause-asks g c = asks_ended g.D.Disk (Ok _) (asking_of g.D.Disk c.in_ok-view.ensures.asks) tt

pub returns-in-None-clause-good : goal.returns-in-None-clause-good
returns-in-None-clause-good g c = rw c.in-None.is at c.in_ok-view.ensures.good

pub returns-in-None-clause-told : goal.returns-in-None-clause-told
returns-in-None-clause-told g c = λ told has.
    let all = packages (g.D.Disk.files c.args.disk.now).pkg (store_of c.args.db.now) in
    let none = needs_none (finite.get all c.args.number) (sym ((rw c.in-None.is at c.in_ok-view.ensures.told) told)) in
    let old = c.args.ends.now.items in
    sym (append-nil old) ∙ ap (λ (needs : List Need). old ++ flat_map (givers all) needs) (sym none)

pub returns-in_ok-push_ends-in-Some-clause-good : goal.returns-in_ok-push_ends-in-Some-clause-good
returns-in_ok-push_ends-in-Some-clause-good g c = rw c.in-Some.is at c.in_ok-view.ensures.good

pub returns-in_ok-push_ends-in-Some-clause-told : goal.returns-in_ok-push_ends-in-Some-clause-told
returns-in_ok-push_ends-in-Some-clause-told g c = λ told has.
    let all = packages (g.D.Disk.files c.args.disk.now).pkg (store_of c.args.db.now) in
    let view = c.in-Some.view in
    let some = needs_some (finite.get all c.args.number) view (sym ((rw c.in-Some.is at c.in_ok-view.ensures.told) told)) in
    let old = c.args.ends.now.items in
    known_back g.D.Disk (λ all. c.push_ends.new.ends.items ≡ old ++ flat_map (givers all) (requirements view)) (asking_of g.D.Disk c.in_ok-view.ensures.asks)
    c.in_ok-push_ends-in-Some.ensures.told told has
    ∙ ap (λ (needs : List Need). old ++ flat_map (givers all) needs) (sym some)

pub returns-in_err-push_ends-in-Some-clause-remembered : goal.returns-in_err-push_ends-in-Some-clause-remembered
returns-in_err-push_ends-in-Some-clause-remembered g c =
    known_back g.D.Disk (λ all. KnowsGivers all c.push_ends.new.memo) (asking_of g.D.Disk c.in_ok-view.ensures.asks)
    c.in_err-push_ends-in-Some.ensures.remembered

pub returns-in_err-push_ends-in-Some-clause-asks : goal.returns-in_err-push_ends-in-Some-clause-asks
returns-in_err-push_ends-in-Some-clause-asks g c =
    asks_failed g.D.Disk (asks_then g.D.Disk g.met.D.Disk.follows_trans (asking_of g.D.Disk c.in_ok-view.ensures.asks) c.in_err-push_ends-in-Some.ensures.asks)
    c.from_residual-in_err-push_ends-in-Some.ensures.1

pub returns-in_ok-push_ends-in-Some-clause-remembered : goal.returns-in_ok-push_ends-in-Some-clause-remembered
returns-in_ok-push_ends-in-Some-clause-remembered g c =
    known_back g.D.Disk (λ all. KnowsGivers all c.push_ends.new.memo) (asking_of g.D.Disk c.in_ok-view.ensures.asks)
    c.in_ok-push_ends-in-Some.ensures.remembered

pub returns-in_ok-push_ends-in-Some-clause-asks : goal.returns-in_ok-push_ends-in-Some-clause-asks
returns-in_ok-push_ends-in-Some-clause-asks g c =
    asks_ended g.D.Disk (Ok _) (asking_then g.D.Disk g.met.D.Disk.follows_trans _ _ _ _ (asking_of g.D.Disk c.in_ok-view.ensures.asks)
    c.in_ok-push_ends-in-Some.ensures.asks) tt

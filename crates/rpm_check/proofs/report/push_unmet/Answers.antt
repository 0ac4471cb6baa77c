use Rattle.std.proofs.Common.{◌≡◌, ◌++◌, List, Ok, sym, ap, ◌∙◌, append-nil}
use Rattle.std.specs.FinMap as finite
use Rattle.rpm_check.proofs.Vocabulary.{Knows, lacks, packages, requirements, store_of, Unmet, unmet_in}
use Rattle.rpm_check.proofs.Heading.{unmet_none, unmet_some}
use Rattle.rpm_check.proofs.Asking.{asking_of, asks_ended, asks_failed, asks_then, done_more, known_back, known_here}
use Rattle.rpm_check.proofs.report.push_unmet.Goals as goal

pub returns-in-None-clause-told : goal.returns-in-None-clause-told
returns-in-None-clause-told g c = λ told has.
    let all = packages (g.D.Disk.files c.args.disk.now).pkg (store_of c.args.db.now) in
    let none = unmet_none (lacks all) c.args.number (finite.get all c.args.number) (sym ((rw c.in-None.is at c.in_ok-view.ensures.told) told)) in
    let old = c.args.found.now.items in
    sym (append-nil old) ∙ ap (λ (us : List Unmet). old ++ us) (sym none)

pub returns-in-Some-clause-told : goal.returns-in-Some-clause-told
returns-in-Some-clause-told g c =
    let all = packages (g.D.Disk.files c.args.disk.now).pkg (store_of c.args.db.now) in
    let number = c.args.number in
    let view = c.in-Some.view in
    let old = c.args.found.now.items in
    done_more c.push_lacking.result _ _ (λ is told has.
    known_back g.D.Disk (λ all. c.push_lacking.new.found.items ≡ old ++ unmet_in (lacks all) number (requirements view) 0)
    (asking_of g.D.Disk c.in_ok-view.ensures.asks) is told has
    ∙ ap (λ (us : List Unmet). old ++ us) (sym (unmet_some (lacks all) number (finite.get all number) view
    (sym ((rw c.in-Some.is at c.in_ok-view.ensures.told) told))))) c.push_lacking.ensures.told

pub push_lacking-requires-clause-remembers : goal.push_lacking-requires-clause-remembers
push_lacking-requires-clause-remembers g c =
    known_here g.D.Disk (λ all. Knows all c.args.memo.now) (asking_of g.D.Disk c.in_ok-view.ensures.asks) c.requires.remembers

pub returns-in_err-view-clause-asks : goal.returns-in_err-view-clause-asks
returns-in_err-view-clause-asks g c = asks_failed g.D.Disk c.in_err-view.ensures.asks c.from_residual.ensures.1

pub returns-in-None-clause-asks : goal.returns-in-None-clause-asks
returns-in-None-clause-asks g c = asks_ended g.D.Disk (Ok tt) (asking_of g.D.Disk c.in_ok-view.ensures.asks) tt

pub returns-in-Some-clause-remembered : goal.returns-in-Some-clause-remembered
returns-in-Some-clause-remembered g c =
    known_back g.D.Disk (λ all. Knows all c.push_lacking.new.memo) (asking_of g.D.Disk c.in_ok-view.ensures.asks) c.push_lacking.ensures.remembered

pub returns-in-Some-clause-asks : goal.returns-in-Some-clause-asks
returns-in-Some-clause-asks g c = asks_then g.D.Disk g.met.D.Disk.follows_trans (asking_of g.D.Disk c.in_ok-view.ensures.asks) c.push_lacking.ensures.asks

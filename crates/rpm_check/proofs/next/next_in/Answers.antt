use Rattle.rpm_check.proofs.Vocabulary.{Files, HasIndexRows, header_at, is_above_pair, IsFirst, Knows, lacks, packages, requirements, store_of, Unmet, unmet_in}
use Rattle.std.proofs.Common.{◌≡◌, Some, Ok, sym, ap, subst}
use Rattle.std.specs.Prelude.{filter, List}
use Rattle.std.specs.FinMap as finite
use Rattle.rpm_check.proofs.Asking.{asking_of, asks_ended, asks_failed, asks_then, known_back, known_here, told_more}
use Rattle.rpm_check.proofs.Heading.{unmet_none, unmet_some}
use Rattle.rpm_check.proofs.next.next_in.Goals as goal

pub returns-in-Some-clause-told : goal.returns-in-Some-clause-told
returns-in-Some-clause-told g c =
    let store = (store_of c.args.db.now) in
    let number = c.args.number in
    let view = c.in-Some.view in
    let all = packages (g.D.Disk.files c.args.disk.now).pkg store in
    let above = is_above_pair c.args.n c.args.i in
    told_more c.next_lacking.result _ _ (λ next said told has.
    let first = subst (λ (f : Files). HasIndexRows c.args.db.now f.pkg f.idx
    → IsFirst (filter above (unmet_in (lacks (packages f.pkg store)) number (requirements view) 0)) next)
    (c.in_ok-view.ensures.asks.looks.untouched told).same (said told) has in
    let is : header_at (finite.get all number) ≡ Some view = sym ((rw c.in-Some.is at c.in_ok-view.ensures.told) told) in
    subst (λ (us : List Unmet). IsFirst (filter above us) next) (sym (unmet_some (lacks all) number (finite.get all number) view is)) first)
    c.next_lacking.ensures.told

pub returns-in-None-clause-told : goal.returns-in-None-clause-told
returns-in-None-clause-told g c = λ told has.
    let all = packages (g.D.Disk.files c.args.disk.now).pkg (store_of c.args.db.now) in
    ap (filter (is_above_pair c.args.n c.args.i)) (unmet_none (lacks all) c.args.number (finite.get all c.args.number)
    (sym ((rw c.in-None.is at c.in_ok-view.ensures.told) told)))

pub next_lacking-requires-clause-remembers : goal.next_lacking-requires-clause-remembers
next_lacking-requires-clause-remembers g c =
    known_here g.D.Disk (λ all. Knows all c.args.memo.now) (asking_of g.D.Disk c.in_ok-view.ensures.asks) c.requires.remembers

pub returns-in_err-view-clause-asks : goal.returns-in_err-view-clause-asks
returns-in_err-view-clause-asks g c = asks_failed g.D.Disk c.in_err-view.ensures.asks c.from_residual.ensures.1

pub returns-in-None-clause-asks : goal.returns-in-None-clause-asks
returns-in-None-clause-asks g c = asks_ended g.D.Disk (Ok _) (asking_of g.D.Disk c.in_ok-view.ensures.asks) tt

pub returns-in-Some-clause-remembered : goal.returns-in-Some-clause-remembered
returns-in-Some-clause-remembered g c =
    known_back g.D.Disk (λ all. Knows all c.next_lacking.new.memo) (asking_of g.D.Disk c.in_ok-view.ensures.asks) c.next_lacking.ensures.remembered

pub returns-in-Some-clause-asks : goal.returns-in-Some-clause-asks
returns-in-Some-clause-asks g c = asks_then g.D.Disk g.met.D.Disk.follows_trans (asking_of g.D.Disk c.in_ok-view.ensures.asks) c.next_lacking.ensures.asks

use Rattle.rpm_check.proofs.Vocabulary.{is_met, packages, store_of}
use Rattle.std.proofs.Common.{Ok, sym, ap, ◌∙◌}
use Rattle.rpm_check.proofs.Asking.{asking_none, asking_of, asks_ended, asks_memory}
use Rattle.rpm_check.proofs.lacking.is_met_once.Goals as goal

pub returns-in-Some-clause-told : goal.returns-in-Some-clause-told
returns-in-Some-clause-told g c = λ told has.
    let all = packages (g.D.Disk.files c.args.disk.now).pkg (store_of c.args.db.now) in
    c.in-Some.ensures all (c.requires.remembers told has) ∙ ap (is_met all) c.in_ok-key.ensures

pub returns-in_err-found-clause-remembered : goal.returns-in_err-found-clause-remembered
returns-in_err-found-clause-remembered g c = λ told has.
    let knows = c.requires.remembers told has in
    record { answers = knows.answers; sources = c.in_err-found.ensures.knows told has knows.sources }

pub returns-in_err-put-clause-remembered : goal.returns-in_err-put-clause-remembered
returns-in_err-put-clause-remembered g c = λ told has.
    let all = packages (g.D.Disk.files c.args.disk.now).pkg (store_of c.args.db.now) in
    let knows = c.requires.remembers told has in
    let found = c.in_ok-found.ensures in
    c.in_err-put.ensures all (record { answers = knows.answers; sources = found.knows told has knows.sources })
    (found.told told has knows.sources ∙ ap (is_met all) (sym c.in_ok-key.ensures))

pub returns-clause-remembered : goal.returns-clause-remembered
returns-clause-remembered g c = λ told has.
    let all = packages (g.D.Disk.files c.args.disk.now).pkg (store_of c.args.db.now) in
    let knows = c.requires.remembers told has in
    let found = c.in_ok-found.ensures in
    c.in_ok-put.ensures all (record { answers = knows.answers; sources = found.knows told has knows.sources })
    (found.told told has knows.sources ∙ ap (is_met all) (sym c.in_ok-key.ensures))

pub returns-clause-told : goal.returns-clause-told
returns-clause-told g c = λ told has. c.in_ok-found.ensures.told told has (c.requires.remembers told has).sources

pub returns-in_err-key-clause-asks : goal.returns-in_err-key-clause-asks
returns-in_err-key-clause-asks g c = asks_memory g.D.Disk (asking_none g.D.Disk g.met.D.Disk.follows_refl _ _ c.requires.asked) c.from_residual.ensures.1

pub returns-in-Some-clause-asks : goal.returns-in-Some-clause-asks
returns-in-Some-clause-asks g c = asks_ended g.D.Disk (Ok c.in-Some.known) (asking_none g.D.Disk g.met.D.Disk.follows_refl _ _ c.requires.asked) tt

pub returns-in_err-put-clause-asks : goal.returns-in_err-put-clause-asks
returns-in_err-put-clause-asks g c = asks_memory g.D.Disk (asking_of g.D.Disk c.in_ok-found.ensures.asks) c.from_residual-in_err-put.ensures.1

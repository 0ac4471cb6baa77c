use Rattle.rpm_check.proofs.Vocabulary.{givers, packages, store_of}
use Rattle.std.proofs.Common.{ℕ, ◌++◌, List, Ok, sym, ap, ◌∙◌}
use Rattle.rpm_check.proofs.ends.push_givers.Goals as goal
use Rattle.rpm_check.proofs.Asking.{asking_none, asking_of, asks_ended, asks_failed, asks_memory, done_more}

pub returns-in-Some-clause-told : goal.returns-in-Some-clause-told
returns-in-Some-clause-told g c =
    let all = packages (g.D.Disk.files c.args.disk.now).pkg (store_of c.args.db.now) in
    let old = c.args.ends.now.items in
    done_more c.push_all.result _ _ (λ is told has.
    is ∙ ap (λ (ms : List ℕ). old ++ ms) (c.deref.ensures.value ∙ c.in-Some.ensures all (c.requires.remembers told has) ∙ ap (givers all) c.in_ok-key.ensures))
    c.push_all.ensures.told

pub returns-clause-told : goal.returns-clause-told
returns-clause-told g c = λ told has.
    let old = c.args.ends.now.items in
    c.in_ok-push_all.ensures.told ∙ ap (λ (ms : List ℕ). old ++ ms) (c.deref-2.ensures.value
    ∙ c.in_ok-found.ensures.told told has (c.requires.remembers told has).sources)

pub returns-in-Some-clause-asks : goal.returns-in-Some-clause-asks
returns-in-Some-clause-asks g c =
    asks_ended g.D.Disk c.push_all.result (asking_none g.D.Disk g.met.D.Disk.follows_refl _ _ c.requires.asked) c.push_all.ensures.refused

pub returns-in_err-found-clause-remembered : goal.returns-in_err-found-clause-remembered
returns-in_err-found-clause-remembered g c = λ told has.
    let knows = c.requires.remembers told has in
    record { numbers = knows.numbers; sources = c.in_err-found.ensures.knows told has knows.sources }

pub returns-in_err-push_all-clause-remembered : goal.returns-in_err-push_all-clause-remembered
returns-in_err-push_all-clause-remembered g c = λ told has.
    let knows = c.requires.remembers told has in
    record { numbers = knows.numbers; sources = c.in_ok-found.ensures.knows told has knows.sources }

pub returns-in_err-put-clause-remembered : goal.returns-in_err-put-clause-remembered
returns-in_err-put-clause-remembered g c = λ told has.
    let all = packages (g.D.Disk.files c.args.disk.now).pkg (store_of c.args.db.now) in
    let knows = c.requires.remembers told has in
    let found = c.in_ok-found.ensures in
    c.in_err-put.ensures all (record { numbers = knows.numbers; sources = found.knows told has knows.sources })
    (found.told told has knows.sources ∙ ap (givers all) (sym c.in_ok-key.ensures))

pub returns-clause-remembered : goal.returns-clause-remembered
returns-clause-remembered g c = λ told has.
    let all = packages (g.D.Disk.files c.args.disk.now).pkg (store_of c.args.db.now) in
    let knows = c.requires.remembers told has in
    let found = c.in_ok-found.ensures in
    c.in_ok-put.ensures all (record { numbers = knows.numbers; sources = found.knows told has knows.sources })
    (found.told told has knows.sources ∙ ap (givers all) (sym c.in_ok-key.ensures))

pub returns-in_err-key-clause-asks : goal.returns-in_err-key-clause-asks
returns-in_err-key-clause-asks g c = asks_memory g.D.Disk (asking_none g.D.Disk g.met.D.Disk.follows_refl _ _ c.requires.asked) c.from_residual.ensures.1

pub returns-in_err-found-clause-asks : goal.returns-in_err-found-clause-asks
returns-in_err-found-clause-asks g c = asks_failed g.D.Disk c.in_err-found.ensures.asks c.from_residual-in_err-found.ensures.1

pub returns-in_err-push_all-clause-asks : goal.returns-in_err-push_all-clause-asks
returns-in_err-push_all-clause-asks g c =
    asks_failed g.D.Disk (asks_ended g.D.Disk _ (asking_of g.D.Disk c.in_ok-found.ensures.asks) c.in_err-push_all.ensures.refused)
    c.from_residual-in_err-push_all.ensures.1

pub returns-in_err-put-clause-asks : goal.returns-in_err-put-clause-asks
returns-in_err-put-clause-asks g c = asks_memory g.D.Disk (asking_of g.D.Disk c.in_ok-found.ensures.asks) c.from_residual-in_err-put.ensures.1

pub returns-clause-asks : goal.returns-clause-asks
returns-clause-asks g c = asks_ended g.D.Disk (Ok tt) (asking_of g.D.Disk c.in_ok-found.ensures.asks) tt

use Rattle.rpm_check.proofs.Vocabulary.{flat_map, givers, is_in, needs_at, packages, store_of}
use Rattle.std.proofs.Common.{◌++◌, ℕ, List, Ok, sym, ap, ◌∙◌}
use Rattle.rpm_check.proofs.Asking.{asking_of, asks_ended, asks_failed}
use Rattle.std.specs.FinMap as finite
use Rattle.rpm_check.proofs.ends.ends_of.Goals as goal

pub returns-then-good-clause-good : goal.returns-then-good-clause-good
returns-then-good-clause-good g c = λ told. sym c.if-good.true ∙ c.in_ok-good.ensures.good told

pub returns-then-good-clause-told : goal.returns-then-good-clause-told
returns-then-good-clause-told g c = λ told has m.
    let all = packages (g.D.Disk.files c.args.disk.now).pkg (store_of c.args.db.now) in
    let given = flat_map (givers all) (needs_at (finite.get all c.args.number)) in
    c.each_once.ensures.same m
    ∙ ap (is_in m) (c.in_ok-good.ensures.told told has ∙ ap (λ (ms : List ℕ). ms ++ given) c.new-ends.ensures.items)

pub returns-else-good-clause-good : goal.returns-else-good-clause-good
returns-else-good-clause-good g c = λ told. sym c.if-good.false ∙ c.in_ok-good.ensures.good told

pub returns-in_err-good-clause-asks : goal.returns-in_err-good-clause-asks
returns-in_err-good-clause-asks g c = asks_failed g.D.Disk c.in_err-good.ensures.asks c.from_residual.ensures.1

pub returns-then-good-clause-asks : goal.returns-then-good-clause-asks
returns-then-good-clause-asks g c = asks_ended g.D.Disk (Ok _) (asking_of g.D.Disk c.in_ok-good.ensures.asks) tt

pub returns-else-good-clause-asks : goal.returns-else-good-clause-asks
returns-else-good-clause-asks g c = asks_ended g.D.Disk (Ok _) (asking_of g.D.Disk c.in_ok-good.ensures.asks) tt

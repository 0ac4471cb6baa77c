use Rattle.rpm_check.proofs.Vocabulary.{is_above_pair, IsFirst, Knows, lacks, packages, store_of, unmet_at}
use Rattle.std.proofs.Common.{Ok, sym, ap, ◌∙◌}
use Rattle.std.specs.Prelude.{filter}
use Rattle.std.specs.FinMap as finite
use Rattle.rpm_check.proofs.Enumerating.{after_in, after_from, begins, found_here, none_here, none_later}
use Rattle.rpm_check.proofs.Turning.{turns_above}
use Rattle.rpm_check.proofs.next.next_unmet.Goals as goal
use Rattle.rpm_check.proofs.Asking.{asking_none, asking_then, asks_ended, asks_failed, asks_then, known_back, known_here}

pub loop-number-init : goal.loop-number-init
loop-number-init g c =
    let pkg = (g.D.Disk.files c.args.disk.now).pkg in
    record {
      asking = asking_none g.D.Disk g.met.D.Disk.follows_refl c.args.disk.now c.args.db.now c.requires.asked;
      remembers = λ told has. c.new-memo.ensures (packages pkg (store_of c.args.db.now));
      told = λ told has. after_from pkg c.args.db.now c.args.n c.args.i (c.requires.asked.keeps told)
          ∙ ap (turns_above (packages pkg (store_of c.args.db.now)) (after_in (packages pkg (store_of c.args.db.now)) c.args.n c.args.i))
          (sym c.saturating_sub-passed.ensures);
    }

pub loop-number-preserved : goal.loop-number-preserved
loop-number-preserved g c =
    let db = c.args.db.now in
    let inv = c.loop-number.invariant in
    let done = c.in_ok-found.ensures in
    let number = c.in-Some.number in
    let n = c.args.n in
    let i = c.args.i in
    record {
      asking = asking_then g.D.Disk g.met.D.Disk.follows_trans c.args.disk.now c.loop-number.disk c.next_in.new.disk db inv.asking done.asks;
      remembers = known_back g.D.Disk (λ all. Knows all c.next_in.new.memo) inv.asking done.remembered;
      told = λ told has.
          let pkg = (g.D.Disk.files c.args.disk.now).pkg in
          let all = packages pkg (store_of db) in
          let here = known_back g.D.Disk (λ all. IsFirst (filter (is_above_pair n i) (unmet_at (lacks all) number (finite.get all number)))
          c.in_ok-found.found) inv.asking done.told told has in
          none_here all n i c.loop-number.passed number c.in_ok-found.found (c.in-Some.ensures.told pkg) (inv.told told has) here
          (sym c.is_some.ensures ∙ c.if-is_some.false);
    }

pub returns-then-is_some-clause-told : goal.returns-then-is_some-clause-told
returns-then-is_some-clause-told g c = λ told has.
    let db = c.args.db.now in
    let inv = c.loop-number.invariant in
    let number = c.in-Some.number in
    let n = c.args.n in
    let i = c.args.i in
    let pkg = (g.D.Disk.files c.args.disk.now).pkg in
    let all = packages pkg (store_of db) in
    let here = known_back g.D.Disk (λ all. IsFirst (filter (is_above_pair n i) (unmet_at (lacks all) number (finite.get all number))) c.in_ok-found.found)
    inv.asking c.in_ok-found.ensures.told told has in
    found_here all n i c.loop-number.passed number c.in_ok-found.found (c.in-Some.ensures.told pkg) (inv.told told has) here
    (sym c.is_some.ensures ∙ c.if-is_some.true)

pub returns-clause-told : goal.returns-clause-told
returns-clause-told g c = λ told has.
    let pkg = (g.D.Disk.files c.args.disk.now).pkg in
    none_later (packages pkg (store_of c.args.db.now)) c.args.n c.args.i c.loop-number.passed (c.in_default.ensures.told pkg) (c.loop-number.invariant.told told
    has)

pub next_in-requires-clause-remembers : goal.next_in-requires-clause-remembers
next_in-requires-clause-remembers g c =
    known_here g.D.Disk (λ all. Knows all c.loop-number.memo) c.loop-number.invariant.asking c.loop-number.invariant.remembers

pub returns-in_err-found-clause-asks : goal.returns-in_err-found-clause-asks
returns-in_err-found-clause-asks g c =
    asks_failed g.D.Disk (asks_then g.D.Disk g.met.D.Disk.follows_trans c.loop-number.invariant.asking c.in_err-found.ensures.asks) c.from_residual.ensures.1

pub returns-then-is_some-clause-asks : goal.returns-then-is_some-clause-asks
returns-then-is_some-clause-asks g c =
    asks_ended g.D.Disk (Ok _) (asking_then g.D.Disk g.met.D.Disk.follows_trans _ _ _ _ c.loop-number.invariant.asking c.in_ok-found.ensures.asks) tt

pub returns-in_err-found-clause-begins : goal.returns-in_err-found-clause-begins
returns-in_err-found-clause-begins g c = λ told. begins _ c.args.db.now (c.requires.asked.keeps told)

pub returns-then-is_some-clause-begins : goal.returns-then-is_some-clause-begins
returns-then-is_some-clause-begins g c = λ told. begins _ c.args.db.now (c.requires.asked.keeps told)

pub returns-clause-asks : goal.returns-clause-asks
returns-clause-asks g c = asks_ended g.D.Disk (Ok _) c.loop-number.invariant.asking tt

pub returns-clause-begins : goal.returns-clause-begins
returns-clause-begins g c = λ told. begins _ c.args.db.now (c.requires.asked.keeps told)

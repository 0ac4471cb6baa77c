use Rattle.rpm_check.proofs.Vocabulary.{from_one, Knows, lacks, packages, store_of, Unmet, unmet_at}
use Rattle.std.proofs.Common.{◌≡◌, ◌++◌, Ok, sym, ap, ◌∙◌, append_assoc, append-nil}
use Rattle.std.specs.Prelude.{List}
use Rattle.std.specs.FinMap as finite
use Rattle.rpm_check.proofs.Rounding.{unmet_above, one_round, no_round, all_rounds}
use Rattle.rpm_check.proofs.report.unmet.Goals as goal
use Rattle.rpm_check.proofs.Asking.{asking_none, asking_then, asks_ended, asks_failed, asks_then, known_back, known_here}

pub loop-next-init : goal.loop-next-init
loop-next-init g c = record {
  asking = asking_none g.D.Disk g.met.D.Disk.follows_refl c.args.disk.now c.args.db.now c.requires.asked;
  remembers = λ told has. c.new-memo.ensures (packages (g.D.Disk.files c.args.disk.now).pkg (store_of c.args.db.now));
  told = λ told has.
      let pkg = (g.D.Disk.files c.args.disk.now).pkg in
      let all = packages pkg (store_of c.args.db.now) in
      ap (λ (us : List Unmet). us ++ unmet_above all (lacks all) 0) c.new-found.ensures.items
      ∙ all_rounds pkg c.args.db.now (from_one pkg c.args.db.now (c.requires.asked.keeps told));
}

pub loop-next-preserved : goal.loop-next-preserved
loop-next-preserved g c =
    let db = c.args.db.now in
    let inv = c.loop-next.invariant in
    let done = c.in_ok-push_unmet.ensures in
    let next = c.in-Some.next in
    record {
      asking = asking_then g.D.Disk g.met.D.Disk.follows_trans c.args.disk.now c.loop-next.disk c.push_unmet.new.disk db inv.asking done.asks;
      remembers = known_back g.D.Disk (λ all. Knows all c.push_unmet.new.memo) inv.asking done.remembered;
      told = λ told has.
          let pkg = (g.D.Disk.files c.args.disk.now).pkg in
          let all = packages pkg (store_of db) in
          let old = c.loop-next.found.items in
          let added = known_back g.D.Disk (λ all. c.push_unmet.new.found.items ≡ old ++ unmet_at (lacks all) next (finite.get all next)) inv.asking
          done.told told has in
          ap (λ (us : List Unmet). us ++ unmet_above all (lacks all) next) added
          ∙ append_assoc old (unmet_at (lacks all) next (finite.get all next)) (unmet_above all (lacks all) next)
          ∙ ap (λ (us : List Unmet). old ++ us) (sym (one_round all (lacks all) c.loop-next.passed next (c.in-Some.ensures.told pkg)))
          ∙ inv.told told has;
    }

pub returns-clause-told : goal.returns-clause-told
returns-clause-told g c = λ told has.
    let pkg = (g.D.Disk.files c.args.disk.now).pkg in
    let all = packages pkg (store_of c.args.db.now) in
    let old = c.loop-next.found.items in
    c.of.ensures ∙ sym (append-nil old)
    ∙ ap (λ (us : List Unmet). old ++ us) (sym (no_round all (lacks all) c.loop-next.passed (c.in_default.ensures.told pkg)))
    ∙ c.loop-next.invariant.told told has

pub returns-clause-asks : goal.returns-clause-asks
returns-clause-asks g c = asks_ended g.D.Disk (Ok _) c.loop-next.invariant.asking tt

pub push_unmet-requires-clause-remembers : goal.push_unmet-requires-clause-remembers
push_unmet-requires-clause-remembers g c = known_here g.D.Disk (λ all. Knows all c.loop-next.memo) c.loop-next.invariant.asking c.loop-next.invariant.remembers

pub returns-in_err-push_unmet-clause-asks : goal.returns-in_err-push_unmet-clause-asks
returns-in_err-push_unmet-clause-asks g c =
    asks_failed g.D.Disk (asks_then g.D.Disk g.met.D.Disk.follows_trans c.loop-next.invariant.asking c.in_err-push_unmet.ensures.asks) c.from_residual.ensures.1

use Rattle.rpm_check.proofs.Vocabulary.{flat_map, givers, KnowsGivers, Need, packages, store_of}
use Rattle.std.proofs.Common.{◌≡◌, ◌∷◌, ◌++◌, ℕ, List, Ok, sym, ap, ◌∙◌, append_assoc, append-nil}
use Rattle.rpm_check.proofs.ends.push_ends.Goals as goal
use Rattle.rpm_check.proofs.Asking.{asking_none, asking_then, asks_ended, asks_failed, asks_then, known_back, known_here}

pub loop-needed-init : goal.loop-needed-init
loop-needed-init g c =
    let all = packages (g.D.Disk.files c.args.disk.now).pkg (store_of c.args.db.now) in
    record {
      asking = asking_none g.D.Disk g.met.D.Disk.follows_refl c.args.disk.now c.args.db.now c.requires.asked;
      remembers = c.requires.remembers;
      told = λ told has. ap (λ (needs : List Need). c.args.ends.now.items ++ flat_map (givers all) needs) c.dependencies-left.ensures;
    }

pub loop-needed-preserved : goal.loop-needed-preserved
loop-needed-preserved g c =
    let db = c.args.db.now in
    let inv = c.loop-needed.invariant in
    let done = c.in_ok-push_givers.ensures in
    let need : Need = record { name = c.in-Some.needed.name.now; flags = c.in-Some.needed.flags; version = c.in-Some.needed.version.now } in
    let rest = c.next.new.self in
    let ends = c.loop-needed.ends.items in
    let cons : c.loop-needed.left ≡ need ∷ rest = c.in-Some.ensures.steps in
    record {
      asking = asking_then g.D.Disk g.met.D.Disk.follows_trans c.args.disk.now c.loop-needed.disk c.push_givers.new.disk db inv.asking done.asks;
      remembers = known_back g.D.Disk (λ all. KnowsGivers all c.push_givers.new.memo) inv.asking done.remembered;
      told = λ told has.
          let of = givers (packages (g.D.Disk.files c.args.disk.now).pkg (store_of db)) in
          let added : c.push_givers.new.ends.items ≡ ends ++ of need =
          known_back g.D.Disk (λ all. c.push_givers.new.ends.items ≡ ends ++ givers all need) inv.asking done.told told has in
          ap (λ (ns : List ℕ). ns ++ flat_map of rest) added ∙ append_assoc ends (of need) (flat_map of rest)
          ∙ ap (λ (needs : List Need). ends ++ flat_map of needs) (sym cons) ∙ inv.told told has;
    }

pub returns-clause-told : goal.returns-clause-told
returns-clause-told g c = λ told has.
    let of = givers (packages (g.D.Disk.files c.args.disk.now).pkg (store_of c.args.db.now)) in
    let ends = c.loop-needed.ends.items in
    sym (append-nil ends) ∙ ap (λ (needs : List Need). ends ++ flat_map of needs) (sym c.in_default.ensures.steps.0) ∙ c.loop-needed.invariant.told told has

pub returns-clause-asks : goal.returns-clause-asks
returns-clause-asks g c = asks_ended g.D.Disk (Ok tt) c.loop-needed.invariant.asking tt

pub push_givers-requires-clause-remembers : goal.push_givers-requires-clause-remembers
push_givers-requires-clause-remembers g c =
    known_here g.D.Disk (λ all. KnowsGivers all c.loop-needed.memo) c.loop-needed.invariant.asking c.loop-needed.invariant.remembers

pub returns-in_err-push_givers-clause-remembered : goal.returns-in_err-push_givers-clause-remembered
returns-in_err-push_givers-clause-remembered g c =
    known_back g.D.Disk (λ all. KnowsGivers all c.push_givers.new.memo) c.loop-needed.invariant.asking c.in_err-push_givers.ensures.remembered

pub returns-in_err-push_givers-clause-asks : goal.returns-in_err-push_givers-clause-asks
returns-in_err-push_givers-clause-asks g c =
    asks_failed g.D.Disk (asks_then g.D.Disk g.met.D.Disk.follows_trans c.loop-needed.invariant.asking c.in_err-push_givers.ensures.asks)
    c.from_residual.ensures.1

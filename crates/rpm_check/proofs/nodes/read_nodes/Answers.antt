use Rattle.rpm_check.proofs.Vocabulary.{AreNodesRising, Edge, edges_from, edges_of, Files, flat_map, from_one, good_if, good_numbers, good_of}
use Rattle.rpm_check.proofs.Vocabulary.{is_good_at, KnowsGivers, Node, node_numbers, Package, packages, store_of}
use Rattle.std.proofs.Common.{◌≡◌, ℕ, ◌<◌, ◌≤◌, ◌++◌, [], List, Option, Some, Ok, sym, ap, ◌∙◌, subst, arith, append_assoc, append-nil}
use Rattle.std.specs.FinMap as finite
use Rattle.std.proofs.lemmas.List.Elements.{All-nil, All-same, All-weaker}
use Rattle.rpm_check.proofs.Gathering.{none_rise}
use Rattle.rpm_check.proofs.Turning.{turns_above, one_turn, no_turn, all_turns, goods_are, edges_are_all}
use Rattle.rpm_check.proofs.nodes.read_nodes.Goals as goal
use Rattle.rpm_check.proofs.Asking.{asking_none, asking_then, asks_ended, asks_failed, asks_then, known_back, known_here}

pub loop-next-init : goal.loop-next-init
loop-next-init g c =
    let db = c.args.db.now in
    let pkg = (g.D.Disk.files c.args.disk.now).pkg in
    let all = packages pkg (store_of db) in
    let f = λ (e : ℕ × Package). edges_from all e.0 in
    let none = c.new-nodes.ensures.items in
    record {
      asking = asking_none g.D.Disk g.met.D.Disk.follows_refl c.args.disk.now c.args.db.now c.requires.asked;
      remembers = λ told has. c.new-memo.ensures all;
      rising = subst AreNodesRising (sym none) none_rise;
      reached = All-same (λ (n : ℕ). n ≤ 0) (node_numbers c.new-nodes.result.items) [] (ap node_numbers none) (All-nil (λ (n : ℕ). n ≤ 0));
      numbers = λ told.
          ap (λ (vs : List Node). node_numbers vs ++ turns_above all good_of 0) none ∙ all_turns pkg db good_of
          (from_one pkg db (c.requires.asked.keeps told)) ∙ goods_are all;
      told = λ told has.
          ap (λ (vs : List Node). flat_map (edges_of (good_numbers all)) vs ++ turns_above all f 0) none
          ∙ all_turns pkg db f (from_one pkg db (c.requires.asked.keeps told)) ∙ edges_are_all all;
    }

pub push_node-requires-clause-below : goal.push_node-requires-clause-below
push_node-requires-clause-below g c =
    let next = c.in-Some.next in
    let lt : c.loop-next.passed < next = c.in-Some.ensures.next.0 in
    All-weaker (λ (n : ℕ). n ≤ c.loop-next.passed) (λ (n : ℕ). n < next) (λ n le. omega (arith, le, lt)) (node_numbers c.loop-next.nodes.items)
    c.loop-next.invariant.reached

pub loop-next-preserved : goal.loop-next-preserved
loop-next-preserved g c =
    let db = c.args.db.now in
    let inv = c.loop-next.invariant in
    let done = c.in_ok-push_node.ensures in
    let next = c.in-Some.next in
    let pkg = (g.D.Disk.files c.args.disk.now).pkg in
    let all = packages pkg (store_of db) in
    let f = λ (e : ℕ × Package). edges_from all e.0 in
    let nodes = c.loop-next.nodes.items in
    let more = c.push_node.new.nodes.items in
    record {
      asking = asking_then g.D.Disk g.met.D.Disk.follows_trans c.args.disk.now c.loop-next.disk c.push_node.new.disk db inv.asking done.asks;
      remembers = known_back g.D.Disk (λ all. KnowsGivers all c.push_node.new.memo) inv.asking done.remembered;
      rising = done.rising;
      reached = done.reached;
      numbers = λ told.
          let old = node_numbers nodes in
          let added = subst (λ (f : Files). node_numbers more ≡ old ++ good_if (is_good_at (finite.get (packages f.pkg (store_of db)) next)) next)
          (inv.asking.looks.untouched told).same (done.numbers told) in
          let turn = one_turn all good_of c.loop-next.passed next (c.in-Some.ensures.told pkg) in
          ap (λ (ns : List ℕ). ns ++ turns_above all good_of next) (added ∙ ap (λ (o : Option Package). old ++ good_if (is_good_at o) next) turn.1)
          ∙ append_assoc old (good_if (is_good_at (Some turn.0)) next) (turns_above all good_of next)
          ∙ ap (λ (ns : List ℕ). old ++ ns) (sym turn.2) ∙ inv.numbers told;
      told = λ told has.
          let old = flat_map (edges_of (good_numbers all)) nodes in
          let added = known_back g.D.Disk (λ all. flat_map (edges_of (good_numbers all)) more ≡ flat_map (edges_of (good_numbers all)) nodes
          ++ edges_from all next) inv.asking done.told told has in
          let turn = one_turn all f c.loop-next.passed next (c.in-Some.ensures.told pkg) in
          ap (λ (es : List Edge). es ++ turns_above all f next) added ∙ append_assoc old (edges_from all next) (turns_above all f next)
          ∙ ap (λ (es : List Edge). old ++ es) (sym turn.2) ∙ inv.told told has;
    }

pub returns-clause-numbers : goal.returns-clause-numbers
returns-clause-numbers g c = λ told.
    let pkg = (g.D.Disk.files c.args.disk.now).pkg in
    let all = packages pkg (store_of c.args.db.now) in
    let old = node_numbers c.loop-next.nodes.items in
    sym (append-nil old) ∙ ap (λ (ns : List ℕ). old ++ ns) (sym (no_turn all good_of c.loop-next.passed (c.in_default.ensures.told pkg)))
    ∙ c.loop-next.invariant.numbers told

pub returns-clause-told : goal.returns-clause-told
returns-clause-told g c = λ told has.
    let pkg = (g.D.Disk.files c.args.disk.now).pkg in
    let all = packages pkg (store_of c.args.db.now) in
    let f = λ (e : ℕ × Package). edges_from all e.0 in
    let old = flat_map (edges_of (good_numbers all)) c.loop-next.nodes.items in
    sym (append-nil old) ∙ ap (λ (es : List Edge). old ++ es) (sym (no_turn all f c.loop-next.passed (c.in_default.ensures.told pkg)))
    ∙ c.loop-next.invariant.told told has

pub returns-clause-asks : goal.returns-clause-asks
returns-clause-asks g c = asks_ended g.D.Disk (Ok _) c.loop-next.invariant.asking tt

pub push_node-requires-clause-remembers : goal.push_node-requires-clause-remembers
push_node-requires-clause-remembers g c =
    known_here g.D.Disk (λ all. KnowsGivers all c.loop-next.memo) c.loop-next.invariant.asking c.loop-next.invariant.remembers

pub returns-in_err-push_node-clause-asks : goal.returns-in_err-push_node-clause-asks
returns-in_err-push_node-clause-asks g c =
    asks_failed g.D.Disk (asks_then g.D.Disk g.met.D.Disk.follows_trans c.loop-next.invariant.asking c.in_err-push_node.ensures.asks) c.from_residual.ensures.1

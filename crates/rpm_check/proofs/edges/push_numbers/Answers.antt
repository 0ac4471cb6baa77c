use Rattle.std.proofs.Common.{◌≡◌, ℕ, ◌+◌, ◌<◌, ◌≤◌, ◌++◌, [], ◌∷◌, List, length, drop, refl, sym, ap, ◌∙◌, subst, arith, append-nil}
use Rattle.std.specs.Prelude.{All}
use Rattle.std.proofs.lemmas.List.{drop_all}
use Rattle.std.proofs.lemmas.List.Elements.{All-nil, All-same}
use Rattle.rpm_check.proofs.Vocabulary.{Network, Node, node_numbers}
use Rattle.rpm_check.proofs.Gathering.{IsBelowFrom, numbers_behind, numbers_below, numbers_told}
use Rattle.rpm_check.proofs.edges.push_numbers.Goals as goal

pub loop-node-init : goal.loop-node-init
loop-node-init c =
    let nodes = c.args.nodes.now in
    record {
      edges = refl;
      below = All-same (IsBelowFrom nodes 0) c.args.graph.now.numbers [] c.requires.none (All-nil (IsBelowFrom nodes 0));
      told = ap (λ (ns : List ℕ). ns ++ node_numbers nodes) c.requires.none;
    }

pub push_number-requires : goal.push_number-requires
push_number-requires c =
    let nodes = c.args.nodes.now in
    let k = c.loop-node.node-index in
    let within : k < length nodes = omega arith in
    numbers_behind nodes c.requires.rising k c.node-item.result within c.node-item.is c.loop-node.graph.numbers c.loop-node.invariant.below

pub loop-node-preserved : goal.loop-node-preserved
loop-node-preserved c =
    let nodes = c.args.nodes.now in
    let rising = c.requires.rising in
    let k = c.loop-node.node-index in
    let v = c.node-item.result in
    let within : k < length nodes = omega arith in
    let inv = c.loop-node.invariant in
    let old = c.loop-node.graph.numbers in
    let added : c.push_number.new.self.numbers ≡ old ++ v.number ∷ [] = ap (λ (w : Network). w.numbers) c.in_ok-push_number.ensures.added in
    record {
      edges = ap (λ (w : Network). w.edges) c.in_ok-push_number.ensures.added ∙ inv.edges;
      below =
          subst (All (IsBelowFrom nodes (k + 1))) (sym added) (numbers_below nodes rising k v within c.node-item.is old inv.below);
      told =
          ap (λ (ns : List ℕ). ns ++ node_numbers (drop (k + 1) nodes)) added
          ∙ numbers_told nodes rising k v within c.node-item.is old (node_numbers nodes) inv.told;
    }

pub returns-clause-told : goal.returns-clause-told
returns-clause-told c =
    let nodes = c.args.nodes.now in
    let k = c.loop-node.node-index in
    let old = c.loop-node.graph.numbers in
    let over : length nodes ≤ k = omega arith in
    sym (append-nil old) ∙ ap (λ (vs : List Node). old ++ node_numbers vs) (sym (drop_all k nodes over)) ∙ c.loop-node.invariant.told

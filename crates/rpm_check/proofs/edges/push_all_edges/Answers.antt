use Rattle.std.proofs.Common.{◌≡◌, ℕ, ◌+◌, ◌<◌, ◌≤◌, ◌++◌, [], List, map, length, drop, refl, sym, ap, ◌∙◌, subst, arith, append-nil}
use Rattle.std.specs.Prelude.{filter}
use Rattle.rpm_check.proofs.Vocabulary.{Edge, edge, edges_of, flat_map, is_end, is_in, IsStrictlyIncreasing, Node}
use Rattle.std.proofs.lemmas.List.{drop_all}
use Rattle.std.proofs.lemmas.List.Elements.{All-nil, All-same}
use Rattle.rpm_check.proofs.Gathering.{IsBelowFrom, number_in, ends_rise, edges_behind, edges_below, edges_told}
use Rattle.rpm_check.proofs.edges.push_all_edges.Goals as goal

pub loop-node-init : goal.loop-node-init
loop-node-init c =
    let nodes = c.args.nodes.now in
    let P = λ (e : Edge). IsBelowFrom nodes 0 e.from in
    record {
      numbers = refl;
      below = All-same P c.args.graph.now.edges [] c.requires.none (All-nil P);
      told = ap (λ (es : List Edge). es ++ flat_map (edges_of c.args.graph.now.numbers) nodes) c.requires.none;
    }

pub push_edges-requires-clause-begins : goal.push_edges-requires-clause-begins
push_edges-requires-clause-begins c =
    let nodes = c.args.nodes.now in
    let k = c.loop-node.node-index in
    let v = c.node-item.result in
    let within : k < length nodes = omega arith in
    ap (is_in v.number) (c.loop-node.invariant.numbers ∙ c.requires.numbers) ∙ number_in nodes c.requires.rising k v within c.node-item.is

pub push_edges-requires-clause-rises : goal.push_edges-requires-clause-rises
push_edges-requires-clause-rises c =
    let nodes = c.args.nodes.now in
    let k = c.loop-node.node-index in
    let within : k < length nodes = omega arith in
    subst IsStrictlyIncreasing (sym c.deref.ensures.value) (ends_rise nodes c.requires.rising k c.node-item.result within c.node-item.is)

pub push_edges-requires-clause-behind : goal.push_edges-requires-clause-behind
push_edges-requires-clause-behind c =
    let nodes = c.args.nodes.now in
    let k = c.loop-node.node-index in
    let within : k < length nodes = omega arith in
    edges_behind nodes c.requires.rising k c.node-item.result within c.node-item.is c.loop-node.graph.edges c.loop-node.invariant.below

pub loop-node-preserved : goal.loop-node-preserved
loop-node-preserved c =
    let nodes = c.args.nodes.now in
    let rising = c.requires.rising in
    let numbers = c.args.graph.now.numbers in
    let k = c.loop-node.node-index in
    let v = c.node-item.result in
    let within : k < length nodes = omega arith in
    let inv = c.loop-node.invariant in
    let done = c.in_ok-push_edges.ensures in
    let old = c.loop-node.graph.edges in
    let n = v.number in
    let added : c.push_edges.new.graph.edges ≡ old ++ edges_of numbers v =
    done.told ∙ ap (λ (ms : List ℕ). old ++ map (edge n) (filter (is_end c.loop-node.graph.numbers n) ms)) c.deref.ensures.value
    ∙ ap (λ (ns : List ℕ). old ++ map (edge n) (filter (is_end ns n) v.ends.items)) inv.numbers in
    record {
      numbers = done.numbers ∙ inv.numbers;
      below = edges_below nodes rising k v within c.node-item.is c.push_edges.new.graph.edges done.reached;
      told =
          ap (λ (es : List Edge). es ++ flat_map (edges_of numbers) (drop (k + 1) nodes)) added
          ∙ edges_told nodes rising k v within c.node-item.is numbers old (flat_map (edges_of numbers) nodes) inv.told;
    }

pub returns-clause-told : goal.returns-clause-told
returns-clause-told c =
    let nodes = c.args.nodes.now in
    let k = c.loop-node.node-index in
    let old = c.loop-node.graph.edges in
    let over : length nodes ≤ k = omega arith in
    sym (append-nil old) ∙ ap (λ (vs : List Node). old ++ flat_map (edges_of c.args.graph.now.numbers) vs) (sym (drop_all k nodes over))
    ∙ c.loop-node.invariant.told

use Rattle.std.proofs.Common.{◌≡◌, ℕ, ◌+◌, ◌<◌, ◌≤◌, ◌++◌, [], ◌∷◌, List, drop, get_or, map, length, refl, sym, ap, ◌∙◌, subst, arith, append-nil}
use Rattle.std.specs.Prelude.{All, filter}
use Rattle.std.proofs.lemmas.List.{drop_all}
use Rattle.std.proofs.lemmas.List.Elements.{All-same, All-weaker}
use Rattle.rpm_check.proofs.Vocabulary.{BeginsBelow, BeginsUpTo, edge, is_end, is_in, Rises, rises}
use Rattle.rpm_check.proofs.Joining.{IsBehind, behind_all, behind_first, behind_more, low_more, told_more, next_drop}
use Rattle.rpm_check.proofs.edges.push_edges.Goals as goal

pub loop-to-init : goal.loop-to-init
loop-to-init c =
    let from = c.args.from in
    let edges = c.args.graph.now.edges in
    record {
      numbers = refl;
      rises = rises c.args.ends.now c.requires.rises;
      low = All-weaker (BeginsBelow from) (BeginsUpTo from) (λ e lt. omega (arith, lt)) edges c.requires.behind;
      behind = behind_all from c.args.ends.now edges c.requires.behind;
      told = refl;
    }

pub push_edge-requires-clause-begins : goal.push_edge-requires-clause-begins
push_edge-requires-clause-begins c = ap (is_in c.args.from) c.loop-to.invariant.numbers ∙ c.requires.begins

pub push_edge-requires-clause-behind : goal.push_edge-requires-clause-behind
push_edge-requires-clause-behind c =
    let ends = c.args.ends.now in
    let k = c.loop-to.to-index in
    let old = c.loop-to.graph.edges in
    let within : k < length ends = omega arith in
    behind_first c.args.from (get_or ends k 0) (drop (k + 1) ends) old
    (subst (λ (ms : List ℕ). All (IsBehind c.args.from ms) old) (next_drop ends k within) c.loop-to.invariant.behind)

pub loop-to-preserved : goal.loop-to-preserved
loop-to-preserved c =
    let ends = c.args.ends.now in
    let from = c.args.from in
    let first = c.args.graph.now in
    let p = is_end first.numbers from in
    let k = c.loop-to.to-index in
    let m = get_or ends k 0 in
    let ms = drop (k + 1) ends in
    let inv = c.loop-to.invariant in
    let old = c.loop-to.graph.edges in
    let new = c.push_edge.new.graph.edges in
    let within : k < length ends = omega arith in
    let next = next_drop ends k within in
    let whole = first.edges ++ map (edge from) (filter p ends) in
    let is : new ≡ old ++ map (edge from) (filter p (m ∷ [])) =
    c.in_ok-push_edge.ensures.told ∙ ap (λ (ns : List ℕ). old ++ map (edge from) (filter (is_end ns from) (m ∷ []))) inv.numbers in
    let rising = subst Rises next inv.rises in
    record {
      numbers = c.in_ok-push_edge.ensures.numbers ∙ inv.numbers;
      rises = rising.1;
      low = low_more p from m ms old new is inv.low;
      behind =
          behind_more p from m ms old new is rising.0 (subst (λ (ns : List ℕ). All (IsBehind from ns) old) next inv.behind);
      told = told_more p from m ms old new is whole (subst (λ (ns : List ℕ). old ++ map (edge from) (filter p ns) ≡ whole) next inv.told);
    }

pub returns-in_err-push_edge-clause-reached : goal.returns-in_err-push_edge-clause-reached
returns-in_err-push_edge-clause-reached c =
    All-same (BeginsUpTo c.args.from) c.push_edge.new.graph.edges c.loop-to.graph.edges c.in_err-push_edge.ensures.refused
    c.loop-to.invariant.low

pub returns-clause-told : goal.returns-clause-told
returns-clause-told c =
    let ends = c.args.ends.now in
    let from = c.args.from in
    let p = is_end c.args.graph.now.numbers from in
    let k = c.loop-to.to-index in
    let old = c.loop-to.graph.edges in
    let over : length ends ≤ k = omega arith in
    sym (append-nil old) ∙ ap (λ (ns : List ℕ). old ++ map (edge from) (filter p ns)) (sym (drop_all k ends over)) ∙ c.loop-to.invariant.told

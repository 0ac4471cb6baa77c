use Rattle.rpm_check.proofs.Vocabulary.{AreNodesRising, Edge, edges_of, flat_map, givers, good_if, good_numbers, is_in, IsStrictlyIncreasing, needs_at, Node}
use Rattle.rpm_check.proofs.Vocabulary.{NoMemory, node_numbers, packages, store_of}
use Rattle.std.proofs.Common.{◌≡◌, ℕ, ◌<◌, ◌≤◌, ◌++◌, [], ◌∷◌, Bool, List, Ok, Err, refl, sym, ap, ◌∙◌, subst, arith, append-nil}
use Rattle.std.specs.Prelude.{All}
use Rattle.std.specs.FinMap as finite
use Rattle.std.proofs.lemmas.List.Elements.{All-weaker}
use Rattle.rpm_check.proofs.Asking.{asking_of, asks_ended, asks_failed}
use Rattle.rpm_check.proofs.Ending.{same_ends}
use Rattle.rpm_check.proofs.Gathering.{edges_push, nodes_reach, nodes_rise, none_from, numbers_push}
use Rattle.rpm_check.proofs.nodes.push_node.Goals.{in-Ok, in-Err-push}
use Rattle.rpm_check.proofs.nodes.push_node.Goals as goal

pub returns-in-Ok-None-clause-told : goal.returns-in-Ok-None-clause-told
returns-in-Ok-None-clause-told g c = λ told has.
    let all = packages (g.D.Disk.files c.args.disk.now).pkg (store_of c.args.db.now) in
    let old = flat_map (edges_of (good_numbers all)) c.args.nodes.now.items in
    let none = none_from all c.args.number ((rw c.in-Ok-None.field-0-is at c.in-Ok-None.ensures.good) told) in
    sym (append-nil old) ∙ ap (λ (es : List Edge). old ++ es) (sym none)

pub returns-in-Err-clause-asks : goal.returns-in-Err-clause-asks
returns-in-Err-clause-asks g c = asks_failed g.D.Disk c.in-Err.ensures.asks refl

pub returns-in-Ok-None-clause-reached : goal.returns-in-Ok-None-clause-reached
returns-in-Ok-None-clause-reached g c =
    All-weaker (λ (n : ℕ). n < c.args.number) (λ (n : ℕ). n ≤ c.args.number) (λ n lt. omega (arith, lt)) (node_numbers c.args.nodes.now.items) c.requires.below

pub returns-in-Ok-None-clause-numbers : goal.returns-in-Ok-None-clause-numbers
returns-in-Ok-None-clause-numbers g c = λ told.
    let old = node_numbers c.args.nodes.now.items in
    sym (append-nil old)
    ∙ ap (λ (b : Bool). old ++ good_if b c.args.number) ((rw c.in-Ok-None.field-0-is at c.in-Ok-None.ensures.good) told)

pub returns-clause-reached : goal.returns-clause-reached
returns-clause-reached g c =
    let nodes = c.args.nodes.now.items in
    let v : Node = record { number = c.args.number; ends = c.in-Ok-Some.ends } in
    elim c.match-push.branch [
      | in-Ok w ↦
          let more : c.push.new.self.items ≡ nodes ++ v ∷ [] = w.in-Ok.ensures.items in
          rw w.result-is
          (subst (λ (vs : List Node). All (λ (n : ℕ). n ≤ c.args.number) (node_numbers vs)) (sym more) (nodes_reach nodes v c.requires.below))
      | in-Err-push w ↦ rw w.result-is tt
    ]

pub returns-clause-told : goal.returns-clause-told
returns-clause-told g c =
    let all = packages (g.D.Disk.files c.args.disk.now).pkg (store_of c.args.db.now) in
    let good = good_numbers all in
    let number = c.args.number in
    let nodes = c.args.nodes.now.items in
    let ends = c.in-Ok-Some.ends in
    let v : Node = record { number = number; ends = ends } in
    let rising : IsStrictlyIncreasing ends.items = rw c.in-Ok-Some.field-0-is at c.in-Ok-Some.ensures.rising in
    elim c.match-push.branch [
      | in-Ok w ↦
          let more : c.push.new.self.items ≡ nodes ++ v ∷ [] = w.in-Ok.ensures.items in
          rw w.result-is (λ told has.
          let same : (m : ℕ) → is_in m ends.items ≡ is_in m (flat_map (givers all) (needs_at (finite.get all number))) =
          λ m. (rw c.in-Ok-Some.field-0-is at c.in-Ok-Some.ensures.told) told has m in
          ap (flat_map (edges_of good)) more ∙ edges_push nodes v good
          ∙ ap (λ (es : List Edge). flat_map (edges_of good) nodes ++ es) (same_ends all number good ends.items refl rising same))
      | in-Err-push w ↦ rw w.result-is tt
    ]

pub returns-clause-rising : goal.returns-clause-rising
returns-clause-rising g c =
    let nodes = c.args.nodes.now.items in
    let v : Node = record { number = c.args.number; ends = c.in-Ok-Some.ends } in
    let rising : IsStrictlyIncreasing v.ends.items = rw c.in-Ok-Some.field-0-is at c.in-Ok-Some.ensures.rising in
    elim c.match-push.branch [
      | in-Ok w ↦ rw w.result-is (subst AreNodesRising (sym w.in-Ok.ensures.items) (nodes_rise nodes v c.requires.below c.requires.rising rising))
      | in-Err-push w ↦ rw w.result-is tt
    ]

pub returns-clause-numbers : goal.returns-clause-numbers
returns-clause-numbers g c =
    let number = c.args.number in
    let nodes = c.args.nodes.now.items in
    let v : Node = record { number = number; ends = c.in-Ok-Some.ends } in
    elim c.match-push.branch [
      | in-Ok w ↦
          rw w.result-is (λ told.
          ap node_numbers w.in-Ok.ensures.items ∙ numbers_push nodes v
          ∙ ap (λ (b : Bool). node_numbers nodes ++ good_if b number) ((rw c.in-Ok-Some.field-0-is at c.in-Ok-Some.ensures.good) told))
      | in-Err-push w ↦ rw w.result-is tt
    ]

pub returns-clause-asks : goal.returns-clause-asks
returns-clause-asks g c =
    let asked = asking_of g.D.Disk c.in-Ok-Some.ensures.asks in
    elim c.match-push.branch [
      | in-Ok w ↦ rw w.result-is (asks_ended g.D.Disk (Ok tt) asked tt)
      | in-Err-push w ↦ rw w.result-is (asks_ended g.D.Disk (Err NoMemory) asked refl)
    ]

pub returns-clause-remembered : goal.returns-clause-remembered
returns-clause-remembered g c = c.in-Ok-Some.ensures.remembered

pub returns-in-Ok-None-clause-asks : goal.returns-in-Ok-None-clause-asks
returns-in-Ok-None-clause-asks g c = asks_ended g.D.Disk (Ok tt) (asking_of g.D.Disk c.in-Ok-None.ensures.asks) tt

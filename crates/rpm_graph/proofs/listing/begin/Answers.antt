use Rattle.std.proofs.Common.{◌≡◌, length, ap, subst, ◌∙◌, arith, inl, inr}
use Rattle.std.proofs.lemmas.Bool.{cases_lt}
use Rattle.std.proofs.lemmas.List.{length-map}
use Rattle.rpm_graph.proofs.Vocabulary.{IsReadyOrWaits, listed_at, row_lists}
use Rattle.rpm_graph.proofs.Beginning.{begun, none_listed}
use Rattle.rpm_graph.proofs.listing.begin.Goals as goal

pub loop-class-init : goal.loop-class-init
loop-class-init c =
    let b = c.in_ok-listing.ensures in
    record {
      underway = begun (row_lists c.args.ends.now) c.args.leasts.now c.in_ok-listing.listing (length c.args.ends.now)
          (length-map c.args.ends.now (λ r. r.items)) b;
      listed = b.listed;
      placed = λ x lt. absurd (omega (arith, lt));
    }

pub loop-class-preserved : goal.loop-class-preserved
loop-class-preserved c =
    let e = c.in_ok-settle.ensures in
    let i = c.loop-class.class in
    record {
      underway = e.underway;
      listed = e.same ∙ c.loop-class.invariant.listed;
      placed = λ x lt. elim (cases_lt x i) [
        | inl less ↦ e.keeps x (c.loop-class.invariant.placed x less)
        | inr end ↦ let here : i ≡ x = omega (arith, lt, end) in subst (λ y. IsReadyOrWaits c.args.leasts.now c.settle.new.self y) here e.placed
      ];
    }

pub settle-requires-clause-unlisted : goal.settle-requires-clause-unlisted
settle-requires-clause-unlisted c =
    ap (λ l. listed_at l c.loop-class.class) c.loop-class.invariant.listed ∙ none_listed (length c.args.ends.now) c.loop-class.class

pub returns-clause-placed : goal.returns-clause-placed
returns-clause-placed c = λ x lt free. c.loop-class.invariant.placed x (omega (arith, lt, c.loop-class-test.false))

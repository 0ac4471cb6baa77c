use Rattle.std.proofs.Common.{◌≡◌, inl, inr, ℕ, ◌+◌, ◌-◌, ◌*◌, ◌/◌, ◌%◌, ◌<◌, ◌≤◌, refl, ap, ◌∙◌, arith}
use Rattle.std.specs.Prelude.{Bool, not}
use Rattle.std.proofs.lemmas.Bool.{cases_lt}
use Rattle.rpm_group.proofs.Vocabulary.{is_held, Table}
use Rattle.rpm_group.proofs.scan.next_unit.Goals as goal

-- as far as a place in the page
between_more : (table : Table) (from at q next : ℕ) (held : Bool) → q ≡ at / 256 → ((i : ℕ) → from ≤ i → i < at → is_held table i ≡ not held)
    → ((k : ℕ) → at % 256 ≤ k → k < next → is_held table (256 * q + k) ≡ not held)
    → (i : ℕ) → from ≤ i → i < 256 * q + next → is_held table i ≡ not held
between_more table from at q next held is before here i low high = elim (cases_lt i at) [
  | inl earlier ↦ before i low earlier
  | inr later ↦
      let k : ℕ = i - 256 * q in
      let place : i ≡ 256 * q + k = omega (arith, is, later) in
      ap (λ (j : ℕ). is_held table j) place ∙ here k (omega (arith, is, later)) (omega arith)
]

pub returns-then-next-stop : goal.returns-then-next-stop
returns-then-next-stop c =
    let next = c.next_in-next.ensures in
    record {
      from = omega (arith, c.loop-at.invariant.from, next.from);
      end = omega (arith, next.end, c.min-stop.ensures);
      between = between_more c.args.table.now.items c.args.from c.loop-at.at (c.loop-at.at / 256) c.next_in-next.result c.args.held refl
          c.loop-at.invariant.between next.between;
      found = λ below. next.found c.if-next-stop.true;
    }

pub returns : goal.returns
returns c =
    let was = c.loop-at.invariant in
    record {
      from = c.requires.ordered;
      end = omega arith;
      between = λ i low high. was.between i low (omega (arith, high, c.loop-at-test.false));
      found = λ below. absurd (omega (arith, below));
    }

pub loop-at-preserved : goal.loop-at-preserved
loop-at-preserved c =
    let same : c.min-stop.result ≡ c.next_in-next.result = omega (arith, c.next_in-next.ensures.end) in
    let skipped = c.skip_absent-at-in-loop-at.ensures in
    let so_far = between_more c.args.table.now.items c.args.from c.loop-at.at (c.loop-at.at / 256) c.min-stop.result c.args.held refl
    c.loop-at.invariant.between (λ k low high. c.next_in-next.ensures.between k low (omega (arith, same, high))) in
    record {
      from = omega (arith, c.loop-at.invariant.from, c.min-stop.ensures, skipped.from);
      end = skipped.end;
      between = λ i low high. elim (cases_lt i (256 * (c.loop-at.at / 256) + c.min-stop.result)) [
        | inl before ↦ so_far i low before
        | inr past ↦ skipped.between i past high
      ];
    }

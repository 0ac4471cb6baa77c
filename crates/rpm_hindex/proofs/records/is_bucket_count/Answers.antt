use Rattle.std.proofs.Common.{◌≡◌, ℕ, ◌*◌, ◌%◌, ◌^◌, eqb, get_or, sym, ap, ◌∙◌, arith, ◌<◌, below_more, false}
use Rattle.rpm_hindex.proofs.Vocabulary.{is_bucket_count, list_any, range_with_len}
use Rattle.std.proofs.lemmas.List.FromFn.{get_or-range_with_len, length-range_with_len}
use Rattle.std.proofs.lemmas.List.Folds.{list_any_at, list_any_none}
use Rattle.std.proofs.lemmas.Nat.{shl_whole}
use Rattle.std.proofs.lemmas.Bool.{eq-eqb, ne_eqb}
use Rattle.rpm_hindex.proofs.records.is_bucket_count.Goals as goal

shifted : (k : ℕ) → k < 22 → (64 * 2 ^ k) % 2 ^ 32 ≡ 64 * 2 ^ k
shifted k lt = shl_whole 64 7 k 32 (omega arith) (omega arith)

pub loop-k-preserved : goal.loop-k-preserved
loop-k-preserved c = below_more _ _ c.loop-k.invariant (λ e. c.if-buckets-k.false (e ∙ sym (shifted c.loop-k.k c.loop-k-test.true)))

none : (b : ℕ) → ((j : ℕ) → j < 22 → b ≡ 64 * 2 ^ j → ⊥) → list_any (λ k. eqb b (64 * 2 ^ k)) (range_with_len 0 22) ≡ false
none b not_one = list_any_none (λ k. eqb b (64 * 2 ^ k)) (range_with_len 0 22) (λ k d lt.
    let is : get_or (range_with_len 0 22) k d ≡ k = get_or-range_with_len 0 22 k d (omega (arith, length-range_with_len 0 22)) ∙ omega arith in
    ap (λ (j : ℕ). eqb b (64 * 2 ^ j)) is ∙ ne_eqb b (64 * 2 ^ k) (not_one k (omega (arith, length-range_with_len 0 22))))

pub returns : goal.returns
unfolding is_bucket_count
returns c = sym (none c.args.buckets (λ j lt. c.loop-k.invariant j (omega arith)))

pub returns-then-buckets-k : goal.returns-then-buckets-k
unfolding is_bucket_count
returns-then-buckets-k c =
    let k = c.loop-k.k in
    let b = c.args.buckets in
    let is : get_or (range_with_len 0 22) k 0 ≡ k = get_or-range_with_len 0 22 k 0 c.loop-k-test.true ∙ omega arith in
    sym (list_any_at (λ (j : ℕ). eqb b (64 * 2 ^ j)) (range_with_len 0 22) k 0 (omega (arith, length-range_with_len 0 22, c.loop-k-test.true))
    (ap (λ (j : ℕ). eqb b (64 * 2 ^ j)) is ∙ eq-eqb b (64 * 2 ^ k) (c.if-buckets-k.true ∙ shifted k c.loop-k-test.true)))

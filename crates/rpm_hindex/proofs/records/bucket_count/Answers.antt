use Rattle.std.proofs.Common.{◌≡◌, ℕ, zero, suc, ◌≤◌, ◌*◌, ◌+◌, ◌<◌, sym, ap, ◌∙◌, refl, arith, leb}
use Rattle.std.proofs.lemmas.Bool.{lt-leb, le-leb, cond-false, cond-true}
use Rattle.rpm_hindex.proofs.Vocabulary.{bucket_count, doubled_buckets}
use Rattle.rpm_hindex.proofs.records.bucket_count.Goals as goal

pub loop-buckets-init : goal.loop-buckets-init
unfolding bucket_count
loop-buckets-init c = record { some = omega arith; most = omega arith; count = (c.args.records, omega arith, refl) }

-- one doubling more
more : (n b r t : ℕ) → 0 < b → 2 * b < r → r ≤ 2 * b + n → doubled_buckets n b r ≡ t → (m : ℕ) × (r ≤ 2 * (2 * b) + m) × (doubled_buckets m (2 * b) r ≡ t)
more zero b r t some lt le e = absurd (omega arith)
more (suc n) b r t some lt le e = (n, omega arith, sym (cond-false (leb r (2 * b)) b (doubled_buckets n (2 * b) r) (lt-leb r (2 * b) lt)) ∙ e)

done : (n b r t : ℕ) → r ≤ 2 * b → doubled_buckets n b r ≡ t → b ≡ t
done zero b r t le e = e
done (suc n) b r t le e = sym (cond-true (leb r (2 * b)) b (doubled_buckets n (2 * b) r) (le-leb r (2 * b) le)) ∙ e

pub loop-buckets-preserved : goal.loop-buckets-preserved
loop-buckets-preserved c =
    let l = c.loop-buckets in
    let i = l.invariant in
    let twice : 2 * l.buckets ≡ l.buckets * 2 = omega arith in
    let m = more i.count.0 l.buckets c.args.records (bucket_count c.args.records) (omega (arith, i.some)) c.loop-buckets-test.true i.count.1 i.count.2 in
    record {
      some = omega (arith, i.some);
      most = omega (arith, c.loop-buckets-test.true, c.requires);
      count = (m.0, omega (arith, m.1), ap (λ (b : ℕ). doubled_buckets m.0 b c.args.records) (sym twice) ∙ m.2);
    }

pub returns-clause-count : goal.returns-clause-count
returns-clause-count c = done c.loop-buckets.invariant.count.0 c.loop-buckets.buckets c.args.records (bucket_count c.args.records)
    c.loop-buckets-test.false c.loop-buckets.invariant.count.2

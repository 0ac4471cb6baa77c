use Rattle.std.proofs.Common.{◌≡◌, ℕ, ◌+◌, ◌<◌, cond, ltb, eqb, true, false, arith, sym, ◌∙◌, ap, inl, inr}
use Rattle.rpm_hindex.proofs.Vocabulary.{Equal, Greater, Hit, hit_at, is_lt, IsBefore, Less, nat_cmp, Ordering, ordering_then, same_hit, times_hit}
use Rattle.std.proofs.lemmas.Bool.{lt-ltb, le-ltb, eq-eqb, cond-true, cond-false, cases_order, cases_lt, false≢true}
use Rattle.std.proofs.lemmas.List.Sorted.{sum_by-IsPermutation}
use Rattle.rpm_hindex.proofs.chain.sorted.Goals as goal

less : (x y : ℕ) → x < y → nat_cmp x y ≡ Less
less x y lt = cond-true (ltb x y) Less (cond (eqb x y) Equal Greater) (lt-ltb x y lt)

equal : (x y : ℕ) → x ≡ y → nat_cmp x y ≡ Equal
equal x y e = cond-false (ltb x y) Less (cond (eqb x y) Equal Greater) (le-ltb x y (omega arith)) ∙ cond-true (eqb x y) Equal Greater (eq-eqb x y e)

order : (a b : Hit) → is_lt (ordering_then (nat_cmp b.number a.number) (nat_cmp b.place a.place)) ≡ false → IsBefore a b
order a b e = elim (cases_order a.number b.number) [
  | inl same ↦ elim (cases_lt b.place a.place) [
    | inl below ↦
        let wrong : true ≡ false = sym (ap (λ (o : Ordering). is_lt (ordering_then o (nat_cmp b.place a.place))) (equal b.number a.number (sym same))
        ∙ ap is_lt (less b.place a.place below)) ∙ e in
        absurd (false≢true (sym wrong))
    | inr above ↦ inr (same, above)
  ]
  | inr other ↦ elim other [
    | inl below ↦ inl below
    | inr above ↦
        let wrong : true ≡ false = sym (ap (λ (o : Ordering). is_lt (ordering_then o (nat_cmp b.place a.place))) (less b.number a.number above)) ∙ e in
        absurd (false≢true (sym wrong))
  ]
]

pub returns-clause-rising : goal.returns-clause-rising
returns-clause-rising c k lt =
    let items = c.sort_unstable.new.self.items in
    order (hit_at items k) (hit_at items (k + 1)) (c.sort_unstable.ensures.sorted k (record { number = 0; place = 0 }) (omega arith) lt)

pub returns-clause-same : goal.returns-clause-same
unfolding times_hit
returns-clause-same c hit = sum_by-IsPermutation (λ (h : Hit). cond (same_hit hit h) 1 0) _ _ c.sort_unstable.ensures.permutation

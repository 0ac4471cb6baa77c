-- The packages above a number.
use Rattle.std.proofs.Common.{◌≡◌, ℕ, ◌<◌, ◌≤◌, Bool, true, false, ◌&&◌, ◌==◌, cond, List, [], ◌∷◌, Option, Some, None}
use Rattle.std.proofs.Common.{is_some, refl, sym, ap, ◌∙◌, subst, inl, inr, arith, nat_lt, Less, Equal, Greater}
use Rattle.std.specs.Prelude.{T}
use Rattle.std.specs.Ordering.{nat_cmp, eq_by_cmp, is_lt}
use Rattle.std.specs.Cmp.{unsigned_tied}
use Rattle.std.specs.FinMap as finite
use Rattle.std.specs.FinMap.Entries.{below_all}
use Rattle.rpm_db.specs.State.{above}
use Rattle.std.proofs.lemmas.Bool.{cases_lt, cases_order}
use Rattle.std.proofs.lemmas.Bool.Decides.{nat_tests}

pub both_true : (a b : Bool) → T (a && b) → T a × T b
both_true true b t = (tt, t)
both_true false b t = absurd t

pub none_is : {X : Type 0} (o : Option X) → is_some o ≡ false → o ≡ None
none_is None none = refl
none_is (Some x) none = absurd cc

pub is_lt-nat_cmp : (a b : ℕ) → is_lt (nat_cmp a b) ≡ nat_lt a b
is_lt-nat_cmp a b = elim (nat_lt a b) as (λ t. is_lt (cond t Less (cond (a == b) Equal Greater)) ≡ t) [
  | true ↦ refl
  | false ↦ elim (a == b) as (λ t. is_lt (cond t Equal Greater) ≡ false) [ true ↦ refl | false ↦ refl ]
]

pub is_below : (a b : ℕ) → T (is_lt (nat_cmp a b)) → a < b
is_below a b t = below_of (nat_lt a b) refl (subst T (is_lt-nat_cmp a b) t)
  where
    below_of : (r : Bool) → nat_lt a b ≡ r → T r → a < b
    below_of true e u = grind (arith, nat_tests)
    below_of false e u = absurd u

-- all numbers of these lie above x
all_above : {X : Type 0} (n x : ℕ) (es : List (ℕ × X)) → T (below_all nat_cmp x es) → n ≤ x → above n es ≡ es
all_above n x [] t le = refl
all_above n x (e ∷ es) t le =
    let s = both_true (is_lt (nat_cmp x e.0)) (below_all nat_cmp x es) t in
    let lt : x < e.0 = is_below x e.0 s.0 in
    let test : nat_lt n e.0 ≡ true = grind (arith, nat_tests) in
    rw test (ap (λ ys. e ∷ ys) (all_above n x es s.1 le))

found_at : {X : Type 0} (q : ℕ) (e : ℕ × X) (es : List (ℕ × X)) → q ≡ e.0 → finite.find nat_cmp q (e ∷ es) ≡ Some e.1
found_at q e es is =
    let test : eq_by_cmp nat_cmp q e.0 ≡ true = unsigned_tied q e.0 ∙ grind (arith, nat_tests) in
    rw test refl

passed : {X : Type 0} (q : ℕ) (e : ℕ × X) (es : List (ℕ × X)) → (q ≡ e.0 → ⊥)
    → finite.find nat_cmp q (e ∷ es) ≡ finite.find nat_cmp q es
passed q e es other =
    let test : eq_by_cmp nat_cmp q e.0 ≡ false = unsigned_tied q e.0 ∙ grind (arith, nat_tests) in
    rw test refl

pub none_below : {X : Type 0} (q x : ℕ) (es : List (ℕ × X)) → T (below_all nat_cmp x es) → q ≤ x
    → finite.find nat_cmp q es ≡ None
none_below q x [] t le = refl
none_below q x (e ∷ es) t le =
    let s = both_true (is_lt (nat_cmp x e.0)) (below_all nat_cmp x es) t in
    let lt : x < e.0 = is_below x e.0 s.0 in
    passed q e es (λ is. omega arith) ∙ none_below q x es s.1 le

none_left : {X : Type 0} (n : ℕ) (es : List (ℕ × X)) → T (finite.is_sorted nat_cmp es)
    → ((k : ℕ) → n < k → finite.find nat_cmp k es ≡ None) → above n es ≡ []
none_left n [] t none = refl
none_left n (e ∷ es) t none = elim (cases_lt n e.0) [
  | inl here ↦ (let both : Some e.1 ≡ None = sym (found_at e.0 e es refl) ∙ none e.0 here in cc)
  | inr below ↦
      (let s = both_true (below_all nat_cmp e.0 es) (finite.is_sorted nat_cmp es) t in
      let test : nat_lt n e.0 ≡ false = grind (arith, nat_tests) in
      rw test (none_left n es s.1 (λ k lt. sym (passed k e es (λ is. omega arith)) ∙ none k lt)))
]

next_left : {X : Type 0} (n m : ℕ) (v : X) (es : List (ℕ × X)) → T (finite.is_sorted nat_cmp es) → n < m
    → finite.find nat_cmp m es ≡ Some v
    → ((k : ℕ) → n < k → k < m → finite.find nat_cmp k es ≡ None) → above n es ≡ (m, v) ∷ above m es
next_left n m v [] t lt found none = cc
next_left n m v (e ∷ es) t lt found none = elim (cases_lt n e.0) [
  | inr below ↦
      (let s = both_true (below_all nat_cmp e.0 es) (finite.is_sorted nat_cmp es) t in
      let here : nat_lt n e.0 ≡ false = grind (arith, nat_tests) in
      let there : nat_lt m e.0 ≡ false = grind (arith, nat_tests) in
      rw (here, there) (next_left n m v es s.1 lt (sym (passed m e es (λ is. omega arith)) ∙ found)
      (λ k a b. sym (passed k e es (λ is. omega arith))
      ∙ none k a b)))
  | inl first ↦
      (let s = both_true (below_all nat_cmp e.0 es) (finite.is_sorted nat_cmp es) t in
      let here : nat_lt n e.0 ≡ true = grind (arith, nat_tests) in
      elim (cases_order e.0 m) [
        | inl same ↦
            (let value : Some e.1 ≡ Some v = sym (found_at m e es (sym same)) ∙ found in
            let is : e.1 ≡ v = cc in
            let there : nat_lt m e.0 ≡ false = grind (arith, nat_tests) in
            let one : above n es ≡ es = all_above n e.0 es s.0 (omega arith) in
            let two : above m es ≡ es = all_above m e.0 es s.0 (omega arith) in
            rw (here, there) (ap (λ ys. e ∷ ys) (one ∙ sym two) ∙ ap (λ (k : ℕ). (k, e.1) ∷ above m es) same
            ∙ ap (λ x. (m, x) ∷ above m es) is))
        | inr other ↦ elim other [
          | inl before ↦ (let both : Some e.1 ≡ None = sym (found_at e.0 e es refl) ∙ none e.0 first before in cc)
          | inr after ↦ (let both : None ≡ Some v = sym (none_below m e.0 es s.0 (omega arith))
              ∙ sym (passed m e es (λ is. omega arith)) ∙ found in cc)
        ]
      ])
]

all_of : {X : Type 0} (es : List (ℕ × X)) → T (finite.is_sorted nat_cmp es) → finite.find nat_cmp 0 es ≡ None
    → above 0 es ≡ es
all_of [] t none = refl
all_of (e ∷ es) t none = elim (cases_lt 0 e.0) [
  | inl here ↦
      (let s = both_true (below_all nat_cmp e.0 es) (finite.is_sorted nat_cmp es) t in
      let test : nat_lt 0 e.0 ≡ true = grind (arith, nat_tests) in
      rw test (ap (λ ys. e ∷ ys) (all_above 0 e.0 es s.0 (omega arith))))
  | inr zero ↦ (let both : Some e.1 ≡ None = sym (found_at 0 e es (omega arith)) ∙ none in cc)
]

-- of a map
module _ {X : Type 0} (map : finite.FinMap nat_cmp X) where
  pub nothing_above : (n : ℕ) → ((k : ℕ) → n < k → finite.get map k ≡ None) → above n (finite.entries map) ≡ []
  nothing_above n none =
      none_left n (finite.entries map) (finite.entries_sorted map) (λ k lt. sym (finite.get-entries map k) ∙ none k lt)

  pub next_above : (n m : ℕ) (v : X) → n < m → finite.get map m ≡ Some v
      → ((k : ℕ) → n < k → k < m → finite.get map k ≡ None)
      → above n (finite.entries map) ≡ (m, v) ∷ above m (finite.entries map)
  next_above n m v lt found none =
      next_left n m v (finite.entries map) (finite.entries_sorted map) lt (sym (finite.get-entries map m) ∙ found)
      (λ k a b. sym (finite.get-entries map k)
      ∙ none k a b)

  pub all_above_zero : finite.get map 0 ≡ None → above 0 (finite.entries map) ≡ finite.entries map
  all_above_zero none = all_of (finite.entries map) (finite.entries_sorted map) (sym (finite.get-entries map 0) ∙ none)

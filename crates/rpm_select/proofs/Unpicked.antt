-- A package out of reach is not picked.
use Rattle.rpm_select.proofs.Vocabulary.{above, below_all, both_true, Database, eq_by_cmp, Everything, filter, is_picked, is_there, nat_cmp, none_below}
use Rattle.rpm_select.proofs.Vocabulary.{Package, packages, Reach, reaches, store_of, Selection, Serves, These, Units, unsigned_tied}
use Rattle.std.proofs.Common.{◌≡◌, ℕ, ◌<◌, ◌≤◌, List, [], ◌∷◌, Bool, true, false, Some, None, is_some, refl, sym, ap, ◌∙◌, inl, inr, arith, nat_lt}
use Rattle.std.specs.Prelude.{T}
use Rattle.std.specs.FinMap as finite
use Rattle.std.proofs.lemmas.Bool.{cases_Bool}
use Rattle.std.proofs.lemmas.Bool.Decides.{nat_tests}

pub find_here : {X : Type 0} (e : ℕ × X) (es : List (ℕ × X)) → finite.find nat_cmp e.0 (e ∷ es) ≡ Some e.1
find_here e es =
    let test : eq_by_cmp nat_cmp e.0 e.0 ≡ true = unsigned_tied e.0 e.0 ∙ grind (arith, nat_tests) in
    rw test refl

-- what is found after the first is found with it too
pub find_later : {X : Type 0} (q : ℕ) (v : X) (e : ℕ × X) (es : List (ℕ × X)) → T (below_all nat_cmp e.0 es) → finite.find nat_cmp q es ≡ Some v
    → finite.find nat_cmp q (e ∷ es) ≡ Some v
find_later q v e es t found = elim (cases_Bool (eq_by_cmp nat_cmp q e.0)) [
  | inl same ↦
      (let is : q ≤ e.0 = grind (arith, nat_tests, unsigned_tied q e.0, same) in
      let both : Some v ≡ None = sym found ∙ none_below q e.0 es t is in
      absurd cc)
  | inr other ↦ rw other found
]

module _ (P : ℕ × Package → Bool) (k m : ℕ) (le : k ≤ m) where
  pub skip_in : (es : List (ℕ × Package)) → T (finite.is_sorted nat_cmp es)
      → ((q : ℕ) (p : Package) → k < q → q ≤ m → finite.find nat_cmp q es ≡ Some p → P (q, p) ≡ false) → filter P (above k es) ≡ filter P (above m es)
  skip_in [] t none = refl
  skip_in (e ∷ es) t none =
      let s = both_true (below_all nat_cmp e.0 es) (finite.is_sorted nat_cmp es) t in
      let rest : filter P (above k es) ≡ filter P (above m es) = skip_in es s.1 (λ q p a b f. none q p a b (find_later q p e es s.0 f)) in
      elim (cases_Bool (nat_lt k e.0)) [
        | inr before ↦ (let before_too : nat_lt m e.0 ≡ false = grind (arith, nat_tests) in rw (before, before_too) rest)
        | inl behind ↦ elim (cases_Bool (nat_lt m e.0)) [
          | inl behind_too ↦ elim (cases_Bool (P e)) [
            | inl takes ↦ simp (behind, behind_too, takes) (ap (λ ys. e ∷ ys) rest)
            | inr other ↦ simp (behind, behind_too, other) rest
          ]
          | inr within ↦
              (let passed : P e ≡ false = none e.0 e.1 (grind (arith, nat_tests)) (grind (arith, nat_tests)) (find_here e es) in
              simp (behind, within, passed) rest)
        ]
      ]

pub none_in : (P : ℕ × Package → Bool) (k : ℕ) (es : List (ℕ × Package)) → T (finite.is_sorted nat_cmp es)
    → ((q : ℕ) (p : Package) → k < q → finite.find nat_cmp q es ≡ Some p → P (q, p) ≡ false) → filter P (above k es) ≡ []
none_in P k [] t none = refl
none_in P k (e ∷ es) t none =
    let s = both_true (below_all nat_cmp e.0 es) (finite.is_sorted nat_cmp es) t in
    let rest : filter P (above k es) ≡ [] = none_in P k es s.1 (λ q p a f. none q p a (find_later q p e es s.0 f)) in
    elim (cases_Bool (nat_lt k e.0)) [
      | inr before ↦ rw before rest
      | inl behind ↦
          (let passed : P e ≡ false = none e.0 e.1 (grind (arith, nat_tests)) (find_here e es) in
          simp (behind, passed) rest)
    ]

-- a package out of reach isn't picked
pub unpicked : (r : Reach) (file : Units) (db : Database) (sel : Selection) → Serves r (packages file (store_of db)) sel → (q : ℕ) (p : Package)
    → reaches r db q ≡ false → finite.get (packages file (store_of db)) q ≡ Some p → is_picked sel (q, p) ≡ false
unpicked Everything file db sel serves q p out there =
    (let both : true ≡ false = sym (ap is_some there) ∙ is_there file db q ∙ out in absurd cc)
unpicked (These ns) file db sel serves q p out there = elim (cases_Bool (is_picked sel (q, p))) [
  | inl takes ↦ (let both : true ≡ false = sym (serves q p there takes) ∙ out in absurd cc)
  | inr other ↦ other
]

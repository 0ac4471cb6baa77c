-- The numbers of the packages that are there, all below a number.
use Rattle.std.proofs.Common.{◌≡◌, ℕ, ◌+◌, ◌≤◌, ◌<◌, true, false, ◌==◌, None, is_some, sym, ap, ◌∙◌, refl, inl, inr, arith}
use Rattle.rpm_history.proofs.Vocabulary.{eq_by_cmp, FinMap, greatest_in, nat_cmp, Package, unsigned_tied}
use Rattle.rpm_db.proofs.laws.StateLaws.{below_greatest, found_greatest}
use Rattle.std.specs.FinMap as finite
use Rattle.std.proofs.lemmas.Bool.{cases_Bool}
use Rattle.std.proofs.lemmas.Bool.Decides.{nat_tests}
use Rattle.std.proofs.lemmas.Cmp.{nat_cmp_total}

-- each number that has a package is below b
abbrev pub HeldBelow : FinMap nat_cmp Package → ℕ → Type 0
HeldBelow map b = (n : ℕ) → is_some (finite.get map n) ≡ true → n < b

module _ (map : FinMap nat_cmp Package) (b : ℕ) where
  pub held_below : greatest_in (finite.entries map) + 1 ≤ b → HeldBelow map b
  held_below above n there =
      let le = below_greatest (finite.entries map) n (sym (ap is_some (finite.get-entries map n)) ∙ there) in
      omega (arith, le, above)

  pub greatest_below : 1 ≤ b → HeldBelow map b → greatest_in (finite.entries map) + 1 ≤ b
  greatest_below some below = elim (cases_Bool (greatest_in (finite.entries map) == 0)) [
    | inl none ↦ (let is : greatest_in (finite.entries map) ≡ 0 = grind (arith, nat_tests) in omega (arith, is, some))
    | inr any ↦
        (let lt : 0 < greatest_in (finite.entries map) = grind (arith, nat_tests) in
        let there = found_greatest (finite.entries map) lt in
        let less = below (greatest_in (finite.entries map)) (ap is_some (finite.get-entries map (greatest_in (finite.entries map))) ∙ there) in
        omega (arith, less))
  ]

  pub insert_below : (n : ℕ) (p : Package) → n < b → HeldBelow map b → HeldBelow (finite.insert map n p) b
  insert_below n p less below q there = elim (cases_Bool (q == n)) [
    | inl same ↦ (let is : q ≡ n = grind (arith, nat_tests) in omega (arith, is, less))
    | inr other ↦
        (let tied : eq_by_cmp nat_cmp q n ≡ false = unsigned_tied q n ∙ other in
        let get : finite.get (finite.insert map n p) q ≡ finite.get map q = finite.get-insert nat_cmp_total map n p q ∙ rw tied refl in
        below q (sym (ap is_some get) ∙ there))
  ]

  pub remove_below : (n : ℕ) → HeldBelow map b → HeldBelow (finite.remove map n) b
  remove_below n below q there = elim (cases_Bool (eq_by_cmp nat_cmp q n)) [
    | inl tied ↦
        (let get : finite.get (finite.remove map n) q ≡ None = finite.get-remove nat_cmp_total map n q ∙ rw tied refl in
        let gone : is_some (finite.get (finite.remove map n) q) ≡ false = ap is_some get in
        absurd cc)
    | inr other ↦
        (let get : finite.get (finite.remove map n) q ≡ finite.get map q = finite.get-remove nat_cmp_total map n q ∙ rw other refl in
        below q (sym (ap is_some get) ∙ there))
  ]

  pub later_below : (c : ℕ) → b ≤ c → HeldBelow map b → HeldBelow map c
  later_below c le below n there = omega (arith, le, below n there)

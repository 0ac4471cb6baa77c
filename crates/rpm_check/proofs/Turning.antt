-- What the packages give, one after the other.
use Rattle.rpm_check.proofs.Vocabulary.{above, all_above_zero, all_edges, Bad, Database, edges_from, filter, flat_map, Good, good_numbers, good_of, holds}
use Rattle.rpm_check.proofs.Vocabulary.{is_good, is_there, IsNext, nat_cmp, next_above, none_is, nothing_above, Package, packages, store_of, Units}
use Rattle.std.proofs.Common.{◌≡◌, ℕ, ◌<◌, List, [], ◌∷◌, ◌++◌, map, true, false, Option, Some, None, is_some, refl, ap, ◌∙◌}
use Rattle.std.specs.FinMap as finite

module _ {X : Type 0} (all : finite.FinMap nat_cmp Package) (f : ℕ × Package → List X) where
  -- what those above a number give
  abbrev pub turns_above : ℕ → List X
  turns_above k = flat_map f (above k (finite.entries all))

  first_above : (k m : ℕ) (o : Option Package) → finite.get all m ≡ o → k < m → is_some o ≡ true
      → ((q : ℕ) → k < q → q < m → is_some (finite.get all q) ≡ false)
      → (p : Package) × (finite.get all m ≡ Some p) × (turns_above k ≡ f (m, p) ++ turns_above m)
  first_above k m None there lt some none = absurd cc
  first_above k m (Some p) there lt some none =
      (p, there, ap (flat_map f) (next_above all k m p lt there (λ q a b. none_is (finite.get all q) (none q a b))))

  pub one_turn : (k m : ℕ) → IsNext (λ q. is_some (finite.get all q)) k (Some m)
      → (p : Package) × (finite.get all m ≡ Some p) × (turns_above k ≡ f (m, p) ++ turns_above m)
  one_turn k m next = first_above k m (finite.get all m) refl next.0 next.1 next.2

  pub no_turn : (k : ℕ) → IsNext (λ q. is_some (finite.get all q)) k None → turns_above k ≡ []
  no_turn k next = ap (flat_map f) (nothing_above all k (λ q lt. none_is (finite.get all q) (next q lt)))

-- no package has the number 0
pub all_turns : {X : Type 0} (file : Units) (db : Database) (f : ℕ × Package → List X) → holds 0 db ≡ false
    → turns_above (packages file (store_of db)) f 0 ≡ flat_map f (finite.entries (packages file (store_of db)))
all_turns file db f none =
    let all = packages file (store_of db) in
    ap (flat_map f) (all_above_zero all (none_is (finite.get all 0) (is_there file db 0 ∙ none)))

-- ---- those that can be read

goods : (es : List (ℕ × Package)) → flat_map good_of es ≡ map (λ e. e.0) (filter (λ e. is_good e.1) es)
goods [] = refl
goods ((n, Good bytes) ∷ es) = ap (λ (ns : List ℕ). n ∷ ns) (goods es)
goods ((n, Bad) ∷ es) = goods es

pub goods_are : (all : finite.FinMap nat_cmp Package) → flat_map good_of (finite.entries all) ≡ good_numbers all
unfolding good_numbers
goods_are all = goods (finite.entries all)

-- ---- the edges from each

pub edges_are_all : (all : finite.FinMap nat_cmp Package) → flat_map (λ e. edges_from all e.0) (finite.entries all) ≡ all_edges all
unfolding all_edges
edges_are_all all = refl

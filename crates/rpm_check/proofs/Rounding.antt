-- The packages of a report, one after the other.
use Rattle.rpm_check.proofs.Vocabulary.{above, all_above_zero, Database, flat_map, holds, is_there, IsNext, lacks, nat_cmp, Need, next_above, none_is}
use Rattle.rpm_check.proofs.Vocabulary.{nothing_above, Package, packages, store_of, Units, Unmet, unmet, unmet_at, unmet_of}
use Rattle.std.proofs.Common.{◌≡◌, ℕ, ◌<◌, List, [], ◌++◌, Bool, true, false, Option, Some, None, is_some, refl, ap, ◌∙◌}
use Rattle.std.specs.FinMap as finite

module _ (all : finite.FinMap nat_cmp Package) (is_lacking : Need → Bool) where
  -- what the packages above a number have
  abbrev pub unmet_above : ℕ → List Unmet
  unmet_above k = flat_map (unmet_of is_lacking) (above k (finite.entries all))

  first_above : (k m : ℕ) (o : Option Package) → finite.get all m ≡ o → k < m → is_some o ≡ true
      → ((q : ℕ) → k < q → q < m → is_some (finite.get all q) ≡ false) → unmet_above k ≡ unmet_at is_lacking m o ++ unmet_above m
  first_above k m None there lt some none = absurd cc
  first_above k m (Some p) there lt some none =
      ap (flat_map (unmet_of is_lacking)) (next_above all k m p lt there (λ q a b. none_is (finite.get all q) (none q a b)))

  pub one_round : (k m : ℕ) → IsNext (λ q. is_some (finite.get all q)) k (Some m) → unmet_above k ≡ unmet_at is_lacking m (finite.get all m) ++ unmet_above m
  one_round k m next = first_above k m (finite.get all m) refl next.0 next.1 next.2

  pub no_round : (k : ℕ) → IsNext (λ q. is_some (finite.get all q)) k None → unmet_above k ≡ []
  no_round k next = ap (flat_map (unmet_of is_lacking)) (nothing_above all k (λ q lt. none_is (finite.get all q) (next q lt)))

-- no package has the number 0
above_from_one : (file : Units) (db : Database) → holds 0 db ≡ false → above 0 (finite.entries (packages file (store_of db)))
    ≡ finite.entries (packages file (store_of db))
above_from_one file db none =
    let all = packages file (store_of db) in
    all_above_zero all (none_is (finite.get all 0) (is_there file db 0 ∙ none))

pub all_rounds : (file : Units) (db : Database) → holds 0 db ≡ false
    → unmet_above (packages file (store_of db)) (lacks (packages file (store_of db))) 0 ≡ unmet (packages file (store_of db))
unfolding unmet
all_rounds file db none = ap (flat_map (unmet_of (lacks (packages file (store_of db))))) (above_from_one file db none)

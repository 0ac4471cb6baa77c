-- The numbers of packages that are picked, one after the other.
use Rattle.rpm_check.proofs.Vocabulary.{above, Database, from_one, Keeps, nat_cmp, next_picked, NextNumberIs, Package, packages, picks, picks_from_one, store_of}
use Rattle.rpm_check.proofs.Vocabulary.{Selection, Units}
use Rattle.std.proofs.Common.{◌≡◌, ℕ, List, [], ◌∷◌, ◌++◌, map, Some, Ok, sym, ap, ◌∙◌, append_assoc, append-nil}
use Rattle.std.specs.FinMap as finite
use Rattle.rpm_check.proofs.Above.{numbers_above}

-- one more is pushed
pub gained : (all : finite.FinMap nat_cmp Package) (sel : Selection) (n m : ℕ) (ns new whole : List ℕ) → NextNumberIs (above n (picks all sel)) (Ok (Some m))
    → new ≡ ns ++ m ∷ [] → ns ++ numbers_above all sel n ≡ whole → new ++ numbers_above all sel m ≡ whole
gained all sel n m ns new whole next added so_far =
    let later = numbers_above all sel m in
    let one : numbers_above all sel n ≡ m ∷ later = ap (map (λ e. e.0)) (next_picked all sel n (m, next.0) next.1 next.2) in
    ap (λ (ms : List ℕ). ms ++ later) added ∙ append_assoc ns (m ∷ []) later ∙ ap (λ (ms : List ℕ). ns ++ ms) (sym one) ∙ so_far

-- no more
pub all_picked : (file : Units) (db : Database) (sel : Selection) (n : ℕ) (ns : List ℕ) → Keeps file db
    → above n (picks (packages file (store_of db)) sel) ≡ []
    → ns ++ numbers_above (packages file (store_of db)) sel n ≡ numbers_above (packages file (store_of db)) sel 0
    → ns ≡ map (λ e. e.0) (picks (packages file (store_of db)) sel)
all_picked file db sel n ns keeps none so_far =
    sym (append-nil ns) ∙ ap (λ (es : List (ℕ × Package)). ns ++ map (λ e. e.0) es) (sym none) ∙ so_far
    ∙ ap (map (λ e. e.0)) (picks_from_one file db sel (from_one file db keeps))

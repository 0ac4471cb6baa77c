-- Going through the packages by their numbers.
use Rattle.rpm_filecheck.proofs.Vocabulary.{above, all_above_zero, Database, GatheredFiles, is_there, IsNext, Keeps, nat_cmp, next_above, none_is, nothing_above}
use Rattle.rpm_filecheck.proofs.Vocabulary.{Package, packages, store_of, Units, with_packages, with_some}
use Rattle.std.proofs.Common.{◌≡◌, ℕ, List, true, Option, Some, None, is_some, refl, sym, ap, ◌∙◌}
use Rattle.std.specs.FinMap as finite
use Rattle.rpm_db.proofs.laws.FromOne.{from_one as none_zero}

some_is : (o : Option Package) → is_some o ≡ true → (p : Package) × (o ≡ Some p)
some_is None some = absurd cc
some_is (Some p) some = (p, refl)

-- one package more
pub next_found : (map : finite.FinMap nat_cmp Package) (n m : ℕ) (old new all : GatheredFiles) → IsNext (λ k. is_some (finite.get map k)) n (Some m)
    → with_packages (above n (finite.entries map)) old ≡ all → new ≡ with_some m (finite.get map m) old
    → with_packages (above m (finite.entries map)) new ≡ all
next_found map n m old new all next was is =
    let p = some_is (finite.get map m) next.1 in
    let left = next_above map n m p.0 next.0 p.1 (λ k a b. none_is (finite.get map k) (next.2 k a b)) in
    ap (λ (f : GatheredFiles). with_packages (above m (finite.entries map)) f) (is ∙ ap (λ (o : Option Package). with_some m o old) p.1)
    ∙ sym (ap (λ (es : List (ℕ × Package)). with_packages es old) left) ∙ was

-- none is left
pub last_found : (map : finite.FinMap nat_cmp Package) (n : ℕ) (found all : GatheredFiles) → IsNext (λ k. is_some (finite.get map k)) n None
    → with_packages (above n (finite.entries map)) found ≡ all → found ≡ all
last_found map n found all none was =
    sym (ap (λ (es : List (ℕ × Package)). with_packages es found) (nothing_above map n (λ k lt. none_is (finite.get map k) (none k lt)))) ∙ was

-- none has the number 0
pub from_one : (file : Units) (db : Database) → Keeps file db
    → above 0 (finite.entries (packages file (store_of db))) ≡ finite.entries (packages file (store_of db))
from_one file db keeps =
    let all = packages file (store_of db) in
    all_above_zero all (none_is (finite.get all 0) (is_there file db 0 ∙ none_zero file db keeps))

-- What was gathered of all packages is what the definitions say.
use Rattle.std.proofs.Common.{◌≡◌, ℕ, ◌<◌, Bool, cond, List, [], ◌∷◌, map, Option, Some, None, Result, Ok, Err, refl, sym, ap, ◌∙◌, subst, arith}
use Rattle.std.specs.Prelude.{T}
use Rattle.rpm_filecheck.proofs.Vocabulary.{all_paths, as_owner, Bad, below_all, both_true, Facts, files, files_of, files_read, find, GatheredFiles, Good, Header}
use Rattle.rpm_filecheck.proofs.Vocabulary.{header, HeaderFault, is_below, is_lt, is_sorted, last_from, nat_cmp, nat_list_cmp_total, no_files, owned_paths, Owner}
use Rattle.rpm_filecheck.proofs.Vocabulary.{owner_of, owners, Package, path_order, said_of, same_entries, with_package, with_packages, with_read}
use Rattle.std.specs.FinMap as finite
use Rattle.std.proofs.lemmas.Bool.Decides.{nat_tests}
use Rattle.rpm_filecheck.proofs.Joining.{last_from-append}
use Rattle.rpm_filecheck.proofs.Folding.{path_order-same, is_sorted-with_files, grown, grown-append, IsNew, find-package}
use Rattle.rpm_filecheck.proofs.Owning.{has-owners, find-paths, grown-none}

-- ---- one package

-- the last of some owners stands before all of these packages
abbrev IsBefore : Option (List Owner) → List (ℕ × Package) → Type 0
IsBefore None es = Unit {0}
IsBefore (Some os) es = T (below_all nat_cmp (last_from 0 os) es)

is_new : (o : Option (List Owner)) (n : ℕ) (p : Package) (es : List (ℕ × Package)) → IsBefore o ((n, p) ∷ es) → IsNew n o
is_new None n p es before = tt
is_new (Some os) n p es before =
    let first = both_true (is_lt (nat_cmp (last_from 0 os) n)) (below_all nat_cmp (last_from 0 os) es) before in
    let lt : last_from 0 os < n = is_below (last_from 0 os) n first.0 in
    grind (arith, nat_tests)

before_rest : (o : Option (List Owner)) (n : ℕ) (p : Package) (es : List (ℕ × Package)) → IsBefore o ((n, p) ∷ es) → IsBefore o es
before_rest None n p es before = tt
before_rest (Some os) n p es before = (both_true (is_lt (nat_cmp (last_from 0 os) n)) (below_all nat_cmp (last_from 0 os) es) before).1

still_before : (o : Option (List Owner)) (n : ℕ) (said : Option Facts) (p : Package) (es : List (ℕ × Package)) → IsBefore o ((n, p) ∷ es)
    → T (below_all nat_cmp n es) → IsBefore (grown o (as_owner n said)) es
still_before o n None p es before all = before_rest o n p es before
still_before None n (Some facts) p es before all = all
still_before (Some os) n (Some facts) p es before all =
    subst (λ (k : ℕ). T (below_all nat_cmp k es)) (sym (last_from-append 0 os (record { number = n; facts = facts }))) all

find-read : (q : List ℕ) (n : ℕ) (r : Result Header HeaderFault) (f : GatheredFiles) → IsNew n (find path_order q f.paths)
    → find path_order q (with_read n r f).paths ≡ grown (find path_order q f.paths) (as_owner n (said_of q (files_read r)))
find-read q n (Ok h) f new = find-package q n (files h) f.paths new
find-read q n (Err fault) f new = refl

find-one : (q : List ℕ) (n : ℕ) (p : Package) (f : GatheredFiles) → IsNew n (find path_order q f.paths)
    → find path_order q (with_package n p f).paths ≡ grown (find path_order q f.paths) (owner_of q (n, p))
find-one q n (Good bytes) f new = find-read q n (header bytes) f new
find-one q n Bad f new = refl

-- ---- all packages

find-all : (q : List ℕ) (es : List (ℕ × Package)) (f : GatheredFiles) → T (is_sorted nat_cmp es) → IsBefore (find path_order q f.paths) es
    → find path_order q (with_packages es f).paths ≡ grown (find path_order q f.paths) (owners q es)
find-all q [] f sorted before = refl
find-all q ((n, p) ∷ es) f sorted before =
    let s = both_true (below_all nat_cmp n es) (is_sorted nat_cmp es) sorted in
    let one = find-one q n p f (is_new (find path_order q f.paths) n p es before) in
    let left = still_before (find path_order q f.paths) n (said_of q (files_of p)) p es before s.0 in
    find-all q es (with_package n p f) s.1 (subst (λ (o : Option (List Owner)). IsBefore o es) (sym one) left)
    ∙ ap (λ (o : Option (List Owner)). grown o (owners q es)) one
    ∙ grown-append (find path_order q f.paths) (owner_of q (n, p)) (owners q es)

is_sorted-read : (n : ℕ) (r : Result Header HeaderFault) (f : GatheredFiles) → T (is_sorted path_order f.paths)
    → T (is_sorted path_order (with_read n r f).paths)
is_sorted-read n (Ok h) f t = is_sorted-with_files n (files h) f.paths t
is_sorted-read n (Err fault) f t = t

is_sorted-package : (n : ℕ) (p : Package) (f : GatheredFiles) → T (is_sorted path_order f.paths) → T (is_sorted path_order (with_package n p f).paths)
is_sorted-package n (Good bytes) f t = is_sorted-read n (header bytes) f t
is_sorted-package n Bad f t = t

is_sorted-all : (es : List (ℕ × Package)) (f : GatheredFiles) → T (is_sorted path_order f.paths) → T (is_sorted path_order (with_packages es f).paths)
is_sorted-all [] f t = t
is_sorted-all (e ∷ es) f t = is_sorted-all es (with_package e.0 e.1 f) (is_sorted-package e.0 e.1 f t)

module _ (packages : finite.FinMap nat_cmp Package) where
  find-owned : (q : List ℕ) → find path_order q (finite.entries (owned_paths packages)) ≡ grown None (owners q (finite.entries packages))
  unfolding owned_paths
  find-owned q =
      let es = finite.entries packages in
      sym (finite.get-entries (owned_paths packages) q)
      ∙ finite.get-from_entries nat_list_cmp_total (map (λ path. (path, owners path es)) (all_paths es)) q
      ∙ find-paths q (λ path. owners path es) (all_paths es)
      ∙ ap (λ (b : Bool). cond b (Some (owners q es)) None) (sym (has-owners q es))
      ∙ sym (grown-none (owners q es))

  pub paths-owned : (with_packages (finite.entries packages) no_files).paths ≡ finite.entries (owned_paths packages)
  paths-owned =
      let es = finite.entries packages in
      same_entries path_order nat_list_cmp_total path_order-same (with_packages es no_files).paths (finite.entries (owned_paths packages))
      (is_sorted-all es no_files tt) (finite.entries_sorted (owned_paths packages))
      (λ q. find-all q es no_files (finite.entries_sorted packages) tt ∙ sym (find-owned q))

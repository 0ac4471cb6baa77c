-- What the files of a package add to the owners of one path.
use Rattle.std.proofs.Common.{◌≡◌, ℕ, Bool, true, false, ◌==◌, cond, List, [], ◌∷◌, ◌++◌, Option, Some, None, refl, sym, ap, ◌∙◌, arith, append_assoc, append-nil, Less, Equal, Greater}
use Rattle.std.specs.Prelude.{T}
use Rattle.rpm_filecheck.proofs.Vocabulary.{as_owner, bytes_eq, Facts, find, find-put, is_eq, is_sorted, is_sorted-put, owners_with, joined_to, last_from}
use Rattle.rpm_filecheck.proofs.Vocabulary.{nat_cmp-IsAntisymmetric, nat_list_cmp_total, Ordering, Owner, OwnFile, path_order, OwnedPaths, said_of}
use Rattle.rpm_filecheck.proofs.Vocabulary.{slice_cmp-IsAntisymmetric, with_files, with_owner}
use Rattle.std.proofs.lemmas.Map.Text.{is_eq-slice_cmp}
use Rattle.std.proofs.lemmas.Bool.Decides.{nat_tests}
use Rattle.rpm_filecheck.proofs.Joining.{last_from-append}

-- ---- the order of paths

pub path_order-same : (x y : List ℕ) → path_order x y ≡ Equal → x ≡ y
path_order-same x y e = slice_cmp-IsAntisymmetric nat_cmp-IsAntisymmetric x y e

is_Equal : (r : Ordering) → is_eq r ≡ true → r ≡ Equal
is_Equal Less t = absurd cc
is_Equal Equal t = refl
is_Equal Greater t = absurd cc

pub same_path : (q p : List ℕ) → bytes_eq q p ≡ true → q ≡ p
same_path q p t = path_order-same q p (is_Equal (path_order q p) (is_eq-slice_cmp q p ∙ t))

-- ---- files

-- one file, and several, at the path q
step : ℕ → List ℕ → OwnFile → Option (List Owner) → Option (List Owner)
step n q f o = cond (bytes_eq q f.path) (Some (joined_to o (record { number = n; facts = f.facts }))) o

steps : ℕ → List ℕ → List OwnFile → Option (List Owner) → Option (List Owner)
steps n q [] o = o
steps n q (f ∷ fs) o = steps n q fs (step n q f o)

find-with_owner : (q : List ℕ) (n : ℕ) (f : OwnFile) (es : OwnedPaths)
    → find path_order q (with_owner f.path (record { number = n; facts = f.facts }) es) ≡ step n q f (find path_order q es)
unfolding step
find-with_owner q n f es =
    let o : Owner = record { number = n; facts = f.facts } in
    find-put path_order nat_list_cmp_total q f.path (joined_to (find path_order f.path es) o) es
    ∙ ap (λ (b : Bool). cond b (Some (joined_to (find path_order f.path es) o)) (find path_order q es)) (is_eq-slice_cmp q f.path)
    ∙ here (bytes_eq q f.path) refl
  where
    here : (b : Bool) → bytes_eq q f.path ≡ b
        → cond b (Some (joined_to (find path_order f.path es) (record { number = n; facts = f.facts }))) (find path_order q es)
        ≡ cond b (Some (joined_to (find path_order q es) (record { number = n; facts = f.facts }))) (find path_order q es)
    here true t = ap (λ (p : List ℕ). Some (joined_to (find path_order p es) (record { number = n; facts = f.facts }))) (sym (same_path q f.path t))
    here false t = refl

find-with_files : (q : List ℕ) (n : ℕ) (fs : List OwnFile) (es : OwnedPaths) → find path_order q (with_files n fs es) ≡ steps n q fs (find path_order q es)
unfolding steps
find-with_files q n [] es = refl
find-with_files q n (f ∷ fs) es =
    find-with_files q n fs (with_owner f.path (record { number = n; facts = f.facts }) es) ∙ ap (steps n q fs) (find-with_owner q n f es)

pub is_sorted-with_files : (n : ℕ) (fs : List OwnFile) (es : OwnedPaths) → T (is_sorted path_order es) → T (is_sorted path_order (with_files n fs es))
is_sorted-with_files n [] es t = t
is_sorted-with_files n (f ∷ fs) es t =
    let o : Owner = record { number = n; facts = f.facts } in
    is_sorted-with_files n fs (with_owner f.path o es) (is_sorted-put path_order nat_list_cmp_total f.path (joined_to (find path_order f.path es) o) es t)

-- ---- owners, and some more of them

abbrev pub grown : Option (List Owner) → List Owner → Option (List Owner)
grown o [] = o
grown None (x ∷ xs) = Some (x ∷ xs)
grown (Some os) (x ∷ xs) = Some (os ++ x ∷ xs)

pub grown-append : (o : Option (List Owner)) (xs ys : List Owner) → grown (grown o xs) ys ≡ grown o (xs ++ ys)
grown-append o [] ys = refl
grown-append None (x ∷ xs) [] = ap (λ (zs : List Owner). Some (x ∷ zs)) (sym (append-nil xs))
grown-append None (x ∷ xs) (y ∷ ys) = refl
grown-append (Some os) (x ∷ xs) [] = ap (λ (zs : List Owner). Some (os ++ x ∷ zs)) (sym (append-nil xs))
grown-append (Some os) (x ∷ xs) (y ∷ ys) = ap Some (append_assoc os (x ∷ xs) (y ∷ ys))

-- the last of them isn't of this package
abbrev pub IsNew : ℕ → Option (List Owner) → Type 0
IsNew n None = Unit {0}
IsNew n (Some os) = (last_from 0 os == n) ≡ false

same_number : (n : ℕ) → (n == n) ≡ true
same_number n = grind (arith, nat_tests)

-- a package that has a path already stays one owner
steps-same : (n : ℕ) (q : List ℕ) (fs : List OwnFile) (os : List Owner) → last_from 0 os ≡ n → steps n q fs (Some os) ≡ Some os
unfolding steps step
steps-same n q [] os is = refl
steps-same n q (f ∷ fs) os is =
    let test : (last_from 0 os == n) ≡ true = ap (λ (m : ℕ). m == n) is ∙ same_number n in
    let kept : owners_with os (record { number = n; facts = f.facts }) ≡ os =
    ap (λ (b : Bool). cond b os (os ++ record { number = n; facts = f.facts } ∷ [])) test in
    elim (bytes_eq q f.path) as (λ b. steps n q fs (cond b (Some (owners_with os (record { number = n; facts = f.facts }))) (Some os)) ≡ Some os) [
      | true ↦ ap (λ (ws : List Owner). steps n q fs (Some ws)) kept ∙ steps-same n q fs os is
      | false ↦ steps-same n q fs os is
    ]

first_step : (n : ℕ) (q : List ℕ) (fs : List OwnFile) (facts : Facts) (o : Option (List Owner)) → IsNew n o
    → steps n q fs (Some (joined_to o (record { number = n; facts = facts }))) ≡ grown o (record { number = n; facts = facts } ∷ [])
first_step n q fs facts None new = steps-same n q fs (record { number = n; facts = facts } ∷ []) refl
first_step n q fs facts (Some os) new =
    let x : Owner = record { number = n; facts = facts } in
    let more : owners_with os x ≡ os ++ x ∷ [] = ap (λ (b : Bool). cond b os (os ++ x ∷ [])) new in
    ap (λ (ws : List Owner). steps n q fs (Some ws)) more ∙ steps-same n q fs (os ++ x ∷ []) (last_from-append 0 os x)

steps-grown : (n : ℕ) (q : List ℕ) (fs : List OwnFile) (o : Option (List Owner)) → IsNew n o → steps n q fs o ≡ grown o (as_owner n (said_of q fs))
unfolding steps step
steps-grown n q [] o new = refl
steps-grown n q (f ∷ fs) o new =
    elim (bytes_eq q f.path) as (λ b. steps n q fs (cond b (Some (joined_to o (record { number = n; facts = f.facts }))) o)
    ≡ grown o (as_owner n (cond b (Some f.facts) (said_of q fs)))) [
      | true ↦ first_step n q fs f.facts o new
      | false ↦ steps-grown n q fs o new
    ]

-- the owners of a path, with the files of a package
pub find-package : (q : List ℕ) (n : ℕ) (fs : List OwnFile) (es : OwnedPaths) → IsNew n (find path_order q es)
    → find path_order q (with_files n fs es) ≡ grown (find path_order q es) (as_owner n (said_of q fs))
find-package q n fs es new = find-with_files q n fs es ∙ steps-grown n q fs (find path_order q es) new

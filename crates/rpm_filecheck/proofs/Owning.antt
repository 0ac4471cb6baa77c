-- Which paths have owners.
use Rattle.std.proofs.Common.{◌≡◌, ℕ, Bool, true, false, ◌||◌, cond, List, [], ◌∷◌, ◌++◌, map, Option, Some, None, refl, sym, ap, ◌∙◌}
use Rattle.rpm_filecheck.proofs.Vocabulary.{all_paths, as_owner, bytes_eq, files_of, find, list_any, own_paths, Owner, owner_of, owners, OwnFile, Package}
use Rattle.rpm_filecheck.proofs.Vocabulary.{path_order, said_of}
use Rattle.std.proofs.lemmas.Map.Text.{is_eq-slice_cmp}
use Rattle.rpm_filecheck.proofs.Folding.{same_path, grown}

abbrev pub is_some_owner : List Owner → Bool
is_some_owner [] = false
is_some_owner (o ∷ os) = true

some-append : (xs ys : List Owner) → is_some_owner (xs ++ ys) ≡ (is_some_owner xs || is_some_owner ys)
some-append [] ys = refl
some-append (x ∷ xs) ys = refl

abbrev pub has : List ℕ → List (List ℕ) → Bool
has q ps = list_any (bytes_eq q) ps

has-append : (q : List ℕ) (ps qs : List (List ℕ)) → has q (ps ++ qs) ≡ (has q ps || has q qs)
has-append q [] qs = refl
has-append q (p ∷ ps) qs =
    elim (bytes_eq q p) as (λ b. (b || has q (ps ++ qs)) ≡ ((b || has q ps) || has q qs)) [ true ↦ refl | false ↦ has-append q ps qs ]

has-files : (q : List ℕ) (n : ℕ) (fs : List OwnFile) → is_some_owner (as_owner n (said_of q fs)) ≡ has q (map (λ f. f.path) fs)
has-files q n [] = refl
has-files q n (f ∷ fs) =
    elim (bytes_eq q f.path) as (λ b. is_some_owner (as_owner n (cond b (Some f.facts) (said_of q fs))) ≡ (b || has q (map (λ f. f.path) fs))) [
      | true ↦ refl
      | false ↦ has-files q n fs
    ]

pub has-owners : (q : List ℕ) (es : List (ℕ × Package)) → is_some_owner (owners q es) ≡ has q (all_paths es)
has-owners q [] = refl
has-owners q ((n, p) ∷ es) =
    some-append (owner_of q (n, p)) (owners q es)
    ∙ ap (λ (b : Bool). b || is_some_owner (owners q es)) (has-files q n (files_of p))
    ∙ ap (λ (b : Bool). has q (own_paths (n, p)) || b) (has-owners q es)
    ∙ sym (has-append q (own_paths (n, p)) (all_paths es))

find_first : (q p : List ℕ) (g : List ℕ → List Owner) (rest : Option (List Owner)) (more : Bool) → rest ≡ cond more (Some (g q)) None
    → (b : Bool) → bytes_eq q p ≡ b → cond b (Some (g p)) rest ≡ cond (b || more) (Some (g q)) None
find_first q p g rest more is true t = ap (λ (x : List ℕ). Some (g x)) (sym (same_path q p t))
find_first q p g rest more is false t = is

pub find-paths : (q : List ℕ) (g : List ℕ → List Owner) (ps : List (List ℕ))
    → find path_order q (map (λ path. (path, g path)) ps) ≡ cond (has q ps) (Some (g q)) None
find-paths q g [] = refl
find-paths q g (p ∷ ps) =
    ap (λ (b : Bool). cond b (Some (g p)) (find path_order q (map (λ path. (path, g path)) ps))) (is_eq-slice_cmp q p)
    ∙ find_first q p g (find path_order q (map (λ path. (path, g path)) ps)) (has q ps) (find-paths q g ps) (bytes_eq q p) refl

pub grown-none : (os : List Owner) → grown None os ≡ cond (is_some_owner os) (Some os) None
grown-none [] = refl
grown-none (o ∷ os) = refl

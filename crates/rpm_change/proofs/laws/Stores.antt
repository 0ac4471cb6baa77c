-- Several changes of a store, some of them and then the others.
use Rattle.std.proofs.Common.{◌≡◌, ℕ, List, [], ◌∷◌, ◌++◌, Option, Some, None, refl, ap, ◌∙◌, subst}
use Rattle.std.specs.Option.{option_map, option_and_then}
use Rattle.rpm_pkgdb.specs.Store.{Store}
use Rattle.rpm_pkgdb.specs.Written.{with_spare}
use Rattle.rpm_db.specs.Changes.{Change}
use Rattle.rpm_db.specs.Database.{IsPaged}
use Rattle.rpm_db.specs.Room.{RoomBecomes, next_store}
use Rattle.rpm_db.proofs.laws.RoomLaws.{next_paged, next_spare}
use Rattle.rpm_change.specs.Limits.{next_stores}

-- ---- places

some_stores : (xs ys : List Change) → ((v : Store)
    → next_stores (xs ++ ys) v ≡ option_and_then (next_stores ys) (next_stores xs v)) → (o : Option Store)
    → option_and_then (next_stores (xs ++ ys)) o ≡ option_and_then (next_stores ys) (option_and_then (next_stores xs) o)
some_stores xs ys law None = refl
some_stores xs ys law (Some v) = law v

next_stores-append : (xs ys : List Change) (v : Store)
    → next_stores (xs ++ ys) v ≡ option_and_then (next_stores ys) (next_stores xs v)
next_stores-append [] ys v = refl
next_stores-append (x ∷ xs) ys v = some_stores xs ys (next_stores-append xs ys) (next_store x v)

some_spare : (xs : List Change) (k : ℕ) → ((v : Store)
    → next_stores xs (with_spare k v) ≡ option_map (with_spare k) (next_stores xs v)) → (o : Option Store)
    → option_and_then (next_stores xs) (option_map (with_spare k) o)
    ≡ option_map (with_spare k) (option_and_then (next_stores xs) o)
some_spare xs k law None = refl
some_spare xs k law (Some v) = law v

-- room in memory stays as it is
next_stores-spare : (xs : List Change) (k : ℕ) (v : Store)
    → next_stores xs (with_spare k v) ≡ option_map (with_spare k) (next_stores xs v)
next_stores-spare [] k v = refl
next_stores-spare (x ∷ xs) k v =
    ap (option_and_then (next_stores xs)) (next_spare x k v) ∙ some_spare xs k (next_stores-spare xs k) (next_store x v)

-- those after the first ones go on in the store that these leave
pub stores_behind : (xs ys : List Change) (k : ℕ) (v w : Store) → next_stores xs v ≡ Some (with_spare k w)
    → next_stores (xs ++ ys) v ≡ option_map (with_spare k) (next_stores ys w)
stores_behind xs ys k v w is =
    next_stores-append xs ys v ∙ ap (option_and_then (next_stores ys)) is ∙ next_stores-spare ys k w

-- ---- pages

paged_behind : (changes : List Change) (w : Store)
    → ((u : Store) → next_stores changes u ≡ Some w → IsPaged u → IsPaged w) → (o : Option Store)
    → ((u : Store) → o ≡ Some u → IsPaged u) → option_and_then (next_stores changes) o ≡ Some w → IsPaged w
paged_behind changes w more None first is = absurd cc
paged_behind changes w more (Some u) first is = more u is (first u refl)

after_paged : (changes : List Change) (v w : Store) → next_stores changes v ≡ Some w → IsPaged v → IsPaged w
after_paged [] v w is paged = let same : v ≡ w = cc in subst IsPaged same paged
after_paged (x ∷ xs) v w is paged =
    paged_behind xs w (λ u. after_paged xs u w) (next_store x v) (λ u one. next_paged x v u one paged) is

-- a store that has a page has one after all of them
pub stores_paged : (changes : List Change) (v w : Store) → RoomBecomes (next_stores changes v) v w → IsPaged v
    → IsPaged w
stores_paged changes v w becomes = after_paged changes v (with_spare v.spare w) becomes

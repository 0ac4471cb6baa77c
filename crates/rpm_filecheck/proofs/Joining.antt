-- One owner more.
use Rattle.std.proofs.Common.{◌≡◌, ℕ, List, [], ◌∷◌, ◌++◌, Option, Some, None, refl, ap, sym, ◌∙◌}
use Rattle.std.specs.Prelude.{Vec}
use Rattle.rpm_filecheck.proofs.Vocabulary.{find, Global, insert_entry, is_at, joined_to, key_order, last_from, lookup, option_map, Owner, path_order, OwnedPaths}
use Rattle.rpm_filecheck.proofs.Vocabulary.{put, with_owner}
use Rattle.rpm_filecheck.proofs.Placing.{seen_as, seen-insert_entry, lookup-seen}

pub last_from-append : (n : ℕ) (os : List Owner) (o : Owner) → last_from n (os ++ o ∷ []) ≡ o.number
last_from-append n [] o = refl
last_from-append n (p ∷ os) o = last_from-append p.number os o

-- what contracts see of a map from paths to owners
abbrev pub seen : List (Vec ℕ Global × List Owner) → OwnedPaths
seen es = seen_as path_order (λ (k : Vec ℕ Global). k.items) (λ (os : List Owner). os) es

option_same : {X : Type 0} (o : Option X) → option_map (λ x. x) o ≡ o
option_same None = refl
option_same (Some x) = refl

pub seen-joined : (k : Vec ℕ Global) (o : Owner) (es : List (Vec ℕ Global × List Owner))
    → seen (insert_entry key_order es k (joined_to (lookup (is_at (key_order k)) es) o)) ≡ with_owner k.items o (seen es)
seen-joined k o es =
    let old = lookup (is_at (key_order k)) es in
    let same : old ≡ find path_order k.items (seen es) =
    sym (option_same old) ∙ lookup-seen path_order (λ (k : Vec ℕ Global). k.items) (λ (os : List Owner). os) k.items es in
    seen-insert_entry path_order (λ (k : Vec ℕ Global). k.items) (λ (os : List Owner). os) k (joined_to old o) es
    ∙ ap (λ (w : Option (List Owner)). put path_order k.items (joined_to w o) (seen es)) same

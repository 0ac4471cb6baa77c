-- A map of the library, seen as a list by its order.
use Rattle.std.proofs.Common.{◌≡◌, List, [], ◌∷◌, map, true, false, cond, Some, refl, ap, Less, Equal, Greater}
use Rattle.rpm_filecheck.proofs.Vocabulary.{by_order, find, insert_entry, is_eq, lookup, match_ordering, option_map, Ordering, put}

module _ {K Q X Y : Type 0} (R : Q → Q → Ordering) (g : K → Q) (h : X → Y) where
  abbrev pub seen_as : List (K × X) → List (Q × Y)
  seen_as es = map (λ e. (g e.0, h e.1)) es

  pub seen-insert_entry : (k : K) (v : X) (es : List (K × X)) → seen_as (insert_entry (λ x y. R (g x) (g y)) es k v) ≡ put R (g k) (h v) (seen_as es)
  seen-insert_entry k v [] = refl
  seen-insert_entry k v (e ∷ es) =
      elim (R (g k) (g e.0)) as (λ r. seen_as (match_ordering r ((k, v) ∷ e ∷ es) ((e.0, v) ∷ es) (e ∷ insert_entry (λ x y. R (g x) (g y)) es k v))
      ≡ by_order r ((g k, h v) ∷ seen_as (e ∷ es)) ((g e.0, h v) ∷ seen_as es) ((g e.0, h e.1) ∷ put R (g k) (h v) (seen_as es))) [
        | Less ↦ refl
        | Equal ↦ refl
        | Greater ↦ ap (λ fs. (g e.0, h e.1) ∷ fs) (seen-insert_entry k v es)
      ]

  pub lookup-seen : (q : Q) (es : List (K × X)) → option_map h (lookup (λ x. is_eq (R q (g x))) es) ≡ find R q (seen_as es)
  lookup-seen q [] = refl
  lookup-seen q (e ∷ es) =
      elim (is_eq (R q (g e.0))) as (λ b. option_map h (cond b (Some e.1) (lookup (λ x. is_eq (R q (g x))) es))
      ≡ cond b (Some (h e.1)) (find R q (seen_as es))) [ true ↦ refl | false ↦ lookup-seen q es ]

-- Keys of a memo that the order doesn't tell apart are one requirement.
use Rattle.std.proofs.Common.{◌≡◌, Bool, true, cond, Some, None, Bor, refl, sym, ap, ◌∙◌, subst, inl, inr}
use Rattle.std.specs.Prelude.{Option, IfSome}
use Rattle.rpm_check.proofs.Vocabulary.{BTreeMap, Equal, get, Greater, is_at, is_eq, requirement_order, Less, nat_cmp, need_of, Need, option_copied, Ordering}
use Rattle.rpm_check.proofs.Vocabulary.{ordering_then, Requirement, slice_cmp, Updates}
use Rattle.std.proofs.lemmas.Bool.{cases_Bool}
use Rattle.std.proofs.lemmas.Map.Lookups.{exact_bytes, exact_unsigned}

pub equal_if : (o : Ordering) → is_eq o ≡ true → o ≡ Equal
equal_if Less is = absurd cc
equal_if Equal is = refl
equal_if Greater is = absurd cc

both_equal : (o p : Ordering) → ordering_then o p ≡ Equal → (o ≡ Equal) × (p ≡ Equal)
both_equal Less p is = absurd cc
both_equal Equal p is = (refl, is)
both_equal Greater p is = absurd cc

same_need : (a b : Requirement) → requirement_order a b ≡ Equal → need_of a ≡ need_of b
same_need a b is =
    let marked = both_equal (nat_cmp a.mark b.mark) (ordering_then (slice_cmp nat_cmp a.name.items b.name.items)
    (ordering_then (nat_cmp a.flags b.flags) (slice_cmp nat_cmp a.version.items b.version.items))) is in
    let first = both_equal (slice_cmp nat_cmp a.name.items b.name.items)
    (ordering_then (nat_cmp a.flags b.flags) (slice_cmp nat_cmp a.version.items b.version.items)) marked.1 in
    let second = both_equal (nat_cmp a.flags b.flags) (slice_cmp nat_cmp a.version.items b.version.items) first.1 in
    λ i. record {
      name = exact_bytes a.name.items b.name.items first.0 i;
      flags = exact_unsigned a.flags b.flags second.0 i;
      version = exact_bytes a.version.items b.version.items second.1 i;
    }

-- what is noted of a key is known of it, and the rest stays
pub known_more : {X Y : Type 0} (see : X → Y) (so : Need → Y) (m n : BTreeMap Requirement X) (key : Requirement) (x : X)
    → Updates requirement_order m n key (Some x) → see x ≡ so (need_of key)
    → ((q : Requirement) → IfSome (get requirement_order m q) (λ known. see known ≡ so (need_of q)))
    → (q : Requirement) → IfSome (get requirement_order n q) (λ known. see known ≡ so (need_of q))
known_more {X} see so m n key x updates is old q =
    let P : Option X → Type 0 = λ o. IfSome o (λ known. see known ≡ so (need_of q)) in
    elim (cases_Bool (is_at (requirement_order key) q)) [
      | inl same ↦
          (let found : get requirement_order n q ≡ Some x = updates.0 q ∙ ap (λ (t : Bool). cond t (Some x) (get requirement_order m q)) same in
          subst P (sym found) (is ∙ ap so (same_need key q (equal_if (requirement_order key q) same))))
      | inr other ↦ subst P (sym (updates.2 q other)) (old q)
    ]

-- what is known of a copy
pub from_copied : {X : Type 0} (P : X → Type 0) (o : Option (Bor X)) (m : Option X) → option_copied o ≡ m → IfSome m P → IfSome o (λ b. P b.now)
from_copied P None m is known = tt
from_copied {X} P (Some b) m is known = subst (λ (x : Option X). IfSome x P) (sym is) known

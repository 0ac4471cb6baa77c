-- Which tag an entry gets that joins.
use Rattle.std.proofs.Common.{◌≡◌, ℕ, suc, ◌+◌, ◌-◌, ◌≤◌, ◌<◌, List, [], ◌∷◌, ◌++◌, Option, Some, length, take, get_or, true, false, Bool, replicate, ne_eqb, refl, sym, ap, subst, ◌∙◌, arith, inl, inr}
use Rattle.std.specs.Prelude.{unwrap_or, ◌==◌, ◌||◌, slice_get}
use Rattle.std.proofs.lemmas.List.{length-replicate, get_or-replicate, get_or-set_other}
use Rattle.std.proofs.Math.ListN.{set, length-set}
use Rattle.std.proofs.lemmas.Grind.{get_or-set_at}
use Rattle.std.proofs.lemmas.List.Folds.{list_any-append}
use Rattle.std.proofs.lemmas.Option.{slice_get_within, unwrap_or-slice_get}
use Rattle.std.proofs.Math.Seq.{take-suc}
use Rattle.std.proofs.lemmas.Bool.{cases_eq, eq-eqb}
use Rattle.rpm_file.proofs.Vocabulary.{has_tag, HasTags, Item}

or_true : (b : Bool) → (b || true) ≡ true
or_true true = refl
or_true false = refl

or_false : (b : Bool) → (b || false) ≡ b
or_false true = refl
or_false false = refl

pub next_taken : {X : Type 0} (xs : List X) (i : ℕ) (x : X) → slice_get xs i ≡ Some x → take (i + 1) xs ≡ take i xs ++ x ∷ []
next_taken {X} xs i x is =
    let here : get_or xs i x ≡ x = sym (unwrap_or-slice_get xs i x) ∙ ap (λ (o : Option X). unwrap_or o x) is in
    let next : i + 1 ≡ suc i = omega arith in
    ap (λ (n : ℕ). take n xs) next ∙ take-suc xs i x (slice_get_within xs i x is) ∙ ap (λ (y : X). take i xs ++ y ∷ []) here

-- of no entry yet
tags_none : (has : List Bool) → has ≡ replicate 1047 false → HasTags [] has
tags_none has is = record {
  long = ap length is ∙ length-replicate 1047 false;
  told = λ tag below. ap (λ (xs : List Bool). get_or xs tag false) is ∙ get_or-replicate 1047 tag false false below;
}

pub tags_begun : (xs has : List Bool) (n : ℕ) → xs ≡ [] → n ≡ 0 → has ≡ take 1047 xs ++ replicate (1047 - n) false → HasTags [] has
tags_begun xs has n nothing none is = tags_none has (is ∙ rw (nothing, none) refl)

one_more : (tag : ℕ) (entries : List Item) (i : ℕ) (e : Item) → slice_get entries i ≡ Some e
    → has_tag tag (take (i + 1) entries) ≡ (has_tag tag (take i entries) || (e.tag == tag))
one_more tag entries i e is =
    ap (has_tag tag) (next_taken entries i e is) ∙ list_any-append (λ (x : Item). x.tag == tag) (take i entries) (e ∷ [])
    ∙ ap (λ (b : Bool). has_tag tag (take i entries) || b) (or_false (e.tag == tag))

-- an entry is noted
tags_set : (entries : List Item) (i : ℕ) (e : Item) (has : List Bool) → slice_get entries i ≡ Some e → e.tag < 1047 → HasTags (take i entries) has
    → HasTags (take (i + 1) entries) (set has e.tag true)
tags_set entries i e has is small h = record {
  long = length-set has e.tag true ∙ h.long;
  told = λ tag below. elim (cases_eq tag e.tag) [
    | inl same ↦
        get_or-set_at has e.tag tag true false same (omega (arith, h.long))
        ∙ sym (one_more tag entries i e is ∙ ap (λ (b : Bool). has_tag tag (take i entries) || b) (eq-eqb e.tag tag (sym same))
        ∙ or_true (has_tag tag (take i entries)))
    | inr other ↦
        get_or-set_other has e.tag tag true false other ∙ h.told tag below
        ∙ sym (one_more tag entries i e is ∙ ap (λ (b : Bool). has_tag tag (take i entries) || b) (ne_eqb e.tag tag (λ same. other (sym same)))
        ∙ or_false (has_tag tag (take i entries)))
  ];
}

-- its tag is none of those
pub tags_kept : (entries : List Item) (i : ℕ) (e : Item) (has : List Bool) → slice_get entries i ≡ Some e → 1047 ≤ e.tag
    → HasTags (take i entries) has → HasTags (take (i + 1) entries) has
tags_kept entries i e has is large h = record {
  long = h.long;
  told = λ tag below.
      h.told tag below ∙ sym (one_more tag entries i e is
      ∙ ap (λ (b : Bool). has_tag tag (take i entries) || b) (ne_eqb e.tag tag (λ same. omega arith)) ∙ or_false (has_tag tag (take i entries)));
}

pub tags_noted : (entries : List Item) (i tag : ℕ) (e : Item) (has : List Bool) → slice_get entries i ≡ Some e → tag ≡ e.tag → tag < 1047
    → HasTags (take i entries) has → HasTags (take (i + 1) entries) (set has tag true)
tags_noted entries i tag e has is same small h = subst (λ (t : ℕ). HasTags (take (i + 1) entries) (set has t true)) (sym same)
    (tags_set entries i e has is (omega arith) h)

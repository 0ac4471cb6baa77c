-- A tag that prints its texts or its numbers as they are.
use Rattle.std.proofs.Common.{◌≡◌, ℕ, zero, suc, ◌-◌, List, [], ◌∷◌, ◌++◌, length, Bool, true}
use Rattle.std.proofs.Common.{false, Option, Some, None, inl, inr, ◌⊎◌, refl, sym, ap, ◌∙◌, arith}
use Rattle.std.proofs.lemmas.List.{append-nil, length-map}
use Rattle.std.specs.Prelude.{slice_get, map, decimal}
use Rattle.rpm_qfeval.proofs.Classes.{if_numbers, if_texts}
use Rattle.rpm_qfeval.proofs.Vocabulary.{count_of, Elements, Header, IsPlain, NumberList, numbers_in, OneBlob, option_and_then}
use Rattle.rpm_qfeval.proofs.Vocabulary.{option_map, or_none, padded_text, Stored, stored_value, Tag, TagPart, text_or_none, TextList, texts_in, value}
use Rattle.rpm_qfparse.specs.declared.tree.Role.TheVariants as role
use Rattle.rpm_qfparse.specs.declared.tree.Show.TheVariants as show
use Rattle.rpm_qfparse.specs.declared.tree.Part.TheVariants as part

pub some_texts : (v : Option Elements) (ts : List (List ℕ)) → Some ts ≡ if_texts v → v ≡ Some (TextList ts)
some_texts (Some (TextList us)) ts e = let same : ts ≡ us = cc in ap (λ x. Some (TextList x)) (sym same)
some_texts (Some (NumberList ns)) ts e = absurd cc
some_texts (Some (OneBlob b)) ts e = absurd cc
some_texts None ts e = absurd cc

pub some_numbers : (v : Option Elements) (ns : List ℕ) → Some ns ≡ if_numbers v → v ≡ Some (NumberList ns)
some_numbers (Some (NumberList us)) ns e = let same : ns ≡ us = cc in ap (λ x. Some (NumberList x)) (sym same)
some_numbers (Some (TextList ts)) ns e = absurd cc
some_numbers (Some (OneBlob b)) ns e = absurd cc
some_numbers None ns e = absurd cc

unpadded : (left : Bool) (text : List ℕ) → padded_text left 0 text ≡ text
unpadded true text = let none : 0 - length text ≡ 0 = omega arith in rw none (append-nil text)
unpadded false text = let none : 0 - length text ≡ 0 = omega arith in rw none refl

same_text : (o : Option (List ℕ)) → option_map (λ t. t) o ≡ o
same_text None = refl
same_text (Some t) = refl

pub get_map : (ns : List ℕ) (i : ℕ) → slice_get (map decimal ns) i ≡ option_map decimal (slice_get ns i)
get_map [] i = refl
get_map (n ∷ ns) zero = refl
get_map (n ∷ ns) (suc i) = get_map ns i

-- a tag whose elements are shown as they are, by what it shows of its value
module _ (h : Header) (number : ℕ) (p : TagPart) (w : p.width ≡ 0) (e : p.role ≡ role.Element) (s : p.show ≡ show.Plain) where
  plain : (v : Option Elements) (texts : Option (List (List ℕ))) → value h number p.tag ≡ v → option_map count_of v ≡ option_map length texts
      → ((round : ℕ) → text_or_none role.Element show.Plain round v ≡ or_none (option_and_then (λ ts. slice_get ts round) texts))
      → IsPlain h number (part.Tag p) texts
  plain v texts is counted each = record {
    counted = rw (e, is) counted;
    each = λ round. rw (w, e, s, is) (unpadded p.left _ ∙ each round);
  }

  pub plain_texts : (ts : List (List ℕ)) → value h number p.tag ≡ Some (TextList ts) → IsPlain h number (part.Tag p) (Some ts)
  plain_texts ts is = plain (Some (TextList ts)) (Some ts) is refl (λ round. ap or_none (same_text (slice_get ts round)))

  pub plain_numbers : (ns : List ℕ) → value h number p.tag ≡ Some (NumberList ns) → IsPlain h number (part.Tag p) (Some (map decimal ns))
  plain_numbers ns is = plain (Some (NumberList ns)) (Some (map decimal ns)) is (ap Some (sym (length-map ns decimal)))
      (λ round. ap or_none (sym (get_map ns round)))

pub stored_texts : (h : Header) (number tag : ℕ) (asked : Tag) (ts : List (List ℕ)) → asked ≡ Stored tag → Some ts ≡ texts_in h tag
    → value h number asked ≡ Some (TextList ts)
unfolding texts_in
stored_texts h number tag asked ts is texts = ap (value h number) is ∙ some_texts (stored_value h tag) ts texts

pub stored_numbers : (h : Header) (number tag : ℕ) (asked : Tag) (ns : List ℕ) → asked ≡ Stored tag → Some ns ≡ numbers_in h tag
    → value h number asked ≡ Some (NumberList ns)
unfolding numbers_in
stored_numbers h number tag asked ns is numbers = ap (value h number) is ∙ some_numbers (stored_value h tag) ns numbers

-- a list that has one more at its end
pub get_more : {X : Type 0} (xs : List X) (x y : X) (k : ℕ) → slice_get (xs ++ x ∷ []) k ≡ Some y
    → (slice_get xs k ≡ Some y) ⊎ ((k ≡ length xs) × (x ≡ y))
get_more [] x y zero e = inr (refl, cc)
get_more [] x y (suc k) e = absurd cc
get_more (z ∷ xs) x y zero e = inl e
get_more (z ∷ xs) x y (suc k) e = elim (get_more xs x y k e) [
  | inl a ↦ inl a
  | inr b ↦ inr (ap suc b.0, b.1)
]

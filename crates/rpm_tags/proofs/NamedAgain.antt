-- The name of a tag gives the tag again.
use Rattle.std.proofs.Common.{◌≡◌, ℕ, List, [], ◌∷◌, Bool, Option, Some, None, true, false, refl, sym, ap, ◌∙◌, inl, inr, Bor}
use Rattle.std.specs.Prelude.{IfSome, ◌&&◌}
use Rattle.rpm_tags.proofs.Vocabulary.{Dbinstance, Epochnum, Evr, Filenames, is_tag, list_all, name_in, name_of, Nevra, Nvr, Nvra, option_copied, plain}
use Rattle.rpm_tags.proofs.Vocabulary.{Stored, table, Tag, tag_in, tag_of}
use Rattle.std.proofs.lemmas.Bool.{cases_Bool, eqb-true}

same_tag : (a b : Tag) → is_tag a b ≡ true → a ≡ b
same_tag (Stored m) (Stored n) same = ap Stored (eqb-true m n same)
same_tag Nvra Nvra same = refl
same_tag Nevra Nevra same = refl
same_tag Evr Evr same = refl
same_tag Nvr Nvr same = refl
same_tag Epochnum Epochnum same = refl
same_tag Filenames Filenames same = refl
same_tag Dbinstance Dbinstance same = refl
same_tag _ _ same = absurd cc

is_found : Option Tag → Tag → Bool
is_found None tag = false
is_found (Some found) tag = is_tag found tag

found_is : (found : Option Tag) (tag : Tag) → is_found found tag ≡ true → found ≡ Some tag
unfolding is_found
found_is None tag same = absurd cc
found_is (Some found) tag same = ap Some (same_tag found tag same)

-- the tag of a row is found by the row's name
gives_tag : List (Tag × List ℕ) → Tag × List ℕ → Bool
gives_tag all row = is_found (tag_in all (plain row.1)) row.0

-- the whole table is computed
all_found : list_all (gives_tag table) table ≡ true
unfolding gives_tag is_found table tag_in
all_found = refl

both : (a b : Bool) → (a && b) ≡ true → (a ≡ true) × (b ≡ true)
both true b is = (refl, is)
both false b is = absurd cc

found_again : (all rows : List (Tag × List ℕ)) (tag : Tag) (name : List ℕ) → list_all (gives_tag all) rows ≡ true → name_in rows tag ≡ Some name
    → tag_in all (plain name) ≡ Some tag
unfolding gives_tag name_in
found_again all [] tag name each is = absurd cc
found_again all (row ∷ rows) tag name each is =
    let parts = both (is_found (tag_in all (plain row.1)) row.0) (list_all (gives_tag all) rows) each in
    elim (cases_Bool (is_tag row.0 tag)) [
      | inl same ↦ (
          let at : Some row.1 ≡ Some name = rw same at is in
          let text : row.1 ≡ name = cc in
          ap (λ (n : List ℕ). tag_in all (plain n)) (sym text) ∙ found_is (tag_in all (plain row.1)) row.0 parts.0 ∙ ap Some (same_tag row.0 tag same)
          )
      | inr other ↦ found_again all rows tag name parts.1 (rw other at is)
    ]

pub again : (found : Option (Bor (List ℕ))) (tag : Tag) → option_copied found ≡ name_of tag → IfSome found (λ name. tag_of name.now ≡ Some tag)
again None tag is = cc
again (Some name) tag is = found_again table table tag name.now all_found (sym is)

-- How many requirements a package has.
use Rattle.std.proofs.Common.{◌≡◌, ℕ, List, [], ◌∷◌, length, refl}
use Rattle.rpm_check.proofs.Vocabulary.{beside, dependencies, Header, list_or_empty, numbers_in, Tags, texts_in}

length-beside : (names : List (List ℕ)) (flags : List ℕ) (versions : List (List ℕ)) → length (beside names flags versions) ≡ length names
length-beside [] flags versions = refl
length-beside (name ∷ names) flags versions = simp (length-beside names)

pub length-dependencies : (tags : Tags) (h : Header) → length (dependencies tags h) ≡ length (list_or_empty (texts_in h tags.names))
unfolding dependencies
length-dependencies tags h =
    length-beside (list_or_empty (texts_in h tags.names)) (list_or_empty (numbers_in h tags.flags)) (list_or_empty (texts_in h tags.versions))

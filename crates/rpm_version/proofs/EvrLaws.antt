-- The order by epoch, version and release, turned round.
use Rattle.std.proofs.Common.{◌≡◌, ℕ, List, refl, ◌∙◌, Option, Some, None}
use Rattle.rpm_version.proofs.Vocabulary.{epoch_number, Equal, evr_order, EvrParts, Greater, Less, nat_cmp, Ordering, ordering_reverse, ordering_then}
use Rattle.rpm_version.proofs.Vocabulary.{release_order, version_order}
use Rattle.std.proofs.lemmas.Cmp.{nat_cmp_total}
use Rattle.rpm_version.proofs.Laws.{converse}

reverse-then : (r s : Ordering) → ordering_then (ordering_reverse r) (ordering_reverse s) ≡ ordering_reverse (ordering_then r s)
reverse-then Less s = refl
reverse-then Equal s = refl
reverse-then Greater s = refl

releases : (x y : Option (List ℕ)) → release_order x y ≡ ordering_reverse (release_order y x)
unfolding release_order
releases (Some a) (Some b) = converse a b
releases (Some a) None = refl
releases None (Some b) = refl
releases None None = refl

both : (a b c d : Ordering) → a ≡ ordering_reverse c → b ≡ ordering_reverse d → ordering_then a b ≡ ordering_reverse (ordering_then c d)
both a b c d h k = (λ i. ordering_then (h i) (k i)) ∙ reverse-then c d

pub evr_converse : (x y : EvrParts) → evr_order x y ≡ ordering_reverse (evr_order y x)
unfolding evr_order
evr_converse x y =
    both (nat_cmp (epoch_number x.epoch) (epoch_number y.epoch)) _ (nat_cmp (epoch_number y.epoch) (epoch_number x.epoch)) _
    (nat_cmp_total.antisymm (epoch_number x.epoch) (epoch_number y.epoch))
    (both (version_order x.version y.version) (release_order x.release y.release) (version_order y.version x.version) (release_order y.release x.release)
    (converse x.version y.version) (releases x.release y.release))

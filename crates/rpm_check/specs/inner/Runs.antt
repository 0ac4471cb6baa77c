-- The runs of what is provided under a name.
use Rattle.std.specs.Prelude.{◌≡◌, ℕ, List, [], ◌∷◌, Bool, ◌&&◌, ◌==◌}
use Rattle.std.specs.List.{All}
use Rattle.std.specs.Ordering.{ordering_index}
use Rattle.std.specs.declared.cmp.Ordering.{Ordering}
use Rattle.rpm_version.specs.Evr.{evr, evr_order, EvrParts}
use Rattle.rpm_check.specs.declared.offers.Offer.{Offer}
use Rattle.rpm_check.specs.inner.Kinds.{offer_kind}
use Rattle.rpm_check.specs.inner.Offers.{is_hit, range_in}

-- an offer is of a kind, and its version stands so to that of a requirement
abbrev pub is_of_standing : ℕ → Ordering → EvrParts → Offer → Bool
is_of_standing kind order version o =
    (offer_kind o == kind) && (ordering_index (evr_order (evr o.version.items) version) == ordering_index order)

-- the ranges of all overlap that of a requirement, or none does
abbrev pub IsRunOf : ℕ → List ℕ → List Offer → Type 0
IsRunOf flags version [] = Unit {0}
IsRunOf flags version (o ∷ os) = All (λ p. is_hit flags version (range_in p) ≡ is_hit flags version (range_in o)) os

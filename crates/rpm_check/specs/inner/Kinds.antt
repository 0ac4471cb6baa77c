-- The order of what is provided under one name.
use Rattle.std.specs.Prelude.{ℕ, ◌+◌, ◌*◌, length, Bool, true, false, ◌==◌, is_some}
use Rattle.std.specs.declared.cmp.Ordering.{Ordering}
use Rattle.std.specs.Ordering.{nat_cmp, ordering_then}
use Rattle.rpm_version.specs.Evr.{evr, evr_order}
use Rattle.rpm_version.specs.laws.Senses.{has_equal, has_greater, has_less}
use Rattle.rpm_check.specs.declared.offers.Offer.{Offer}

-- a test as a digit
abbrev pub digit : Bool → ℕ
digit true = 1
digit false = 0

-- the kind of an offer says its sense, whether it has no version, and whether that has a release
unfoldable pub offer_kind : Offer → ℕ
offer_kind o =
    digit (has_less o.flags) + 2 * digit (has_greater o.flags) + 4 * digit (has_equal o.flags)
    + 8 * digit (length o.version.items == 0) + 16 * digit (is_some (evr o.version.items).release)

-- offers stand by their kinds, and in a kind by their versions
unfoldable pub offer_order : Offer → Offer → Ordering
offer_order a b =
    ordering_then (nat_cmp (offer_kind a) (offer_kind b)) (evr_order (evr a.version.items) (evr b.version.items))

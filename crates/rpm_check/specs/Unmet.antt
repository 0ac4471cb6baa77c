-- Which requirements no package meets.
use Rattle.std.specs.Prelude.{◌≡◌, ℕ, List, [], ◌∷◌, map, filter, length, codes, Bool, false, not, ◌&&◌, ◌||◌, ◌==◌}
use Rattle.std.specs.Prelude.{nat_eq, nat_lt, Option, Some, None}
use Rattle.std.specs.List.{list_any, flat_map, zip, range_with_len, starts_with}
use Rattle.std.specs.Ordering.{nat_cmp}
use Rattle.std.specs.FinMap.{FinMap, entries}
use Rattle.rpm_header.specs.Header.{Header}
use Rattle.rpm_tags.specs.declared.numbers.TheConstants.{REQUIRENAME, REQUIREFLAGS, REQUIREVERSION}
use Rattle.rpm_tags.specs.Wanted.{Need, dependencies}
use Rattle.rpm_db.specs.State.{Package, package_or}
use Rattle.rpm_select.specs.Providing.{gives}
use Rattle.rpm_check.specs.declared.list.Unmet.{Unmet}

-- ---- one requirement and one header

-- what a header requires
abbrev pub requirements : Header → List Need
requirements h = dependencies (record { names = REQUIRENAME; flags = REQUIREFLAGS; versions = REQUIREVERSION }) h

-- ---- one requirement and all packages

-- A package gives what its header gives; one that can't be read gives nothing.
abbrev pub package_meets : Need → ℕ × Package → Bool
package_meets need (n, p) = package_or (gives need) p false

-- some package meets a requirement
unfoldable pub is_met : FinMap nat_cmp Package → Need → Bool
is_met packages need = list_any (package_meets need) (entries packages)

-- ---- all requirements

-- names of features of rpm itself, and of rich dependencies
abbrev pub is_passed_over : List ℕ → Bool
is_passed_over name = starts_with nat_eq name (codes "rpmlib(") || starts_with nat_eq name (codes "(")

-- a requirement is looked at, and no package meets it
abbrev pub lacks : FinMap nat_cmp Package → Need → Bool
lacks packages need = not (is_passed_over need.name) && not (is_met packages need)

-- A package's requirements, of which the first has this place, that are lacking: each as the package's number and its
-- place.
abbrev pub unmet_in : (Need → Bool) → ℕ → List Need → ℕ → List Unmet
unmet_in is_lacking n needs place = map (λ e. record { number = n; place = e.1 })
    (filter (λ e. is_lacking e.0) (zip needs (range_with_len place (length needs))))

-- A database has these unmet requirements, by rising number and place: none of packages that can't be read.
unfoldable pub unmet : FinMap nat_cmp Package → List Unmet
unmet packages = flat_map (λ e.
    package_or (λ h. unmet_in (lacks packages) e.0 (requirements h) 0) e.1 []) (entries packages)

-- ---- one after the other

-- a pair of a number and a place stands above (n, i), by number and then by place
abbrev pub is_above_pair : ℕ → ℕ → Unmet → Bool
is_above_pair n i u = nat_lt n u.number || (u.number == n && nat_lt i u.place)

-- the lacking ones above (n, i)
unfoldable pub unmet_after : FinMap nat_cmp Package → ℕ → ℕ → List Unmet
unmet_after packages n i = filter (is_above_pair n i) (unmet packages)

-- the least one above (n, i), after which those above it stand; None says that there is none
abbrev pub IsNextUnmet : FinMap nat_cmp Package → ℕ → ℕ → Option Unmet → Type 0
IsNextUnmet packages n i None = unmet_after packages n i ≡ []
IsNextUnmet packages n i (Some u) = unmet_after packages n i ≡ u ∷ unmet_after packages u.number u.place

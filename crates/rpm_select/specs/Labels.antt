-- The texts by which a package is named.
use Rattle.rpm_version.specs.Evr.{is_dash}
use Rattle.std.specs.Prelude.{ℕ, List, [], ◌∷◌, ◌++◌, map, Bool, ◌==◌, ◌||◌, if◌then◌else◌, Option, Some, None}
use Rattle.std.specs.Prelude.{option_and_then, option_to_list}
use Rattle.std.specs.List.{list_any}
use Rattle.rpm_header.specs.Header.{Header}
use Rattle.std.specs.Str.{bytes_eq}
use Rattle.rpm_tags.specs.declared.numbers.TheConstants.{ARCH, NAME, RELEASE, VERSION}
use Rattle.rpm_tags.specs.Value.{first_text}
use Rattle.rpm_select.specs.Glob.{glob}

-- A text, if there is one and it has no byte of this kind.
abbrev pub without_bytes : (ℕ → Bool) → Option (List ℕ) → Option (List ℕ)
without_bytes is_in text = option_and_then (λ x. if list_any is_in x then None else Some x) text

-- N of a name N, and N.A where there is an architecture: a dot is 46, and a dash 45.
abbrev pub with_arch : Option (List ℕ) → List ℕ → List (List ℕ)
with_arch arch text = text ∷ map (λ a. text ++ 46 ∷ a) (option_to_list arch)

-- The labels with a version after a name, where there is one, and of these the ones with a release too.
abbrev pub with_version : Option (List ℕ) → Option (List ℕ) → Option (List ℕ) → List ℕ → List (List ℕ)
with_version arch None release text = []
with_version arch (Some version) release text = with_arch arch (text ++ 45 ∷ version)
    ++ elim release [ Some r ↦ with_arch arch ((text ++ 45 ∷ version) ++ 45 ∷ r) | None ↦ [] ]

-- N, N.A, N-V, N-V.A, N-V-R and N-V-R.A; a version, a release and an architecture have no dash, and the last no dot.
unfoldable pub labels : Header → List (List ℕ)
labels h =
    let arch = without_bytes (λ b. b == 45 || b == 46) (first_text h ARCH) in
    let version = without_bytes is_dash (first_text h VERSION) in
    let release = without_bytes is_dash (first_text h RELEASE) in
    elim (first_text h NAME) [ Some n ↦ with_arch arch n ++ with_version arch version release n | None ↦ [] ]

-- a glob, or a text, is one that a label is picked by
abbrev pub matches : Bool → List ℕ → List ℕ → Bool
matches is_glob wanted label = if is_glob then glob wanted label else bytes_eq wanted label

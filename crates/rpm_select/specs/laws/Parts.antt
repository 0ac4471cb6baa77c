-- The parts of definitions under names of their own, by which proofs go through them one by one.
use Rattle.std.specs.Prelude.{ℕ, List, [], ◌∷◌, Bool, false, ◌&&◌, ◌==◌, slice_index, if◌then◌else◌, Option, Some, None}
use Rattle.std.specs.Prelude.{Result, Ok, Err}
use Rattle.std.specs.List.{list_any}
use Rattle.std.specs.Str.{bytes_eq}
use Rattle.rpm_header.specs.declared.form.HeaderFault.{HeaderFault}
use Rattle.rpm_header.specs.Header.{Header, header}
use Rattle.rpm_tags.specs.declared.kind.Kind.{Kind}
use Rattle.rpm_tags.specs.declared.kind.Kind.TheVariants as kind
use Rattle.rpm_tags.specs.declared.needed.Tags.{Tags}
use Rattle.rpm_tags.specs.Keys.{key_list}
use Rattle.rpm_tags.specs.declared.numbers.TheConstants.{PROVIDENAME, PROVIDEFLAGS, PROVIDEVERSION}
use Rattle.rpm_tags.specs.Wanted.{Need, base_name, dependencies, has_file}
use Rattle.rpm_version.specs.Capability.{CapabilityParts}
use Rattle.rpm_version.specs.Range.{is_open}
use Rattle.rpm_db.specs.State.{Package, Good, Bad}
use Rattle.rpm_select.specs.declared.selection.Selection.{Selection}
use Rattle.rpm_select.specs.Candidates.{keys_asked}
use Rattle.rpm_select.specs.Providing.{answers}
use Rattle.rpm_select.specs.Selections.{is_text_among, needed_by, takes_header}

-- ---- what is needed or given

-- What a header provides.
abbrev pub provided_ranges : Header → List Need
provided_ranges h = dependencies (record { names = PROVIDENAME; flags = PROVIDEFLAGS; versions = PROVIDEVERSION }) h

-- What is needed is a path without a range, of a file that is there.
abbrev pub is_file_of : Need → Header → Bool
is_file_of need h = is_open need.flags need.version && (slice_index need.name 0 == 47 && has_file h need.name)

-- The three tags of names, flags and versions that belong together.
abbrev pub tags : ℕ → ℕ → ℕ → Tags
tags names flags versions = record { names = names; flags = flags; versions = versions }

-- An element has the capability's name, and their ranges overlap.
abbrev pub meets_capability : CapabilityParts → Need → Bool
meets_capability c e = answers (needed_by c) e

-- One of the elements under these tags meets a capability.
abbrev pub has_any : Tags → CapabilityParts → Header → Bool
has_any ts c h = list_any (meets_capability c) (dependencies ts h)

-- A text is this one, if there is one.
abbrev pub is_text : List ℕ → Option (List ℕ) → Bool
is_text x None = false
is_text x (Some text) = bytes_eq x text

-- A capability that can be a path is also looked for among the names of files.
abbrev pub path_keys : List ℕ → List (Kind × List ℕ)
path_keys name = if slice_index name 0 == 47 then (kind.Basenames, base_name name) ∷ [] else []

-- ---- what is read

-- A question takes what was read as a header that it takes.
abbrev pub takes_read : Selection → ℕ → Result Header HeaderFault → Bool
takes_read sel n (Ok h) = takes_header sel n h
takes_read sel n (Err fault) = false

-- A header has this key of this kind.
abbrev pub has_header_key : Header → Kind × List ℕ → Bool
has_header_key h (k, key) = is_text_among key (key_list k h)

-- What was read as a header has one of the keys of a selection.
abbrev pub has_key_in : Selection → Result Header HeaderFault → Bool
has_key_in sel (Ok h) = list_any (has_header_key h) (keys_asked sel)
has_key_in sel (Err fault) = false

-- A package that can be read has one of them.
abbrev pub is_candidate : Selection → ℕ × Package → Bool
is_candidate sel (n, Good bytes) = has_key_in sel (header bytes)
is_candidate sel (n, Bad) = false

-- What a header gives of what is needed: that is met so, and picked so.
use Rattle.std.specs.Prelude.{ℕ, Bool, ◌&&◌, ◌||◌, ◌==◌, slice_index}
use Rattle.std.specs.List.{list_any}
use Rattle.std.specs.Str.{bytes_eq}
use Rattle.rpm_header.specs.Header.{Header}
use Rattle.rpm_tags.specs.declared.numbers.TheConstants.{PROVIDENAME, PROVIDEFLAGS, PROVIDEVERSION}
use Rattle.rpm_tags.specs.Wanted.{Need, has_file, dependencies}
use Rattle.rpm_version.specs.Range.{is_open, overlaps}

-- what is given has the name that is needed, and their ranges overlap
abbrev pub answers : Need → Need → Bool
answers need given = bytes_eq given.name need.name && overlaps given.flags given.version need.flags need.version

-- One of the elements under the tags of these names, flags and versions answers what is needed.
abbrev pub has_answer : ℕ → ℕ → ℕ → Need → Header → Bool
has_answer names flags versions need h =
    list_any (answers need) (dependencies (record { names = names; flags = flags; versions = versions }) h)

-- A header provides what is needed, or has it as a file: a path, which a slash (47) begins, without a range.
abbrev pub gives : Need → Header → Bool
gives need h = has_answer PROVIDENAME PROVIDEFLAGS PROVIDEVERSION need h
    || (is_open need.flags need.version && (slice_index need.name 0 == 47 && has_file h need.name))

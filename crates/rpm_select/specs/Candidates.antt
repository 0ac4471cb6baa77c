-- The keys by which an index is asked for a selection, and the packages that have one of them.
use Rattle.std.specs.Prelude.{ℕ, List, [], ◌∷◌, ◌++◌, map, filter, Bool, true, false, ◌==◌, if◌then◌else◌, slice_index}
use Rattle.std.specs.Prelude.{Option, Some, None, option_to_list}
use Rattle.std.specs.List.{list_any, before_last}
use Rattle.std.specs.Option.{option_and_then}
use Rattle.std.specs.Ordering.{nat_cmp}
use Rattle.std.specs.FinMap.{FinMap, entries}
use Rattle.rpm_header.specs.Header.{Header}
use Rattle.rpm_tags.specs.declared.kind.Kind.{Kind}
use Rattle.rpm_tags.specs.declared.kind.Kind.TheVariants as kind
use Rattle.rpm_tags.specs.Keys.{key_list, number_key}
use Rattle.rpm_tags.specs.Wanted.{base_name}
use Rattle.rpm_db.specs.State.{Package, package_or}
use Rattle.rpm_select.specs.declared.selection.Selection.{Selection}
use Rattle.rpm_select.specs.declared.selection.Selection.TheVariants.{All, Pattern, Number, Label, Path, Group}
use Rattle.rpm_select.specs.declared.selection.Selection.TheVariants.{Provides, Requires, Conflicts, Obsoletes, Trigger}
use Rattle.rpm_select.specs.declared.selection.Selection.TheVariants.{Directory, Tid, Recommends}
use Rattle.rpm_version.specs.Evr.{is_dash}
use Rattle.rpm_select.specs.Selections.{is_text_among}

-- a text cut before its last such byte; none where it has no such byte
abbrev pub cut_text : (ℕ → Bool) → List ℕ → Option (List ℕ)
cut_text is_end text = if list_any is_end text then Some (before_last is_end text) else None

-- The names that a label can begin with: all of it, and what stands before its last dot (46), dash, or dash but one.
abbrev pub names_in : List ℕ → List (List ℕ)
names_in x = x ∷ option_to_list (cut_text (λ b. b == 46) x) ++ option_to_list (cut_text is_dash x)
    ++ option_to_list (option_and_then (cut_text is_dash) (cut_text is_dash x))

-- whether keys are asked: the others read all packages, or the one of their number
abbrev pub has_keys : Selection → Bool
has_keys All = false
has_keys (Pattern p) = false
has_keys (Number m) = false
has_keys others = true

-- The kinds and keys that an index is asked for. A capability that can be a path, as a slash (47) begins it, is also
-- looked for among the names of files.
unfoldable pub keys_asked : Selection → List (Kind × List ℕ)
keys_asked (Label x) = map (λ name. (kind.Name, name)) (names_in x.now)
keys_asked (Path x) = (kind.Basenames, base_name x.now) ∷ []
keys_asked (Group x) = (kind.Group, x.now) ∷ []
keys_asked (Provides c) = (kind.Providename, c.name)
    ∷ (if slice_index c.name 0 == 47 then (kind.Basenames, base_name c.name) ∷ [] else [])
keys_asked (Requires c) = (kind.Requirename, c.name) ∷ []
keys_asked (Conflicts c) = (kind.Conflictname, c.name) ∷ []
keys_asked (Obsoletes c) = (kind.Obsoletename, c.name) ∷ []
keys_asked (Trigger x) = (kind.Triggername, x.now) ∷ []
keys_asked (Directory x) = (kind.Dirnames, x.now) ∷ []
keys_asked (Tid t) = (kind.Installtid, number_key t) ∷ []
keys_asked (Recommends c) = (kind.Recommendname, c.name) ∷ []
keys_asked others = []

-- A header has one of the keys of a selection.
abbrev pub has_asked_key : Selection → Header → Bool
has_asked_key sel h = list_any (λ e. is_text_among e.1 (key_list e.0 h)) (keys_asked sel)

-- The packages whose header can be read and has one of the keys, by rising number.
unfoldable pub candidates : FinMap nat_cmp Package → Selection → List (ℕ × Package)
candidates packages sel = filter (λ e. package_or (has_asked_key sel) e.1 false) (entries packages)

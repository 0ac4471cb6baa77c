-- Which packages a question picks.
use Rattle.std.specs.Prelude.{ℕ, List, filter, Bool, true, false, not, ◌==◌, Some, None}
use Rattle.std.specs.List.{list_any}
use Rattle.std.specs.Str.{bytes_eq}
use Rattle.std.specs.Ordering.{nat_cmp}
use Rattle.std.specs.FinMap.{FinMap, entries}
use Rattle.rpm_header.specs.Header.{Header, header}
use Rattle.rpm_tags.specs.declared.numbers.TheConstants.{GROUP, REQUIRENAME, REQUIREFLAGS, REQUIREVERSION, CONFLICTNAME, CONFLICTFLAGS}
use Rattle.rpm_tags.specs.declared.numbers.TheConstants.{CONFLICTVERSION, OBSOLETENAME, OBSOLETEFLAGS, OBSOLETEVERSION, RECOMMENDNAME}
use Rattle.rpm_tags.specs.declared.numbers.TheConstants.{RECOMMENDFLAGS, RECOMMENDVERSION, TRIGGERNAME, DIRNAMES, INSTALLTID}
use Rattle.rpm_tags.specs.Value.{first_text, texts_in, numbers_in}
use Rattle.rpm_tags.specs.Wanted.{Need, list_or_empty, has_file}
use Rattle.rpm_version.specs.Capability.{CapabilityParts}
use Rattle.rpm_db.specs.State.{Package, Good, Bad, header_or}
use Rattle.rpm_select.specs.declared.selection.Selection.{Selection}
use Rattle.rpm_select.specs.declared.selection.Selection.TheVariants.{All, Pattern, Label, Path, Group, Provides}
use Rattle.rpm_select.specs.declared.selection.Selection.TheVariants.{Requires, Conflicts, Obsoletes, Trigger, Number}
use Rattle.rpm_select.specs.declared.selection.Selection.TheVariants.{Directory, Tid, Recommends}
use Rattle.rpm_select.specs.Glob.{glob}
use Rattle.rpm_select.specs.Providing.{gives, has_answer}
use Rattle.rpm_select.specs.Labels.{labels}

-- ---- one row for each selection

-- A capability asks for an element of its name and its range.
abbrev pub needed_by : CapabilityParts → Need
needed_by c = record { name = c.name; flags = c.flags; version = c.evr }

-- a text is one of these, byte for byte
abbrev pub is_text_among : List ℕ → List (List ℕ) → Bool
is_text_among x texts = list_any (bytes_eq x) texts

-- a selection picks this header of a package of this number
unfoldable pub takes_header : Selection → ℕ → Header → Bool
takes_header All n h = true
takes_header (Pattern p) n h = list_any (glob p.now) (labels h)
takes_header (Label x) n h = is_text_among x.now (labels h)
takes_header (Path x) n h = has_file h x.now
takes_header (Group x) n h = elim (first_text h GROUP) [ Some text ↦ bytes_eq x.now text | None ↦ false ]
takes_header (Provides c) n h = gives (needed_by c) h
takes_header (Requires c) n h = has_answer REQUIRENAME REQUIREFLAGS REQUIREVERSION (needed_by c) h
takes_header (Conflicts c) n h = has_answer CONFLICTNAME CONFLICTFLAGS CONFLICTVERSION (needed_by c) h
takes_header (Obsoletes c) n h = has_answer OBSOLETENAME OBSOLETEFLAGS OBSOLETEVERSION (needed_by c) h
takes_header (Trigger x) n h = is_text_among x.now (list_or_empty (texts_in h TRIGGERNAME))
takes_header (Number m) n h = n == m
takes_header (Directory x) n h = is_text_among x.now (list_or_empty (texts_in h DIRNAMES))
takes_header (Tid t) n h = list_any (λ m. m == t) (list_or_empty (numbers_in h INSTALLTID))
takes_header (Recommends c) n h = has_answer RECOMMENDNAME RECOMMENDFLAGS RECOMMENDVERSION (needed_by c) h

-- ---- the packages that are picked

-- a package that can't be read is picked by these alone
abbrev pub takes_bad : Selection → ℕ → Bool
takes_bad All n = true
takes_bad (Pattern p) n = true
takes_bad (Number m) n = n == m
takes_bad others n = false

-- a question by number can't pick a package of another one, whatever that is
abbrev pub is_elsewhere : Selection → ℕ → Bool
is_elsewhere (Number m) n = not (n == m)
is_elsewhere others n = false

-- A selection picks this package of this number: one with a header that it takes, or a bad one that it takes.
abbrev pub is_picked : Selection → ℕ × Package → Bool
is_picked sel (n, Good bytes) = header_or (takes_header sel n) (header bytes) false
is_picked sel (n, Bad) = takes_bad sel n

-- a question picks these packages, by rising number
unfoldable pub picks : FinMap nat_cmp Package → Selection → List (ℕ × Package)
picks packages sel = filter (is_picked sel) (entries packages)

-- An index is complete for each selection that has keys: whatever is picked has one of them.
use Rattle.std.proofs.Common.{◌≡◌, ℕ, List, [], ◌∷◌, map, Bool, true, false, ◌||◌, ◌==◌, Option, Result, Ok, Err, refl}
use Rattle.std.proofs.Common.{sym, ap, ◌∙◌, subst, inl, inr}
use Rattle.std.specs.Prelude.{◌&&◌, slice_index, if◌then◌else◌}
use Rattle.std.specs.List.{list_any}
use Rattle.std.specs.Str.{bytes_eq}
use Rattle.std.proofs.lemmas.Bool.{and_parts}
use Rattle.rpm_header.specs.declared.form.HeaderFault.{HeaderFault}
use Rattle.rpm_header.specs.Header.{Header, header}
use Rattle.rpm_tags.specs.declared.kind.Kind.TheVariants as kind
use Rattle.rpm_tags.specs.declared.needed.Tags.{Tags}
use Rattle.rpm_tags.specs.Keys.{number_key}
use Rattle.rpm_tags.specs.declared.numbers.TheConstants.{NAME, GROUP, DIRINDEXES, BASENAMES, DIRNAMES, INSTALLTID, PROVIDENAME, PROVIDEFLAGS}
use Rattle.rpm_tags.specs.declared.numbers.TheConstants.{PROVIDEVERSION, REQUIRENAME, REQUIREFLAGS, REQUIREVERSION, CONFLICTNAME}
use Rattle.rpm_tags.specs.declared.numbers.TheConstants.{CONFLICTFLAGS, CONFLICTVERSION, OBSOLETENAME, OBSOLETEFLAGS, OBSOLETEVERSION}
use Rattle.rpm_tags.specs.declared.numbers.TheConstants.{RECOMMENDNAME, RECOMMENDFLAGS, RECOMMENDVERSION, TRIGGERNAME}
use Rattle.rpm_tags.specs.Value.{first_text, texts_in, numbers_in, filenames}
use Rattle.rpm_tags.specs.Wanted.{list_or_empty, has_file, dependencies, base_name}
use Rattle.rpm_version.specs.Capability.{CapabilityParts}
use Rattle.rpm_db.specs.State.{Package, Good, Bad}
use Rattle.rpm_select.specs.declared.selection.Selection.{Selection}
use Rattle.rpm_select.specs.declared.selection.Selection.TheVariants.{All, Pattern, Label, Path, Group, Provides}
use Rattle.rpm_select.specs.declared.selection.Selection.TheVariants.{Requires, Conflicts, Obsoletes, Trigger, Number}
use Rattle.rpm_select.specs.declared.selection.Selection.TheVariants.{Directory, Tid, Recommends}
use Rattle.rpm_select.specs.Candidates.{has_keys, keys_asked, names_in}
use Rattle.rpm_select.specs.laws.Parts.{has_header_key, has_key_in, is_candidate}
use Rattle.rpm_select.specs.laws.Parts.{path_keys}
use Rattle.rpm_select.specs.Labels.{labels}
use Rattle.rpm_version.specs.Range.{is_open}
use Rattle.rpm_select.specs.laws.Parts.{is_file_of}
use Rattle.rpm_select.specs.Selections.{needed_by, is_text_among, takes_header}
use Rattle.rpm_select.specs.laws.Parts.{tags, has_any, is_text, takes_read}
use Rattle.rpm_select.specs.Selections.{is_picked}
use Rattle.rpm_select.proofs.Cuts.{label_begins}
use Rattle.rpm_select.proofs.laws.Keyed.{or_left, or_right, or_cases, same_bytes, are_same, first_among, named, zipped}
use Rattle.rpm_select.proofs.laws.Keyed.{numbered}

-- one key among others
only : (b : Bool) → b ≡ true → (b || false) ≡ true
only b is = or_left b false is

-- what an element of these texts passes, one of them passes
passed_on : (p : List ℕ → Bool) (x : List ℕ) (xs : List (List ℕ)) → is_text_among x xs ≡ true → p x ≡ true
    → list_any p xs ≡ true
passed_on p x [] is holds = absurd cc
passed_on p x (y ∷ ys) is holds = elim (or_cases (bytes_eq x y) (is_text_among x ys) is) [
  | inl first ↦ or_left (p y) (list_any p ys) (ap p (sym (same_bytes x y first)) ∙ holds)
  | inr later ↦ or_right (p y) (list_any p ys) (passed_on p x ys later holds)
]

any_named : (h : Header) (names : List (List ℕ))
    → list_any (λ name. is_text_among name (list_or_empty (texts_in h NAME))) names ≡ true
    → list_any (has_header_key h) (map (λ name. (kind.Name, name)) names) ≡ true
any_named h [] is = absurd cc
any_named h (name ∷ names) is =
    elim (or_cases (is_text_among name (list_or_empty (texts_in h NAME)))
    (list_any (λ n. is_text_among n (list_or_empty (texts_in h NAME))) names) is) [
      | inl first ↦ or_left (is_text_among name (list_or_empty (texts_in h NAME)))
          (list_any (has_header_key h) (map (λ n. (kind.Name, n)) names)) first
      | inr later ↦ or_right (is_text_among name (list_or_empty (texts_in h NAME)))
          (list_any (has_header_key h) (map (λ n. (kind.Name, n)) names)) (any_named h names later)
    ]

label_key : (x : List ℕ) (h : Header) → is_text_among x (labels h) ≡ true
    → list_any (has_header_key h) (map (λ name. (kind.Name, name)) (names_in x)) ≡ true
unfolding labels first_text
label_key x h is =
    let begins = label_begins x (first_text h 1000) (first_text h 1022) (first_text h 1001) (first_text h 1002) is in
    let there : is_text_among begins.0 (list_or_empty (texts_in h NAME)) ≡ true =
    first_among begins.0 (texts_in h NAME) (subst (λ (o : Option (List ℕ)). is_text begins.0 o ≡ true) (sym begins.1)
    (are_same begins.0 begins.0 refl)) in
    any_named h (names_in x) (passed_on (λ name. is_text_among name (list_or_empty (texts_in h NAME))) begins.0
    (names_in x) begins.2 there)

group_key : (x : List ℕ) (h : Header) → is_text x (first_text h GROUP) ≡ true
    → is_text_among x (list_or_empty (texts_in h GROUP)) ≡ true
unfolding first_text
group_key x h is = first_among x (texts_in h GROUP) is

need_key : (ts : Tags) (c : CapabilityParts) (h : Header) → has_any ts c h ≡ true
    → is_text_among c.name (list_or_empty (texts_in h ts.names)) ≡ true
unfolding dependencies
need_key ts c h is = named c (list_or_empty (texts_in h ts.names)) (list_or_empty (numbers_in h ts.flags))
    (list_or_empty (texts_in h ts.versions)) is

path_key : (path : List ℕ) (h : Header) → has_file h path ≡ true
    → is_text_among (base_name path) (list_or_empty (texts_in h BASENAMES)) ≡ true
unfolding has_file
path_key path h is = zipped path (list_or_empty (filenames (texts_in h DIRNAMES) (numbers_in h DIRINDEXES) (texts_in h BASENAMES)))
    (list_or_empty (texts_in h BASENAMES)) is

file_key : (c : CapabilityParts) (h : Header) → is_file_of (needed_by c) h ≡ true
    → list_any (has_header_key h) (path_keys c.name) ≡ true
file_key c h is =
    let both = and_parts (is_open c.flags c.evr) (slice_index c.name 0 == 47 && has_file h c.name) is in
    let slash = and_parts (slice_index c.name 0 == 47) (has_file h c.name) both.1 in
    subst (λ (b : Bool). list_any (has_header_key h) (if b then (kind.Basenames, base_name c.name) ∷ [] else []) ≡ true)
    (sym slash.0)
    (only (is_text_among (base_name c.name) (list_or_empty (texts_in h BASENAMES))) (path_key c.name h slash.1))

-- a header that is taken has a key: row by row
pub header_complete : (sel : Selection) (n : ℕ) (h : Header) → has_keys sel ≡ true → takes_header sel n h ≡ true
    → list_any (has_header_key h) (keys_asked sel) ≡ true
unfolding takes_header keys_asked
header_complete All n h keyed takes = absurd cc
header_complete (Pattern p) n h keyed takes = absurd cc
header_complete (Number m) n h keyed takes = absurd cc
header_complete (Label x) n h keyed takes = label_key x.now h takes
header_complete (Path x) n h keyed takes =
    only (is_text_among (base_name x.now) (list_or_empty (texts_in h BASENAMES))) (path_key x.now h takes)
header_complete (Group x) n h keyed takes =
    only (is_text_among x.now (list_or_empty (texts_in h GROUP))) (group_key x.now h takes)
header_complete (Provides c) n h keyed takes =
    let among = is_text_among c.name (list_or_empty (texts_in h PROVIDENAME)) in
    elim (or_cases (has_any (tags PROVIDENAME PROVIDEFLAGS PROVIDEVERSION) c h) (is_file_of (needed_by c) h) takes) [
      | inl given ↦ or_left among (list_any (has_header_key h) (path_keys c.name))
          (need_key (tags PROVIDENAME PROVIDEFLAGS PROVIDEVERSION) c h given)
      | inr file ↦ or_right among (list_any (has_header_key h) (path_keys c.name)) (file_key c h file)
    ]
header_complete (Requires c) n h keyed takes = only (is_text_among c.name (list_or_empty (texts_in h REQUIRENAME)))
    (need_key (tags REQUIRENAME REQUIREFLAGS REQUIREVERSION) c h takes)
header_complete (Conflicts c) n h keyed takes = only (is_text_among c.name (list_or_empty (texts_in h CONFLICTNAME)))
    (need_key (tags CONFLICTNAME CONFLICTFLAGS CONFLICTVERSION) c h takes)
header_complete (Obsoletes c) n h keyed takes = only (is_text_among c.name (list_or_empty (texts_in h OBSOLETENAME)))
    (need_key (tags OBSOLETENAME OBSOLETEFLAGS OBSOLETEVERSION) c h takes)
header_complete (Trigger x) n h keyed takes = only (is_text_among x.now (list_or_empty (texts_in h TRIGGERNAME))) takes
header_complete (Directory x) n h keyed takes = only (is_text_among x.now (list_or_empty (texts_in h DIRNAMES))) takes
header_complete (Tid t) n h keyed takes =
    only (is_text_among (number_key t) (map number_key (list_or_empty (numbers_in h INSTALLTID))))
    (numbered t (list_or_empty (numbers_in h INSTALLTID)) takes)
header_complete (Recommends c) n h keyed takes = only (is_text_among c.name (list_or_empty (texts_in h RECOMMENDNAME)))
    (need_key (tags RECOMMENDNAME RECOMMENDFLAGS RECOMMENDVERSION) c h takes)

read_complete : (sel : Selection) (n : ℕ) (r : Result Header HeaderFault) → has_keys sel ≡ true
    → takes_read sel n r ≡ true → has_key_in sel r ≡ true
read_complete sel n (Ok h) keyed takes = header_complete sel n h keyed takes
read_complete sel n (Err fault) keyed takes = absurd cc

bad_passed : (sel : Selection) (n : ℕ) → has_keys sel ≡ true → is_picked sel (n, Bad) ≡ false
bad_passed All n keyed = absurd cc
bad_passed (Pattern p) n keyed = absurd cc
bad_passed (Number m) n keyed = absurd cc
bad_passed (Label x) n keyed = refl
bad_passed (Path x) n keyed = refl
bad_passed (Group x) n keyed = refl
bad_passed (Provides c) n keyed = refl
bad_passed (Requires c) n keyed = refl
bad_passed (Conflicts c) n keyed = refl
bad_passed (Obsoletes c) n keyed = refl
bad_passed (Trigger x) n keyed = refl
bad_passed (Directory x) n keyed = refl
bad_passed (Tid t) n keyed = refl
bad_passed (Recommends c) n keyed = refl

-- whatever is picked has one of the keys that are asked
pub complete : (sel : Selection) (n : ℕ) (p : Package) → has_keys sel ≡ true → is_picked sel (n, p) ≡ true
    → is_candidate sel (n, p) ≡ true
complete sel n (Good bytes) keyed takes = read_complete sel n (header bytes) keyed takes
complete sel n Bad keyed takes = (let other = sym (bad_passed sel n keyed) ∙ takes in absurd cc)

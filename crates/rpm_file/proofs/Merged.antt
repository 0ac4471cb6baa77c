-- The entries that join, one after the other.
use Rattle.std.proofs.Common.{◌≡◌, ℕ, ◌+◌, ◌≤◌, ◌<◌, List, [], ◌∷◌, ◌++◌, Option, Some, None, Result, Ok, Err, length, take, true, false, refl, sym, ap, ◌∙◌, le-ltb, lt-ltb, inl, inr}
use Rattle.std.specs.Prelude.{slice_get, ◌↔◌}
use Rattle.rpm_file.proofs.Vocabulary.{and_entries, BuildFault, dribble, dribble_as, dribbled_blob, dribbled_data, dribbles, entries_or_none, filter_map, Form, has_tag, HasIndexBytes, Header}
use Rattle.rpm_file.proofs.Vocabulary.{header, HeaderFault, is_null, IsMadeFault, Item, joins_as, made_fault, merged_header, passes_limits, read_again, with_tag}
use Rattle.rpm_file.proofs.Vocabulary.{header_with_entries}
use Rattle.std.proofs.lemmas.List.{append-nil}
use Rattle.std.proofs.lemmas.List.Elements.{filter_map-append}
use Rattle.std.proofs.lemmas.Bool.{cases_lt}
use Rattle.rpm_header.specs.declared.form.Form.TheVariants as form
use Rattle.rpm_header.specs.declared.laying.BuildFault.TheVariants as build
use Rattle.rpm_file.specs.declared.fault.FileFault.TheVariants as fault
use Rattle.rpm_file.proofs.Tagged.{next_taken}
use Rattle.rpm_file.proofs.Layers.{laid_once}

-- ---- what an entry becomes

pub none_null : (main : List Item) (e : Item) → is_null e.form ≡ true → dribble main e ≡ None
unfolding dribble
none_null main e is = rw is refl

dribble_is : (main : List Item) (e : Item) (to : Option ℕ) → is_null e.form ≡ false → joins_as e.tag ≡ to → dribble main e ≡ dribble_as main e to
unfolding dribble
dribble_is main e to other is = rw (other, is) refl

pub none_joins : (main : List Item) (e : Item) → is_null e.form ≡ false → joins_as e.tag ≡ None → dribble main e ≡ None
none_joins main e other is = dribble_is main e None other is

pub none_twice : (main : List Item) (e : Item) (tag : ℕ) → is_null e.form ≡ false → joins_as e.tag ≡ Some tag → has_tag tag main ≡ true → dribble main e ≡ None
none_twice main e tag other is has = dribble_is main e (Some tag) other is ∙ rw has refl

pub joins : (main : List Item) (e : Item) (tag : ℕ) → is_null e.form ≡ false → joins_as e.tag ≡ Some tag → has_tag tag main ≡ false
    → dribble main e ≡ Some (with_tag tag e)
joins main e tag other is has = dribble_is main e (Some tag) other is ∙ rw has refl

pub not_null : (f : Form) → is_null f ≡ false → f ≡ form.Null → ⊥
not_null form.Null other is = cc
not_null form.Char other is = cc
not_null form.Int8 other is = cc
not_null form.Int16 other is = cc
not_null form.Int32 other is = cc
not_null form.Int64 other is = cc
not_null form.Text other is = cc
not_null form.Bin other is = cc
not_null form.Texts other is = cc
not_null form.I18n other is = cc

-- ---- one entry more

pub next_joins : (h : Item → Option Item) (xs : List Item) (i : ℕ) (e y : Item) → slice_get xs i ≡ Some e → h e ≡ Some y
    → filter_map h (take (i + 1) xs) ≡ filter_map h (take i xs) ++ y ∷ []
next_joins h xs i e y is gives =
    ap (filter_map h) (next_taken xs i e is) ∙ filter_map-append h (take i xs) (e ∷ []) ∙ rw gives refl

pub next_passed : (h : Item → Option Item) (xs : List Item) (i : ℕ) (e : Item) → slice_get xs i ≡ Some e → h e ≡ None
    → filter_map h (take (i + 1) xs) ≡ filter_map h (take i xs)
next_passed h xs i e is none =
    ap (filter_map h) (next_taken xs i e is) ∙ filter_map-append h (take i xs) (e ∷ []) ∙ rw none (append-nil (filter_map h (take i xs)))

-- ---- the limits

pub keeps_limits : {V : Type 0} (r : Result V BuildFault) (v : V) (n size : ℕ) → r ≡ Ok v → ((r ≡ Err build.TooManyEntries) ↔ (65535 < n))
    → ((r ≡ Err build.TooMuchData) ↔ ((n ≤ 65535) × (67108864 < size))) → passes_limits n size ≡ false
keeps_limits r v n size is many much =
    elim (cases_lt 65535 n) [
      | inl past ↦ (let e : r ≡ Err build.TooManyEntries = many.1 past in absurd cc)
      | inr few ↦ (elim (cases_lt 67108864 size) [
        | inl past ↦ (let e : r ≡ Err build.TooMuchData = much.1 (few, past) in absurd cc)
        | inr small ↦ (rw (le-ltb 65535 n few, le-ltb 67108864 size small) refl)
      ])
    ]

-- ---- all of it

pub made_bytes : (main : Header) (more : List Item) (blob : List ℕ)
    → passes_limits (length main.entries + length more) (length (dribbled_data main more)) ≡ false
    → blob ≡ dribbled_blob main more → header blob ≡ Ok (record { blob = blob; entries = main.entries ++ more })
    → (header_with_entries main more ≡ Ok (read_again blob)) × (header blob ≡ Ok (read_again blob))
made_bytes main more blob fits laid again =
    let same : read_again blob ≡ record { blob = blob; entries = main.entries ++ more } =
    ap (λ (r : Result Header HeaderFault). record { blob = blob; entries = entries_or_none r }) again in
    (rw (fits, same, laid) refl, again ∙ ap (λ (h : Header). Ok h) (sym same))

made_large : (main : Header) (more : List Item) → passes_limits (length main.entries + length more) (length (dribbled_data main more)) ≡ true
    → header_with_entries main more ≡ Err fault.TooLarge
made_large main more past = rw past refl

pub made_not : {V : Type 0} (r : Result V BuildFault) (e : BuildFault) (main : Header) (more : List Item) → r ≡ Err e
    → ((r ≡ Err build.TooManyEntries) ↔ (65535 < length main.entries + length more))
    → ((r ≡ Err build.TooMuchData) ↔ ((length main.entries + length more ≤ 65535) × (67108864 < length (dribbled_data main more))))
    → IsMadeFault (header_with_entries main more) (made_fault e)
made_not r build.TooManyEntries main more is many much = made_large main more (rw (lt-ltb 65535 (length main.entries + length more) (many.0 is)) refl)
made_not r build.TooMuchData main more is many much =
    let both = much.0 is in
    made_large main more (rw (le-ltb 65535 (length main.entries + length more) both.0, lt-ltb 67108864 (length (dribbled_data main more)) both.1) refl)
made_not r build.NoMemory main more is many much = tt

-- the entries that join, and those of the caller after them, all at once
pub merged_is : (signature : List Item) (main : Header) (stamps more : List Item) → HasIndexBytes main → more ≡ dribbles main.entries signature ++ stamps
    → header_with_entries main more ≡ and_entries stamps (merged_header signature main)
unfolding merged_header
merged_is signature main stamps more room are = ap (header_with_entries main) are ∙ sym (laid_once main (dribbles main.entries signature) stamps room)

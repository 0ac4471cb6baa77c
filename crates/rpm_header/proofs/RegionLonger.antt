-- The index, a region and the fault of an entry, where further entries stand after.
use Rattle.std.proofs.Common.{zero-add, add-zero, ◌≡◌, ℕ, zero, suc, ◌+◌, ◌*◌, ◌^◌, ◌≤◌, List, ◌++◌, length, take, drop, map, Bool, true, false, eqb, Option, Some, None, refl, sym, ap, subst, ◌∙◌, length-drop, arith}
use Rattle.std.specs.Prelude.{◌&&◌, ◌||◌, if◌then◌else◌}
use Rattle.rpm_header.proofs.Vocabulary.{BadRegion, counts_back, entry_fault, fault_at, form_fault, form_of, from_be_bytes, HeaderFault, index_entry}
use Rattle.rpm_header.proofs.Vocabulary.{IndexEntry, is_region_tag, list_any, number_at, number_longer, option_or, range_with_len, region_fault, section_of}
use Rattle.rpm_header.proofs.Vocabulary.{w32}
use Rattle.std.proofs.lemmas.Bool.{eqb-true}
use Rattle.std.proofs.lemmas.List.{drop-drop, map-append}
use Rattle.std.proofs.lemmas.List.Folds.{list_any-append}
use Rattle.rpm_header.specs.declared.form.Form.TheVariants as form
use Rattle.rpm_header.proofs.Bools.{and_true}
use Rattle.rpm_header.proofs.Cut.{number_in_front}
use Rattle.rpm_header.proofs.Longer.{room_of, faultless}
use Rattle.rpm_header.proofs.EntryLonger.{in_data, fault_longer}
use Rattle.rpm_header.proofs.EntriesAgain.{neither}
use Rattle.rpm_header.proofs.LaidHeader.{no_region_fault}

range_split : (a m n : ℕ) → range_with_len a (m + n) ≡ range_with_len a m ++ range_with_len (a + m) n
range_split a zero n = rw (zero-add, add-zero) refl
range_split a (suc m) n =
    let size : suc m + n ≡ suc (m + n) = omega arith in
    let start : a + suc m ≡ a + 1 + m = omega arith in
    rw (size, start, range_split (a + 1) m n) refl

pub map_split : {X : Type 0} (f : ℕ → X) (m n : ℕ) → map f (range_with_len 0 (m + n)) ≡ map f (range_with_len 0 m) ++ map f (range_with_len m n)
map_split f m n =
    ap (map f) (range_split 0 m n) ∙ map-append f (range_with_len 0 m) (range_with_len (0 + m) n)
    ∙ ap (λ (k : ℕ). map f (range_with_len 0 m) ++ map f (range_with_len k n)) (zero-add m)

counts_longer : (il more n : ℕ) → counts_back il n ≡ true → counts_back (il + more) n ≡ true
counts_longer il more n back =
    let test = λ (r : ℕ). eqb (n + 16 * r) (2 ^ 32) in
    ap (list_any test) (range_split 1 il more) ∙ list_any-append test (range_with_len 1 il) (range_with_len (1 + il) more)
    ∙ ap (λ b. b || list_any test (range_with_len (1 + il) more)) back

-- a region without a fault
pub record IsRegion (il : ℕ) (i : IndexEntry) (section : List ℕ) : Type 0 where
  pub kind : i.kind ≡ 7
  pub count : i.count ≡ 16
  pub back : counts_back il (number_at w32 section (i.offset + 8)) ≡ true

told_region : (good : Bool) (x : HeaderFault) → (if good then None else Some x) ≡ None → good ≡ true
told_region true x none = refl
told_region false x none = absurd cc

pub is_region : (il : ℕ) (i : IndexEntry) (section : List ℕ) → region_fault il i section ≡ None → IsRegion il i section
is_region il i section none =
    let good = told_region (eqb i.kind 7 && eqb i.count 16 && counts_back il (number_at w32 section (i.offset + 8))) BadRegion none in
    let last = and_true (eqb i.kind 7 && eqb i.count 16) (counts_back il (number_at w32 section (i.offset + 8))) good in
    let first = and_true (eqb i.kind 7) (eqb i.count 16) last.0 in
    record { kind = eqb-true i.kind 7 first.0; count = eqb-true i.count 16 first.1; back = last.1 }

-- its trailer lies in the data
pub trailer_room : (k il : ℕ) (i : IndexEntry) (section : List ℕ) → form_fault (form_of i.kind) k i section ≡ None → IsRegion il i section
    → i.offset + 16 ≤ length section
trailer_room k il i section none r =
    let bin : form_fault (Some form.Bin) k i section ≡ None = subst (λ (kind : ℕ). form_fault (form_of kind) k i section ≡ None) r.kind none in
    let d = in_data form.Bin k i section (λ h. cc) bin in
    let f = faultless form.Bin k i.count (drop i.offset section) d.elements in
    let room : i.count * 1 ≤ length (drop i.offset section) = room_of i.count (i.count * 1) (drop i.offset section) f.good in
    omega (arith, r.count, d.within, length-drop i.offset section)

-- the fault of entry k, told by its index entry and the data
abbrev pub fault_of : ℕ → ℕ → IndexEntry → List ℕ → Option HeaderFault
fault_of k il i section = option_or (form_fault (form_of i.kind) k i section) (if eqb k 0 && is_region_tag i.tag then region_fault il i section else None)

pub none_of : {X : Type 0} (a b : Option X) → option_or a b ≡ None → (a ≡ None) × (b ≡ None)
none_of None b none = (refl, none)
none_of (Some x) b none = absurd cc

rule_longer : (test : Bool) (k il m : ℕ) (i : IndexEntry) (section more : List ℕ) → form_fault (form_of i.kind) k i section ≡ None
    → (if test then region_fault il i section else None) ≡ None
    → (if test then region_fault (il + m) i (section ++ more) else None) ≡ None
rule_longer false k il m i section more own none = refl
rule_longer true k il m i section more own none =
    let r = is_region il i section none in
    let room = trailer_room k il i section own r in
    let same : number_at w32 (section ++ more) (i.offset + 8) ≡ number_at w32 section (i.offset + 8) =
    number_longer w32 section more (i.offset + 8) (omega arith) (omega arith) in
    no_region_fault (il + m) i (section ++ more) r.kind r.count (ap (counts_back (il + m)) same
    ∙ counts_longer il m (number_at w32 section (i.offset + 8)) r.back)

pub whole_longer : (k il m : ℕ) (i : IndexEntry) (section more : List ℕ) → fault_of k il i section ≡ None → fault_of k (il + m) i (section ++ more) ≡ None
whole_longer k il m i section more none =
    let parts = none_of (form_fault (form_of i.kind) k i section) (if eqb k 0 && is_region_tag i.tag then region_fault il i section else None) none in
    neither _ _ (fault_longer (form_of i.kind) k i section more parts.0) (rule_longer (eqb k 0 && is_region_tag i.tag) k il m i section more parts.0 parts.1)

pub fault_is : (il : ℕ) (blob : List ℕ) (k : ℕ) → fault_at il blob k ≡ fault_of k il (index_entry il blob k) (section_of il blob)
unfolding fault_at entry_fault
fault_is il blob k = refl

pub number_behind : (bytes : List ℕ) (at m : ℕ) → at ≡ 8 + m → number_at w32 bytes at ≡ number_at w32 (drop 8 bytes) m
unfolding number_at
number_behind bytes at m place = rw place (ap (from_be_bytes w32) (sym (drop-drop m 8 bytes)))

pub number_kept : (bytes bytes' : List ℕ) (size at m : ℕ) → at ≡ 8 + m → m + 4 ≤ size → take size (drop 8 bytes) ≡ take size (drop 8 bytes')
    → number_at w32 bytes at ≡ number_at w32 bytes' at
number_kept bytes bytes' size at m place within same =
    number_behind bytes at m place
    ∙ sym (number_in_front size m (drop 8 bytes) within)
    ∙ ap (λ (b : List ℕ). number_at w32 b m) same
    ∙ number_in_front size m (drop 8 bytes') within
    ∙ sym (number_behind bytes' at m place)

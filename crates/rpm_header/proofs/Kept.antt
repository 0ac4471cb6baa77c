-- The region of a header stays as it is where further entries stand after its own.
use Rattle.std.proofs.Common.{◌≡◌, ℕ, ◌+◌, ◌-◌, ◌*◌, ◌/◌, ◌^◌, ◌≤◌, List, [], ◌∷◌, ◌++◌, length, take, true, eqb, Ok, Result, refl, sym, ap, ◌∙◌, arith, inl, inr}
use Rattle.rpm_header.proofs.Vocabulary.{AllByRecursion, begins_with, data_from, dribbled_blob, dribbled_data, dribbled_index, Header, header, HeaderFault}
use Rattle.rpm_header.proofs.Vocabulary.{immutable_digest, header_in_file, index_from, Item, Lengths, number_at, number_longer, own_data, own_index, ReadsBack}
use Rattle.rpm_header.proofs.Vocabulary.{region_in_file, w32}
use Rattle.std.proofs.lemmas.Bool.{cases_Bool}
use Rattle.std.proofs.lemmas.List.{take-append-le}
use Rattle.rpm_header.proofs.Bools.{or_false}
use Rattle.rpm_header.proofs.Opened.{IsOpened}
use Rattle.rpm_header.proofs.Hashed.{region_fits}
use Rattle.rpm_header.proofs.Dribbled.{own_sixteen, new_index, new_data, dribbled_written}
use Rattle.rpm_header.proofs.LaidParts.{IsWithin}

-- ---- what is hashed, told by the index and the data

abbrev offset_in : List ℕ → ℕ
offset_in index = number_at w32 index 8

abbrev entries_in : List ℕ → ℕ → ℕ
entries_in section offset = (2 ^ 32 - number_at w32 section (offset + 8)) / 16

abbrev hashed_of : List ℕ → List ℕ → List ℕ
hashed_of index section =
    let offset = offset_in index in
    let r = entries_in section offset in
    header_in_file r (offset + 16) (take (16 * r) index) (take (offset + 16) section)

region_is : (h : Header) → region_in_file h ≡ hashed_of (own_index h) (own_data h)
region_is h = refl

-- the same where more stands after both
hashed_longer : (index more section behind : List ℕ) (offset r : ℕ) → offset ≡ offset_in index → r ≡ entries_in section offset → 16 ≤ length index
    → 16 * r ≤ length index → offset + 16 ≤ length section
    → hashed_of (index ++ more) (section ++ behind) ≡ hashed_of index section
hashed_longer index more section behind offset r offset_is r_is some few within =
    let same_offset : offset_in (index ++ more) ≡ offset = number_longer w32 index more 8 (omega arith) (omega (arith, some)) ∙ sym offset_is in
    let same_number : number_at w32 (section ++ behind) (offset + 8) ≡ number_at w32 section (offset + 8) =
    number_longer w32 section behind (offset + 8) (omega arith) (omega (arith, within)) in
    let same_entries : entries_in (section ++ behind) offset ≡ r = ap (λ (n : ℕ). (2 ^ 32 - n) / 16) same_number ∙ sym r_is in
    let same_index : take (16 * r) (index ++ more) ≡ take (16 * r) index = take-append-le (16 * r) index more few in
    let same_section : take (offset + 16) (section ++ behind) ≡ take (offset + 16) section = take-append-le (offset + 16) section behind within in
    rw (same_offset, same_entries, same_index, same_section, ← offset_is, ← r_is) refl

ok_same : (r : Result Header HeaderFault) (x y : Header) → r ≡ Ok x → r ≡ Ok y → x ≡ y
ok_same r x y first second = cc

-- ---- the digest

-- no entry that is added is a region
begins_kept : (es more : List Item) → AllByRecursion ReadsBack more → begins_with 63 (es ++ more) ≡ begins_with 63 es
begins_kept [] [] each = refl
begins_kept [] (e ∷ more) each = (or_false (eqb e.tag 62) (eqb e.tag 63) each.0.no_region).1
begins_kept (e ∷ es) more each = refl

module _ (h : Header) (more : List Item) (o : IsOpened h) (each : AllByRecursion ReadsBack more) (few : length h.entries + length more ≤ 65535)
    (small : length (dribbled_data h more) ≤ 67108864) where
  abbrev read : Header
  read = record { blob = dribbled_blob h more; entries = h.entries ++ more }

  region_kept : begins_with 63 h.entries ≡ true → region_in_file read ≡ region_in_file h
  region_kept begins =
      let fits = region_fits h o begins in
      let index = new_index h more o each few small in
      let section = new_data h more o each few small in
      let offset = offset_in (own_index h) in
      region_is read
      ∙ ap (λ (i : List ℕ). hashed_of i (own_data read)) index
      ∙ ap (hashed_of (dribbled_index h more)) section
      ∙ hashed_longer (own_index h) (index_from (length (own_data h)) more) (own_data h) (data_from (length (own_data h)) more) offset
      (entries_in (own_data h) offset)
      refl refl fits.some (omega (arith, fits.few, own_sixteen h more o each few small)) fits.trailer
      ∙ sym (region_is h)

  pub digest_kept : immutable_digest read ≡ immutable_digest h
  unfolding immutable_digest
  digest_kept =
      let same = begins_kept h.entries more each in
      elim (cases_Bool (begins_with 63 h.entries)) [
        | inl begins ↦ (rw (same, begins, region_kept begins) refl)
        | inr other ↦ (rw (same, other) refl)
      ]

-- what is written is read again with the same digest
pub digest_written : (h read : Header) (more : List Item) (l : Lengths) (blob : List ℕ) → IsOpened h → AllByRecursion ReadsBack more
    → IsWithin (length h.entries + length more) (length (dribbled_data h more)) l → blob ≡ dribbled_blob h more → header blob ≡ Ok read
    → immutable_digest read ≡ immutable_digest h
digest_written h read more l blob o each w is told =
    let same : record { blob = blob; entries = h.entries ++ more } ≡ read =
    ok_same (header blob) (record { blob = blob; entries = h.entries ++ more }) read (dribbled_written h more l blob o each w is) told in
    sym (ap immutable_digest same) ∙ ap (λ (b : List ℕ). immutable_digest (record { blob = b; entries = h.entries ++ more })) is
    ∙ digest_kept h more o each w.few w.small

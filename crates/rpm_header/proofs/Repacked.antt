-- An entry of a header that was read is packed again under another tag.
use Rattle.std.proofs.Common.{◌≡◌, ℕ, ◌^◌, ◌<◌, List, [], ◌∷◌, length, false, refl, sym, arith}
use Rattle.std.specs.Prelude.{IsTrue}
use Rattle.rpm_header.proofs.Vocabulary.{Bytes, entry_bytes, Form, has_numbers, is_region_tag, is_text_list, IsPacked, IsStored, IsEntryWhole, Item, Nothing, Numbers}
use Rattle.rpm_header.proofs.Vocabulary.{ReadsBack, with_tag, Texts, Values, values}
use Rattle.rpm_header.specs.declared.form.Form.TheVariants as form
use Rattle.rpm_header.proofs.Packing.{item_of, numbers_packed, numbers_read_back, bin_packed, bin_read_back}
use Rattle.rpm_header.proofs.PackedTexts.{texts_packed, texts_read_back, text_read_back, list_has_texts}

-- the packed bytes say the same, and so they do in a header
pub record Repacks (tag : ℕ) (e : Item) (bytes : List ℕ) : Type 0 where
  pub same : values e.form e.count bytes ≡ e.values
  pub packed : IsPacked e.form e.count bytes
  pub back : ReadsBack (with_tag tag e)

module _ (tag own : ℕ) (small : tag < 2 ^ 32) (region : is_region_tag tag ≡ false) where
  numbers : (f : Form) (count : ℕ) (vs : Values) (bytes : List ℕ) → IsTrue (has_numbers f) → (f ≡ form.Null → ⊥) → IsEntryWhole (item_of own f count vs)
      → IsStored (item_of own f count vs) → bytes ≡ entry_bytes (item_of own f count vs) → Repacks tag (item_of own f count vs) bytes
  unfolding entry_bytes
  numbers f count (Numbers ns) bytes t some whole stored is =
      let number : length ns ≡ count = whole.numbers t in
      let both = numbers_packed f ns count bytes t stored.fit (sym number) is in
      let many : 0 < length ns = omega (arith, whole.some some) in
      record {
        same = both.0;
        packed = both.1;
        back = rw (← number) (numbers_read_back tag f ns small region t many stored.fit);
      }
  numbers f count Nothing bytes t some whole stored is = absurd (whole.numbers t)
  numbers f count (Texts ts) bytes t some whole stored is = absurd (whole.numbers t)
  numbers f count (Bytes bs) bytes t some whole stored is = absurd (whole.numbers t)

  lists : (f : Form) (count : ℕ) (vs : Values) (bytes : List ℕ) → IsTrue (is_text_list f) → (f ≡ form.Null → ⊥) → IsEntryWhole (item_of own f count vs)
      → IsStored (item_of own f count vs) → bytes ≡ entry_bytes (item_of own f count vs) → Repacks tag (item_of own f count vs) bytes
  unfolding entry_bytes
  lists f count (Texts ts) bytes t some whole stored is =
      let number : length ts ≡ count = whole.texts (list_has_texts f t) in
      let both = texts_packed f ts count bytes (list_has_texts f t) stored.each (sym number) is in
      let many : 0 < length ts = omega (arith, whole.some some) in
      record {
        same = both.0;
        packed = both.1;
        back = rw (← number) (texts_read_back tag f ts small region t many stored.each);
      }
  lists f count Nothing bytes t some whole stored is = absurd (whole.texts (list_has_texts f t))
  lists f count (Numbers ns) bytes t some whole stored is = absurd (whole.texts (list_has_texts f t))
  lists f count (Bytes bs) bytes t some whole stored is = absurd (whole.texts (list_has_texts f t))

  alone : (ts : List (List ℕ)) (count : ℕ) → length ts ≡ count → count ≡ 1 → IsStored (item_of own form.Text count (Texts ts))
      → ReadsBack (item_of tag form.Text count (Texts ts))
  alone [] count number one stored = absurd (omega arith)
  alone (t ∷ []) count number one stored = rw one (text_read_back tag t small region stored.each.0)
  alone (t ∷ u ∷ ts) count number one stored = absurd (omega arith)

  text : (count : ℕ) (vs : Values) (bytes : List ℕ) → IsEntryWhole (item_of own form.Text count vs) → IsStored (item_of own form.Text count vs)
      → bytes ≡ entry_bytes (item_of own form.Text count vs) → Repacks tag (item_of own form.Text count vs) bytes
  unfolding entry_bytes
  text count (Texts ts) bytes whole stored is =
      let both = texts_packed form.Text ts count bytes refl stored.each (sym (whole.texts refl)) is in
      record { same = both.0; packed = both.1; back = alone ts count (whole.texts refl) (stored.one refl) stored }
  text count Nothing bytes whole stored is = absurd (whole.texts refl)
  text count (Numbers ns) bytes whole stored is = absurd (whole.texts refl)
  text count (Bytes bs) bytes whole stored is = absurd (whole.texts refl)

  bin : (count : ℕ) (vs : Values) (bytes : List ℕ) → IsEntryWhole (item_of own form.Bin count vs) → bytes ≡ entry_bytes (item_of own form.Bin count vs)
      → Repacks tag (item_of own form.Bin count vs) bytes
  unfolding entry_bytes
  bin count (Bytes bs) bytes whole is =
      let number : length bs ≡ count = whole.bytes refl in
      let both = bin_packed bs count bytes (sym number) is in
      let many : 0 < length bs = omega (arith, whole.some (λ h. cc)) in
      record {
        same = both.0;
        packed = both.1;
        back = rw (← number) (bin_read_back tag bs small region many);
      }
  bin count Nothing bytes whole is = absurd (whole.bytes refl)
  bin count (Numbers ns) bytes whole is = absurd (whole.bytes refl)
  bin count (Texts ts) bytes whole is = absurd (whole.bytes refl)

  of_form : (f : Form) (count : ℕ) (vs : Values) (bytes : List ℕ) → (f ≡ form.Null → ⊥) → IsEntryWhole (item_of own f count vs)
      → IsStored (item_of own f count vs) → bytes ≡ entry_bytes (item_of own f count vs) → Repacks tag (item_of own f count vs) bytes
  of_form form.Null count vs bytes some whole stored is = absurd (some refl)
  of_form form.Char count vs bytes some whole stored is = numbers form.Char count vs bytes refl some whole stored is
  of_form form.Int8 count vs bytes some whole stored is = numbers form.Int8 count vs bytes refl some whole stored is
  of_form form.Int16 count vs bytes some whole stored is = numbers form.Int16 count vs bytes refl some whole stored is
  of_form form.Int32 count vs bytes some whole stored is = numbers form.Int32 count vs bytes refl some whole stored is
  of_form form.Int64 count vs bytes some whole stored is = numbers form.Int64 count vs bytes refl some whole stored is
  of_form form.Text count vs bytes some whole stored is = text count vs bytes whole stored is
  of_form form.Bin count vs bytes some whole stored is = bin count vs bytes whole is
  of_form form.Texts count vs bytes some whole stored is = lists form.Texts count vs bytes refl some whole stored is
  of_form form.I18n count vs bytes some whole stored is = lists form.I18n count vs bytes refl some whole stored is

pub repacked : (tag : ℕ) (e : Item) (bytes : List ℕ) → tag < 2 ^ 32 → is_region_tag tag ≡ false → (e.form ≡ form.Null → ⊥) → IsEntryWhole e → IsStored e
    → bytes ≡ entry_bytes e → Repacks tag e bytes
repacked tag e bytes small region some whole stored is = of_form tag e.tag small region e.form e.count e.values bytes some whole stored is

pub repacked_item : (tag : ℕ) (e : Item) (f : Form) (count : ℕ) (bytes : List ℕ) → f ≡ e.form → count ≡ e.count → Repacks tag e bytes
    → item_of tag f count (values f count bytes) ≡ with_tag tag e
repacked_item tag e f count bytes is number r = rw (is, number, r.same) refl

pub repacked_parts : (tag : ℕ) (e : Item) (f : Form) (count : ℕ) (bytes : List ℕ) → f ≡ e.form → count ≡ e.count → Repacks tag e bytes → IsPacked f count bytes
repacked_parts tag e f count bytes is number r = rw (is, number) r.packed

-- Texts that a builder keeps are read again from their bytes.
use Rattle.std.proofs.Common.{◌≡◌, ℕ, ◌^◌, ◌<◌, List, [], ◌∷◌, ◌++◌, length, true, false, None, refl, sym, subst, ap, ◌∙◌, arith}
use Rattle.std.specs.Prelude.{IsTrue}
use Rattle.rpm_header.proofs.Vocabulary.{AllByRecursion, entry_bytes, element_fault, Form, has_texts, is_region_tag, is_text_list, IsPacked, IsText, joined_texts}
use Rattle.rpm_header.proofs.Vocabulary.{ReadsBack, text_item, Texts, texts, texts_item, values}
use Rattle.std.proofs.lemmas.List.{append-nil}
use Rattle.rpm_header.specs.declared.form.Form.TheVariants as form
use Rattle.rpm_header.proofs.TextsAgain.{texts_again, few_texts}
use Rattle.rpm_header.proofs.Packing.{not_zero}

values_texts : (f : Form) (count : ℕ) (bytes : List ℕ) → IsTrue (has_texts f) → values f count bytes ≡ Texts (texts count bytes)
values_texts form.Text count bytes t = refl
values_texts form.Texts count bytes t = refl
values_texts form.I18n count bytes t = refl
values_texts form.Null count bytes t = absurd cc
values_texts form.Char count bytes t = absurd cc
values_texts form.Int8 count bytes t = absurd cc
values_texts form.Int16 count bytes t = absurd cc
values_texts form.Int32 count bytes t = absurd cc
values_texts form.Int64 count bytes t = absurd cc
values_texts form.Bin count bytes t = absurd cc

pub texts_packed : (f : Form) (ts : List (List ℕ)) (count : ℕ) (bytes : List ℕ) → IsTrue (has_texts f) → AllByRecursion IsText ts → count ≡ length ts
    → bytes ≡ joined_texts ts
    → (values f count bytes ≡ Texts ts) × IsPacked f count bytes
texts_packed f ts count bytes t each number stored =
    let same : values f count bytes ≡ Texts ts =
    values_texts f count bytes t ∙ ap Texts (rw (number, stored, ← append-nil (joined_texts ts)) (texts_again ts [] each).0) in
    (same, record { stored = rw same (sym stored); few = omega (arith, few_texts ts, ap length stored) })

pub list_has_texts : (f : Form) → IsTrue (is_text_list f) → IsTrue (has_texts f)
list_has_texts form.Texts t = refl
list_has_texts form.I18n t = refl
list_has_texts form.Text t = refl
list_has_texts form.Null t = absurd cc
list_has_texts form.Char t = absurd cc
list_has_texts form.Int8 t = absurd cc
list_has_texts form.Int16 t = absurd cc
list_has_texts form.Int32 t = absurd cc
list_has_texts form.Int64 t = absurd cc
list_has_texts form.Bin t = absurd cc

texts_sound : (f : Form) (i : ℕ) (ts : List (List ℕ)) (rest : List ℕ) → IsTrue (is_text_list f) → 0 < length ts → AllByRecursion IsText ts
    → element_fault f i (length ts) (joined_texts ts ++ rest) ≡ None
texts_sound form.Texts i ts rest t some each = rw (not_zero (length ts) some, (texts_again ts rest each).1) refl
texts_sound form.I18n i ts rest t some each = rw (not_zero (length ts) some, (texts_again ts rest each).1) refl
texts_sound form.Text i ts rest t some each = absurd cc
texts_sound form.Null i ts rest t some each = absurd cc
texts_sound form.Char i ts rest t some each = absurd cc
texts_sound form.Int8 i ts rest t some each = absurd cc
texts_sound form.Int16 i ts rest t some each = absurd cc
texts_sound form.Int32 i ts rest t some each = absurd cc
texts_sound form.Int64 i ts rest t some each = absurd cc
texts_sound form.Bin i ts rest t some each = absurd cc

not_null_texts : (f : Form) → IsTrue (is_text_list f) → f ≡ form.Null → ⊥
not_null_texts f t e =
    let h : is_text_list form.Null ≡ true = subst (λ (g : Form). is_text_list g ≡ true) e t in
    cc

pub texts_read_back : (tag : ℕ) (f : Form) (ts : List (List ℕ)) → tag < 2 ^ 32 → is_region_tag tag ≡ false → IsTrue (is_text_list f) → 0 < length ts
    → AllByRecursion IsText ts → ReadsBack (texts_item tag f ts)
unfolding entry_bytes
texts_read_back tag f ts small region t some each = record {
  tag = small;
  few = few_texts ts;
  no_region = region;
  no_null = not_null_texts f t;
  again = λ rest. values_texts f (length ts) (joined_texts ts ++ rest) (list_has_texts f t) ∙ ap Texts (texts_again ts rest each).0;
  sound = λ i rest. texts_sound f i ts rest t some each;
}

pub text_read_back : (tag : ℕ) (text : List ℕ) → tag < 2 ^ 32 → is_region_tag tag ≡ false → IsText text → ReadsBack (text_item tag text)
unfolding entry_bytes
text_read_back tag text small region one = record {
  tag = small;
  few = few_texts (text ∷ []);
  no_region = region;
  no_null = λ h. cc;
  again = λ rest. ap Texts (texts_again (text ∷ []) rest (one, tt)).0;
  sound = λ i rest. rw (texts_again (text ∷ []) rest (one, tt)).1 refl;
}

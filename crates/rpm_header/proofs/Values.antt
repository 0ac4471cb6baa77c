-- The elements of one entry.
use Rattle.std.proofs.Common.{◌≡◌, ℕ, ◌*◌, ◌<◌, List, drop, get_or, Option, Some, None, refl, sym, subst, ap, arith}
use Rattle.std.proofs.lemmas.List.{get_or-drop}
use Rattle.std.specs.Prelude.{slice_get, IsTrue}
use Rattle.rpm_header.proofs.Vocabulary.{byte_len, entry_fault, entry_of, fault_at, Form, form_fault, form_of, has_numbers, index_entry, IndexEntry, Item}
use Rattle.rpm_header.proofs.Vocabulary.{number_at, numbers_of, option_or, section_of, values, w8}
use Rattle.rpm_header.specs.declared.form.Form.TheVariants as form
use Rattle.rpm_header.proofs.Each.{slice_get-numbers}

-- a number of one byte is that byte
byte_number : (bytes : List ℕ) (i : ℕ) → get_or bytes i 0 ≡ number_at w8 bytes (i * byte_len w8)
unfolding number_at
byte_number bytes i =
    let k : i * 1 ≡ i = omega arith in
    rw (k, get_or-drop) (ap (λ n. get_or bytes n 0) (omega arith))

pub small_number : (f : Form) (count : ℕ) (bytes : List ℕ) (i : ℕ) → i < count → IsTrue (has_numbers f)
    → (f ≡ form.Int16 → ⊥) → (f ≡ form.Int32 → ⊥) → (f ≡ form.Int64 → ⊥) → slice_get (numbers_of (values f count bytes)) i ≡ Some (get_or bytes i 0)
small_number form.Char count bytes i h t a b c = slice_get-numbers w8 count bytes i (get_or bytes i 0) h (byte_number bytes i)
small_number form.Int8 count bytes i h t a b c = slice_get-numbers w8 count bytes i (get_or bytes i 0) h (byte_number bytes i)
small_number form.Int16 count bytes i h t a b c = absurd (a refl)
small_number form.Int32 count bytes i h t a b c = absurd (b refl)
small_number form.Int64 count bytes i h t a b c = absurd (c refl)
small_number form.Null count bytes i h t a b c = absurd cc
small_number form.Text count bytes i h t a b c = absurd cc
small_number form.Bin count bytes i h t a b c = absurd cc
small_number form.Texts count bytes i h t a b c = absurd cc
small_number form.I18n count bytes i h t a b c = absurd cc

-- ---- an entry without a fault

option_or_none : {X : Type 0} (a b : Option X) → option_or a b ≡ None → a ≡ None
option_or_none None b e = refl
option_or_none (Some x) b e = absurd cc

entry_sound : (il : ℕ) (blob : List ℕ) (i : ℕ) → fault_at il blob i ≡ None
    → form_fault (form_of (index_entry il blob i).kind) i (index_entry il blob i) (section_of il blob) ≡ None
unfolding fault_at entry_fault
entry_sound il blob i e = option_or_none _ _ e

pub no_form : (i : ℕ) (e : IndexEntry) (section : List ℕ) (f : Option Form) → form_fault f i e section ≡ None → f ≡ None → ⊥
no_form i e section None sound is = cc
no_form i e section (Some f) sound is = cc

pub sound_form : (il : ℕ) (blob : List ℕ) (i : ℕ) (e : IndexEntry) (section : List ℕ) (f : Option Form) → e ≡ index_entry il blob i
    → section ≡ section_of il blob → f ≡ form_of e.kind → fault_at il blob i ≡ None
    → form_fault f i e section ≡ None
sound_form il blob i e section f at part is sound =
    rw (is, part) (subst (λ (x : IndexEntry). form_fault (form_of x.kind) i x (section_of il blob) ≡ None) (sym at) (entry_sound il blob i sound))

-- the entry that the code makes
abbrev pub made : IndexEntry → Form → List ℕ → Item
made e f bytes = record { tag = e.tag; form = f; count = e.count; values = values f e.count bytes }

pub entry_made : (e : IndexEntry) (section bytes : List ℕ) (f : Form) → Some f ≡ form_of e.kind
    → values f e.count bytes ≡ values f e.count (drop e.offset section)
    → made e f bytes ≡ entry_of e section
unfolding entry_of
entry_made e section bytes f is same = rw (← is, same) refl

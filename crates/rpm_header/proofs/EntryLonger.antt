-- An entry of the index without a fault says the same where more data stand after.
use Rattle.std.proofs.Common.{◌≡◌, ℕ, ◌%◌, ◌≤◌, List, ◌++◌, length, drop, Bool, true, false, eqb, Option, Some, None, refl, length-append, arith, inl, inr}
use Rattle.std.specs.Prelude.{nat_lt, not, ◌||◌, ◌⊎◌, if◌then◌else◌}
use Rattle.std.proofs.lemmas.Bool.{ltb-false, eqb-true}
use Rattle.std.proofs.lemmas.List.{drop-append-le}
use Rattle.rpm_header.proofs.Vocabulary.{alignment, BadOffset, element_fault, entry_of, Form, form_fault, form_of, form_or_null, HeaderFault, IndexEntry}
use Rattle.rpm_header.proofs.Vocabulary.{values}
use Rattle.rpm_header.specs.declared.form.Form.TheVariants as form
use Rattle.rpm_header.proofs.EntriesAgain.{form_sound}
use Rattle.rpm_header.proofs.Longer.{elements_longer, faultless, values_longer}

-- its data lie in the section, and have no fault
pub record IsInData (f : Form) (k : ℕ) (i : IndexEntry) (section : List ℕ) : Type 0 where
  pub within : i.offset ≤ length section
  pub aligned : i.offset % alignment f ≡ 0
  pub elements : element_fault f k i.count (drop i.offset section) ≡ None

placed : (past aligned : Bool) (x : HeaderFault) (o : Option HeaderFault) → (if past || not aligned then Some x else o) ≡ None
    → (past ≡ false) × (aligned ≡ true) × (o ≡ None)
placed true aligned x o none = absurd cc
placed false true x o none = (refl, refl, none)
placed false false x o none = absurd cc

in_data_if : (f : Form) (k : ℕ) (i : IndexEntry) (section : List ℕ)
    → (if nat_lt (length section) i.offset || not (eqb (i.offset % alignment f) 0) then Some (BadOffset k) else element_fault f k i.count
    (drop i.offset section)) ≡ None → IsInData f k i section
in_data_if f k i section none =
    let parts =
    placed (nat_lt (length section) i.offset) (eqb (i.offset % alignment f) 0) (BadOffset k) (element_fault f k i.count (drop i.offset section)) none in
    record { within = ltb-false (length section) i.offset parts.0; aligned = eqb-true (i.offset % alignment f) 0 parts.1; elements = parts.2 }

pub in_data : (f : Form) (k : ℕ) (i : IndexEntry) (section : List ℕ) → (f ≡ form.Null → ⊥) → form_fault (Some f) k i section ≡ None → IsInData f k i section
in_data form.Null k i section not_null none = absurd (not_null refl)
in_data form.Char k i section not_null none = in_data_if form.Char k i section none
in_data form.Int8 k i section not_null none = in_data_if form.Int8 k i section none
in_data form.Int16 k i section not_null none = in_data_if form.Int16 k i section none
in_data form.Int32 k i section not_null none = in_data_if form.Int32 k i section none
in_data form.Int64 k i section not_null none = in_data_if form.Int64 k i section none
in_data form.Text k i section not_null none = in_data_if form.Text k i section none
in_data form.Bin k i section not_null none = in_data_if form.Bin k i section none
in_data form.Texts k i section not_null none = in_data_if form.Texts k i section none
in_data form.I18n k i section not_null none = in_data_if form.I18n k i section none

is_null : (f : Form) → (f ≡ form.Null) ⊎ (f ≡ form.Null → ⊥)
is_null form.Null = inl refl
is_null form.Char = inr (λ h. cc)
is_null form.Int8 = inr (λ h. cc)
is_null form.Int16 = inr (λ h. cc)
is_null form.Int32 = inr (λ h. cc)
is_null form.Int64 = inr (λ h. cc)
is_null form.Text = inr (λ h. cc)
is_null form.Bin = inr (λ h. cc)
is_null form.Texts = inr (λ h. cc)
is_null form.I18n = inr (λ h. cc)

form_longer : (f : Form) (k : ℕ) (i : IndexEntry) (section more : List ℕ) → form_fault (Some f) k i section ≡ None
    → (form_fault (Some f) k i (section ++ more) ≡ None) × (values f i.count (drop i.offset (section ++ more)) ≡ values f i.count (drop i.offset section))
form_longer f k i section more none = elim (is_null f) [
  | inl null ↦ (rw null refl, rw null refl)
  | inr not_null ↦ (
      let d = in_data f k i section not_null none in
      let apart : drop i.offset (section ++ more) ≡ drop i.offset section ++ more = drop-append-le i.offset section more d.within in
      let p = faultless f k i.count (drop i.offset section) d.elements in (
        form_sound f k i (section ++ more) (omega (arith, d.within, length-append section more)) d.aligned not_null
            (rw apart (elements_longer f k i.count (drop i.offset section) more d.elements)),
        rw apart (values_longer f i.count (drop i.offset section) more p.good p.ended),
      ))
]

pub fault_longer : (f : Option Form) (k : ℕ) (i : IndexEntry) (section more : List ℕ) → form_fault f k i section ≡ None
    → form_fault f k i (section ++ more) ≡ None
fault_longer None k i section more none = absurd cc
fault_longer (Some f) k i section more none = (form_longer f k i section more none).0

values_same : (f : Option Form) (k : ℕ) (i : IndexEntry) (section more : List ℕ) → form_fault f k i section ≡ None
    → values (form_or_null f) i.count (drop i.offset (section ++ more)) ≡ values (form_or_null f) i.count (drop i.offset section)
values_same None k i section more none = refl
values_same (Some f) k i section more none = (form_longer f k i section more none).1

pub entry_longer : (k : ℕ) (i : IndexEntry) (section more : List ℕ) → form_fault (form_of i.kind) k i section ≡ None
    → entry_of i (section ++ more) ≡ entry_of i section
unfolding entry_of
entry_longer k i section more none = rw (values_same (form_of i.kind) k i section more none) refl

-- The entries of a header that is laid out are read again, and have no fault.
use Rattle.std.proofs.Common.{◌≡◌, ℕ, ◌+◌, ◌%◌, ◌<◌, ◌≤◌, List, [], ◌∷◌, ◌++◌, length, drop, map, true, false, cond, eqb, Bool, le-ltb, Option, Some, None, refl, ap, ◌∙◌, arith, inl, inr}
use Rattle.std.specs.Prelude.{nat_lt, not, ◌||◌, ◌&&◌}
use Rattle.rpm_header.proofs.Vocabulary.{alignment, BadOffset, entry_bytes, element_fault, end_of_data, entry_fault, entry_of, fault_at, Form, form_fault, form_of}
use Rattle.rpm_header.proofs.Vocabulary.{index_entry, entry_in_index, IndexEntry, is_region_tag, Item, offset_of, option_or, range_with_len, ReadsBack, section_of}
use Rattle.std.proofs.lemmas.Bool.{cases_eq}
use Rattle.rpm_header.specs.declared.form.Form.TheVariants as form
use Rattle.rpm_header.proofs.IndexAgain.{form_again}
use Rattle.rpm_header.proofs.Again.{Stands, StandsFirst, stands_first, stands_rest}

pub indexed_again : (offset : ℕ) (e : Item) (section rest : List ℕ) → ReadsBack e → drop offset section ≡ entry_bytes e ++ rest
    → entry_of (entry_in_index offset e) section ≡ e
unfolding entry_of
indexed_again offset e section rest back there = rw (form_again e.form, there, back.again rest) refl

first_again : (il : ℕ) (blob : List ℕ) (a at : ℕ) (e : Item) → StandsFirst il blob a at e → entry_of (index_entry il blob a) (section_of il blob) ≡ e
first_again il blob a at e s =
    ap (λ (i : IndexEntry). entry_of i (section_of il blob)) s.entry ∙ indexed_again (offset_of at e) e (section_of il blob) s.elements.0 s.back s.elements.1

aligned : (f : Form) (at : ℕ) (e : Item) → e.form ≡ f → offset_of at e % alignment f ≡ 0
unfolding offset_of
aligned form.Int16 at e is = rw is (omega arith)
aligned form.Int32 at e is = rw is (omega arith)
aligned form.Int64 at e is = rw is (omega arith)
aligned form.Null at e is = rw is (omega arith)
aligned form.Char at e is = rw is (omega arith)
aligned form.Int8 at e is = rw is (omega arith)
aligned form.Text at e is = rw is (omega arith)
aligned form.Bin at e is = rw is (omega arith)
aligned form.Texts at e is = rw is (omega arith)
aligned form.I18n at e is = rw is (omega arith)

-- a form with its data in the section
no_fault_if : (f : Form) (k : ℕ) (i : IndexEntry) (section : List ℕ) → i.offset ≤ length section → i.offset % alignment f ≡ 0
    → element_fault f k i.count (drop i.offset section) ≡ None
    → cond (nat_lt (length section) i.offset || not (eqb (i.offset % alignment f) 0)) (Some (BadOffset k))
    (element_fault f k i.count (drop i.offset section)) ≡ None
no_fault_if f k i section le al none =
    let test : nat_lt (length section) i.offset ≡ false = le-ltb (length section) i.offset le in
    rw (test, al) none

pub form_sound : (f : Form) (k : ℕ) (i : IndexEntry) (section : List ℕ) → i.offset ≤ length section → i.offset % alignment f ≡ 0 → (f ≡ form.Null → ⊥)
    → element_fault f k i.count (drop i.offset section) ≡ None
    → form_fault (Some f) k i section ≡ None
form_sound form.Null k i section le al not_null none = refl
form_sound form.Char k i section le al not_null none = no_fault_if form.Char k i section le al none
form_sound form.Int8 k i section le al not_null none = no_fault_if form.Int8 k i section le al none
form_sound form.Int16 k i section le al not_null none = no_fault_if form.Int16 k i section le al none
form_sound form.Int32 k i section le al not_null none = no_fault_if form.Int32 k i section le al none
form_sound form.Int64 k i section le al not_null none = no_fault_if form.Int64 k i section le al none
form_sound form.Text k i section le al not_null none = no_fault_if form.Text k i section le al none
form_sound form.Bin k i section le al not_null none = no_fault_if form.Bin k i section le al none
form_sound form.Texts k i section le al not_null none = no_fault_if form.Texts k i section le al none
form_sound form.I18n k i section le al not_null none = no_fault_if form.I18n k i section le al none

and_false : (b c : Bool) → c ≡ false → (b && c) ≡ false
and_false true c e = e
and_false false c e = refl

pub neither : {X : Type 0} (a b : Option X) → a ≡ None → b ≡ None → option_or a b ≡ None
neither a b p q = rw (p, q) refl

first_sound : (il : ℕ) (blob : List ℕ) (a at : ℕ) (e : Item) → StandsFirst il blob a at e → fault_at il blob a ≡ None
unfolding fault_at entry_fault
first_sound il blob a at e s =
    let element : element_fault e.form a e.count (drop (offset_of at e) (section_of il blob)) ≡ None = rw s.elements.1 (s.back.sound a s.elements.0) in
    let kind : form_of (index_entry il blob a).kind ≡ Some e.form = ap (λ (i : IndexEntry). form_of i.kind) s.entry ∙ form_again e.form in
    let own : form_fault (form_of (index_entry il blob a).kind) a (index_entry il blob a) (section_of il blob) ≡ None =
    rw (kind, s.entry) (form_sound e.form a (entry_in_index (offset_of at e) e) (section_of il blob) s.within
    (aligned e.form at e refl) s.back.no_null element) in
    let tag : is_region_tag (index_entry il blob a).tag ≡ false = ap (λ (i : IndexEntry). is_region_tag i.tag) s.entry ∙ s.back.no_region in
    let test = and_false (eqb a 0) (is_region_tag (index_entry il blob a).tag) tag in
    neither _ _ own (rw test refl)

pub entries_again : (es : List Item) (il : ℕ) (blob : List ℕ) (a at : ℕ) → Stands il blob a at es
    → map (λ i. entry_of (index_entry il blob i) (section_of il blob)) (range_with_len a (length es)) ≡ es
entries_again [] il blob a at s = refl
entries_again (e ∷ es) il blob a at s =
    rw (first_again il blob a at e (stands_first il blob a at e es s), entries_again es il blob (a + 1) (end_of_data at e) (stands_rest il blob a at e es s))
    refl

pub sound_again : (es : List Item) (il : ℕ) (blob : List ℕ) (a at : ℕ) → Stands il blob a at es → (k : ℕ) → a ≤ k → k < a + length es
    → fault_at il blob k ≡ None
sound_again [] il blob a at s k from below = absurd (omega arith)
sound_again (e ∷ es) il blob a at s k from below =
    elim (cases_eq a k) [
      | inl same ↦ (rw (← same) (first_sound il blob a at e (stands_first il blob a at e es s)))
      | inr other ↦ (sound_again es il blob (a + 1) (end_of_data at e) (stands_rest il blob a at e es s) k (omega arith) (omega arith))
    ]

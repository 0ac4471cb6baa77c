-- The first of an entry's texts.
use Rattle.std.proofs.Common.{◌≡◌, ℕ, ◌≤◌, List, take, true, refl, ap, ◌∙◌, sym, arith}
use Rattle.std.specs.Prelude.{IsTrue}
use Rattle.rpm_header.proofs.Vocabulary.{are_ended, Form, has_texts, HasElements, texts, texts_of, values}
use Rattle.rpm_header.specs.declared.form.Form.TheVariants as form
use Rattle.rpm_header.proofs.Counted.{ended_enough, zeros_enough}
use Rattle.rpm_header.proofs.Texts.{take_texts}

-- the first of so many texts
ended_fewer : (i n : ℕ) (bytes : List ℕ) → i ≤ n → are_ended n bytes ≡ true → are_ended i bytes ≡ true
ended_fewer i n bytes le e = ended_enough i bytes (omega (arith, zeros_enough n bytes e))

all_ended : (f : Form) (count : ℕ) (bytes : List ℕ) → IsTrue (has_texts f) → HasElements f count bytes → are_ended count bytes ≡ true
all_ended form.Null count bytes is room = absurd cc
all_ended form.Char count bytes is room = absurd cc
all_ended form.Int8 count bytes is room = absurd cc
all_ended form.Int16 count bytes is room = absurd cc
all_ended form.Int32 count bytes is room = absurd cc
all_ended form.Int64 count bytes is room = absurd cc
all_ended form.Text count bytes is room = room.1
all_ended form.Bin count bytes is room = absurd cc
all_ended form.Texts count bytes is room = room.1
all_ended form.I18n count bytes is room = room.1

all_texts : (f : Form) (count : ℕ) (bytes : List ℕ) → IsTrue (has_texts f) → texts_of (values f count bytes) ≡ texts count bytes
all_texts form.Null count bytes is = absurd cc
all_texts form.Char count bytes is = absurd cc
all_texts form.Int8 count bytes is = absurd cc
all_texts form.Int16 count bytes is = absurd cc
all_texts form.Int32 count bytes is = absurd cc
all_texts form.Int64 count bytes is = absurd cc
all_texts form.Text count bytes is = refl
all_texts form.Bin count bytes is = absurd cc
all_texts form.Texts count bytes is = refl
all_texts form.I18n count bytes is = refl

pub first_ended : (f : Form) (first count : ℕ) (bytes : List ℕ) → IsTrue (has_texts f) → first ≤ count → HasElements f count bytes
    → are_ended first bytes ≡ true
first_ended f first count bytes is le room = ended_fewer first count bytes le (all_ended f count bytes is room)

pub first_texts : (f : Form) (first count : ℕ) (bytes : List ℕ) → IsTrue (has_texts f) → first ≤ count
    → texts first bytes ≡ take first (texts_of (values f count bytes))
first_texts f first count bytes is le = sym (take_texts first count bytes le) ∙ ap (take first) (sym (all_texts f count bytes is))

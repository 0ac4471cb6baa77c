-- Numbers that stand one after the other are read again.
use Rattle.std.proofs.Common.{◌≡◌, ℕ, ◌+◌, ◌*◌, ◌^◌, ◌<◌, ◌≤◌, List, [], ◌∷◌, ◌++◌, length, drop, map, get_or, true, refl, sym, ap, ◌∙◌, append_assoc, length-append, arith}
use Rattle.std.specs.Prelude.{nat_lt, IsTrue}
use Rattle.rpm_header.proofs.Vocabulary.{alignment, AllFit, byte_len, flat_map, Form, from_be_bytes, has_numbers, list_all, number_at, Numbers, numbers}
use Rattle.rpm_header.proofs.Vocabulary.{range_with_len, to_be_bytes, values, w16, w32, w64, w8, Width, width}
use Rattle.std.proofs.lemmas.Bool.{ltb-true}
use Rattle.std.proofs.lemmas.List.{drop_at, drop-drop, append-nil, at_drop_more, at_drop_all}
use Rattle.std.proofs.lemmas.Nat.{from_be_bytes-to_be_bytes_2, from_be_bytes-to_be_bytes_4, from_be_bytes-to_be_bytes_8}
use Rattle.rpm_header.specs.declared.form.Form.TheVariants as form
use Rattle.rpm_header.proofs.Bools.{and_true}

-- a width at which a number that has room in it is read again
record Reads (w : Width) : Type 0 where
  again : (n : ℕ) (rest : List ℕ) → n < 2 ^ (8 * byte_len w) → from_be_bytes w (to_be_bytes w n ++ rest) ≡ n
  size : (n : ℕ) → length (to_be_bytes w n) ≡ byte_len w
  some : 0 < byte_len w

reads_8 : Reads w8
reads_8 = record { again = λ n rest h. omega arith; size = λ n. refl; some = omega arith }

reads_16 : Reads w16
reads_16 = record { again = λ n rest h. from_be_bytes-to_be_bytes_2 n h; size = λ n. refl; some = omega arith }

reads_32 : Reads w32
reads_32 = record { again = λ n rest h. from_be_bytes-to_be_bytes_4 n h; size = λ n. refl; some = omega arith }

reads_64 : Reads w64
reads_64 = record { again = λ n rest h. from_be_bytes-to_be_bytes_8 n h; size = λ n. refl; some = omega arith }

abbrev AllBelow : ℕ → List ℕ → Type 0
AllBelow limit ns = list_all (λ n. nat_lt n limit) ns ≡ true

from_place : (w : Width) → Reads w → (ns : List ℕ) (a : ℕ) (bytes rest : List ℕ) → AllBelow (2 ^ (8 * byte_len w)) ns
    → drop (a * byte_len w) bytes ≡ flat_map (to_be_bytes w) ns ++ rest
    → map (λ i. number_at w bytes (i * byte_len w)) (range_with_len a (length ns)) ≡ ns
unfolding number_at
from_place w r [] a bytes rest fit e = refl
from_place w r (n ∷ ns) a bytes rest fit e =
    let fits = and_true (nat_lt n (2 ^ (8 * byte_len w))) (list_all (λ n. nat_lt n (2 ^ (8 * byte_len w))) ns) fit in
    let whole : drop (a * byte_len w) bytes ≡ to_be_bytes w n ++ (flat_map (to_be_bytes w) ns ++ rest) =
    e ∙ append_assoc (to_be_bytes w n) (flat_map (to_be_bytes w) ns) rest in
    let here : from_be_bytes w (drop (a * byte_len w) bytes) ≡ n =
    ap (from_be_bytes w) whole ∙ r.again n (flat_map (to_be_bytes w) ns ++ rest) (ltb-true n (2 ^ (8 * byte_len w)) fits.0) in
    let step : a * byte_len w + byte_len w ≡ (a + 1) * byte_len w = grind arith in
    let next : drop ((a + 1) * byte_len w) bytes ≡ flat_map (to_be_bytes w) ns ++ rest =
    rw (← step) (sym (drop-drop (byte_len w) (a * byte_len w) bytes) ∙ ap (drop (byte_len w)) whole
    ∙ drop_at (to_be_bytes w n) (flat_map (to_be_bytes w) ns ++ rest) (byte_len w) (r.size n)) in
    rw (here, from_place w r ns (a + 1) bytes rest fits.1 next) refl

numbers_of_width : (w : Width) → Reads w → (ns rest : List ℕ) → AllBelow (2 ^ (8 * byte_len w)) ns
    → numbers w (length ns) (flat_map (to_be_bytes w) ns ++ rest) ≡ ns
unfolding numbers
numbers_of_width w r ns rest fit =
    let front : 0 * byte_len w ≡ 0 = grind arith in
    from_place w r ns 0 (flat_map (to_be_bytes w) ns ++ rest) rest fit (rw front refl)

length_of_width : (w : Width) → Reads w → (ns : List ℕ) → length (flat_map (to_be_bytes w) ns) ≡ length ns * byte_len w
length_of_width w r [] = omega arith
length_of_width w r (n ∷ ns) = omega (arith, length_of_width w r ns, length-append (to_be_bytes w n) (flat_map (to_be_bytes w) ns), r.size n)

few_of_width : (w : Width) → Reads w → (ns : List ℕ) → length ns ≤ length (flat_map (to_be_bytes w) ns)
few_of_width w r [] = omega arith
few_of_width w r (n ∷ ns) = omega (arith, few_of_width w r ns, length-append (to_be_bytes w n) (flat_map (to_be_bytes w) ns), r.size n)

reads : (f : Form) → Reads (width f)
reads form.Int16 = reads_16
reads form.Int32 = reads_32
reads form.Int64 = reads_64
reads form.Null = reads_8
reads form.Char = reads_8
reads form.Int8 = reads_8
reads form.Text = reads_8
reads form.Bin = reads_8
reads form.Texts = reads_8
reads form.I18n = reads_8

pub length-numbers_bytes : (f : Form) (ns : List ℕ) → length (flat_map (to_be_bytes (width f)) ns) ≡ length ns * alignment f
length-numbers_bytes f ns = length_of_width (width f) (reads f) ns

-- each number has a byte at least
pub few_numbers : (f : Form) (ns : List ℕ) → length ns ≤ length (flat_map (to_be_bytes (width f)) ns)
few_numbers f ns = few_of_width (width f) (reads f) ns

pub values_numbers : (f : Form) (count : ℕ) (bytes : List ℕ) → IsTrue (has_numbers f) → values f count bytes ≡ Numbers (numbers (width f) count bytes)
values_numbers form.Char count bytes t = refl
values_numbers form.Int8 count bytes t = refl
values_numbers form.Int16 count bytes t = refl
values_numbers form.Int32 count bytes t = refl
values_numbers form.Int64 count bytes t = refl
values_numbers form.Null count bytes t = absurd cc
values_numbers form.Text count bytes t = absurd cc
values_numbers form.Bin count bytes t = absurd cc
values_numbers form.Texts count bytes t = absurd cc
values_numbers form.I18n count bytes t = absurd cc

pub numbers_again : (f : Form) (ns rest : List ℕ) → IsTrue (has_numbers f) → AllFit f ns
    → values f (length ns) (flat_map (to_be_bytes (width f)) ns ++ rest) ≡ Numbers ns
numbers_again f ns rest t fit =
    values_numbers f (length ns) (flat_map (to_be_bytes (width f)) ns ++ rest) t ∙ ap Numbers (numbers_of_width (width f) (reads f) ns rest fit)

-- ---- numbers that are being written

pub fits_first : (f : Form) (ns : List ℕ) (i n : ℕ) → i < length ns → AllFit f (drop i ns) → get_or ns i 0 ≡ n → nat_lt n (2 ^ (8 * byte_len (width f))) ≡ true
fits_first f ns i n within fit is =
    let next = at_drop_more (λ (l : List ℕ). list_all (λ n. nat_lt n (2 ^ (8 * byte_len (width f)))) l) ns i 0 within in
    let here = and_true _ _ (sym next ∙ fit) in
    rw (← is) here.0

pub fits_more : (f : Form) (ns : List ℕ) (i : ℕ) → i < length ns → AllFit f (drop i ns) → AllFit f (drop (i + 1) ns)
fits_more f ns i within fit =
    let next = at_drop_more (λ (l : List ℕ). list_all (λ n. nat_lt n (2 ^ (8 * byte_len (width f)))) l) ns i 0 within in
    (and_true _ _ (sym next ∙ fit)).1

pub written_more : (f : Form) (ns : List ℕ) (i n : ℕ) (bytes bytes' : List ℕ) → i < length ns → get_or ns i 0 ≡ n → bytes' ≡ bytes ++ to_be_bytes (width f) n
    → bytes' ++ flat_map (to_be_bytes (width f)) (drop (i + 1) ns) ≡ bytes ++ flat_map (to_be_bytes (width f)) (drop i ns)
written_more f ns i n bytes bytes' within is more =
    let next = at_drop_more (flat_map (to_be_bytes (width f))) ns i 0 within in
    rw (more, next, is) (append_assoc bytes (to_be_bytes (width f) n) (flat_map (to_be_bytes (width f)) (drop (i + 1) ns)))

pub written_all : (f : Form) (ns : List ℕ) (i : ℕ) (bytes : List ℕ) → length ns ≤ i
    → bytes ++ flat_map (to_be_bytes (width f)) (drop i ns) ≡ flat_map (to_be_bytes (width f)) ns → bytes ≡ flat_map (to_be_bytes (width f)) ns
written_all f ns i bytes past all =
    let none = at_drop_all (flat_map (to_be_bytes (width f))) ns i past in
    sym (append-nil bytes) ∙ ap (λ (t : List ℕ). bytes ++ t) (sym none) ∙ all

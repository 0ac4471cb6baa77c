-- The numbers of an entry as a header stores them.
use Rattle.std.proofs.Common.{◌≡◌, ℕ, zero, suc, ◌+◌, ◌*◌, ◌^◌, ◌≤◌, ◌<◌, List, [], ◌∷◌, ◌++◌, length, take, drop, map, get_or, true, inl, inr, refl, sym, ap, ◌∙◌, zero-add, arith}
use Rattle.std.specs.Prelude.{nat_lt}
use Rattle.rpm_header.proofs.Vocabulary.{byte_len, flat_map, Form, from_be_bytes, list_all, number_at, number_longer, numbers, range_with_len, to_be_bytes}
use Rattle.rpm_header.proofs.Vocabulary.{w16, w32, w64, w8, Width, width}
use Rattle.std.proofs.lemmas.Bool.{lt-ltb, cases_lt}
use Rattle.std.proofs.lemmas.List.{drop-drop, length-take, length-take-le, length-drop, get_or-drop, get_or-take, get_or_past, take-append-drop}
use Rattle.std.proofs.Math.Seq.{take-add}
use Rattle.std.proofs.lemmas.Nat.{be_bytes_2, be_bytes_4, be_bytes_8}
use Rattle.rpm_header.specs.declared.form.Form.TheVariants as form

-- bytes, and not other numbers
abbrev pub AreBytes : List ℕ → Type 0
AreBytes bytes = (i : ℕ) → get_or bytes i 0 < 256

bytes_taken : (n : ℕ) (bytes : List ℕ) → AreBytes bytes → AreBytes (take n bytes)
bytes_taken n bytes small i = elim (cases_lt i n) [
  | inl below ↦ rw (get_or-take n bytes i 0 below) (small i)
  | inr past ↦ rw (get_or_past (take n bytes) i 0 (omega (arith, length-take n bytes))) (omega arith)
]

bytes_left : (n : ℕ) (bytes : List ℕ) → AreBytes bytes → AreBytes (drop n bytes)
bytes_left n bytes small i = rw get_or-drop (small (n + i))

-- a width at which a number that is read is written again
pub record WritesAgain (w : Width) : Type 0 where
  pub some : 0 < byte_len w
  pub again : (bs : List ℕ) (n : ℕ) → length bs ≡ byte_len w → AreBytes bs → n ≡ from_be_bytes w bs → to_be_bytes w n ≡ bs
  pub below : (bs : List ℕ) → AreBytes bs → from_be_bytes w bs < 2 ^ (8 * byte_len w)

again_8 : (bs : List ℕ) (n : ℕ) → length bs ≡ 1 → AreBytes bs → n ≡ from_be_bytes w8 bs → to_be_bytes w8 n ≡ bs
again_8 [] n long small is = absurd (omega arith)
again_8 (a ∷ []) n long small is = ap (λ (x : ℕ). x ∷ []) (omega (arith, small 0))
again_8 (a ∷ b ∷ bs) n long small is = absurd (omega arith)

pub writes_8 : WritesAgain w8
writes_8 = record { some = omega arith; again = again_8; below = λ bs small. omega (arith, small 0) }

pub writes_16 : WritesAgain w16
writes_16 = record { some = omega arith; again = be_bytes_2; below = λ bs small. omega (arith, small 0, small 1) }

pub writes_32 : WritesAgain w32
writes_32 = record { some = omega arith; again = be_bytes_4; below = λ bs small. omega (arith, small 0, small 1, small 2, small 3) }

pub writes_64 : WritesAgain w64
writes_64 =
    record {
      some = omega arith;
      again = be_bytes_8;
      below =
          λ bs small. omega (arith, small 0, small 1, small 2, small 3, small 4, small 5, small 6, small 7);
    }

writes : (f : Form) → WritesAgain (width f)
writes form.Int16 = writes_16
writes form.Int32 = writes_32
writes form.Int64 = writes_64
writes form.Null = writes_8
writes form.Char = writes_8
writes form.Int8 = writes_8
writes form.Text = writes_8
writes form.Bin = writes_8
writes form.Texts = writes_8
writes form.I18n = writes_8

-- a number in front is its bytes
written_front : (w : Width) → WritesAgain w → (bytes : List ℕ) → byte_len w ≤ length bytes → AreBytes bytes
    → to_be_bytes w (from_be_bytes w bytes) ≡ take (byte_len w) bytes
unfolding number_at
written_front w r bytes long small =
    let own = take (byte_len w) bytes in
    let size : length own ≡ byte_len w = length-take-le (byte_len w) bytes long in
    let whole : own ++ drop (byte_len w) bytes ≡ bytes = take-append-drop (byte_len w) bytes in
    let same : from_be_bytes w bytes ≡ from_be_bytes w own =
    sym (ap (from_be_bytes w) whole) ∙ number_longer w own (drop (byte_len w) bytes) 0 r.some (omega (arith, size)) in
    r.again own (from_be_bytes w bytes) size (bytes_taken (byte_len w) bytes small) same

stored_from : (w : Width) → WritesAgain w → (a n : ℕ) (bytes : List ℕ) → (a + n) * byte_len w ≤ length bytes → AreBytes bytes
    → flat_map (to_be_bytes w) (map (λ i. number_at w bytes (i * byte_len w)) (range_with_len a n)) ≡ take (n * byte_len w) (drop (a * byte_len w) bytes)
unfolding number_at
stored_from w r a zero bytes room small =
    let none : 0 * byte_len w ≡ 0 = grind arith in
    rw none refl
stored_from w r a (suc n) bytes room small =
    let l = byte_len w in
    let here = drop (a * l) bytes in
    let size : suc n * l ≡ l + n * l = grind arith in
    let next : (a + 1) * l ≡ a * l + l = grind arith in
    let ends : (a + suc n) * l ≡ a * l + (l + n * l) = grind arith in
    let more : (a + 1 + n) * l ≡ a * l + (l + n * l) = grind arith in
    let front = written_front w r here (omega (arith, length-drop (a * l) bytes, ends)) (bytes_left (a * l) bytes small) in
    let others = stored_from w r (a + 1) n bytes (omega (arith, ends, more)) small in
    let step : drop ((a + 1) * l) bytes ≡ drop l here = ap (λ (k : ℕ). drop k bytes) next ∙ sym (drop-drop l (a * l) bytes) in
    rw (front, others, step, size) (sym (take-add l (n * l) here))

pub stored_numbers : (w : Width) → WritesAgain w → (count : ℕ) (bytes : List ℕ) → count * byte_len w ≤ length bytes → AreBytes bytes
    → flat_map (to_be_bytes w) (numbers w count bytes) ≡ take (count * byte_len w) bytes
unfolding numbers
stored_numbers w r count bytes room small =
    let front : 0 * byte_len w ≡ 0 = grind arith in
    stored_from w r 0 count bytes (rw zero-add room) small ∙ ap (λ (k : ℕ). take (count * byte_len w) (drop k bytes)) front

fit_from : (w : Width) → WritesAgain w → (a n : ℕ) (bytes : List ℕ) → AreBytes bytes
    → list_all (λ x. nat_lt x (2 ^ (8 * byte_len w))) (map (λ i. number_at w bytes (i * byte_len w)) (range_with_len a n)) ≡ true
unfolding number_at
fit_from w r a zero bytes small = refl
fit_from w r a (suc n) bytes small =
    let below : nat_lt (from_be_bytes w (drop (a * byte_len w) bytes)) (2 ^ (8 * byte_len w)) ≡ true =
    lt-ltb _ _ (r.below (drop (a * byte_len w) bytes) (bytes_left (a * byte_len w) bytes small)) in
    rw (below, fit_from w r (a + 1) n bytes small) refl

pub fit_numbers : (w : Width) → WritesAgain w → (count : ℕ) (bytes : List ℕ) → AreBytes bytes
    → list_all (λ x. nat_lt x (2 ^ (8 * byte_len w))) (numbers w count bytes) ≡ true
unfolding numbers
fit_numbers w r count bytes small = fit_from w r 0 count bytes small

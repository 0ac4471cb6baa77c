-- An entry without a fault says the same where more data stand after.
use Rattle.std.proofs.Common.{◌≡◌, ℕ, zero, suc, ◌+◌, ◌*◌, ◌<◌, ◌≤◌, List, [], ◌∷◌, ◌++◌, length, take, drop, map, cond, Bool, true, false, eqb, Some, None, refl, ap, length-append, le-ltb, lt-ltb, arith}
use Rattle.std.specs.Prelude.{nat_lt, not, ◌&&◌, ◌||◌, is_some, if◌then◌else◌}
use Rattle.rpm_header.proofs.Vocabulary.{after_first, alignment, are_ended, BadCount, byte_len, Bytes, element_fault, Form, has_texts, HeaderFault}
use Rattle.rpm_header.proofs.Vocabulary.{is_bad_count, is_zero, NoEnd, number_at, number_longer, Numbers, numbers, position, position_or_len, range_with_len}
use Rattle.rpm_header.proofs.Vocabulary.{Texts, texts, values, w16, w32, w64, w8, Width}
use Rattle.std.proofs.lemmas.Bool.{ltb-true, ltb-false}
use Rattle.std.proofs.lemmas.List.{take-append-le, drop-append-le}
use Rattle.rpm_header.specs.declared.form.Form.TheVariants as form
use Rattle.rpm_header.proofs.Bools.{and_true, or_false}

-- ---- numbers

pub same_below : {X : Type 0} (f g : ℕ → X) (a n : ℕ) → ((k : ℕ) → a ≤ k → k < a + n → f k ≡ g k) → map f (range_with_len a n) ≡ map g (range_with_len a n)
same_below f g a zero same = refl
same_below f g a (suc n) same = rw (same a (omega arith) (omega arith), same_below f g (a + 1) n (λ k from below. same k (omega arith) (omega arith))) refl

numbers_longer : (w : Width) (count : ℕ) (bytes more : List ℕ) → 0 < byte_len w → ((i : ℕ) → i < count → i * byte_len w + byte_len w ≤ length bytes)
    → numbers w count (bytes ++ more) ≡ numbers w count bytes
unfolding numbers
numbers_longer w count bytes more some room =
    same_below (λ i. number_at w (bytes ++ more) (i * byte_len w)) (λ i. number_at w bytes (i * byte_len w)) 0 count
    (λ k from below. number_longer w bytes more (k * byte_len w) some (room k (omega arith)))

-- ---- texts

first_step : (b : Bool) (m n l : ℕ) → (n < l → m ≡ n) → cond b (1 + n) 0 < suc l → cond b (1 + m) 0 ≡ cond b (1 + n) 0
first_step true m n l same below = ap (λ k. 1 + k) (same (omega arith))
first_step false m n l same below = refl

first_longer : {X : Type 0} (p : X → Bool) (xs ys : List X) → position_or_len p xs < length xs → position_or_len p (xs ++ ys) ≡ position_or_len p xs
first_longer p [] ys below = absurd (omega arith)
first_longer p (x ∷ xs) ys below = first_step (not (p x)) (position_or_len p (xs ++ ys)) (position_or_len p xs) (length xs) (first_longer p xs ys) below

found : (test : Bool) (n : ℕ) → is_some (cond test (Some n) None) ≡ true → test ≡ true
found true n e = refl
found false n e = absurd cc

pub ended_longer : (count : ℕ) (bytes more : List ℕ) → are_ended count bytes ≡ true
    → (are_ended count (bytes ++ more) ≡ true) × (texts count (bytes ++ more) ≡ texts count bytes)
unfolding are_ended texts
ended_longer zero bytes more ended = (refl, refl)
ended_longer (suc n) bytes more ended =
    let parts = and_true (is_some (position is_zero bytes)) (are_ended n (after_first is_zero bytes)) ended in
    let at = position_or_len is_zero bytes in
    let within : at < length bytes = ltb-true at (length bytes) (found (nat_lt at (length bytes)) at parts.0) in
    let same : position_or_len is_zero (bytes ++ more) ≡ at = first_longer is_zero bytes more within in
    let there : nat_lt at (length (bytes ++ more)) ≡ true = lt-ltb at (length (bytes ++ more)) (omega (arith, length-append bytes more)) in
    let before : take at (bytes ++ more) ≡ take at bytes = take-append-le at bytes more (omega arith) in
    let after : drop (at + 1) (bytes ++ more) ≡ drop (at + 1) bytes ++ more = drop-append-le (at + 1) bytes more (omega arith) in
    let others = ended_longer n (drop (at + 1) bytes) more parts.1 in
    (rw (same, there, after) others.0, rw (same, before, after, others.1) refl)

-- ---- elements without a fault

room_longer : (count size : ℕ) (bytes more : List ℕ) → (eqb count 0 || nat_lt (length bytes) size) ≡ false
    → (eqb count 0 || nat_lt (length (bytes ++ more)) size) ≡ false
room_longer count size bytes more good =
    let parts = or_false (eqb count 0) (nat_lt (length bytes) size) good in
    let within : size ≤ length bytes = ltb-false (length bytes) size parts.1 in
    rw (parts.0, le-ltb (length (bytes ++ more)) size (omega (arith, length-append bytes more))) refl

count_longer : (f : Form) (count : ℕ) (bytes more : List ℕ) → is_bad_count f count bytes ≡ false → is_bad_count f count (bytes ++ more) ≡ false
count_longer form.Text count bytes more good = good
count_longer form.Texts count bytes more good = good
count_longer form.I18n count bytes more good = good
count_longer form.Null count bytes more good = room_longer count (count * alignment form.Null) bytes more good
count_longer form.Char count bytes more good = room_longer count (count * alignment form.Char) bytes more good
count_longer form.Int8 count bytes more good = room_longer count (count * alignment form.Int8) bytes more good
count_longer form.Int16 count bytes more good = room_longer count (count * alignment form.Int16) bytes more good
count_longer form.Int32 count bytes more good = room_longer count (count * alignment form.Int32) bytes more good
count_longer form.Int64 count bytes more good = room_longer count (count * alignment form.Int64) bytes more good
count_longer form.Bin count bytes more good = room_longer count (count * alignment form.Bin) bytes more good

pub room_of : (count size : ℕ) (bytes : List ℕ) → (eqb count 0 || nat_lt (length bytes) size) ≡ false → size ≤ length bytes
room_of count size bytes good = ltb-false (length bytes) size (or_false (eqb count 0) (nat_lt (length bytes) size) good).1

pub values_longer : (f : Form) (count : ℕ) (bytes more : List ℕ) → is_bad_count f count bytes ≡ false → (has_texts f ≡ true → are_ended count bytes ≡ true)
    → values f count (bytes ++ more) ≡ values f count bytes
values_longer form.Null count bytes more good ended = refl
values_longer form.Text count bytes more good ended = ap Texts (ended_longer count bytes more (ended refl)).1
values_longer form.Texts count bytes more good ended = ap Texts (ended_longer count bytes more (ended refl)).1
values_longer form.I18n count bytes more good ended = ap Texts (ended_longer count bytes more (ended refl)).1
values_longer form.Bin count bytes more good ended = let room = room_of count (count * 1) bytes good in ap Bytes (take-append-le count bytes more (omega arith))
values_longer form.Char count bytes more good ended = let room =
    room_of count (count * 1) bytes good in ap Numbers (numbers_longer w8 count bytes more (omega arith) (λ i lt. omega arith))
values_longer form.Int8 count bytes more good ended = let room =
    room_of count (count * 1) bytes good in ap Numbers (numbers_longer w8 count bytes more (omega arith) (λ i lt. omega arith))
values_longer form.Int16 count bytes more good ended = let room =
    room_of count (count * 2) bytes good in ap Numbers (numbers_longer w16 count bytes more (omega arith) (λ i lt. omega arith))
values_longer form.Int32 count bytes more good ended = let room =
    room_of count (count * 4) bytes good in ap Numbers (numbers_longer w32 count bytes more (omega arith) (λ i lt. omega arith))
values_longer form.Int64 count bytes more good ended = let room =
    room_of count (count * 8) bytes good in ap Numbers (numbers_longer w64 count bytes more (omega arith) (λ i lt. omega arith))

-- what holds where no fault of an entry's elements is told
pub record IsFaultless (f : Form) (count : ℕ) (bytes : List ℕ) : Type 0 where
  pub good : is_bad_count f count bytes ≡ false
  pub ended : has_texts f ≡ true → are_ended count bytes ≡ true

told : (bad texts ended : Bool) (x y : HeaderFault) → (if bad then Some x else if texts && not ended then Some y else None) ≡ None
    → (bad ≡ false) × (texts ≡ true → ended ≡ true)
told true texts ended x y none = absurd cc
told false true true x y none = (refl, λ _. refl)
told false true false x y none = absurd cc
told false false ended x y none = (refl, λ h. absurd cc)

not_told : (bad texts ended : Bool) (x y : HeaderFault) → bad ≡ false → (texts ≡ true → ended ≡ true)
    → (if bad then Some x else if texts && not ended then Some y else None) ≡ None
not_told bad true ended x y good ends = rw (good, ends refl) refl
not_told bad false ended x y good ends = rw good refl

pub faultless : (f : Form) (i count : ℕ) (bytes : List ℕ) → element_fault f i count bytes ≡ None → IsFaultless f count bytes
faultless f i count bytes none =
    let parts = told (is_bad_count f count bytes) (has_texts f) (are_ended count bytes) (BadCount i) (NoEnd i) none in
    record { good = parts.0; ended = parts.1 }

pub elements_longer : (f : Form) (i count : ℕ) (bytes more : List ℕ) → element_fault f i count bytes ≡ None → element_fault f i count (bytes ++ more) ≡ None
elements_longer f i count bytes more none =
    let p = faultless f i count bytes none in
    not_told (is_bad_count f count (bytes ++ more)) (has_texts f) (are_ended count (bytes ++ more)) (BadCount i) (NoEnd i)
    (count_longer f count bytes more p.good) (λ t. (ended_longer count bytes more (p.ended t)).0)

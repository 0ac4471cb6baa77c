-- The elements of an entry as a header stores them.
use Rattle.std.proofs.Common.{◌≡◌, ℕ, zero, suc, ◌+◌, ◌-◌, ◌*◌, ◌≤◌, ◌<◌, List, [], ◌∷◌, ◌++◌, length, take, get_or, Bool, true, false, Some, None, refl, sym, ap, ◌∙◌, append_assoc, length-append, arith}
use Rattle.std.specs.Prelude.{nat_lt, is_some, if◌then◌else◌}
use Rattle.rpm_header.proofs.Vocabulary.{after_first, alignment, AllByRecursion, before_first, entry_bytes, Form, has_texts, is_zero, IsInside, IsStored, IsText}
use Rattle.rpm_header.proofs.Vocabulary.{item_at, joined_texts, list_any, position_or_len, Splits, texts, w16, w32, w64, w8}
use Rattle.std.proofs.lemmas.Bool.{ltb-true, eqb-true}
use Rattle.std.proofs.lemmas.List.{take_at, append-nil}
use Rattle.std.proofs.lemmas.List.Sums.{split_at_first, passes_at_first}
use Rattle.rpm_header.specs.declared.form.Form.TheVariants as form
use Rattle.rpm_header.proofs.Texts.{texts_next, texts_none}
use Rattle.rpm_header.proofs.StoredNumbers.{AreBytes, fit_numbers, stored_numbers, writes_16, writes_32, writes_64, writes_8}

-- ---- texts

-- of so many texts the others still stand in the rest
pub record IsPast (count others : ℕ) (bytes rest : List ℕ) : Type 0 where
  pub front : List ℕ
  pub whole : bytes ≡ front ++ rest
  pub same : front ++ joined_texts (texts others rest) ≡ joined_texts (texts count bytes)

pub past_none : (count others : ℕ) (bytes : List ℕ) → others ≡ count → IsPast count others bytes bytes
past_none count others bytes is = record { front = []; whole = refl; same = ap (λ (n : ℕ). joined_texts (texts n bytes)) is }

is_there : (b : Bool) (n : ℕ) → is_some (if b then Some n else None) ≡ true → b ≡ true
is_there true n e = refl
is_there false n e = absurd cc

-- a text stands with its zero byte
pub splits_stored : (bytes first rest : List ℕ) → Splits bytes first rest → bytes ≡ first ++ 0 ∷ rest
splits_stored bytes first rest s =
    let within : position_or_len is_zero bytes < length bytes =
    ltb-true (position_or_len is_zero bytes) (length bytes)
    (is_there (nat_lt (position_or_len is_zero bytes) (length bytes)) (position_or_len is_zero bytes) s.ended) in
    let zero_there : get_or bytes (position_or_len is_zero bytes) 0 ≡ 0 = eqb-true _ 0 (passes_at_first is_zero bytes 0 within) in
    split_at_first is_zero bytes 0 within
    ∙ ap (λ (b : ℕ). before_first is_zero bytes ++ b ∷ after_first is_zero bytes) zero_there
    ∙ ap (λ (xs : List ℕ). xs ++ 0 ∷ after_first is_zero bytes) (sym s.text)
    ∙ ap (λ (xs : List ℕ). first ++ 0 ∷ xs) (sym s.others)

pub past_more : (count others next : ℕ) (bytes rest first after : List ℕ) → others ≡ next + 1 → Splits rest first after → IsPast count others bytes rest
    → IsPast count next bytes after
past_more count others next bytes rest first after is s p =
    let split = splits_stored rest first after s in
    record {
      front = p.front ++ (first ++ 0 ∷ []);
      whole =
          p.whole ∙ ap (λ (xs : List ℕ). p.front ++ xs) (split ∙ sym (append_assoc first (0 ∷ []) after))
          ∙ sym (append_assoc p.front (first ++ 0 ∷ []) after);
      same =
          append_assoc p.front (first ++ 0 ∷ []) (joined_texts (texts next after))
          ∙ sym (ap (λ (ts : List (List ℕ)). p.front ++ joined_texts ts) (texts_next others next rest first after is s)) ∙ p.same;
    }

pub past_all : (count others n : ℕ) (bytes rest : List ℕ) → others ≡ 0 → n ≡ length bytes - length rest → IsPast count others bytes rest
    → take n bytes ≡ joined_texts (texts count bytes)
past_all count others n bytes rest none is p =
    let nothing : joined_texts (texts others rest) ≡ [] = ap joined_texts (texts_none others rest none) in
    let all : p.front ≡ joined_texts (texts count bytes) = sym (append-nil p.front) ∙ sym (ap (λ (xs : List ℕ). p.front ++ xs) nothing) ∙ p.same in
    ap (take n) p.whole ∙ take_at p.front rest n (omega (arith, ap length p.whole, length-append p.front rest)) ∙ all

pub past_within : (count others : ℕ) (bytes rest : List ℕ) → IsPast count others bytes rest → length rest ≤ length bytes
past_within count others bytes rest p = omega (arith, ap length p.whole, length-append p.front rest)

-- what stands before the first zero byte has none
step_text : (x : ℕ) (xs : List ℕ) (b : Bool) → is_zero x ≡ b → list_any is_zero (before_first is_zero xs) ≡ false
    → list_any is_zero (before_first is_zero (x ∷ xs)) ≡ false
step_text x xs true e none = rw e refl
step_text x xs false e none =
    let k : 1 + position_or_len is_zero xs ≡ suc (position_or_len is_zero xs) = omega arith in
    rw (e, k, e) none

pub first_is_text : (bytes : List ℕ) → IsText (before_first is_zero bytes)
first_is_text [] = refl
first_is_text (x ∷ xs) = step_text x xs (is_zero x) refl (first_is_text xs)

pub each_text : (count : ℕ) (bytes : List ℕ) → AllByRecursion IsText (texts count bytes)
unfolding texts
each_text zero bytes = tt
each_text (suc n) bytes = (first_is_text bytes, each_text n (after_first is_zero bytes))

-- ---- an entry

no_one : (f : Form) (count : ℕ) → (f ≡ form.Text → ⊥) → f ≡ form.Text → count ≡ 1
no_one f count other e = absurd (other e)

pub is_stored : (tag : ℕ) (f : Form) (count : ℕ) (bytes : List ℕ) → IsInside f count bytes → AreBytes bytes → IsStored (item_at tag f count bytes)
is_stored tag form.Null count bytes inside small = record { fit = refl; each = tt; one = no_one form.Null count (λ h. cc) }
is_stored tag form.Char count bytes inside small = record { fit = fit_numbers w8 writes_8 count bytes small; each = tt; one = no_one form.Char count (λ h. cc) }
is_stored tag form.Int8 count bytes inside small = record { fit = fit_numbers w8 writes_8 count bytes small; each = tt; one = no_one form.Int8 count (λ h. cc) }
is_stored tag form.Int16 count bytes inside small =
    record { fit = fit_numbers w16 writes_16 count bytes small; each = tt; one = no_one form.Int16 count (λ h. cc) }
is_stored tag form.Int32 count bytes inside small =
    record { fit = fit_numbers w32 writes_32 count bytes small; each = tt; one = no_one form.Int32 count (λ h. cc) }
is_stored tag form.Int64 count bytes inside small =
    record { fit = fit_numbers w64 writes_64 count bytes small; each = tt; one = no_one form.Int64 count (λ h. cc) }
is_stored tag form.Bin count bytes inside small = record { fit = refl; each = tt; one = no_one form.Bin count (λ h. cc) }
is_stored tag form.Texts count bytes inside small = record { fit = refl; each = each_text count bytes; one = no_one form.Texts count (λ h. cc) }
is_stored tag form.I18n count bytes inside small = record { fit = refl; each = each_text count bytes; one = no_one form.I18n count (λ h. cc) }
is_stored tag form.Text count bytes inside small = record { fit = refl; each = each_text count bytes; one = λ e. inside.room.2 }

-- and its bytes
pub bytes_of_texts : (tag : ℕ) (f : Form) (count n : ℕ) (bytes : List ℕ) → has_texts f ≡ true → take n bytes ≡ joined_texts (texts count bytes)
    → take n bytes ≡ entry_bytes (item_at tag f count bytes)
unfolding entry_bytes
bytes_of_texts tag form.Text count n bytes t is = is
bytes_of_texts tag form.Texts count n bytes t is = is
bytes_of_texts tag form.I18n count n bytes t is = is
bytes_of_texts tag form.Null count n bytes t is = absurd cc
bytes_of_texts tag form.Char count n bytes t is = absurd cc
bytes_of_texts tag form.Int8 count n bytes t is = absurd cc
bytes_of_texts tag form.Int16 count n bytes t is = absurd cc
bytes_of_texts tag form.Int32 count n bytes t is = absurd cc
bytes_of_texts tag form.Int64 count n bytes t is = absurd cc
bytes_of_texts tag form.Bin count n bytes t is = absurd cc

pub bytes_of_others : (tag : ℕ) (f : Form) (count : ℕ) (bytes : List ℕ) → has_texts f ≡ false → (f ≡ form.Null → ⊥) → IsInside f count bytes
    → AreBytes bytes → take (count * alignment f) bytes ≡ entry_bytes (item_at tag f count bytes)
unfolding entry_bytes
bytes_of_others tag form.Char count bytes t some inside small = sym (stored_numbers w8 writes_8 count bytes inside.room.1 small)
bytes_of_others tag form.Int8 count bytes t some inside small = sym (stored_numbers w8 writes_8 count bytes inside.room.1 small)
bytes_of_others tag form.Int16 count bytes t some inside small = sym (stored_numbers w16 writes_16 count bytes inside.room.1 small)
bytes_of_others tag form.Int32 count bytes t some inside small = sym (stored_numbers w32 writes_32 count bytes inside.room.1 small)
bytes_of_others tag form.Int64 count bytes t some inside small = sym (stored_numbers w64 writes_64 count bytes inside.room.1 small)
bytes_of_others tag form.Bin count bytes t some inside small = ap (λ (n : ℕ). take n bytes) (omega arith)
bytes_of_others tag form.Null count bytes t some inside small = absurd (some refl)
bytes_of_others tag form.Text count bytes t some inside small = absurd cc
bytes_of_others tag form.Texts count bytes t some inside small = absurd cc
bytes_of_others tag form.I18n count bytes t some inside small = absurd cc

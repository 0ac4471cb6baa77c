-- Texts of bytes that are quoted, in hex or in base64: how long they are, and how they are joined.
use Rattle.std.proofs.Common.{◌≡◌, ℕ, suc, ◌+◌, ◌*◌, ◌/◌, ◌%◌, ◌<◌, ◌≤◌, ◌==◌, true, false, zero, get_or, List, take}
use Rattle.std.proofs.Common.{drop, [], ◌∷◌, ◌++◌, length, map, replicate, codes, refl, sym, ap, ◌∙◌, arith, append_assoc, length-append}
use Rattle.std.proofs.lemmas.List.{map-append, length-replicate, take-append-drop, length-take-le}
use Rattle.std.proofs.lemmas.List.Folds.{concat-append}
use Rattle.rpm_qfeval.proofs.Vocabulary.{base64_text, concat, encode_symbols, encode_with, escaped_byte, escaped_text, hex_text, lower_digits}
use Rattle.rpm_qfeval.proofs.Vocabulary.{padding_len, standard}
use Rattle.hex.proofs.HexLemmas.{length-encode_with}
use Rattle.base64.proofs.Canonical.{encode_symbols-append}

-- ---- quoted

pub escaped-append : (a b : List ℕ) → escaped_text (a ++ b) ≡ escaped_text a ++ escaped_text b
escaped-append a b = ap concat (map-append escaped_byte a b) ∙ concat-append (map escaped_byte a) (map escaped_byte b)

-- ---- in hex

pub length-hex : (bytes : List ℕ) → length (hex_text bytes) ≡ 2 * length bytes
length-hex bytes = length-encode_with lower_digits bytes

with_append : (t a b : List ℕ) → encode_with t (a ++ b) ≡ encode_with t a ++ encode_with t b
unfolding encode_with
with_append t [] b = refl
with_append t (x ∷ a) b = rw (with_append t a b) refl

pub hex-append : (a b : List ℕ) → hex_text (a ++ b) ≡ hex_text a ++ hex_text b
hex-append a b = with_append lower_digits a b

-- ---- in base64

length-symbols : (t m : List ℕ) → length (encode_symbols t m) ≡ (4 * length m + 2) / 3
unfolding encode_symbols
length-symbols t [] = refl
length-symbols t (a ∷ []) = refl
length-symbols t (a ∷ b ∷ []) = refl
length-symbols t (a ∷ b ∷ c ∷ rest) = let e = length-symbols t rest in omega (arith, e)

pub length-base64 : (bytes : List ℕ) → length (base64_text bytes) ≡ (length bytes + 2) / 3 * 4
length-base64 bytes =
    omega (
      arith,
      length-append (encode_symbols standard.encode_table bytes) (replicate (padding_len (length bytes)) 61),
      length-symbols standard.encode_table bytes,
      length-replicate {A = ℕ} (padding_len (length bytes)) 61,
    )

-- where the first part is made of groups of three
pub base64-append : (a b : List ℕ) → length a % 3 ≡ 0 → base64_text (a ++ b) ≡ base64_text a ++ base64_text b
base64-append a b h =
    let padding : padding_len (length (a ++ b)) ≡ padding_len (length b) = omega (arith, length-append a b, h) in
    let none : padding_len (length a) ≡ 0 = omega (arith, h) in
    rw (encode_symbols-append, padding, none) (simp append_assoc)

-- ---- cut in two

pub hex-cut : (n : ℕ) (bytes : List ℕ) {front back : List ℕ} → front ≡ take n bytes → back ≡ drop n bytes → hex_text bytes ≡ hex_text front ++ hex_text back
hex-cut n bytes p q = rw (p, q) (sym (ap hex_text (take-append-drop n bytes)) ∙ hex-append (take n bytes) (drop n bytes))

pub base64-cut : (groups : ℕ) (bytes : List ℕ) {front back : List ℕ} → front ≡ take (3 * groups) bytes → back ≡ drop (3 * groups) bytes → 3 * groups
    ≤ length bytes → base64_text bytes ≡ base64_text front ++ base64_text back
base64-cut groups bytes p q h =
    let long : length (take (3 * groups) bytes) ≡ 3 * groups = length-take-le (3 * groups) bytes h in
    rw (p, q) (sym (ap base64_text (take-append-drop (3 * groups) bytes)) ∙ base64-append (take (3 * groups) bytes) (drop (3 * groups) bytes)
    (omega (arith, long)))

pub escaped_here : {part : List ℕ} {parts rest : List (List ℕ)} → parts ≡ part ∷ rest → escaped_text (concat parts) ≡ escaped_text part
    ++ escaped_text (concat rest)
escaped_here {part = part} {rest = rest} e = ap (λ ps. escaped_text (concat ps)) e ∙ escaped-append part (concat rest)

-- ---- where a quote stands

-- the bytes in front of the first quote stand as they are
pub run_is : (text : List ℕ) (i : ℕ) → i < length text → (get_or text i 0 == 39) ≡ true → ((k : ℕ) → k < i → (get_or text k 0 == 39) ≡ false)
    → escaped_text text ≡ (take i text ++ codes "'\\''") ++ escaped_text (drop (i + 1) text)
run_is [] i h at before = absurd (omega arith)
run_is (x ∷ text) zero h at before = rw at refl
run_is (x ∷ text) (suc i) h at before =
    let step : suc i + 1 ≡ suc (i + 1) = omega arith in
    let plain : (x == 39) ≡ false = before 0 (omega arith) in
    rw (plain, step) (ap (λ (rest : List ℕ). x ∷ rest) (run_is text i (omega arith) at (λ k b. before (suc k) (omega arith))))

-- all stand as they are where there is no quote
pub plain_is : (text : List ℕ) → ((k : ℕ) → k < length text → (get_or text k 0 == 39) ≡ false) → escaped_text text ≡ text
plain_is [] none = refl
plain_is (x ∷ text) none =
    let plain : (x == 39) ≡ false = none 0 (omega arith) in
    rw plain (ap (λ (rest : List ℕ). x ∷ rest) (plain_is text (λ k b. none (suc k) (omega arith))))

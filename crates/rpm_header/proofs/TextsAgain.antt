-- Texts that stand one after the other are read again.
use Rattle.std.proofs.Common.{◌≡◌, ℕ, suc, ◌+◌, ◌≤◌, List, [], ◌∷◌, ◌++◌, length, drop, true, refl, sym, ap, ◌∙◌, append_assoc, length-append, arith, lt-ltb}
use Rattle.std.specs.Prelude.{is_some, nat_lt}
use Rattle.rpm_header.proofs.Vocabulary.{after_first, AllByRecursion, are_ended, before_first, is_zero, IsJoined, IsText, joined_texts, list_any, position}
use Rattle.rpm_header.proofs.Vocabulary.{position_or_len, texts}
use Rattle.std.proofs.lemmas.List.{take_at, drop_at, append-nil}
use Rattle.std.proofs.lemmas.Grind.{flat_map-append}
use Rattle.rpm_header.proofs.Bools.{or_false}
use Rattle.rpm_header.proofs.Whole.{length-texts}

zero_after : (t rest : List ℕ) → IsText t → position_or_len is_zero (t ++ 0 ∷ rest) ≡ length t
zero_after [] rest none = refl
zero_after (b ∷ t) rest none =
    let both = or_false (is_zero b) (list_any is_zero t) none in
    rw (both.0, zero_after t rest both.1) (omega arith)

split_front : (t rest : List ℕ) → IsText t → (is_some (position is_zero (t ++ 0 ∷ rest)) ≡ true) × (before_first is_zero (t ++ 0 ∷ rest) ≡ t)
    × (after_first is_zero (t ++ 0 ∷ rest) ≡ rest)
split_front t rest none =
    let at = zero_after t rest none in
    let within : nat_lt (length t) (length (t ++ 0 ∷ rest)) ≡ true = lt-ltb (length t) (length (t ++ 0 ∷ rest)) (omega (arith, length-append t (0 ∷ rest))) in (
      rw (at, within) refl,
      rw at (take_at t (0 ∷ rest) (length t) refl),
      rw at (ap (drop (length t + 1)) (sym (append_assoc t (0 ∷ []) rest)) ∙ drop_at (t ++ 0 ∷ []) rest (length t + 1) (length-append t (0 ∷ []))),
    )

pub texts_again : (ts : List (List ℕ)) (rest : List ℕ) → AllByRecursion IsText ts
    → (texts (length ts) (joined_texts ts ++ rest) ≡ ts) × (are_ended (length ts) (joined_texts ts ++ rest) ≡ true)
unfolding texts are_ended
texts_again [] rest none = (refl, refl)
texts_again (t ∷ ts) rest none =
    let others = texts_again ts rest none.1 in
    let front : joined_texts (t ∷ ts) ++ rest ≡ t ++ 0 ∷ (joined_texts ts ++ rest) =
    append_assoc (t ++ 0 ∷ []) (joined_texts ts) rest ∙ append_assoc t (0 ∷ []) (joined_texts ts ++ rest) in
    let split = split_front t (joined_texts ts ++ rest) none.0 in (
      ap (texts (suc (length ts))) front ∙ rw (split.1, split.2, others.0) refl,
      ap (are_ended (suc (length ts))) front ∙ rw (split.0, split.2, others.1) refl,
    )

-- each text has a byte at least, its zero byte
pub few_texts : (ts : List (List ℕ)) → length ts ≤ length (joined_texts ts)
few_texts [] = omega arith
few_texts (t ∷ ts) = omega (arith, few_texts ts, length-append (t ++ 0 ∷ []) (joined_texts ts), length-append t (0 ∷ []))

-- ---- a list of texts that is being made

pub all_push : {X : Type 0} (P : X → Type 0) (xs : List X) (x : X) → AllByRecursion P xs → P x → AllByRecursion P (xs ++ x ∷ [])
all_push P [] x all one = (one, tt)
all_push P (y ∷ ys) x all one = (all.0, all_push P ys x all.1 one)

-- what holds these texts and nothing else
pub joined_again : (ts : List (List ℕ)) (count : ℕ) (bytes : List ℕ) → AllByRecursion IsText ts → count ≡ length ts → bytes ≡ joined_texts ts
    → (texts count bytes ≡ ts) × IsJoined count bytes
joined_again ts count bytes each number stored =
    let same : texts count bytes ≡ ts = rw (number, stored, ← append-nil (joined_texts ts)) (texts_again ts [] each).0 in
    (same, record { stored = rw same stored; each = rw same each })

pub joined_more : (count next : ℕ) (bytes bytes' text : List ℕ) → IsJoined count bytes → IsText text → next ≡ count + 1 → bytes' ≡ bytes ++ text ++ 0 ∷ []
    → (texts next bytes' ≡ texts count bytes ++ text ∷ []) × IsJoined next bytes'
joined_more count next bytes bytes' text l one number stored =
    let ts = texts count bytes in
    let size : next ≡ length (ts ++ text ∷ []) = omega (arith, length-append ts (text ∷ []), length-texts count bytes) in
    let last : joined_texts (text ∷ []) ≡ text ++ 0 ∷ [] = append-nil (text ++ 0 ∷ []) in
    let all : bytes' ≡ joined_texts (ts ++ text ∷ []) =
    stored ∙ append_assoc bytes text (0 ∷ []) ∙ ap (λ (b : List ℕ). b ++ (text ++ 0 ∷ [])) l.stored
    ∙ sym (flat_map-append (λ t. t ++ 0 ∷ []) ts (text ∷ []) ∙ ap (λ (b : List ℕ). joined_texts ts ++ b) last) in
    joined_again (ts ++ text ∷ []) next bytes' (all_push IsText ts text l.each one) size all

pub few_joined : (count : ℕ) (bytes : List ℕ) → IsJoined count bytes → count ≤ length bytes
few_joined count bytes l = omega (arith, few_texts (texts count bytes), length-texts count bytes, ap length l.stored)

-- Bytes cut up into units, and the file after a write.
use Rattle.std.proofs.Common.{◌≡◌, ◌⊎◌, inl, inr, ℕ, zero, suc, ◌+◌, ◌-◌, ◌*◌, ◌<◌, ◌≤◌, List, [], ◌∷◌, ◌++◌, take, drop, length, replicate, refl, sym, ◌∙◌, ap, arith, add-one, length-append}
use Rattle.std.proofs.lemmas.List.{drop-drop, drop_all, take_all, take-append-le, take-replicate, length-replicate, append-nil}
use Rattle.std.proofs.lemmas.Bool.{cases_lt}
use Rattle.std.proofs.Math.Seq.{take-append-add}
use Rattle.rpm_outside.proofs.Vocabulary.{blank, cut_up, with_units, Units}

cut_up_suc : (n : ℕ) (bytes : List ℕ) → cut_up (suc n) bytes ≡ cut_up n bytes ++ take 16 (drop (16 * n) bytes) ∷ []
cut_up_suc zero bytes = refl
cut_up_suc (suc n) bytes =
    let here : drop (16 * n) (drop 16 bytes) ≡ drop (16 * suc n) bytes = drop-drop (16 * n) 16 bytes ∙ ap (λ (k : ℕ). drop k bytes) (omega arith) in
    ap (λ (us : Units). take 16 bytes ∷ us) (cut_up_suc n (drop 16 bytes) ∙ ap (λ (bs : List ℕ). cut_up n (drop 16 bytes) ++ take 16 bs ∷ []) here)

pub cut_up_more : (n : ℕ) (bytes : List ℕ) → cut_up (n + 1) bytes ≡ cut_up n bytes ++ take 16 (drop (16 * n) bytes) ∷ []
cut_up_more n bytes = ap (λ (k : ℕ). cut_up k bytes) (add-one n) ∙ cut_up_suc n bytes

-- a file that was lengthened with zeros, and then written in place
pub put_in_place : (at : ℕ) (units file longer : Units) → longer ≡ file ++ replicate (at + length units - length file) blank → take at longer ++ units
    ++ drop (at + length units) longer ≡ with_units at units file
unfolding with_units
put_in_place at units file longer is =
    let gap = at - length file in
    let more = at + length units - length file in
    ap (λ (us : Units). take at us ++ units ++ drop (at + length units) us) is
    ∙ ap (λ (us : Units). us ++ units ++ drop (at + length units) (file ++ replicate more blank)) (front (cases_lt at (length file)))
    ∙ ap (λ (us : Units). take at file ++ replicate gap blank ++ units ++ us) (back (cases_lt (at + length units) (length file)))
  where
    front : (at < length file) ⊎ (length file ≤ at) → take at (file ++ replicate (at + length units - length file) blank) ≡ take at file ++ replicate
        (at - length file) blank
    front (inl inside) =
        let none : 0 ≡ at - length file = omega arith in
        take-append-le at file (replicate (at + length units - length file) blank) (omega arith)
        ∙ sym (append-nil (take at file))
        ∙ ap (λ (n : ℕ). take at file ++ replicate n blank) none
    front (inr past) =
        let place : at ≡ length file + (at - length file) = omega arith in
        ap (λ (n : ℕ). take n (file ++ replicate (at + length units - length file) blank)) place
        ∙ take-append-add file (replicate (at + length units - length file) blank) (at - length file)
        ∙ ap (λ (us : Units). file ++ us) (take-replicate (at - length file) (at + length units - length file) blank (omega arith))
        ∙ ap (λ (us : Units). us ++ replicate (at - length file) blank) (sym (take_all at file past))

    back : (at + length units < length file) ⊎ (length file ≤ at + length units) → drop (at + length units)
        (file ++ replicate (at + length units - length file) blank) ≡ drop (at + length units) file
    back (inl inside) =
        let none : at + length units - length file ≡ 0 = omega arith in
        ap (λ (n : ℕ). drop (at + length units) (file ++ replicate n blank)) none
        ∙ ap (λ (us : Units). drop (at + length units) us) (append-nil file)
    back (inr past) =
        drop_all (at + length units) (file ++ replicate (at + length units - length file) blank)
        (omega (arith, length-append file (replicate (at + length units - length file) blank), length-replicate (at + length units - length file) blank))
        ∙ sym (drop_all (at + length units) file past)

-- what a vector holds once its slice is written
pub write_back : (n : ℕ) (items now : Units) → length now ≡ length items → n ≡ length items → take n (now ++ drop (length now) items) ≡ now
write_back n items now same is =
    ap (λ (us : Units). take n (now ++ us)) (drop_all (length now) items (omega arith)) ∙ ap (take n) (append-nil now) ∙ take_all n now (omega arith)

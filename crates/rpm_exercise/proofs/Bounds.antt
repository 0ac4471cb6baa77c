-- How long the data are that are laid out.
use Rattle.std.proofs.Common.{◌≡◌, ℕ, ◌+◌, ◌%◌, ◌-◌, ◌^◌, ◌<◌, ◌≤◌, List, [], ◌∷◌, ◌++◌, length, replicate, sym, subst, arith, length-append}
use Rattle.std.specs.Prelude.{codes}
use Rattle.rpm_exercise.proofs.Vocabulary.{alignment, entry_bytes, data_from, decimal, end_of_data, Form, generated_items, Item, next_multiple_of, numbered_word, offset_of}
use Rattle.rpm_exercise.proofs.Vocabulary.{package_items, version}
use Rattle.std.proofs.lemmas.Fmt.{length-decimal-le}
use Rattle.std.proofs.lemmas.List.{length-replicate}
use Rattle.rpm_header.specs.declared.form.Form.TheVariants as form

-- less than eight bytes are between the data of two entries
gap_of : (at : ℕ) (f : Form) → next_multiple_of at (alignment f) < at + 8
gap_of at form.Null = omega arith
gap_of at others = omega arith

gap : (at : ℕ) (e : Item) → offset_of at e < at + 8
unfolding offset_of
gap at e = gap_of at e.form

with_gaps : List Item → ℕ
with_gaps [] = 0
with_gaps (e ∷ es) = 8 + length (entry_bytes e) + with_gaps es

data_within : (at : ℕ) (es : List Item) → length (data_from at es) ≤ with_gaps es
unfolding data_from with_gaps
data_within at [] = omega arith
data_within at (e ∷ es) =
    let before = gap at e in
    let behind = data_within (end_of_data at e) es in
    omega (
      arith,
      length-append (replicate (offset_of at e - at) 0 ++ entry_bytes e) (data_from (end_of_data at e) es),
      length-append (replicate (offset_of at e - at) 0) (entry_bytes e),
      length-replicate {A = ℕ} (offset_of at e - at) 0,
    )

gaps_within : (name version provided required file : List ℕ) → length name ≤ 24 → length version ≤ 24 → length provided ≤ 24 → length required ≤ 24
    → length file ≤ 24 → with_gaps (package_items name version provided required file) ≤ 512
unfolding with_gaps entry_bytes
gaps_within name version provided required file a b c d e = omega (arith, length-append {A = ℕ})

numbered_within : (word : List ℕ) (n : ℕ) → length word ≤ 3 → n < 2 ^ 32 → length (numbered_word word n) ≤ 24
numbered_within word n short small =
    let digits = length-decimal-le 10 n (omega arith) (omega arith) (omega arith) in
    omega (arith, length-append word (decimal n))

version_within : (i m : ℕ) → m < 2 ^ 32 → length (version i m) ≤ 24
version_within i m small =
    let digits = length-decimal-le 10 m (omega arith) (omega arith) (omega arith) in
    let last = length-decimal-le 10 (i % 10) (omega arith) (omega arith) (omega arith) in
    omega (arith, length-append (decimal m ++ codes ".") (decimal (i % 10)), length-append (decimal m) (codes "."))

pub generated_within : (i m : ℕ) (es : List Item) → i < 2 ^ 32 → m < 2 ^ 32 → es ≡ generated_items i m → length (data_from 0 es) ≤ 67108864
generated_within i m es small_i small_m same =
    let all_data = data_within 0 (generated_items i m) in
    let all =
    gaps_within (numbered_word (codes "pkg") i) (version i m) (numbered_word (codes "cap") (i % 7)) (numbered_word (codes "cap") ((i + 1) % 7))
    (numbered_word (codes "f") i) (numbered_within (codes "pkg") i (omega arith) small_i) (version_within i m small_m)
    (numbered_within (codes "cap") (i % 7) (omega arith) (omega arith)) (numbered_within (codes "cap") ((i + 1) % 7) (omega arith) (omega arith))
    (numbered_within (codes "f") i (omega arith) small_i) in
    let P : List Item → Type 0 = λ xs. length (data_from 0 xs) ≤ 67108864 in
    subst P (sym same) (omega (arith, all_data, all))

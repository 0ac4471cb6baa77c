-- A record as it was read.
use Rattle.std.proofs.Common.{◌≡◌, ℕ, ◌+◌, ◌/◌, ◌%◌, ◌^◌, List, take, ap, sym, ◌∙◌}
use Rattle.rpm_hindex.proofs.Vocabulary.{bytes_of, Files, Index, key_at, Row, row_at, units_from, unit_at, word}

-- the key as it was read is that of the file
pub key_read : (file later : Files) (at size : ℕ) (key : List ℕ) → later ≡ file → size ≡ word 1 (unit_at file.idx at) → key ≡ take (size % 2 ^ 28)
    (bytes_of (units_from (unit_at later.idx) (at + 1) ((size % 2 ^ 28 + 15) / 16))) → key ≡ key_at (unit_at file.idx) at
key_read file later at size key same is e =
    e
    ∙ ap (λ (f : Files). take (size % 2 ^ 28) (bytes_of (units_from (unit_at f.idx) (at + 1) ((size % 2 ^ 28 + 15) / 16)))) same
    ∙ ap (λ (n : ℕ). take (n % 2 ^ 28) (bytes_of (units_from (unit_at file.idx) (at + 1) ((n % 2 ^ 28 + 15) / 16)))) is

pub row_read : (unit : ℕ → List ℕ) (at w1 w2 w3 : ℕ) (key : List ℕ) → w1 ≡ word 1 (unit at) → key ≡ key_at unit at → w2 ≡ word 2 (unit at) → w3
    ≡ word 3 (unit at) → row_at unit at ≡ record { kind = w1 / 2 ^ 28; key = key; number = w2; place = w3 }
unfolding row_at
row_read unit at w1 w2 w3 key one keyed two three =
    let f : ℕ → List ℕ → ℕ → ℕ → Row = λ a b c d. record { kind = a / 2 ^ 28; key = b; number = c; place = d } in
    ap (λ (n : ℕ). f n (key_at unit at) (word 2 (unit at)) (word 3 (unit at))) (sym one)
    ∙ ap (λ (bs : List ℕ). f w1 bs (word 2 (unit at)) (word 3 (unit at))) (sym keyed)
    ∙ ap (λ (n : ℕ). f w1 key n (word 3 (unit at))) (sym two)
    ∙ ap (λ (n : ℕ). f w1 key w2 n) (sym three)

-- an index that has this one unit alone
abbrev pub alone : ℕ → ℕ → List ℕ → Index
alone buckets used unit = record { buckets = buckets; used = used; head = λ b. 0; unit = λ i. unit }

-- A record that was made, as it is read.
use Rattle.std.proofs.Common.{◌≡◌, ℕ, zero, suc, ◌+◌, ◌-◌, ◌*◌, ◌/◌, ◌%◌, ◌^◌, ◌<◌, ◌≤◌, List, [], ◌∷◌, ◌++◌, length, take, drop, refl, sym, ap, ◌∙◌, arith, subst, length-append, length-drop, zero-add}
use Rattle.rpm_hindex.proofs.Vocabulary.{All, bytes_of, bytes_of-cut_up, cut_up, IsPadded, key_at, key_units, length-cut_up, length-unit, length_at, next_at}
use Rattle.rpm_hindex.proofs.Vocabulary.{key_padding, past_key, record_of, record_units, Row, row_at, units_from, unit_at, unit_of_words, Units, units_of, word, word_0}
use Rattle.rpm_hindex.proofs.Vocabulary.{word_1, word_2, word_3}
use Rattle.std.proofs.lemmas.List.{nil_from_length, length-replicate, take-append-le, take_all, take_at, drop_at, drop-append-le}
use Rattle.std.proofs.lemmas.List.Elements.{All-replicate}
use Rattle.std.proofs.lemmas.Nat.{div-mul-add, mod-mul-add}

-- bytes after whole units
pub cut_up-append : (n m : ℕ) (a b : List ℕ) → length a ≡ 16 * n → cut_up (n + m) (a ++ b) ≡ cut_up n a ++ cut_up m b
cut_up-append zero m a b long =
    let none : a ≡ [] = nil_from_length a (omega arith) in
    ap (λ (k : ℕ). cut_up k (a ++ b)) (zero-add m) ∙ ap (λ (bs : List ℕ). cut_up m (bs ++ b)) none
cut_up-append (suc n) m a b long =
    let sixteen : 16 ≤ length a = omega arith in
    let rest : length (drop 16 a) ≡ 16 * n = omega (arith, length-drop 16 a) in
    let e : suc n + m ≡ suc (n + m) = omega arith in
    ap (λ (k : ℕ). cut_up k (a ++ b)) e
    ∙ ap (λ (u : List ℕ). u ∷ cut_up (n + m) (drop 16 (a ++ b))) (take-append-le 16 a b sixteen)
    ∙ ap (λ (bs : List ℕ). take 16 a ∷ cut_up (n + m) bs) (drop-append-le 16 a b sixteen)
    ∙ ap (λ (us : Units). take 16 a ∷ us) (cut_up-append n m (drop 16 a) b rest)

pub run_of : (u : ℕ → List ℕ) (at : ℕ) (us : Units) → ((j : ℕ) → j < length us → u (at + j) ≡ unit_at us j) → units_from u at (length us) ≡ us
run_of u at [] same = refl
run_of u at (x ∷ us) same =
    let here : at ≡ at + 0 = omega arith in
    ap (λ (y : List ℕ). y ∷ units_from u (at + 1) (length us)) (ap u here ∙ same 0 (omega arith))
    ∙ ap (λ (ys : Units). x ∷ ys) (run_of u (at + 1) us (λ j lt. let e : at + 1 + j ≡ at + suc j = omega arith in ap u e ∙ same (suc j) (omega arith)))

module _ (next kind : ℕ) (key : List ℕ) (number place : ℕ) where
  abbrev pub made : Units
  made = record_of next kind key number place

  abbrev pub made_row : Row
  made_row = record { kind = kind; key = key; number = number; place = place }

  abbrev head : List ℕ
  head = unit_of_words next (kind * 2 ^ 28 + length key) number place

  abbrev padded : List ℕ
  padded = key ++ key_padding (length key)

  pub length-padded : length padded ≡ 16 * key_units (length key)
  length-padded = omega (arith, length-append key (key_padding (length key)), length-replicate {A = ℕ} (16 * key_units (length key) - length key) 0)

  made_head : unit_at made 0 ≡ head
  unfolding record_of
  made_head = refl

  made_rest : (j : ℕ) → unit_at made (1 + j) ≡ unit_at (cut_up (key_units (length key)) padded) j
  unfolding record_of
  made_rest j = let e : 1 + j ≡ suc j = omega arith in ap (unit_at (head ∷ cut_up (key_units (length key)) padded)) e

  pub length-bytes : length (bytes_of made) ≡ 16 * record_units (length key)
  unfolding record_of
  length-bytes =
      let m = key_units (length key) in
      let flat : length (bytes_of (cut_up m padded)) ≡ 16 * m = ap length (bytes_of-cut_up m padded length-padded) ∙ length-padded in
      omega (arith, flat, length-append head (bytes_of (cut_up m padded)), length-unit next (kind * 2 ^ 28 + length key) number place)

  -- the bytes of a record are cut up into its units, also after others
  pub units-made : (a : List ℕ) (n : ℕ) → length a ≡ 16 * n → units_of (a ++ bytes_of made) ≡ units_of a ++ made
  unfolding record_of
  units-made a n long =
      let m = key_units (length key) in
      let flat : bytes_of (head ∷ cut_up m padded) ≡ head ++ padded = ap (λ (bs : List ℕ). head ++ bs) (bytes_of-cut_up m padded length-padded) in
      let sixteen : length head ≡ 16 = length-unit next (kind * 2 ^ 28 + length key) number place in
      let size : length (a ++ (head ++ padded)) / 16 ≡ n + (1 + m) = omega (
        arith,
        length-append a (head ++ padded),
        length-append head padded,
        length-padded,
      ) in
      let front : length a / 16 ≡ n = omega arith in
      ap (λ (bs : List ℕ). units_of (a ++ bs)) flat
      ∙ ap (λ (k : ℕ). cut_up k (a ++ (head ++ padded))) size
      ∙ cut_up-append n (1 + m) a (head ++ padded) long
      ∙ ap (λ (us : Units). cut_up n a ++ us) (cut_up-append 1 m head padded (omega arith) ∙ ap (λ (u : List ℕ). u ∷ cut_up m padded)
      (take_all 16 head (omega arith)))
      ∙ ap (λ (k : ℕ). cut_up k a ++ (head ∷ cut_up m padded)) (sym front)

  module _ (lt_next : next < 2 ^ 32) (lt_kind : kind < 16) (short : length key < 2 ^ 28) (lt_number : number < 2 ^ 32) (lt_place : place < 2 ^ 32)
      (u : ℕ → List ℕ) (at : ℕ) (stands : (k : ℕ) → k < record_units (length key) → u (at + k) ≡ unit_at made k) where
    first : u at ≡ head
    first = let here : at ≡ at + 0 = omega arith in ap u here ∙ stands 0 (omega arith) ∙ made_head

    pub made_next : next_at u at ≡ next
    made_next = ap (word 0) first ∙ word_0 next (kind * 2 ^ 28 + length key) number place lt_next

    packed : word 1 (u at) ≡ kind * 2 ^ 28 + length key
    packed = ap (word 1) first ∙ word_1 next (kind * 2 ^ 28 + length key) number place (omega arith)

    pub made_size : length_at u at ≡ length key
    made_size = ap (λ (n : ℕ). n % 2 ^ 28) packed ∙ mod-mul-add kind (2 ^ 28) (length key) short

    made_bytes : bytes_of (units_from u (at + 1) (key_units (length key))) ≡ padded
    made_bytes =
        let n = key_units (length key) in
        let us : Units = cut_up n padded in
        let long : length us ≡ n = length-cut_up n padded in
        let all : units_from u (at + 1) n ≡ us = ap (units_from u (at + 1)) (sym long) ∙ run_of u (at + 1) us (λ j lt. let e : at + 1 + j ≡ at + (1 + j) = omega
        arith in ap u e ∙ stands (1 + j) (omega arith) ∙ made_rest j) in
        ap bytes_of all ∙ bytes_of-cut_up n padded length-padded

    made_key : key_at u at ≡ key
    made_key =
        ap (λ (k : ℕ). take k (bytes_of (units_from u (at + 1) (key_units k)))) made_size
        ∙ ap (take (length key)) made_bytes
        ∙ take_at key (key_padding (length key)) (length key) refl

    made_past : past_key u at ≡ key_padding (length key)
    made_past =
        ap (λ (k : ℕ). drop k (bytes_of (units_from u (at + 1) (key_units k)))) made_size
        ∙ ap (drop (length key)) made_bytes
        ∙ drop_at key (key_padding (length key)) (length key) refl

    pub made_padded : IsPadded u at
    made_padded = subst (All (λ (b : ℕ). b ≡ 0)) (sym made_past) (All-replicate (λ (b : ℕ). b ≡ 0) (16 * key_units (length key) - length key) 0 refl)

    pub row-made : row_at u at ≡ made_row
    unfolding row_at
    row-made =
        let f : ℕ → List ℕ → ℕ → ℕ → Row = λ a b c d. record { kind = a; key = b; number = c; place = d } in
        let k : word 1 (u at) / 2 ^ 28 ≡ kind = ap (λ (n : ℕ). n / 2 ^ 28) packed ∙ div-mul-add kind (2 ^ 28) (length key) short in
        let two : word 2 (u at) ≡ number = ap (word 2) first ∙ word_2 next (kind * 2 ^ 28 + length key) number place lt_number in
        let three : word 3 (u at) ≡ place = ap (word 3) first ∙ word_3 next (kind * 2 ^ 28 + length key) number place lt_place in
        ap (λ (n : ℕ). f n (key_at u at) (word 2 (u at)) (word 3 (u at))) k
        ∙ ap (λ (bs : List ℕ). f kind bs (word 2 (u at)) (word 3 (u at))) made_key
        ∙ ap (λ (n : ℕ). f kind key n (word 3 (u at))) two
        ∙ ap (f kind key number) three

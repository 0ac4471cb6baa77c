-- The definitions of the index, computed on the units of one key: what they say doesn't come from the code.
use Rattle.std.specs.Prelude.{◌≡◌, ℕ, ◌+◌, ◌≤◌, ◌<◌, List, [], ◌∷◌, ◌++◌, length, refl, replicate, Bool, ◌||◌, nat_le, true, false, Ok, Err, IsOk, is_ok}
use Rattle.rpm_hindex.proofs.Vocabulary.{all_places, blank, bucket_count, chain, Contains, hash_of, Index, index_in, index_units, is_bucket_count, is_current}
use Rattle.rpm_hindex.proofs.Vocabulary.{is_in_order, is_ordered, is_sound, IsWellFormed, list_all, places_of, range_with_len, records, Row, row_at, rows_of}
use Rattle.rpm_hindex.proofs.Vocabulary.{sealed_generation, opened_state, sum_by, unit_at, Units, units_at, word}
use Rattle.std.proofs.Common.{inl, inr, sym, ap, ◌∙◌, arith}
use Rattle.std.proofs.lemmas.Bool.{cases_Bool, false≢true, leb-true, or_cases}
use Rattle.std.proofs.lemmas.List.Elements.{at_from_Contains}
use Rattle.std.proofs.lemmas.List.Folds.{list_all_at}
use Rattle.std.proofs.lemmas.List.FromFn.{get_or-range_with_len, length-range_with_len}

-- ---- sizes

none : index_units 0 0 ≡ 18
unfolding bucket_count
none = refl

two_a_bucket : index_units 128 256 ≡ 274
unfolding bucket_count
two_a_bucket = refl

one_more : index_units 129 258 ≡ 292
unfolding bucket_count
one_more = refl

-- ---- the units of the key `a` of kind 1, of package 1, sealed at 2

unfoldable seal : List ℕ
seal = 0x52 ∷ 0x70 ∷ 0x6d ∷ 0x48 ∷ 2 ∷ 0 ∷ 0 ∷ 0 ∷ 2 ∷ 0 ∷ 0 ∷ 0 ∷ 0x40 ∷ 0 ∷ 0 ∷ 0 ∷ []

unfoldable counts : List ℕ
counts = 20 ∷ 0 ∷ 0 ∷ 0 ∷ 1 ∷ 0 ∷ 0 ∷ 0 ∷ 2 ∷ 0 ∷ 0 ∷ 0 ∷ 0 ∷ 0 ∷ 0 ∷ 0 ∷ []

-- the word of bucket 23 names this unit
unfoldable words : ℕ → List ℕ
words at = 0 ∷ 0 ∷ 0 ∷ 0 ∷ 0 ∷ 0 ∷ 0 ∷ 0 ∷ 0 ∷ 0 ∷ 0 ∷ 0 ∷ at ∷ 0 ∷ 0 ∷ 0 ∷ []

-- a record of kind 1, with this next and a key of so many bytes
unfoldable head : ℕ → ℕ → List ℕ
head next length = next ∷ 0 ∷ 0 ∷ 0 ∷ length ∷ 0 ∷ 0 ∷ 0x10 ∷ 1 ∷ 0 ∷ 0 ∷ 0 ∷ 0 ∷ 0 ∷ 0 ∷ 0 ∷ []

unfoldable letter : ℕ → List ℕ
letter byte = byte ∷ replicate 15 0

-- two letters
unfoldable letters : ℕ → ℕ → List ℕ
letters one two = one ∷ two ∷ replicate 14 0

-- the file with these units from unit 18 on, where bucket 23 begins with this one
unfoldable file : ℕ → Units → Units
file at units = seal ∷ counts ∷ replicate 5 blank ++ words at ∷ replicate 10 blank ++ units

unfoldable whole : Units
whole = file 18 (head 0 1 ∷ letter 0x61 ∷ [])

abbrev row : Row
row = record { kind = 1; key = 0x61 ∷ []; number = 1; place = 0 }

sealed_at : sealed_generation (unit_at whole 0) ≡ 2
unfolding whole file seal word
sealed_at = refl

current : is_current 2 (opened_state whole) ≡ true
unfolding whole file seal counts words head letter blank word is_current is_in_order is_ordered is_bucket_count
current = refl

another_generation : is_current 1 (opened_state whole) ≡ false
unfolding whole file seal counts words head letter blank word is_current is_in_order is_ordered is_bucket_count
another_generation = refl

-- a file without units is sealed at 0, and isn't current there
blank_file : is_current 0 (opened_state []) ≡ false
unfolding blank word is_current is_in_order is_ordered is_bucket_count
blank_file = refl

hash : hash_of 1 (0x61 ∷ []) ≡ 1282717207
unfolding hash_of
hash = refl

row_is : row_at (unit_at whole) 18 ≡ row
unfolding whole file seal counts words head letter blank word row_at
row_is = refl

its_chain : chain (index_in 64 whole) 23 ≡ Ok (18 ∷ [])
unfolding whole file seal counts words head letter blank word row_at hash_of is_sound chain
its_chain = refl

another_chain : chain (index_in 64 whole) 22 ≡ Ok []
unfolding whole file seal counts words head letter blank word chain
another_chain = refl

-- ---- all of its rows

its_rows : records 64 whole ≡ row ∷ []
unfolding whole file seal counts words head letter blank word row_at hash_of is_sound chain places_of all_places rows_of
its_rows = refl

-- a test that each element passes
passes : {X : Type 0} (test : X → Bool) (xs : List X) (x : X) → list_all test xs ≡ true → Contains xs x → test x ≡ true
passes test xs x all c = elim (cases_Bool (test x)) [
  | inl holds ↦ holds
  | inr fails ↦
      let w = at_from_Contains xs x c in
      absurd (false≢true (sym (list_all_at test xs w.0 x w.1 (ap test (w.2 x) ∙ fails)) ∙ all))
]

abbrev are_ok : Index → Bool
are_ok x = list_all (λ b. is_ok (chain x b)) (range_with_len 0 x.buckets)

chains_ok : (x : Index) → are_ok x ≡ true → (bucket : ℕ) → bucket < x.buckets → IsOk (chain x bucket)
chains_ok x all bucket below =
    passes (λ b. is_ok (chain x b)) (range_with_len 0 x.buckets) bucket all
    (bucket, omega (arith, length-range_with_len 0 x.buckets, below), omega (arith, get_or-range_with_len 0 x.buckets bucket bucket below))

-- a record ends before the next
abbrev ends_before : Index → ℕ → ℕ → Bool
ends_before x a b = nat_le b a || nat_le (a + units_at x.unit a) b

abbrev are_apart : Index → List ℕ → Bool
are_apart x places = list_all (λ a. list_all (ends_before x a) places) places

each_apart : (x : Index) → are_apart x (all_places x) ≡ true → (a b : ℕ) → Contains (all_places x) a → Contains (all_places x) b → a < b
    → a + units_at x.unit a ≤ b
each_apart x all a b ca cb below =
    let places = all_places x in
    let ends = passes (ends_before x a) places b (passes (λ c. list_all (ends_before x c) places) places a all ca) cb in
    elim (or_cases (nat_le b a) (nat_le (a + units_at x.unit a) b) ends) [
      | inl wrong ↦ absurd (omega (arith, below, leb-true b a wrong))
      | inr right ↦ leb-true (a + units_at x.unit a) b right
    ]

whole_chains : are_ok (index_in 64 whole) ≡ true
unfolding whole file seal counts words head letter blank word row_at hash_of is_sound chain
whole_chains = refl

whole_apart : are_apart (index_in 64 whole) (all_places (index_in 64 whole)) ≡ true
unfolding whole file seal counts words head letter blank word row_at hash_of is_sound chain places_of all_places
whole_apart = refl

whole_count : length (all_places (index_in 64 whole)) ≡ word 1 (unit_at whole 1)
unfolding whole file seal counts words head letter blank word row_at hash_of is_sound chain places_of all_places
whole_count = refl

whole_live : sum_by (units_at (unit_at whole)) (all_places (index_in 64 whole)) ≡ word 2 (unit_at whole 1)
unfolding whole file seal counts words head letter blank word row_at hash_of is_sound chain places_of all_places
whole_live = refl

well_formed : IsWellFormed 64 whole
well_formed = record {
  chains = chains_ok (index_in 64 whole) whole_chains;
  apart = each_apart (index_in 64 whole) whole_apart;
  records = whole_count;
  live = whole_live;
}

-- ---- three records in one chain, with these counted

unfoldable three : ℕ → Units
three records =
    seal
    ∷ (24 ∷ 0 ∷ 0 ∷ 0 ∷ records ∷ 0 ∷ 0 ∷ 0 ∷ 6 ∷ replicate 7 0)
    ∷ replicate 5 blank
    ++ words 22
    ∷ replicate 10 blank
    ++ head 0 1
    ∷ letter 0x61
    ∷ head 18 2
    ∷ letters 0x61 0x7a
    ∷ head 20 2
    ∷ letters 0x65 0x66
    ∷ []

abbrev row_of : List ℕ → Row
row_of key = record { kind = 1; key = key; number = 1; place = 0 }

three_rows : records 64 (three 3) ≡ row_of (0x65 ∷ 0x66 ∷ []) ∷ row_of (0x61 ∷ 0x7a ∷ []) ∷ row_of (0x61 ∷ []) ∷ []
unfolding three seal words head letter letters blank word row_at hash_of is_sound chain places_of all_places rows_of
three_rows = refl

three_chains : are_ok (index_in 64 (three 3)) ≡ true
unfolding three seal words head letter letters blank word row_at hash_of is_sound chain
three_chains = refl

three_apart : are_apart (index_in 64 (three 3)) (all_places (index_in 64 (three 3))) ≡ true
unfolding three seal words head letter letters blank word row_at hash_of is_sound chain places_of all_places
three_apart = refl

three_count : length (all_places (index_in 64 (three 3))) ≡ word 1 (unit_at (three 3) 1)
unfolding three seal words head letter letters blank word row_at hash_of is_sound chain places_of all_places
three_count = refl

three_live : sum_by (units_at (unit_at (three 3))) (all_places (index_in 64 (three 3))) ≡ word 2 (unit_at (three 3) 1)
unfolding three seal words head letter letters blank word row_at hash_of is_sound chain places_of all_places
three_live = refl

three_well_formed : IsWellFormed 64 (three 3)
three_well_formed = record {
  chains = chains_ok (index_in 64 (three 3)) three_chains;
  apart = each_apart (index_in 64 (three 3)) three_apart;
  records = three_count;
  live = three_live;
}

-- where one is counted too little, the file isn't well formed
more_places : length (all_places (index_in 64 (three 2))) ≡ 3
unfolding three seal words head letter letters blank word row_at hash_of is_sound chain places_of all_places
more_places = refl

than_counted : word 1 (unit_at (three 2) 1) ≡ 2
unfolding three seal word
than_counted = refl

counts_too_little : IsWellFormed 64 (three 2) → ⊥
counts_too_little formed = omega (arith, formed.records, more_places, than_counted)

-- ---- the faults of a chain

word_in_front : chain (index_in 64 (file 17 (head 0 1 ∷ letter 0x61 ∷ []))) 23 ≡ Err 7
unfolding file seal counts words head letter blank word chain
word_in_front = refl

word_behind : chain (index_in 64 (file 20 (head 0 1 ∷ letter 0x61 ∷ []))) 23 ≡ Err 7
unfolding file seal counts words head letter blank word chain
word_behind = refl

next_of_itself : chain (index_in 64 (file 18 (head 18 1 ∷ letter 0x61 ∷ []))) 23 ≡ Err 18
unfolding file seal counts words head letter blank word row_at hash_of is_sound chain
next_of_itself = refl

past_used : chain (index_in 64 (file 18 (head 0 17 ∷ letter 0x61 ∷ []))) 23 ≡ Err 18
unfolding file seal counts words head letter blank word row_at hash_of is_sound chain
past_used = refl

another_bucket : chain (index_in 64 (file 18 (head 0 1 ∷ letter 0x62 ∷ []))) 23 ≡ Err 18
unfolding file seal counts words head letter blank word row_at hash_of is_sound chain
another_bucket = refl

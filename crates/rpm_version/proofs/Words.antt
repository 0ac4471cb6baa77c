-- The first word of a text.
use Rattle.std.proofs.Common.{◌≡◌, ℕ, ◌<◌, Bool, true, false, not, List, [], ◌∷◌, take, drop, length, filter, refl, sym, ap, subst, ◌==◌, ◌∙◌, arith}
use Rattle.rpm_version.proofs.Vocabulary.{is_space, onto_first, position_or_len, prefix_len, slice_split, take_while, words}
use Rattle.std.proofs.lemmas.Bool.{ne_eqb, eqb-true, eqb-false}
use Rattle.std.proofs.lemmas.List.{nil_from_length}
use Rattle.std.proofs.lemmas.List.Splits.{slice_split-cons_yes, slice_split-cons_no}
use Rattle.rpm_version.proofs.Fronts.{taken-yes, taken-no, left-yes, left-no}

-- a part is a word when it isn't empty
abbrev is_word : List ℕ → Bool
is_word part = not (length part == 0)

abbrev no_blank : ℕ → Bool
no_blank b = not (is_space b)

-- a blank in front makes no word
words-blank : (b : ℕ) (rest : List ℕ) → is_space b ≡ true → words (b ∷ rest) ≡ words rest
unfolding words
words-blank b rest h = ap (filter is_word) (slice_split-cons_yes is_space b rest h)

skipped_by : (b : ℕ) (rest : List ℕ) (v : Bool) → is_space b ≡ v → words rest ≡ words (drop (prefix_len is_space rest) rest) →
    words (b ∷ rest) ≡ words (drop (prefix_len is_space (b ∷ rest)) (b ∷ rest))
skipped_by b rest true h more = words-blank b rest h ∙ more ∙ ap words (sym (left-yes is_space b rest h))
skipped_by b rest false h more = ap words (sym (left-no is_space b rest h))

pub skipped : (text : List ℕ) → words text ≡ words (drop (prefix_len is_space text) text)
skipped [] = refl
skipped (b ∷ rest) = skipped_by b rest (is_space b) refl (skipped rest)

-- the parts after the first
abbrev parts_behind : List ℕ → List (List ℕ)
parts_behind [] = []
parts_behind (b ∷ rest) = slice_split is_space rest

first_part_by : (b : ℕ) (rest : List ℕ) (v : Bool) → is_space b ≡ v →
    slice_split is_space rest ≡ take_while no_blank rest ∷ parts_behind (drop (prefix_len no_blank rest) rest) →
    slice_split is_space (b ∷ rest) ≡ take_while no_blank (b ∷ rest) ∷ parts_behind (drop (prefix_len no_blank (b ∷ rest)) (b ∷ rest))
first_part_by b rest true h more =
    slice_split-cons_yes is_space b rest h
    ∙ rw (taken-no no_blank b rest (ap not h), left-no no_blank b rest (ap not h))
first_part_by b rest false h more =
    slice_split-cons_no is_space b rest h ∙ ap (onto_first b) more
    ∙ rw (taken-yes no_blank b rest (ap not h), left-yes no_blank b rest (ap not h))

first_part : (text : List ℕ) → slice_split is_space text ≡ take_while no_blank text ∷ parts_behind (drop (prefix_len no_blank text) text)
first_part [] = refl
first_part (b ∷ rest) = first_part_by b rest (is_space b) refl (first_part rest)

-- a text is empty or begins with a blank
abbrev IsCut : List ℕ → Type 0
IsCut [] = Unit {0}
IsCut (b ∷ rest) = is_space b ≡ true

cut_by : (b : ℕ) (rest : List ℕ) (v : Bool) → is_space b ≡ v → IsCut (drop (prefix_len no_blank rest) rest) →
    IsCut (drop (prefix_len no_blank (b ∷ rest)) (b ∷ rest))
cut_by b rest true h more = rw (left-no no_blank b rest (ap not h)) h
cut_by b rest false h more = rw (left-yes no_blank b rest (ap not h)) more

cut : (text : List ℕ) → IsCut (drop (prefix_len no_blank text) text)
cut [] = tt
cut (b ∷ rest) = cut_by b rest (is_space b) refl (cut rest)

words-cut : (text : List ℕ) → IsCut text → filter is_word (parts_behind text) ≡ words text
unfolding words
words-cut [] h = refl
words-cut (b ∷ rest) h = sym (words-blank b rest h)

-- a text is empty or begins with no blank
abbrev IsBegun : List ℕ → Type 0
IsBegun [] = Unit {0}
IsBegun (b ∷ rest) = is_space b ≡ false

begun_by : (b : ℕ) (rest : List ℕ) (v : Bool) → is_space b ≡ v → IsBegun (drop (prefix_len is_space rest) rest) →
    IsBegun (drop (prefix_len is_space (b ∷ rest)) (b ∷ rest))
begun_by b rest true h more = rw (left-yes is_space b rest h) more
begun_by b rest false h more = rw (left-no is_space b rest h) h

begun : (text : List ℕ) → IsBegun (drop (prefix_len is_space text) text)
begun [] = tt
begun (b ∷ rest) = begun_by b rest (is_space b) refl (begun rest)

kept : (b : ℕ) (part : List ℕ) (parts : List (List ℕ)) → filter is_word ((b ∷ part) ∷ parts) ≡ (b ∷ part) ∷ filter is_word parts
kept b part parts = rw (ne_eqb (length (b ∷ part)) 0 (λ e. absurd (omega arith)))

first_of : (text : List ℕ) → IsBegun text → 0 < length text → words text ≡ take_while no_blank text ∷ words (drop (prefix_len no_blank text) text)
unfolding words
first_of [] h m = absurd (omega arith)
first_of (b ∷ rest) h m =
    let word : take_while no_blank (b ∷ rest) ≡ b ∷ take_while no_blank rest = taken-yes no_blank b rest (ap not h) in
    ap (filter is_word) (first_part (b ∷ rest))
    ∙ ap (λ part. filter is_word (part ∷ parts_behind (drop (prefix_len no_blank (b ∷ rest)) (b ∷ rest)))) word
    ∙ kept b (take_while no_blank rest) (parts_behind (drop (prefix_len no_blank (b ∷ rest)) (b ∷ rest)))
    ∙ (λ i. sym word i ∷ words-cut (drop (prefix_len no_blank (b ∷ rest)) (b ∷ rest)) (cut (b ∷ rest)) i)

-- after its blanks a text is empty, or begins with its first word
module _ (text left : List ℕ) (leaves : left ≡ drop (prefix_len is_space text) text) where
  from_left : words text ≡ words left
  from_left = skipped text ∙ ap words (sym leaves)

  pub words-none : (length left == 0) ≡ true → words text ≡ []
  unfolding words
  words-none h = from_left ∙ ap words (nil_from_length left (eqb-true (length left) 0 h))

  pub words-first : (n : ℕ) (word rest : List ℕ) → (length left == 0) ≡ false → n ≡ position_or_len is_space left → word ≡ take n left →
      rest ≡ drop n left → words text ≡ word ∷ words rest
  words-first n word rest h len front back =
      let none : length left ≡ 0 → ⊥ = eqb-false (length left) 0 h in
      let start = subst IsBegun (sym leaves) (begun text) in
      let one : word ≡ take_while no_blank left = front ∙ ap (λ m. take m left) len in
      let more : rest ≡ drop (prefix_len no_blank left) left = back ∙ ap (λ m. drop m left) len in
      from_left ∙ first_of left start (omega (arith, none)) ∙ (λ i. sym one i ∷ words (sym more i))

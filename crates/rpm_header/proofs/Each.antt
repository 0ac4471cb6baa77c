-- Lists made by a function of the place, and the first fault in one.
use Rattle.std.proofs.Common.{◌≡◌, ℕ, zero, suc, ◌+◌, ◌*◌, ◌≤◌, ◌<◌, List, length, map, Option, Some, None, refl, sym, ap, ◌∙◌, arith, inl, inr}
use Rattle.std.proofs.lemmas.Bool.{cases_eq}
use Rattle.std.specs.Prelude.{slice_get}
use Rattle.rpm_header.proofs.Vocabulary.{byte_len, each_below, entries, entry_of, first, index_entry, number_at, numbers, option_map, range_with_len}
use Rattle.rpm_header.proofs.Vocabulary.{section_of, w32, Width}
use Rattle.std.proofs.lemmas.Option.{slice_get-get_or, slice_get-map}
use Rattle.std.proofs.lemmas.List.FromFn.{length-map-range_with_len, get_or-map-range_with_len}

pub length-each_below : {X : Type 0} (n : ℕ) (f : ℕ → X) → length (each_below n f) ≡ n
length-each_below n f = length-map-range_with_len f 0 n

pub slice_get-each_below : {X : Type 0} (n : ℕ) (f : ℕ → X) (i : ℕ) → i < n → slice_get (each_below n f) i ≡ Some (f i)
slice_get-each_below n f i h =
    let within : i < length (each_below n f) = omega (arith, length-each_below n f) in
    slice_get-get_or (each_below n f) i (f i) within ∙ ap Some (get_or-map-range_with_len f 0 n i i (f i) h (omega arith))

pub slice_get-numbers : (w : Width) (count : ℕ) (bytes : List ℕ) (i n : ℕ) → i < count → n ≡ number_at w bytes (i * byte_len w)
    → slice_get (numbers w count bytes) i ≡ Some n
unfolding numbers
slice_get-numbers w count bytes i n h e = slice_get-each_below count (λ k. number_at w bytes (k * byte_len w)) i h ∙ ap Some (sym e)

first_none_from : {X : Type 0} (f : ℕ → Option X) (a n : ℕ) → ((k : ℕ) → a ≤ k → k < a + n → f k ≡ None) → first (map f (range_with_len a n)) ≡ None
first_none_from f a zero none = refl
first_none_from f a (suc n) none =
    let here : f a ≡ None = none a (omega arith) (omega arith) in
    rw here (first_none_from f (a + 1) n (λ k l h. none k (omega arith) (omega arith)))

first_some_from : {X : Type 0} (f : ℕ → Option X) (a n i : ℕ) (x : X) → a ≤ i → i < a + n → ((k : ℕ) → a ≤ k → k < i → f k ≡ None) → f i ≡ Some x
    → first (map f (range_with_len a n)) ≡ Some x
first_some_from f a zero i x l h none e = absurd (omega arith)
first_some_from f a (suc n) i x l h none e =
    elim (cases_eq a i) [
      | inl same ↦ (let here : f a ≡ Some x = rw same e in rw here refl)
      | inr other ↦ (let here : f a ≡ None = none a (omega arith) (omega arith) in
          rw here (first_some_from f (a + 1) n i x (omega arith) (omega arith) (λ k l' h'. none k (omega arith) (omega arith)) e))
    ]

pub first_none : {X : Type 0} (n : ℕ) (f : ℕ → Option X) → ((k : ℕ) → k < n → f k ≡ None) → first (each_below n f) ≡ None
first_none n f none = first_none_from f 0 n (λ k l h. none k (omega arith))

pub first_some : {X : Type 0} (n : ℕ) (f : ℕ → Option X) (i : ℕ) (x : X) → i < n → ((k : ℕ) → k < i → f k ≡ None) → f i ≡ Some x
    → first (each_below n f) ≡ Some x
first_some n f i x h none e = first_some_from f 0 n i x (omega arith) (omega arith) (λ k l h'. none k h') e

pub length-entries : (il : ℕ) (blob : List ℕ) → length (entries il blob) ≡ il
unfolding entries
length-entries il blob = length-each_below il (λ i. entry_of (index_entry il blob i) (section_of il blob))

pub slice_get-entries : (il : ℕ) (blob : List ℕ) (i : ℕ) → i < il → slice_get (entries il blob) i ≡ Some (entry_of (index_entry il blob i) (section_of il blob))
unfolding entries
slice_get-entries il blob i h = slice_get-each_below il (λ k. entry_of (index_entry il blob k) (section_of il blob)) i h

-- the tag of an entry is the first number of its index entry
pub tag-entries : (il : ℕ) (blob : List ℕ) (i : ℕ) → i < il → slice_get (map (λ e. e.tag) (entries il blob)) i ≡ Some (number_at w32 blob (8 + 16 * i))
unfolding entry_of
tag-entries il blob i h = slice_get-map (λ e. e.tag) (entries il blob) i ∙ ap (option_map (λ e. e.tag)) (slice_get-entries il blob i h)

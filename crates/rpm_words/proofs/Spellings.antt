-- A search through the spellings of options.
use Rattle.std.proofs.Common.{◌≡◌, ℕ, ◌+◌, ◌≤◌, ◌<◌, List, [], ◌∷◌, length, get_or, drop, true, false, Bool, cond, nat_lt, Option, Some, None, IsSome, arith, refl, sym, ap, ◌∙◌}
use Rattle.rpm_words.proofs.Vocabulary.{as_spellings, bytes_eq, list_all, Spelling, Switch, switch_in}
use Rattle.std.proofs.lemmas.Bool.{and_parts, ltb-true}
use Rattle.std.proofs.lemmas.List.{at_drop_more, at_drop_all}
use Rattle.std.proofs.lemmas.Slice.Eq.{bytes_eq-Decides}

pub at_end : (rows : List Spelling) (text : List ℕ) (i : ℕ) → length rows ≤ i → switch_in (as_spellings (drop i rows)) text ≡ None
unfolding switch_in
at_end rows text i le = at_drop_all (λ rs. switch_in (as_spellings rs) text) rows i le

step : (rows : List Spelling) (text : List ℕ) (i : ℕ) (d : Spelling) → i < length rows
    → switch_in (as_spellings (drop i rows)) text ≡ cond (bytes_eq text (get_or rows i d).0.now) (Some (get_or rows i d).1)
    (switch_in (as_spellings (drop (i + 1) rows)) text)
unfolding switch_in
step rows text i d lt = at_drop_more (λ rs. switch_in (as_spellings rs) text) rows i d lt

pub found : (rows : List Spelling) (text : List ℕ) (i : ℕ) (d : Spelling) (r : Option Switch) → i < length rows
    → true ≡ bytes_eq text (get_or rows i d).0.now → switch_in (as_spellings (drop i rows)) text ≡ r → Some (get_or rows i d).1 ≡ r
found rows text i d r lt same e = sym (step rows text i d lt ∙ rw (← same) refl) ∙ e

pub passed : (rows : List Spelling) (text : List ℕ) (i : ℕ) (d : Spelling) (r : Option Switch) → i < length rows
    → false ≡ bytes_eq text (get_or rows i d).0.now → switch_in (as_spellings (drop i rows)) text ≡ r → switch_in (as_spellings (drop (i + 1) rows)) text ≡ r
passed rows text i d r lt other e = sym (step rows text i d lt ∙ rw (← other) refl) ∙ e

-- a text that is one of short spellings is short

abbrev pub is_short : List ℕ × Switch → Bool
is_short row = nat_lt (length row.0) 17

short_as : (text name : List ℕ) → bytes_eq text name ≡ true → nat_lt (length name) 17 ≡ true → length text ≤ 16
short_as text name same short =
    let one = ap length ((bytes_eq-Decides text name).0 same) in
    let below = ltb-true (length name) 17 short in
    omega (arith, one, below)

pub found_is_short : (rows : List (List ℕ × Switch)) (text : List ℕ) → list_all is_short rows ≡ true → IsSome (switch_in rows text) → length text ≤ 16
unfolding switch_in
found_is_short [] text all some = grind (arith, some)
found_is_short (row ∷ rows) text all some =
    by_test (bytes_eq text row.0) refl (and_parts (is_short row) (list_all is_short rows) all) (found_is_short rows text) some
  where
    by_test : (b : Bool) → bytes_eq text row.0 ≡ b → (is_short row ≡ true) × (list_all is_short rows ≡ true)
        → (list_all is_short rows ≡ true → IsSome (switch_in rows text) → length text ≤ 16)
        → IsSome (cond b (Some row.1) (switch_in rows text)) → length text ≤ 16
    by_test true same parts later some = short_as text row.0 same parts.0
    by_test false other parts later some = later parts.1 some

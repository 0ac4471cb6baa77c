-- The paths of files.
use Rattle.std.proofs.Common.{◌≡◌, ℕ, zero, suc, ◌+◌, ◌<◌, ◌≤◌, List, [], ◌∷◌, ◌++◌, length, drop, Bool, true, false, ◌&&◌, Some, refl, ap, subst, ◌∙◌, arith, nat_lt}
use Rattle.std.specs.Prelude.{slice_get, ◌==◌, All}
use Rattle.rpm_tags.proofs.Vocabulary.{are_matched, AreLeft, file_name, file_names, list_all, option_map, zip}
use Rattle.std.proofs.lemmas.Option.{slice_get-map}
use Rattle.std.proofs.lemmas.Bool.{ltb-true, eqb-true, eq-eqb}
use Rattle.std.proofs.lemmas.List.Elements.{All-head, All-rest}
use Rattle.std.proofs.lemmas.List.{length-map, at_drop_all}

-- ---- the indexes, one by one

drop_at : (xs : List ℕ) (i j n : ℕ) → j ≡ i + 1 → slice_get xs i ≡ Some n → drop i xs ≡ n ∷ drop j xs
drop_at [] i j n next at = absurd cc
drop_at (x ∷ xs) zero j n next at =
    let is : x ≡ n = cc in
    rw (next, is) refl
drop_at (x ∷ xs) (suc i) j n next at =
    let step : j ≡ suc (i + 1) = omega arith in
    rw step (drop_at xs i (i + 1) n refl at)

pub one_below : (limit : ℕ) (xs : List ℕ) (i j n : ℕ) → j ≡ i + 1 → slice_get xs i ≡ Some n → nat_lt n limit ≡ true
    → list_all (λ k. nat_lt k limit) (drop i xs) ≡ list_all (λ k. nat_lt k limit) (drop j xs)
one_below limit xs i j n next at below = rw (drop_at xs i j n next at, below) refl

pub one_above : (limit : ℕ) (xs : List ℕ) (i n : ℕ) → slice_get xs i ≡ Some n → nat_lt n limit ≡ false → list_all (λ k. nat_lt k limit) (drop i xs) ≡ false
one_above limit xs i n at above = rw (drop_at xs i (i + 1) n refl at, above) refl

pub and_first : (a b : Bool) → (a && b) ≡ true → a ≡ true
and_first true b both = refl
and_first false b both = absurd cc

pub and_second : (a b : Bool) → (a && b) ≡ true → b ≡ true
and_second true b both = both
and_second false b both = absurd cc

below_at : (limit : ℕ) (xs : List ℕ) (i n : ℕ) → list_all (λ k. nat_lt k limit) xs ≡ true → slice_get xs i ≡ Some n → nat_lt n limit ≡ true
below_at limit [] i n all at = absurd cc
below_at limit (x ∷ xs) zero n all at =
    let is : x ≡ n = cc in
    rw (← is) (and_first (nat_lt x limit) (list_all (λ k. nat_lt k limit) xs) all)
below_at limit (x ∷ xs) (suc i) n all at = below_at limit xs i n (and_second (nat_lt x limit) (list_all (λ k. nat_lt k limit) xs) all) at

pub none_left : (limit : ℕ) (xs : List ℕ) (i : ℕ) → length xs ≤ i → list_all (λ k. nat_lt k limit) (drop i xs) ≡ true
none_left limit xs i le = at_drop_all (λ rest. list_all (λ k. nat_lt k limit) rest) xs i le

-- ---- an index for each file, and a directory for each index

pub same_length : (dirs : List (List ℕ)) (indexes : List ℕ) (bases : List (List ℕ)) → are_matched dirs indexes bases ≡ true → length bases ≡ length indexes
same_length dirs indexes bases matched = eqb-true (length bases) (length indexes) (and_first _ (list_all (λ k. nat_lt k (length dirs)) indexes) matched)

pub index_below : (dirs : List (List ℕ)) (indexes : List ℕ) (bases : List (List ℕ)) (i n : ℕ) → are_matched dirs indexes bases ≡ true
    → slice_get indexes i ≡ Some n → n < length dirs
index_below dirs indexes bases i n matched at =
    ltb-true n (length dirs) (below_at (length dirs) indexes i n (and_second (length bases == length indexes) _ matched) at)

-- ---- the paths

length_zip : (xs : List ℕ) (ys : List (List ℕ)) → length ys ≡ length xs → length (zip xs ys) ≡ length ys
length_zip [] [] same = refl
length_zip [] (y ∷ ys) same = absurd cc
length_zip (x ∷ xs) [] same = absurd cc
length_zip (x ∷ xs) (y ∷ ys) same = ap suc (length_zip xs ys (omega arith))

pub length_files : (dirs : List (List ℕ)) (indexes : List ℕ) (bases : List (List ℕ)) → are_matched dirs indexes bases ≡ true
    → length (file_names dirs indexes bases) ≡ length bases
unfolding file_names
length_files dirs indexes bases matched = length-map (zip indexes bases) (file_name dirs) ∙ length_zip indexes bases (same_length dirs indexes bases matched)

zip_at : (xs : List ℕ) (ys : List (List ℕ)) (i n : ℕ) (y : List ℕ) → slice_get xs i ≡ Some n → slice_get ys i ≡ Some y → slice_get (zip xs ys) i ≡ Some (n, y)
zip_at [] ys i n y x-at y-at = absurd cc
zip_at (x ∷ xs) [] i n y x-at y-at = absurd cc
zip_at (x ∷ xs) (z ∷ ys) zero n y x-at y-at =
    let left : x ≡ n = cc in
    let right : z ≡ y = cc in
    rw (left, right) refl
zip_at (x ∷ xs) (z ∷ ys) (suc i) n y x-at y-at = zip_at xs ys i n y x-at y-at

pub path_at : (dirs : List (List ℕ)) (indexes : List ℕ) (bases : List (List ℕ)) (i n : ℕ) (base : List ℕ) → slice_get indexes i ≡ Some n
    → slice_get bases i ≡ Some base → slice_get (file_names dirs indexes bases) i ≡ Some (file_name dirs (n, base))
unfolding file_names
path_at dirs indexes bases i n base index-at base-at =
    slice_get-map (file_name dirs) (zip indexes bases) i ∙ ap (option_map (file_name dirs)) (zip_at indexes bases i n base index-at base-at)

-- ---- the paths that are left

abbrev IsShort : List ℕ → Type 0
IsShort text = length text ≤ 67108864

matched_by : (dirs : List (List ℕ)) (indexes : List ℕ) (bases : List (List ℕ)) → length bases ≡ length indexes
    → list_all (λ k. nat_lt k (length dirs)) indexes ≡ true → are_matched dirs indexes bases ≡ true
matched_by dirs indexes bases same below = rw (eq-eqb (length bases) (length indexes) same, below) refl

matched_more : (dirs : List (List ℕ)) (n : ℕ) (indexes : List ℕ) (b : List ℕ) (bases : List (List ℕ)) → are_matched dirs (n ∷ indexes) (b ∷ bases) ≡ true
    → are_matched dirs indexes bases ≡ true
matched_more dirs n indexes b bases matched =
    let same : length (b ∷ bases) ≡ length (n ∷ indexes) = same_length dirs (n ∷ indexes) (b ∷ bases) matched in
    let all : list_all (λ k. nat_lt k (length dirs)) (n ∷ indexes) ≡ true = and_second (length (b ∷ bases) == length (n ∷ indexes)) _ matched in
    matched_by dirs indexes bases (omega arith) (and_second (nat_lt n (length dirs)) _ all)

pub next_index : (dirs : List (List ℕ)) (indexes : List ℕ) (bases : List (List ℕ)) (place n : ℕ) → AreLeft dirs indexes bases place
    → slice_get indexes place ≡ Some n → n < length dirs
next_index dirs indexes bases place n left at =
    let first : slice_get (drop place indexes) 0 ≡ Some n = rw (drop_at indexes place (place + 1) n refl at) refl in
    index_below dirs (drop place indexes) bases 0 n left.matched first

pub next_short : (dirs : List (List ℕ)) (indexes : List ℕ) (bases : List (List ℕ)) (place : ℕ) (b : List ℕ) (bs : List (List ℕ))
    → AreLeft dirs indexes bases place → bases ≡ b ∷ bs → length b ≤ 67108864
next_short dirs indexes bases place b bs left more =
    All-head IsShort b bs (subst (All IsShort) more left.short)

pub next_left : (dirs : List (List ℕ)) (indexes : List ℕ) (bases : List (List ℕ)) (place n : ℕ) (b : List ℕ) (bs : List (List ℕ))
    → AreLeft dirs indexes bases place → bases ≡ b ∷ bs → slice_get indexes place ≡ Some n → AreLeft dirs indexes bs (place + 1)
next_left dirs indexes bases place n b bs left more at =
    let split : drop place indexes ≡ n ∷ drop (place + 1) indexes = drop_at indexes place (place + 1) n refl at in
    let matched : are_matched dirs (n ∷ drop (place + 1) indexes) (b ∷ bs) ≡ true =
    subst (λ (xs : List ℕ). are_matched dirs xs (b ∷ bs) ≡ true) split
    (subst (λ (ys : List (List ℕ)). are_matched dirs (drop place indexes) ys ≡ true) more left.matched) in
    let long : length bases ≡ suc (length bs) = ap length more in
    record {
      matched = matched_more dirs n (drop (place + 1) indexes) b bs matched;
      few = left.few;
      whole = omega (arith, left.whole);
      short = All-rest IsShort b bs bases more left.short;
    }

pub next_path : (dirs : List (List ℕ)) (indexes : List ℕ) (bases : List (List ℕ)) (place n : ℕ) (b : List ℕ) (bs : List (List ℕ)) → bases ≡ b ∷ bs
    → slice_get indexes place ≡ Some n → file_names dirs (drop place indexes) bases ≡ file_name dirs (n, b) ∷ file_names dirs (drop (place + 1) indexes) bs
unfolding file_names
next_path dirs indexes bases place n b bs more at = rw (drop_at indexes place (place + 1) n refl at, more) refl

zip_none : (xs : List ℕ) → zip {X = List ℕ} xs [] ≡ []
zip_none [] = refl
zip_none (x ∷ xs) = refl

pub no_paths : (dirs : List (List ℕ)) (indexes : List ℕ) (bases : List (List ℕ)) → bases ≡ [] → file_names dirs indexes bases ≡ []
unfolding file_names
no_paths dirs indexes bases none = rw (none, zip_none indexes) refl

pub next_path_in : (dirs : List (List ℕ)) (indexes : List ℕ) (bases : List (List ℕ)) (place n : ℕ) (dir b : List ℕ) (bs : List (List ℕ)) → bases ≡ b ∷ bs
    → slice_get indexes place ≡ Some n → slice_get dirs n ≡ Some dir
    → file_names dirs (drop place indexes) bases ≡ (dir ++ b) ∷ file_names dirs (drop (place + 1) indexes) bs
unfolding file_names
next_path_in dirs indexes bases place n dir b bs more at dir-at = rw (drop_at indexes place (place + 1) n refl at, more, dir-at) refl

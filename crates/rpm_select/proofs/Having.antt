-- Numbers that have rows of a key: of hits, of all packages, of one package.
use Rattle.std.proofs.Common.{◌≡◌, ℕ, ◌+◌, ◌<◌, ◌&&◌, ◌||◌, ◌==◌, List, [], ◌∷◌, map, length, Bool, true, false, Option, Some, None, Result, Ok, Err, refl, sym, ap, ◌∙◌, subst}
use Rattle.std.specs.Prelude.{zip}
use Rattle.rpm_select.proofs.Vocabulary.{AreHits, AreWith, Bad, bytes_eq, code_of, flat_map, Good, has_header_key, has_key_in, has_row, Header, header, header_rows}
use Rattle.rpm_select.proofs.Vocabulary.{HeaderFault, Hit, is_text_among, is_candidate, is_in, is_row_of, key_list, key_row, keys, keys_asked, Kind, kind_rows}
use Rattle.rpm_select.proofs.Vocabulary.{kinds, list_any, nat_cmp, Package, range_with_len, Row, row_of_hit, rows, rows_at, rows_read, Selection, times-rows}
use Rattle.std.specs.FinMap as finite
use Rattle.std.proofs.lemmas.Bool.{eq-eqb}
use Rattle.std.proofs.lemmas.List.Folds.{list_any-append}
use Rattle.rpm_tags.specs.declared.kind.Kind.TheVariants as kind
use Rattle.rpm_select.proofs.Hits.{found_hit, found_times, hit, hit_found, row, times_found}

pub same_truth : (a b : Bool) → (a ≡ true → b ≡ true) → (b ≡ true → a ≡ true) → a ≡ b
same_truth true b there back = sym (there refl)
same_truth false true there back = back refl
same_truth false false there back = refl

-- ---- of hits

-- the numbers of the hits of a key are those that have its rows
pub hits_have : (k : Kind) (key : List ℕ) (rs : List Row) (hits : List Hit) (n : ℕ) → AreHits (code_of k) key rs hits
    → is_in n (map (λ hit. hit.number) hits) ≡ has_row rs n (k, key)
hits_have k key rs hits n are =
    same_truth (is_in n (map (λ hit. hit.number) hits)) (has_row rs n (k, key))
    (λ is.
    let at = found_hit n hits is in
    times_found (row_of_hit (code_of k) key (hit n at.0)) rs (subst (λ (i : ℕ). 0 < i) (are.each (hit n at.0)) at.1))
    (λ is.
    let at = found_times (code_of k) key n rs is in
    hit_found (hit n at.0) hits (subst (λ (i : ℕ). 0 < i) (sym (are.each (hit n at.0))) at.1))

-- ---- of all packages

-- a number has a row exactly where its package has it
pub rows_have : (packages : finite.FinMap nat_cmp Package) (n : ℕ) (k : Kind) (key : List ℕ)
    → has_row (rows packages) n (k, key) ≡ has_row (rows_at n (finite.get packages n)) n (k, key)
rows_have packages n k key =
    same_truth (has_row (rows packages) n (k, key)) (has_row (rows_at n (finite.get packages n)) n (k, key))
    (λ is.
    let at = found_times (code_of k) key n (rows packages) is in
    times_found (row (code_of k) key n at.0) (rows_at n (finite.get packages n))
    (subst (λ (i : ℕ). 0 < i) (times-rows (row (code_of k) key n at.0) packages) at.1))
    (λ is.
    let at = found_times (code_of k) key n (rows_at n (finite.get packages n)) is in
    times_found (row (code_of k) key n at.0) (rows packages)
    (subst (λ (i : ℕ). 0 < i) (sym (times-rows (row (code_of k) key n at.0) packages)) at.1))

-- ---- of one package

any_flat : {X Y : Type 0} (p : Y → Bool) (f : X → List Y) (xs : List X) → list_any p (flat_map f xs) ≡ list_any (λ x. list_any p (f x)) xs
any_flat p f [] = refl
any_flat p f (x ∷ xs) = list_any-append p (f x) (flat_map f xs) ∙ ap (λ (b : Bool). list_any p (f x) || b) (any_flat p f xs)

any_same : {X : Type 0} (p q : X → Bool) → ((x : X) → p x ≡ q x) → (xs : List X) → list_any p xs ≡ list_any q xs
any_same p q same [] = refl
any_same p q same (x ∷ xs) = ap (λ (b : Bool). b || list_any p xs) (same x) ∙ ap (λ (b : Bool). q x || b) (any_same p q same xs)

or_no : (b : Bool) → (b || false) ≡ b
or_no true = refl
or_no false = refl

spread : (b x y : Bool) → ((b && (x && true)) || (b && y)) ≡ (b && (x || y))
spread true true y = refl
spread true false y = refl
spread false x y = refl

none_of : (b : Bool) → false ≡ (b && false)
none_of true = refl
none_of false = refl

-- the rows of a kind's keys, with their places
kind_has : (c : ℕ) (k : Kind) (key : List ℕ) (n : ℕ) (xs : List (List ℕ)) (from : ℕ) (b : Bool) → (c == code_of k) ≡ b
    → list_any (is_row_of c key n) (map (key_row n k) (zip xs (range_with_len from (length xs)))) ≡ (b && is_text_among key xs)
kind_has c k key n [] from b is = none_of b
kind_has c k key n (x ∷ xs) from b is =
    let own : (n == n) ≡ true = eq-eqb n n refl in
    let rest = kind_has c k key n xs (from + 1) b is in
    rw (is, own, rest) (spread b (bytes_eq key x) (is_text_among key xs))

own_kind : (k : Kind) (h : Header) (key : List ℕ)
    → list_any (λ other. (code_of k == code_of other) && is_text_among key (key_list other h)) kinds ≡ is_text_among key (key_list k h)
own_kind kind.Name h key = or_no _
own_kind kind.Basenames h key = or_no _
own_kind kind.Group h key = or_no _
own_kind kind.Providename h key = or_no _
own_kind kind.Requirename h key = or_no _
own_kind kind.Conflictname h key = or_no _
own_kind kind.Obsoletename h key = or_no _
own_kind kind.Triggername h key = or_no _
own_kind kind.Dirnames h key = or_no _
own_kind kind.Installtid h key = or_no _
own_kind kind.Recommendname h key = or_no _

none_asked : (n : ℕ) (keys : List (Kind × List ℕ)) → list_any (has_row [] n) keys ≡ false
none_asked n [] = refl
none_asked n (key ∷ keys) = none_asked n keys

-- a header has rows of a key exactly where the key is among its keys
header_has : (h : Header) (n : ℕ) (k : Kind) (key : List ℕ) → has_row (header_rows n h) n (k, key) ≡ has_header_key h (k, key)
unfolding header_rows
header_has h n k key =
    any_flat (is_row_of (code_of k) key n) (kind_rows n h) kinds
    ∙ any_same (λ other. list_any (is_row_of (code_of k) key n) (kind_rows n h other))
    (λ other. (code_of k == code_of other) && is_text_among key (key_list other h))
    (λ other. kind_has (code_of k) other key n (key_list other h) 0 (code_of k == code_of other) refl) kinds
    ∙ own_kind k h key

read_has : (sel : Selection) (r : Result Header HeaderFault) (n : ℕ) → list_any (has_row (rows_read n r) n) (keys_asked sel) ≡ has_key_in sel r
read_has sel (Ok h) n = any_same (has_row (header_rows n h) n) (has_header_key h) (λ key. header_has h n key.0 key.1) (keys_asked sel)
read_has sel (Err fault) n = none_asked n (keys_asked sel)

-- a candidate, by its number
abbrev pub is_candidate_at : Selection → ℕ → Option Package → Bool
is_candidate_at sel n None = false
is_candidate_at sel n (Some p) = is_candidate sel (n, p)

package_has : (sel : Selection) (n : ℕ) (o : Option Package) → list_any (has_row (rows_at n o) n) (keys_asked sel) ≡ is_candidate_at sel n o
package_has sel n None = none_asked n (keys_asked sel)
package_has sel n (Some (Good bytes)) = read_has sel (header bytes) n
package_has sel n (Some Bad) = none_asked n (keys_asked sel)

-- the numbers that have rows of the keys asked are those of the candidates
pub with_candidates : (packages : finite.FinMap nat_cmp Package) (sel : Selection) (ns : List ℕ) → AreWith (rows packages) (keys_asked sel) ns
    → (n : ℕ) → is_in n ns ≡ is_candidate_at sel n (finite.get packages n)
with_candidates packages sel ns with n =
    with n
    ∙ any_same (has_row (rows packages) n) (has_row (rows_at n (finite.get packages n)) n) (λ key. rows_have packages n key.0 key.1) (keys_asked sel)
    ∙ package_has sel n (finite.get packages n)

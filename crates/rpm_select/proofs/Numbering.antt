-- The numbers of hits, one by one.
use Rattle.std.proofs.Common.{◌≡◌, ℕ, ◌+◌, ◌<◌, ◌≤◌, ◌||◌, ◌==◌, List, [], ◌∷◌, ◌++◌, map, take, length, Bool, sym, ap, ◌∙◌, append_assoc}
use Rattle.std.proofs.lemmas.List.{take_more, take_all, map-append}
use Rattle.std.proofs.lemmas.List.Folds.{list_any-append}
use Rattle.rpm_select.proofs.Vocabulary.{NumbersOfKey, AreHits, code_of, Hit, hit_at, is_in, Kind, Row}
use Rattle.rpm_select.proofs.Having.{hits_have}

pub number_more : (ns : List ℕ) (hits : List Hit) (i j : ℕ) → j ≡ i + 1 → i < length hits
    → (ns ++ map (λ hit. hit.number) (take i hits)) ++ (hit_at hits i).number ∷ [] ≡ ns ++ map (λ hit. hit.number) (take j hits)
number_more ns hits i j next within =
    let h = hit_at hits i in
    let more : take j hits ≡ take i hits ++ h ∷ [] = ap (λ (k : ℕ). take k hits) next ∙ take_more hits i (record { number = 0; place = 0 }) within in
    append_assoc ns (map (λ hit. hit.number) (take i hits)) (h.number ∷ [])
    ∙ ap (λ (xs : List ℕ). ns ++ xs) (sym (ap (map (λ hit. hit.number)) more ∙ map-append (λ hit. hit.number) (take i hits) (h ∷ [])))

pub all_numbers : (ns : List ℕ) (hits : List Hit) (i : ℕ) → length hits ≤ i
    → ns ++ map (λ hit. hit.number) (take i hits) ≡ ns ++ map (λ hit. hit.number) hits
all_numbers ns hits i end = ap (λ (xs : List Hit). ns ++ map (λ hit. hit.number) xs) (take_all i hits end)

-- numbers to which the hits of a key come
pub hits_add : (k : Kind) (key : List ℕ) (rs : List Row) (hits : List Hit) (old new : List ℕ) → new ≡ old ++ map (λ hit. hit.number) hits
    → AreHits (code_of k) key rs hits → NumbersOfKey rs (k, key) old new
hits_add k key rs hits old new is are n =
    ap (is_in n) is ∙ list_any-append (λ m. m == n) old (map (λ hit. hit.number) hits) ∙ ap (λ (b : Bool). is_in n old || b) (hits_have k key rs hits n are)

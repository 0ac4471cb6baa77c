-- The pieces of a pattern, one by one.
use Rattle.std.proofs.Common.{◌≡◌, ℕ, zero, suc, ◌-◌, ◌<◌, List, [], ◌∷◌, length, drop, get_or, refl, sym, ap, ◌∙◌, arith}
use Rattle.rpm_select.proofs.Vocabulary.{Piece, piece_at, pieces, pieces_behind}

behind_is : (n : ℕ) (xs : List ℕ) → pieces_behind n xs ≡ pieces_behind 0 (drop n xs)
unfolding pieces_behind
behind_is zero xs = refl
behind_is (suc n) [] = refl
behind_is (suc n) (x ∷ xs) = behind_is n xs

pub none_cut : (xs : List ℕ) → length xs ≡ 0 → pieces xs ≡ []
unfolding pieces_behind
none_cut [] none = refl
none_cut (x ∷ xs) none = absurd (omega arith)

pub one_cut : (xs : List ℕ) (w : Piece × ℕ) (d : ℕ) → 0 < length xs → w ≡ piece_at (get_or xs 0 d) (drop 1 xs) → 0 < w.1
    → pieces xs ≡ w.0 ∷ pieces (drop w.1 xs)
unfolding pieces_behind
one_cut [] w d some is more = absurd (omega arith)
one_cut (x ∷ xs) w d some is more =
    let step : suc (w.1 - 1) ≡ w.1 = omega arith in
    let rest : pieces_behind (w.1 - 1) xs ≡ pieces_behind 0 (drop w.1 (x ∷ xs)) =
    behind_is (w.1 - 1) xs ∙ ap (λ (n : ℕ). pieces_behind 0 (drop n (x ∷ xs))) step in
    ap (λ (v : Piece × ℕ). v.0 ∷ pieces_behind (v.1 - 1) xs) (sym is) ∙ ap (λ (ps : List Piece). w.0 ∷ ps) rest

-- What a move leaves is no longer than the text.
use Rattle.std.proofs.Common.{◌≡◌, ℕ, ◌<◌, ◌≤◌, List, [], ◌∷◌, length, drop, Bool, true, false, cond, Ok, Err, refl, arith, ◌==◌, nat_le, if◌then◌else◌}
use Rattle.rpm_qfparse.proofs.Vocabulary.{asked_tag, Asks, asks_tag, at_end, begins, Context, Ends, escaped_move, is_bracket, is_branch, Literal, Move, move_of}
use Rattle.rpm_qfparse.proofs.Vocabulary.{NestedBracket, Opens, percent, Reading, Shows, shows, Stops, Tag, tag_part, TagPart, TooDeep, UnexpectedBrace}
use Rattle.rpm_qfparse.proofs.Vocabulary.{UnexpectedBracket}
use Rattle.rpm_qfparse.specs.declared.moves.Context.TheVariants as context
use Rattle.rpm_qfparse.specs.Moves.{condition}
use Rattle.rpm_qfparse.proofs.Shrinks.{asked_within, tag_part_within}
use Rattle.rpm_qfparse.proofs.Within.{Within, drop_within}

-- what a move leaves is no longer than the text, and shorter where the context goes on
abbrev pub Smaller : ℕ → Move → Type 0
Smaller n (Ends r) = length r ≤ n
Smaller n (Stops e) = length e.1 ≤ n
Smaller n (Literal b t) = length t < n
Smaller n (Shows p t) = length t < n
Smaller n (Opens t) = length t < n
Smaller n (Asks q t) = length t < n

pub smaller_if : (n : ℕ) (v : Bool) (x y : Move) → (v ≡ true → Smaller n x) → Smaller n y → Smaller n (cond v x y)
smaller_if n true x y h g = h refl
smaller_if n false x y h g = g

shows_smaller : (m n : ℕ) (x : Reading TagPart) → m < n → Within m x → Smaller n (shows x)
shows_smaller m n (Ok a) lt h = omega arith
shows_smaller m n (Err e) lt h = omega arith

asks_smaller : (m n : ℕ) (x : Reading Tag) → m < n → Within m x → Smaller n (asks_tag x)
asks_smaller m n (Ok a) lt h = omega arith
asks_smaller m n (Err e) lt h = omega arith

pub condition_smaller : (depth : ℕ) (here s : List ℕ) → length s < length here → Smaller (length here) (asks_tag (condition depth here s))
unfolding condition
condition_smaller depth here s lt =
    elim (nat_le 16 depth) as (λ v. Smaller (length here) (asks_tag (cond v (Err (TooDeep, here)) (asked_tag s))))
    [ true ↦ omega arith | false ↦ asks_smaller (length s) (length here) (asked_tag s) lt (asked_within s) ]

percent_smaller : (depth : ℕ) (here s : List ℕ) → length s < length here → Smaller (length here) (percent depth here s)
percent_smaller depth here s lt =
    smaller_if (length here) (begins 37 s) (Literal 37 (drop 1 s)) _ (λ _. omega (arith, drop_within 1 s))
    (smaller_if (length here) (begins 124 s) (asks_tag (condition depth here (drop 1 s))) _
    (λ _. condition_smaller depth here (drop 1 s) (omega (arith, drop_within 1 s)))
    (shows_smaller (length s) (length here) (tag_part s) lt (tag_part_within s)))

end_smaller : (c : Context) → Smaller 0 (at_end c)
end_smaller context.Top = omega arith
end_smaller context.Bracket = omega arith
end_smaller context.Branch = omega arith

escaped_smaller : (b : ℕ) (s : List ℕ) → Smaller (length (b ∷ s)) (escaped_move s)
escaped_smaller b [] = omega arith
escaped_smaller b (x ∷ s) = omega arith

pub move_smaller : (c : Context) (ib : Bool) (d : ℕ) (s : List ℕ) → Smaller (length s) (move_of c ib d s)
unfolding move_of
move_smaller c ib d [] = end_smaller c
move_smaller c ib d (b ∷ s) =
    let n : ℕ = length (b ∷ s) in
    smaller_if (length (b ∷ s)) (b == 92) (escaped_move s) _ (λ _. escaped_smaller b s)
    (smaller_if (length (b ∷ s)) (b == 91) (if ib then Stops (NestedBracket, b ∷ s) else Opens s) _
    (λ _. smaller_if (length (b ∷ s)) ib (Stops (NestedBracket, b ∷ s)) (Opens s) (λ _. omega arith) (omega arith))
    (smaller_if (length (b ∷ s)) (b == 93) (if is_bracket c then Ends s else Stops (UnexpectedBracket, b ∷ s)) _
    (λ _. smaller_if (length (b ∷ s)) (is_bracket c) (Ends s) (Stops (UnexpectedBracket, b ∷ s)) (λ _. omega arith) (omega arith))
    (smaller_if (length (b ∷ s)) (b == 125) (if is_branch c then Ends s else Stops (UnexpectedBrace, b ∷ s)) _
    (λ _. smaller_if (length (b ∷ s)) (is_branch c) (Ends s) (Stops (UnexpectedBrace, b ∷ s)) (λ _. omega arith) (omega arith))
    (smaller_if (length (b ∷ s)) (b == 37) (percent d (b ∷ s) s) (Literal b s)
    (λ _. percent_smaller d (b ∷ s) s (omega arith)) (omega arith)))))

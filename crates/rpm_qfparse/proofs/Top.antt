-- At the top a format is read to its end.
use Rattle.std.proofs.Common.{◌≡◌, ℕ, List, [], ◌∷◌, drop, Bool, true, false, cond, Ok, Err, refl, ◌==◌, if◌then◌else◌, subst}
use Rattle.rpm_qfparse.proofs.Vocabulary.{asks_tag, begins, behind_part, bracket, condition, Context, Ends, ends, escaped_move, Faulty, Gives, in_bracket}
use Rattle.rpm_qfparse.proofs.Vocabulary.{in_condition, Literal, literal, Move, move_of, NestedBracket, Opens, percent, Reading}
use Rattle.rpm_qfparse.proofs.Vocabulary.{shows, Stops, stops, Tag, tag, tag_part, TagPart, Tree, UnexpectedBrace, UnexpectedBracket}
use Rattle.rpm_qfparse.specs.declared.moves.Context.TheVariants as context
use Rattle.rpm_qfparse.specs.Moves as moves

-- a move that doesn't end its context but at the end of the text
abbrev GoesOn : Move → Type 0
GoesOn (Ends r) = r ≡ []
GoesOn _ = Unit {0}

if_on : (v : Bool) (x y : Move) → GoesOn x → GoesOn y → GoesOn (cond v x y)
if_on true x y h g = h
if_on false x y h g = g

shows_on : (x : Reading TagPart) → GoesOn (shows x)
shows_on (Ok x) = tt
shows_on (Err e) = tt

asks_on : (x : Reading Tag) → GoesOn (asks_tag x)
asks_on (Ok x) = tt
asks_on (Err e) = tt

escaped_on : (s : List ℕ) → GoesOn (escaped_move s)
escaped_on [] = tt
escaped_on (b ∷ s) = tt

move_on : (ib : Bool) (d : ℕ) (s : List ℕ) → GoesOn (move_of context.Top ib d s)
unfolding move_of
move_on ib d [] = refl
move_on ib d (b ∷ s) =
    if_on (b == 92) (escaped_move s) _ (escaped_on s)
    (if_on (b == 91) (if ib then Stops (NestedBracket, b ∷ s) else Opens s) _ (if_on ib (Stops (NestedBracket, b ∷ s)) (Opens s) tt tt)
    (if_on (b == 93) (Stops (UnexpectedBracket, b ∷ s)) _ tt
    (if_on (b == 125) (Stops (UnexpectedBrace, b ∷ s)) _ tt
    (if_on (b == 37) (percent d (b ∷ s) s) (Literal b s)
    (if_on (begins 37 s) (Literal 37 (drop 1 s)) _ tt (if_on (begins 124 s) (asks_tag (moves.condition d (b ∷ s) (drop 1 s))) _ (asks_on _)
    (shows_on (tag_part s)))) tt))))

-- nothing is left of what is read at the top
abbrev pub IsWhole : Reading Tree → Type 0
IsWhole (Ok x) = x.1 ≡ []
IsWhole (Err e) = Unit {0}

behind_whole : (f : Tree → Tree) (a : Reading Tree) → IsWhole a → IsWhole (behind_part f a)
behind_whole f (Ok x) h = h
behind_whole f (Err e) h = tt

end_at : (ib : Bool) (d : ℕ) (s r : List ℕ) → move_of context.Top ib d s ≡ Ends r → r ≡ []
end_at ib d s r e = subst GoesOn e (move_on ib d s)

abbrev AtTop : Context → Reading Tree → Type 0
AtTop context.Top a = IsWhole a
AtTop _ a = Unit {0}

behind_top : (c : Context) (f : Tree → Tree) (a : Reading Tree) → AtTop c a → AtTop c (behind_part f a)
behind_top context.Top f a h = behind_whole f a h
behind_top context.Bracket f a h = tt
behind_top context.Branch f a h = tt

fault_top : (c : Context) (e : Faulty) → AtTop c (Err e)
fault_top context.Top e = tt
fault_top context.Bracket e = tt
fault_top context.Branch e = tt

ends_top : (c : Context) (ib : Bool) (d : ℕ) (s r : List ℕ) (t : Tree) → move_of c ib d s ≡ Ends r → AtTop c (Ok (t, r))
ends_top context.Top ib d s r t e = end_at ib d s r e
ends_top context.Bracket ib d s r t e = tt
ends_top context.Branch ib d s r t e = tt

pub whole : {c : Context} {ib : Bool} {d : ℕ} {s : List ℕ} {a : Reading Tree} → Gives c ib d s a → AtTop c a
whole (ends {c = c} {ib = ib} {d = d} {s = s} {r = r} e) = ends_top c ib d s r _ e
whole (stops {c = c} {e = x} e) = fault_top c x
whole (literal {c = c} {a = a} e g) = behind_top c _ a (whole g)
whole (tag {c = c} {a = a} e g) = behind_top c _ a (whole g)
whole (bracket {c = c} {a = a} e g h) = behind_top c _ a (whole h)
whole (in_bracket {c = c} {e = x} e g) = fault_top c x
whole (condition {c = c} {a = a} e g h) = behind_top c _ a (whole h)
whole (in_condition {c = c} {e = x} e g) = fault_top c x

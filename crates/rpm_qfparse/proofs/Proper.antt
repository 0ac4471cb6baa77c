-- What each tree that is read has, and that no fault is want of memory.
use Rattle.std.proofs.Common.{◌≡◌, ℕ, ◌+◌, ◌<◌, ◌≤◌, List, [], ◌∷◌, drop, Bool, true, false, cond, Result, Ok, Err, refl, arith, subst, nat_le, leb-false, ◌==◌, if◌then◌else◌}
use Rattle.rpm_qfparse.proofs.Vocabulary.{asked_tag, Asks, asks_tag, at_end, begins, behind_part, behind_second, between, Bracket, bracket, Branches, close, Condition}
use Rattle.rpm_qfparse.proofs.Vocabulary.{condition, Context, End, Ends, ends, escaped_move, Faulty, Gives, in_bracket, in_condition, in_first, in_second}
use Rattle.rpm_qfparse.proofs.Vocabulary.{is_bracket, is_branch, IsProper, Literal, literal, Move, move_of, NestedBracket, one, Opens, percent, Reading}
use Rattle.rpm_qfparse.proofs.Vocabulary.{second_follows, Shows, shows, Stops, stops, Tag, tag, tag_part, Tagged, TagPart, Text, TooDeep, Tree, two}
use Rattle.rpm_qfparse.proofs.Vocabulary.{UnexpectedBrace, UnexpectedBracket, with_byte}
use Rattle.rpm_qfparse.specs.declared.moves.Context.TheVariants as context
use Rattle.rpm_qfparse.specs.Moves as moves
use Rattle.rpm_qfparse.proofs.ProperTags.{Any, IsNarrowPart, IsOwn, Keeps, asked_keeps, close_keeps, second_keeps, tag_part_keeps}

-- ---- moves

abbrev Allowed : Bool → ℕ → Move → Type 0
Allowed ib d (Stops e) = IsOwn e
Allowed ib d (Shows p t) = p.width ≤ 4096
Allowed ib d (Opens t) = ib ≡ false
Allowed ib d (Asks q t) = d < 16
Allowed ib d _ = Unit {0}

allowed_if : (ib : Bool) (d : ℕ) (v : Bool) (x y : Move) → Allowed ib d x → Allowed ib d y → Allowed ib d (cond v x y)
allowed_if ib d true x y h g = h
allowed_if ib d false x y h g = g

shows_allowed : (ib : Bool) (d : ℕ) (x : Reading TagPart) → Keeps IsNarrowPart x → Allowed ib d (shows x)
shows_allowed ib d (Ok x) h = h
shows_allowed ib d (Err e) h = h

asks_allowed : (ib : Bool) (d : ℕ) (x : Reading Tag) → d < 16 → Keeps Any x → Allowed ib d (asks_tag x)
asks_allowed ib d (Ok x) lt h = lt
asks_allowed ib d (Err e) lt h = h

condition_by : (ib : Bool) (d : ℕ) (here s : List ℕ) (v : Bool) → nat_le 16 d ≡ v → Allowed ib d (asks_tag (cond v (Err (TooDeep, here)) (asked_tag s)))
condition_by ib d here s true e = λ p. absurd (cc)
condition_by ib d here s false e = asks_allowed ib d (asked_tag s) (leb-false _ _ e) (asked_keeps s)

condition_allowed : (ib : Bool) (d : ℕ) (here s : List ℕ) → Allowed ib d (asks_tag (moves.condition d here s))
unfolding moves.condition
condition_allowed ib d here s = condition_by ib d here s _ refl

percent_allowed : (ib : Bool) (d : ℕ) (here s : List ℕ) → Allowed ib d (percent d here s)
percent_allowed ib d here s =
    allowed_if ib d (begins 37 s) (Literal 37 (drop 1 s)) _ tt
    (allowed_if ib d (begins 124 s) (asks_tag (moves.condition d here (drop 1 s))) _ (condition_allowed ib d here (drop 1 s))
    (shows_allowed ib d (tag_part s) (tag_part_keeps s)))

end_allowed : (ib : Bool) (d : ℕ) (c : Context) → Allowed ib d (at_end c)
end_allowed ib d context.Top = tt
end_allowed ib d context.Bracket = λ p. absurd (cc)
end_allowed ib d context.Branch = λ p. absurd (cc)

escaped_allowed : (ib : Bool) (d : ℕ) (s : List ℕ) → Allowed ib d (escaped_move s)
escaped_allowed ib d [] = tt
escaped_allowed ib d (b ∷ s) = tt

opens_allowed : (d : ℕ) (here s : List ℕ) (ib : Bool) → Allowed ib d (if ib then Stops (NestedBracket, here) else Opens s)
opens_allowed d here s true = λ p. absurd (cc)
opens_allowed d here s false = refl

move_allowed : (c : Context) (ib : Bool) (d : ℕ) (s : List ℕ) → Allowed ib d (move_of c ib d s)
unfolding move_of
move_allowed c ib d [] = end_allowed ib d c
move_allowed c ib d (b ∷ s) =
    allowed_if ib d (b == 92) (escaped_move s) _ (escaped_allowed ib d s)
    (allowed_if ib d (b == 91) (if ib then Stops (NestedBracket, b ∷ s) else Opens s) _ (opens_allowed d (b ∷ s) s ib)
    (allowed_if ib d (b == 93) (if is_bracket c then Ends s else Stops (UnexpectedBracket, b ∷ s)) _ (allowed_if ib d (is_bracket c) (Ends s)
    (Stops (UnexpectedBracket, b ∷ s)) tt (λ p. absurd (cc)))
    (allowed_if ib d (b == 125) (if is_branch c then Ends s else Stops (UnexpectedBrace, b ∷ s)) _ (allowed_if ib d (is_branch c) (Ends s)
    (Stops (UnexpectedBrace, b ∷ s)) tt (λ p. absurd (cc)))
    (allowed_if ib d (b == 37) (percent d (b ∷ s) s) (Literal b s) (percent_allowed ib d (b ∷ s) s) tt))))

allowed : (c : Context) (ib : Bool) (d : ℕ) (s : List ℕ) (m : Move) → move_of c ib d s ≡ m → Allowed ib d m
allowed c ib d s m e = let P : Move → Type 0 = Allowed ib d in subst P e (move_allowed c ib d s)

second_fault : (s : List ℕ) (e : Faulty) → second_follows s ≡ Err e → IsOwn e
second_fault s e f = let P : Reading Bool → Type 0 = Keeps Any in subst P f (second_keeps s)

close_fault : (s : List ℕ) (e : Faulty) → close s ≡ Err e → IsOwn e
close_fault s e f = let P : Result (List ℕ) Faulty → Type 0 = Keeps Any in subst P f (close_keeps s)

-- ---- trees

abbrev pub IsProperReading : Bool → ℕ → Tree × List ℕ → Type 0
IsProperReading ib d x = IsProper ib d x.0

abbrev AreProper : Bool → ℕ → (Tree × Tree) × List ℕ → Type 0
AreProper ib d x = IsProper ib (d + 1) x.0.0 × IsProper ib (d + 1) x.0.1

byte_proper : (ib : Bool) (d b : ℕ) (t : Tree) → IsProper ib d t → IsProper ib d (with_byte b t)
byte_proper ib d b (Text bytes rest) h = (omega arith, h.1, h.2)
byte_proper ib d b End h = (omega arith, tt, h)
byte_proper ib d b (Tagged p rest) h = (omega arith, tt, h)
byte_proper ib d b (Bracket inner rest) h = (omega arith, tt, h)
byte_proper ib d b (Condition q first second rest) h = (omega arith, tt, h)

behind_proper : (ib : Bool) (d : ℕ) (f : Tree → Tree) (a : Reading Tree) → ((t : Tree) → IsProper ib d t → IsProper ib d (f t))
    → Keeps (IsProperReading ib d) a → Keeps (IsProperReading ib d) (behind_part f a)
behind_proper ib d f (Ok x) g h = g x.0 h
behind_proper ib d f (Err e) g h = h

mutual
  pub proper : {c : Context} {ib : Bool} {d : ℕ} {s : List ℕ} {a : Reading Tree} → Gives c ib d s a → Keeps (IsProperReading ib d) a
  proper (ends e) = tt
  proper (stops e) = allowed _ _ _ _ _ e
  proper (literal {ib = ib} {d = d} {b = b} {a = a} e g) = behind_proper ib d (with_byte b) a (byte_proper ib d b) (proper g)
  proper (tag {ib = ib} {d = d} {p = p} {a = a} e g) = behind_proper ib d (Tagged p) a (λ t h. (allowed _ _ _ _ _ e, h)) (proper g)
  proper (bracket {ib = ib} {d = d} {inner = inner} {a = a} e g h) = behind_proper ib d (Bracket inner) a (λ t k. (allowed _ _ _ _ _ e, proper g, k)) (proper h)
  proper (in_bracket e g) = proper g
  proper (condition {ib = ib} {d = d} {q = q} {first = first} {second = second} {a = a} e g h) =
      let both : IsProper ib (d + 1) first × IsProper ib (d + 1) second = proper_of g in
      behind_proper ib d (Condition q first second) a (λ t k. (allowed _ _ _ _ _ e, both.0, both.1, k)) (proper h)
  proper (in_condition e g) = proper_of g

  pub proper_of : {ib : Bool} {d : ℕ} {s : List ℕ} {a : Reading (Tree × Tree)} → Branches ib d s a → Keeps (AreProper ib d) a
  proper_of (one g e) = (proper g, tt)
  proper_of (two g e h f) = (proper g, proper h)
  proper_of (in_first g) = proper g
  proper_of (between {t = t} {e = x} g e) = second_fault t x e
  proper_of (in_second g e h) = proper h
  proper_of (behind_second {v = v} {e = x} g e h f) = close_fault v x f

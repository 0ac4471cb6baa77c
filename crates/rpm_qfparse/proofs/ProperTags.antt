-- Tags that are read are narrow, and no fault of a tag or a condition is want of memory.
use Rattle.std.proofs.Common.{◌≡◌, ◌≢◌, ℕ, ◌+◌, ◌≤◌, List, [], length, drop, Bool, true, false, cond, Option, Some, None, Result, Ok, Err, refl, nat_lt, ltb-false, ◌==◌, if◌then◌else◌}
use Rattle.rpm_qfparse.proofs.Vocabulary.{after_number, asked_tag, BarExpected, begins, BraceExpected, close, Faulty, formatter, MissingClose, MissingOpen}
use Rattle.rpm_qfparse.proofs.Vocabulary.{name_and_show, named_tag, NoMemory, number_of, ok_or, QuestionExpected, Reading, Role, role, second_follows, show_of}
use Rattle.rpm_qfparse.proofs.Vocabulary.{side, split_once, tag_inside, tag_of, tag_part, TagPart, UnknownFormatter, UnknownTag, width_in, WidthTooLarge, ◌>>=◌}

abbrev pub IsOwn : Faulty → Type 0
IsOwn e = e.0 ≢ NoMemory

abbrev pub Keeps : {X : Type 0} → (X → Type 0) → Result X Faulty → Type 0
Keeps P (Ok x) = P x
Keeps P (Err e) = IsOwn e

abbrev pub Any : {X : Type 0} → X → Type 0
Any x = Unit {0}

bind_keeps : {A B : Type 0} (P : A → Type 0) (Q : B → Type 0) (x : Result A Faulty) (f : A → Result B Faulty) → Keeps P x
    → ((a : A) → P a → Keeps Q (f a)) → Keeps Q (x >>= f)
bind_keeps P Q (Ok a) f h g = g a h
bind_keeps P Q (Err e) f h g = h

if_keeps : {X : Type 0} (P : X → Type 0) (v : Bool) (x y : Result X Faulty) → Keeps P x → Keeps P y → Keeps P (cond v x y)
if_keeps P true x y h g = h
if_keeps P false x y h g = g

or_keeps : {X : Type 0} (o : Option X) (e : Faulty) → IsOwn e → Keeps Any (ok_or o e)
or_keeps None e h = h
or_keeps (Some x) e h = tt

-- ---- tags

abbrev IsNarrow : ℕ × List ℕ → Type 0
IsNarrow x = x.0 ≤ 4096

width_by : (s : List ℕ) (v : Bool) → nat_lt 4096 (number_of s) ≡ v → Keeps IsNarrow (cond v (Err (WidthTooLarge, s)) (Ok (number_of s, after_number s)))
width_by s true e = λ p. absurd (cc)
width_by s false e = ltb-false _ _ e

named_keeps : (name place : List ℕ) → Keeps Any (named_tag name place)
named_keeps name place = if_keeps Any (length name == 0) _ _ (λ p. absurd (cc)) (or_keeps (tag_of name) (UnknownTag, place) (λ p. absurd (cc)))

formatter_keeps : (name : Option (List ℕ)) (far : ℕ) (place : List ℕ) → Keeps Any (formatter name far place)
formatter_keeps None far place = tt
formatter_keeps (Some name) far place = or_keeps (show_of name) (UnknownFormatter, drop far place) (λ p. absurd (cc))

abbrev IsNarrowTag : TagPart → Type 0
IsNarrowTag p = p.width ≤ 4096

inside_keeps : (left : Bool) (size : ℕ) (r : Role) (inside place : List ℕ) → size ≤ 4096 → Keeps IsNarrowTag (tag_inside left size r inside place)
inside_keeps left size r inside place le =
    bind_keeps Any IsNarrowTag (named_tag (name_and_show inside).0 place) _ (named_keeps (name_and_show inside).0 place) (λ t _.
    bind_keeps Any IsNarrowTag (formatter (name_and_show inside).1 (length (name_and_show inside).0 + 1) place) _
    (formatter_keeps (name_and_show inside).1 _ place) (λ f _. le))

abbrev pub IsNarrowPart : TagPart × List ℕ → Type 0
IsNarrowPart x = x.0.width ≤ 4096

pub tag_part_keeps : (s : List ℕ) → Keeps IsNarrowPart (tag_part s)
unfolding tag_part
tag_part_keeps s =
    bind_keeps IsNarrow IsNarrowPart (width_in (side s).1) _ (width_by (side s).1 _ refl) (λ size le.
    let x : Reading Role = cond (begins 123 size.1) (Ok (role (drop 1 size.1))) (Err (MissingOpen, size.1)) in
    bind_keeps Any IsNarrowPart x _ (if_keeps Any (begins 123 size.1) (Ok (role (drop 1 size.1))) (Err (MissingOpen, size.1)) tt (λ p. absurd (cc))) (λ inner _.
    bind_keeps Any IsNarrowPart (ok_or (split_once 125 inner.1) (MissingClose, [])) _ (or_keeps (split_once 125 inner.1) (MissingClose, [])
    (λ p. absurd (cc))) (λ cut _.
    bind_keeps IsNarrowTag IsNarrowPart (tag_inside (side s).0 size.0 inner.0 cut.0 inner.1) _ (inside_keeps (side s).0 size.0 inner.0 cut.0 inner.1
    le) (λ part h. h))))

pub asked_keeps : (s : List ℕ) → Keeps Any (asked_tag s)
asked_keeps s =
    bind_keeps Any Any (ok_or (split_once 63 s) (QuestionExpected, [])) _ (or_keeps (split_once 63 s) (QuestionExpected, []) (λ p. absurd (cc))) (λ cut _.
    bind_keeps Any Any (named_tag cut.0 s) _ (named_keeps cut.0 s) (λ t _. if_keeps Any (begins 123 cut.1) (Ok (t, drop 1 cut.1))
    (Err (BraceExpected, cut.1)) tt (λ p. absurd (cc))))

pub second_keeps : (s : List ℕ) → Keeps Any (second_follows s)
second_keeps s =
    if_keeps Any (begins 124 s) (Ok (false, drop 1 s)) _ tt
    (if_keeps Any (begins 58 s) (if begins 123 (drop 1 s) then Ok (true, drop 1 (drop 1 s)) else Err (BraceExpected, drop 1 s)) (Err (BarExpected, s))
    (if_keeps Any (begins 123 (drop 1 s)) (Ok (true, drop 1 (drop 1 s))) (Err (BraceExpected, drop 1 s)) tt (λ p. absurd (cc)))
    (λ p. absurd (cc)))

pub close_keeps : (s : List ℕ) → Keeps Any (close s)
close_keeps s = if_keeps Any (begins 124 s) (Ok (drop 1 s)) (Err (BarExpected, s)) tt (λ p. absurd (cc))

-- What is so of each command that words ask for.
use Rattle.std.proofs.Common.{◌≡◌, ℕ, ◌<◌, ◌≤◌, List, [], ◌∷◌, Option, Some, None, Bool, true, false, cond, Result, Ok, Err, ◌&&◌, nat_le, length, drop, unwrap_or, refl, subst, lit≤, MatchResult, IfOk, arith}
use Rattle.rpm_words.proofs.Vocabulary.{All, Argument, argument_in, argument_said, arguments, asked_by, AskParts, By, Command, cons_option, Exercise}
use Rattle.rpm_words.proofs.Vocabulary.{exercise_in, exercise_said, fault_or, Files, filter_map, first_broken, Format, format_printed, Gives, IfSome, IsCommandSound}
use Rattle.rpm_words.proofs.Vocabulary.{last_or, Lists, meant_parts, Mode, mode_of, NoMemory, number, Printed, printed_in, printed_said, Program, Query, Said, said_tokens}
use Rattle.rpm_words.proofs.Vocabulary.{seen, Sets, Span, word_at, Token, within_exercise, WordsFault}
use Rattle.std.proofs.lemmas.List.Elements.{All-nil, All-cons, All-head, All-tail}
use Rattle.std.proofs.lemmas.Grind.{common_steps}
use Rattle.rpm_words.specs.declared.ask.Mode.TheVariants as mode
use Rattle.rpm_words.proofs.Within.{BeginsIn, IsWithin, all_within}

cons_all : {Y : Type 0} (Q : Y → Type 0) (o : Option Y) (ys : List Y) → IfSome o Q → All Q ys → All Q (cons_option o ys)
cons_all Q None ys h k = k
cons_all Q (Some y) ys h k = All-cons Q y ys h k

-- what is told of each element holds of all that is told
told_all : {X Y : Type 0} (P : X → Type 0) (Q : Y → Type 0) (f : X → Option Y) → ((x : X) → P x → IfSome (f x) Q) → (xs : List X) → All P xs →
    All Q (filter_map f xs)
told_all P Q f h [] k = All-nil Q
told_all P Q f h (x ∷ xs) k = cons_all Q (f x) (filter_map f xs) (h x (All-head P x xs k)) (told_all P Q f h xs (All-tail P x xs k))

last_all : {Y : Type 0} (Q : Y → Type 0) (o : Option Y) (ys : List Y) → IfSome o Q → All Q ys → IfSome (last_or o ys) Q
last_all Q o [] h k = h
last_all Q o (y ∷ ys) h k = last_all Q (Some y) ys (All-head Q y ys k) (All-tail Q y ys k)

-- ---- arguments

said_argument : (n word : ℕ) (said : Said) → word < n → IfSome (argument_said word said) (λ i. i < n)
said_argument n word Argument h = h
said_argument n word others h = tt

arguments_sound : (words : List (List ℕ)) (tokens : List Token) → All (IsWithin words) tokens → All (λ i. i < length words) (arguments tokens)
unfolding arguments
arguments_sound words tokens h =
    told_all (IsWithin words) (λ i. i < length words) argument_in (λ token w. said_argument (length words) token.word token.said w.word) tokens h

-- ---- the number of an exercise

abbrev IsCount : ℕ → Type 0
IsCount n = (1 ≤ n) × (n ≤ 100000)

count_by : (n : ℕ) (b : Bool) → (nat_le 1 n && nat_le n 100000) ≡ b → IfSome (cond b (Some n) None) IsCount
count_by n true h = (grind (arith, common_steps, h), grind (arith, common_steps, h))
count_by n false h = tt

within_count : (o : Option ℕ) → IfSome (within_exercise o) IsCount
within_count None = tt
within_count (Some n) = count_by n (nat_le 1 n && nat_le n 100000) refl

said_count : (text : List ℕ) (said : Said) → IfSome (exercise_said text said) IsCount
said_count text (Gives (Mode Exercise) from) = within_count (number (drop from text))
said_count text others = tt

or_one : (o : Option ℕ) → IfSome o IsCount → IsCount (unwrap_or o 1)
or_one None h = (lit≤ tt, lit≤ tt)
or_one (Some n) h = h

mode_count : (command : Command) (m n : ℕ) → mode_of command m ≡ mode.Exercise n → IsCount m → IsCount n
mode_count Exercise m n h k = let e : m ≡ n = cc in subst IsCount e k
mode_count others m n h k = let no : ⊥ = cc in absurd no

exercise_sound : (words : List (List ℕ)) (command : Command) (tokens : List Token) → All (IsWithin words) tokens → (n : ℕ) →
    mode_of command (unwrap_or (last_or None (filter_map (exercise_in words) tokens)) 1) ≡ mode.Exercise n → IsCount n
exercise_sound words command tokens h n e =
    let all = told_all (IsWithin words) IsCount (exercise_in words) (λ token w. said_count (word_at words token.word) token.said) tokens h in
    let last = last_or None (filter_map (exercise_in words) tokens) in
    mode_count command (unwrap_or last 1) n e (or_one last (last_all IsCount None (filter_map (exercise_in words) tokens) tt all))

-- ---- the place of a format

abbrev LiesIn : List (List ℕ) → Span → Type 0
LiesIn words span = (span.word < length words) × (span.from ≤ length (word_at words span.word))

abbrev PrintsFrom : List (List ℕ) → Printed → Type 0
PrintsFrom words Files = Unit {0}
PrintsFrom words (By span) = LiesIn words span

said_printed : (words : List (List ℕ)) (word : ℕ) (said : Said) → word < length words → BeginsIn (word_at words word) said →
    IfSome (printed_said word said) (PrintsFrom words)
said_printed words word (Sets Lists) h k = tt
said_printed words word (Gives Format from) h k = (h, k)
said_printed words word others h k = tt

format_of : (words : List (List ℕ)) (o : Option Printed) → IfSome o (PrintsFrom words) → IfSome (format_printed o) (LiesIn words)
format_of words None h = tt
format_of words (Some Files) h = tt
format_of words (Some (By span)) h = h

format_sound : (words : List (List ℕ)) (tokens : List Token) → All (IsWithin words) tokens →
    IfSome (format_printed (last_or None (filter_map printed_in tokens))) (LiesIn words)
format_sound words tokens h =
    let all = told_all (IsWithin words) (PrintsFrom words) printed_in (λ token w. said_printed words token.word token.said w.word w.value) tokens h in
    format_of words (last_or None (filter_map printed_in tokens)) (last_all (PrintsFrom words) None (filter_map printed_in tokens) tt all)

-- ---- the command

meant_sound : (words : List (List ℕ)) (tokens : List Token) → All (IsWithin words) tokens
    → IsCommandSound words (meant_parts (seen words tokens) (arguments tokens))
unfolding seen
meant_sound words tokens h = record {
  arguments = arguments_sound words tokens h;
  exercise = exercise_sound words (unwrap_or (seen words tokens).command Query) tokens h;
  format = format_sound words tokens h;
}

meant_by : (o : Option WordsFault) (m a : AskParts) → fault_or o m ≡ Ok a → m ≡ a
meant_by None m a h = cc
meant_by (Some f) m a h = cc

pub asked_sound : (program : Program) (words : List (List ℕ)) (a : AskParts) → asked_by program words ≡ Ok a → IsCommandSound words a
unfolding asked_by
asked_sound program words a h =
    let tokens = said_tokens program words in
    let s = seen words tokens in
    let all = arguments tokens in
    subst (IsCommandSound words) (meant_by (first_broken words tokens s all) (meant_parts s all) a h) (meant_sound words tokens (all_within program words))

-- what a reader answers by the definition
pub read_sound : (program : Program) (words : List (List ℕ)) (r : Result AskParts WordsFault) →
    MatchResult r (λ a. asked_by program words ≡ Ok a) (λ f. (f.kind ≡ NoMemory → ⊥) → asked_by program words ≡ Err f) → IfOk r (λ a. IsCommandSound words a)
read_sound program words (Ok a) h = asked_sound program words a h
read_sound program words (Err f) h = tt

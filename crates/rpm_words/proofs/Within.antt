-- What a command line says stands within its words.
use Rattle.std.proofs.Common.{◌≡◌, ℕ, zero, suc, ◌+◌, ◌<◌, ◌≤◌, List, [], ◌∷◌, Option, Some, None, length, drop, refl, add-one, arith}
use Rattle.rpm_words.proofs.Vocabulary.{All, Argument, Awaits, Cluster, cons_option, Ends, Gives, Inline, IsSpelled, letters, Name, option_at, option_map}
use Rattle.rpm_words.proofs.Vocabulary.{Plain, Program, Purpose, purpose_behind, Refused, Rest, Said, said_tokens, said_behind, says, short_switch, Switch, word_at}
use Rattle.rpm_words.proofs.Vocabulary.{Token, token_at, Unknown, Value, Whole}
use Rattle.std.proofs.lemmas.List.Elements.{All-nil, All-cons, All-append}
use Rattle.rpm_words.proofs.Spelled.{purpose_spelled}

-- a value begins in its text, or at its end
abbrev pub BeginsIn : List ℕ → Said → Type 0
BeginsIn text (Gives switch from) = from ≤ length text
BeginsIn text others = Unit {0}

-- a token's word is a word, and a value that it gives begins in it
pub record IsWithin (words : List (List ℕ)) (token : Token) : Type 0 where
  pub word : token.word < length words
  pub value : BeginsIn (word_at words token.word) token.said

-- a word at its place, and those after it
pub record Stands (words : List (List ℕ)) (i : ℕ) (text : List ℕ) (rest : List (List ℕ)) : Type 0 where
  pub below : i < length words
  pub here : word_at words i ≡ text
  pub behind : drop (i + 1) words ≡ rest

stands_one : (w : List ℕ) (ws : List (List ℕ)) (i : ℕ) (text : List ℕ) (rest : List (List ℕ)) → Stands ws i text rest → Stands (w ∷ ws) (suc i) text rest
stands_one w ws i text rest h = record { below = omega (arith, h.below); here = h.here; behind = rw add-one (rw add-one at h.behind) }

stands : (words : List (List ℕ)) (i : ℕ) (text : List ℕ) (rest : List (List ℕ)) → drop i words ≡ text ∷ rest → Stands words i text rest
stands [] zero text rest h = let no : ⊥ = cc in absurd no
stands [] (suc i) text rest h = let no : ⊥ = cc in absurd no
stands (w ∷ ws) zero text rest h = record { below = omega arith; here = cc; behind = cc }
stands (w ∷ ws) (suc i) text rest h = stands_one w ws i text rest (stands ws i text rest h)

said_within : (words : List (List ℕ)) (word : ℕ) (o : Option Switch) (rest : List Token) → word < length words → All (IsWithin words) rest →
    All (IsWithin words) (cons_option (option_map (option_at word) o) rest)
said_within words word None rest h k = k
said_within words word (Some switch) rest h k = All-cons (IsWithin words) (option_at word switch) rest (record { word = h; value = tt }) k

letters_within : (words : List (List ℕ)) (word : ℕ) (text : List ℕ) → word < length words → All (IsWithin words) (letters word text)
letters_within words word [] h = All-nil (IsWithin words)
letters_within words word (b ∷ rest) h = said_within words word (short_switch b) (letters word rest) h (letters_within words word rest h)

one : (words : List (List ℕ)) (token : Token) → IsWithin words token → All (IsWithin words) (token ∷ [])
one words token h = All-cons (IsWithin words) token [] h (All-nil (IsWithin words))

says_within : (words : List (List ℕ)) (i : ℕ) (text : List ℕ) (purpose : Purpose) → i < length words → word_at words i ≡ text → IsSpelled text purpose →
    All (IsWithin words) (says i purpose text)
says_within words i text Name h e s = All-nil (IsWithin words)
says_within words i text Unknown h e s = one words (token_at i Refused) (record { word = h; value = tt })
says_within words i text Cluster h e s = letters_within words i text h
says_within words i text (Whole switch) h e s = one words (option_at i switch) (record { word = h; value = tt })
says_within words i text (Inline switch from) h e s =
    let more : from ≤ length (word_at words i) = rw e (omega (arith, s.within, s.behind)) in
    let given = token_at i (Gives switch from) in
    All-cons (IsWithin words) (option_at i switch) (given ∷ []) (record { word = h; value = tt }) (one words given (record { word = h; value = more }))
says_within words i text (Awaits switch) h e s = one words (option_at i switch) (record { word = h; value = tt })
says_within words i text (Value switch) h e s = one words (token_at i (Gives switch 0)) (record { word = h; value = omega arith })
says_within words i text Ends h e s = All-nil (IsWithin words)
says_within words i text Plain h e s = one words (token_at i Argument) (record { word = h; value = tt })
says_within words i text Rest h e s = one words (token_at i Argument) (record { word = h; value = tt })

behind_within : (words : List (List ℕ)) (program : Program) (previous : Purpose) (i : ℕ) (rest : List (List ℕ)) → drop i words ≡ rest →
    All (IsWithin words) (said_behind program previous i rest)
unfolding said_behind
behind_within words program previous i [] h = All-nil (IsWithin words)
behind_within words program previous i (text ∷ rest) h =
    let at = stands words i text rest h in
    let purpose = purpose_behind program previous text in
    All-append (IsWithin words) (says i purpose text) (said_behind program purpose (i + 1) rest)
    (says_within words i text purpose at.below at.here (purpose_spelled program previous text))
    (behind_within words program purpose (i + 1) rest at.behind)

pub all_within : (program : Program) (words : List (List ℕ)) → All (IsWithin words) (said_tokens program words)
unfolding said_tokens
all_within program words = behind_within words program Name 1 (drop 1 words) refl

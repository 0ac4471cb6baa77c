-- There are no more arguments than words.
use Rattle.std.proofs.Common.{◌≡◌, ℕ, ◌+◌, ◌≤◌, List, [], ◌∷◌, Option, Some, None, length, drop, refl, ◌∙◌, arith, length-append, length-drop}
use Rattle.rpm_words.proofs.Vocabulary.{argument_in, arguments, Awaits, Cluster, cons_option, Ends, filter_map, Inline, letters, Name, option_at, option_map}
use Rattle.rpm_words.proofs.Vocabulary.{Plain, Program, Purpose, purpose_behind, Rest, said_tokens, said_behind, says, short_switch, Switch, Token, Unknown, Value}
use Rattle.rpm_words.proofs.Vocabulary.{Whole}
use Rattle.std.proofs.lemmas.List.Elements.{filter_map-append}

no_letter : (word : ℕ) (o : Option Switch) (rest : List Token) →
    filter_map argument_in (cons_option (option_map (option_at word) o) rest) ≡ filter_map argument_in rest
no_letter word None rest = refl
no_letter word (Some switch) rest = refl

letters_none : (word : ℕ) (text : List ℕ) → filter_map argument_in (letters word text) ≡ []
letters_none word [] = refl
letters_none word (b ∷ rest) = no_letter word (short_switch b) (letters word rest) ∙ letters_none word rest

one_word : (i : ℕ) (purpose : Purpose) (text : List ℕ) → length (filter_map argument_in (says i purpose text)) ≤ 1
one_word i Name text = omega arith
one_word i Unknown text = omega arith
one_word i Cluster text = rw (letters_none i text) (omega arith)
one_word i (Whole switch) text = omega arith
one_word i (Inline switch from) text = omega arith
one_word i (Awaits switch) text = omega arith
one_word i (Value switch) text = omega arith
one_word i Ends text = omega arith
one_word i Plain text = omega arith
one_word i Rest text = omega arith

behind : (program : Program) (previous : Purpose) (i : ℕ) (words : List (List ℕ)) →
    length (filter_map argument_in (said_behind program previous i words)) ≤ length words
unfolding said_behind
behind program previous i [] = omega arith
behind program previous i (text ∷ rest) =
    let purpose = purpose_behind program previous text in
    let more = behind program purpose (i + 1) rest in
    let here = one_word i purpose text in
    rw (filter_map-append argument_in (says i purpose text) (said_behind program purpose (i + 1) rest))
    (omega (
      arith,
      more,
      here,
      length-append (filter_map argument_in (says i purpose text)) (filter_map argument_in (said_behind program purpose (i + 1) rest)),
    ))

pub few_arguments : (program : Program) (words : List (List ℕ)) → length (arguments (said_tokens program words)) ≤ length words
unfolding arguments said_tokens
few_arguments program words = omega (arith, behind program Name 1 (drop 1 words), length-drop 1 words)

-- No rule of a command line is about memory.
use Rattle.std.proofs.Common.{◌≡◌, ℕ, List, [], ◌∷◌, Option, Some, None, false, ◌||◌, nat_lt, length, is_none, unwrap_or}
use Rattle.rpm_words.proofs.Vocabulary.{Argument, argument_fault, bad_argument, Capability, capability, checked_arguments, Chosen, Command, early_word_fault, Expected}
use Rattle.rpm_words.proofs.Vocabulary.{expected_form, ExtraArgument, fault, fewest, filter_map, first_broken, first_told, Gives, is_awaiting, is_bad_number}
use Rattle.rpm_words.proofs.Vocabulary.{is_err, is_misplaced, is_other, is_refused, Label, lacks_option, Misplaced, first_misplaced, misplaced_in, misplaced_said}
use Rattle.rpm_words.proofs.Vocabulary.{MissingArgument, most, no_mode, no_value, NoMemory, NoMode, Number, number, option_map_or, Query, Refused, Said, Seen}
use Rattle.rpm_words.proofs.Vocabulary.{Sets, slice_get, takes, Text, word_at, Token, token_fault, too_few, too_many, WordsFault}
use Rattle.rpm_words.proofs.AnyRule.{AllRules, AreRules, earliest_rule, head_rule, mapped, rules_cons, test}

token_rule : (words : List (List ℕ)) (command : Option Command) (chosen : Option Chosen) (token : Token) → AreRules (token_fault words command chosen token)
token_rule words command chosen token =
    test (is_refused token.said) _ _ (λ e. cc) (test (is_other command chosen token) _ _ (λ e. cc) (test (is_bad_number words token) _ _ (λ e. cc) tt))

token_rules : (words : List (List ℕ)) (command : Option Command) (chosen : Option Chosen) (tokens : List Token) →
    AllRules (filter_map (token_fault words command chosen) tokens)
token_rules words command chosen [] = tt
token_rules words command chosen (token ∷ tokens) = rules_cons _ _ (token_rule words command chosen token) (token_rules words command chosen tokens)

early_rule : (words : List (List ℕ)) (command : Option Command) (chosen : Option Chosen) (tokens : List Token) →
    AreRules (early_word_fault words command chosen tokens)
unfolding early_word_fault
early_rule words command chosen tokens = earliest_rule _ (token_rules words command chosen tokens)

argument_rule : (words : List (List ℕ)) (kind : Expected) (word : ℕ) → AreRules (argument_fault words kind word)
argument_rule words Text word = tt
argument_rule words Number word = test (is_none (number (word_at words word))) _ _ (λ e. cc) tt
argument_rule words Capability word = test (is_err (capability (word_at words word))) _ _ (λ e. cc) tt

argument_rules : (words : List (List ℕ)) (kind : Expected) (arguments : List ℕ) → AllRules (filter_map (argument_fault words kind) arguments)
argument_rules words kind [] = tt
argument_rules words kind (word ∷ arguments) = rules_cons _ _ (argument_rule words kind word) (argument_rules words kind arguments)

bad_rule : (words : List (List ℕ)) (kind : Expected) (arguments : List ℕ) → AreRules (bad_argument words kind arguments)
unfolding bad_argument
bad_rule words kind arguments = head_rule _ (argument_rules words kind arguments)

said_rule : (command : Command) (word : ℕ) (said : Said) → AreRules (misplaced_said command word said)
said_rule command word Refused = tt
said_rule command word (Sets switch) = test (is_misplaced switch command) (fault Misplaced word) None (λ e. cc) tt
said_rule command word (Gives switch from) = tt
said_rule command word Argument = tt

misplaced_rules : (command : Command) (tokens : List Token) → AllRules (filter_map (misplaced_in command) tokens)
misplaced_rules command [] = tt
misplaced_rules command (token ∷ tokens) = rules_cons _ _ (said_rule command token.word token.said) (misplaced_rules command tokens)

misplaced_rule : (command : Command) (tokens : List Token) → AreRules (first_misplaced command tokens)
unfolding first_misplaced
misplaced_rule command tokens = head_rule _ (misplaced_rules command tokens)

abbrev EachRule : List (Option WordsFault) → Type 0
EachRule [] = Unit {0}
EachRule (o ∷ os) = AreRules o × EachRule os

told_rule : (os : List (Option WordsFault)) → EachRule os → AreRules (first_told os)
told_rule [] k = tt
told_rule (Some f ∷ os) k = k.0
told_rule (None ∷ os) k = told_rule os k.1

broken_rule : (words : List (List ℕ)) (tokens : List Token) (seen : Seen) (arguments : List ℕ) → AreRules (first_broken words tokens seen arguments)
unfolding first_broken
broken_rule words tokens seen arguments =
    let command = unwrap_or seen.command Query in
    let taken = takes command (unwrap_or seen.chosen Label) in
    let missing = fault MissingArgument (length words) in
    told_rule
    (early_word_fault words seen.command seen.chosen tokens
    ∷ no_value words seen.last
    ∷ no_mode words seen.command
    ∷ first_misplaced command tokens
    ∷ too_few words command seen taken arguments
    ∷ too_many taken arguments
    ∷ bad_argument words (expected_form taken) (checked_arguments taken arguments)
    ∷ []) (
      early_rule words seen.command seen.chosen tokens,
      (
        test (option_map_or is_awaiting seen.last false) missing None (λ e. cc) tt,
        (
          test (is_none seen.command) (fault NoMode (length words)) None (λ e. cc) tt,
          (
            misplaced_rule command tokens,
            (
              test (lacks_option command seen || nat_lt (length arguments) (fewest taken)) missing None (λ e. cc) tt,
              (
                mapped ExtraArgument (option_map_or (slice_get arguments) (most taken) None) (λ e. cc),
                (bad_rule words (expected_form taken) (checked_arguments taken arguments), tt),
              ),
            ),
          ),
        ),
      ),
    )

pub not_memory : (words : List (List ℕ)) (tokens : List Token) (seen : Seen) (arguments : List ℕ) (f : WordsFault) →
    first_broken words tokens seen arguments ≡ Some f → f.kind ≡ NoMemory → ⊥
not_memory words tokens seen arguments f h = let told = broken_rule words tokens seen arguments in (rw h at told)

-- Words that break no rule: no argument is at fault, and there are as many as the command takes.
use Rattle.std.proofs.Common.{◌≡◌, ℕ, List, [], ◌∷◌, Option, Some, None, Result, Ok, Err, Bool, true, false, ◌||◌, length, refl}
use Rattle.std.proofs.Common.{sym, subst}
use Rattle.std.specs.Prelude.{unwrap_or, nat_lt, if◌then◌else◌}
use Rattle.std.specs.Option.{option_map_or}
use Rattle.std.specs.List.{filter_map, cons_option, slice_get, AllByRecursion}
use Rattle.rpm_words.specs.declared.switch.Program.{Program}
use Rattle.rpm_words.specs.declared.switch.Command.{Command}
use Rattle.rpm_words.specs.declared.switch.Command.TheVariants as command
use Rattle.rpm_words.specs.declared.switch.Chosen.{Chosen}
use Rattle.rpm_words.specs.declared.switch.Chosen.TheVariants as by
use Rattle.rpm_words.specs.declared.token.Token.{Token}
use Rattle.rpm_words.specs.declared.seen.Seen.{Seen}
use Rattle.rpm_words.specs.declared.fault.WordsFault.{WordsFault}
use Rattle.rpm_words.specs.declared.fault.WordsKind.TheVariants.{NoMode, MissingArgument}
use Rattle.rpm_words.specs.declared.takes.ArgumentRule.{ArgumentRule}
use Rattle.rpm_words.specs.declared.ask.Mode.{Mode}
use Rattle.rpm_words.specs.declared.ask.Mode.TheVariants as mode
use Rattle.rpm_words.specs.Takes.{query_takes, takes, fewest, expected_form, checked_arguments}
use Rattle.rpm_words.specs.Fault.{fault}
use Rattle.rpm_words.specs.Token.{said_tokens}
use Rattle.rpm_words.specs.Place.{program_of}
use Rattle.rpm_words.specs.Seen.{seen}
use Rattle.rpm_words.specs.Broken.{argument_fault, early_word_fault, first_misplaced, lacks_option}
use Rattle.rpm_words.specs.Broken.{too_few, too_many, bad_argument, broken_by, first_broken}
use Rattle.rpm_words.specs.inner.Commands.{command_of_mode, command_back}
use Rattle.rpm_words.specs.inner.Steps.{no_value, no_mode}
use Rattle.rpm_words.specs.Ask.{AskParts, arguments, mode_of, meant_parts, asked_by, ask, IsFit}

-- the first element, if there is one
abbrev pub command_word : {X : Type 0} → List X → Option X
command_word xs = slice_get xs 0

-- the first of the rules that is broken
abbrev pub first_told : List (Option WordsFault) → Option WordsFault
first_told os = slice_get (filter_map (λ o. o) os) 0

-- the first fault, or what is asked for where there is none
abbrev pub fault_or : Option WordsFault → AskParts → Result AskParts WordsFault
fault_or o a = elim o [ Some f ↦ Err f | None ↦ Ok a ]

-- where none is told there is none
each_untold : (os : List (Option WordsFault)) → first_told os ≡ None → AllByRecursion (λ o. o ≡ None) os
each_untold [] is = tt
each_untold (None ∷ os) is = (refl, each_untold os is)
each_untold (Some f ∷ os) is = absurd cc

fault_free : (o : Option WordsFault) (a b : AskParts) → fault_or o a ≡ Ok b → (o ≡ None) × (a ≡ b)
fault_free None a b is = (refl, cc)
fault_free (Some f) a b is = absurd cc

each_by : (f : ℕ → Option WordsFault) (x : ℕ) (xs : List ℕ) (o : Option WordsFault) → f x ≡ o
    → (command_word (filter_map f xs) ≡ None → AllByRecursion (λ y. f y ≡ None) xs)
    → command_word (cons_option o (filter_map f xs)) ≡ None
    → AllByRecursion (λ y. f y ≡ None) (x ∷ xs)
each_by f x xs None e rest is = (e, rest is)
each_by f x xs (Some fault) e rest is = absurd cc

each_none : (f : ℕ → Option WordsFault) (xs : List ℕ) → command_word (filter_map f xs) ≡ None
    → AllByRecursion (λ x. f x ≡ None) xs
each_none f [] is = tt
each_none f (x ∷ xs) is = each_by f x xs (f x) refl (each_none f xs) is

-- arguments break none of the rules on what a command takes
pub record KeepsRules (words : List (List ℕ)) (args : List ℕ) (taken : ArgumentRule) : Type 0 where
  pub enough : nat_lt (length args) (fewest taken) ≡ false
  pub no_more : too_many taken args ≡ None
  pub good : AllByRecursion (λ w. argument_fault words (expected_form taken) w ≡ None) (checked_arguments taken args)

neither : (a b : Bool) (f : WordsFault) → (if a || b then Some f else None) ≡ None → b ≡ false
neither false false f is = refl
neither false true f is = absurd cc
neither true b f is = absurd cc

kept_by : (words : List (List ℕ)) (tokens : List Token) (s : Seen) (args : List ℕ) (c : Command) (taken : ArgumentRule)
    → broken_by words tokens s args c taken ≡ None → KeepsRules words args taken
unfolding bad_argument
kept_by words tokens s args c taken is =
    let each = each_untold (
    early_word_fault words s.command s.chosen tokens
    ∷ no_value words s.last
    ∷ no_mode words s.command
    ∷ first_misplaced c tokens
    ∷ too_few words c s taken args
    ∷ too_many taken args
    ∷ bad_argument words (expected_form taken) (checked_arguments taken args)
    ∷ []) is in
    record {
      enough = neither (lacks_option c s) (nat_lt (length args) (fewest taken))
          (fault MissingArgument (length words)) each.1.1.1.1.0;
      no_more = each.1.1.1.1.1.0;
      good = each_none (argument_fault words (expected_form taken)) (checked_arguments taken args) each.1.1.1.1.1.1.0;
    }

-- the arguments of a command are as many as it takes, and what they have to be
pub kept_asked : (program : Program) (words : List (List ℕ)) (a : AskParts) → asked_by program words ≡ Ok a
    → KeepsRules words a.arguments (takes (command_of_mode a.mode) a.chosen)
unfolding asked_by first_broken
kept_asked program words a is =
    let tokens = said_tokens program words in
    let s = seen words tokens in
    let args = arguments tokens in
    let c = unwrap_or s.command command.Query in
    let chosen = unwrap_or s.chosen by.Label in
    let parts = fault_free (first_broken words tokens s args) (meant_parts s args) a is in
    let own : KeepsRules words args (takes c chosen) = kept_by words tokens s args c (takes c chosen) parts.0 in
    let back : command_of_mode (mode_of c (unwrap_or s.exercise 1)) ≡ c = command_back c (unwrap_or s.exercise 1) in
    subst (λ (x : AskParts). KeepsRules words x.arguments (takes (command_of_mode x.mode) x.chosen)) parts.1
    (subst (λ (k : Command). KeepsRules words args (takes k chosen)) (sym back) own)

all_checked : (c : Chosen) (args : List ℕ) → checked_arguments (query_takes c) args ≡ args
all_checked by.Label args = refl
all_checked by.All args = refl
all_checked by.Path args = refl
all_checked by.Group args = refl
all_checked by.Package args = refl
all_checked by.Provides args = refl
all_checked by.Requires args = refl
all_checked by.Conflicts args = refl
all_checked by.Obsoletes args = refl
all_checked by.Trigger args = refl
all_checked by.Number args = refl
all_checked by.Directory args = refl
all_checked by.Tid args = refl
all_checked by.Recommends args = refl

pub fit_asked : (program : Program) (words : List (List ℕ)) (a : AskParts) → asked_by program words ≡ Ok a
    → a.mode ≡ mode.Query
    → AllByRecursion (IsFit words a.chosen) a.arguments
fit_asked program words a is query =
    let own : KeepsRules words a.arguments (query_takes a.chosen) =
    subst (λ (m : Mode). KeepsRules words a.arguments (takes (command_of_mode m) a.chosen)) query
    (kept_asked program words a is) in
    subst (λ (xs : List ℕ). AllByRecursion (IsFit words a.chosen) xs) (all_checked a.chosen a.arguments) own.good

by_program : (words : List (List ℕ)) (a : AskParts) (p : Option Program)
    → option_map_or (λ program. asked_by program words) p (Err (fault NoMode 0)) ≡ Ok a → a.mode ≡ mode.Query
    → AllByRecursion (IsFit words a.chosen) a.arguments
by_program words a None none query = absurd cc
by_program words a (Some program) some query = fit_asked program words a some query

-- of a query each argument is what its selection wants
pub fit_arguments : (words : List (List ℕ)) (a : AskParts) → ask words ≡ Ok a → a.mode ≡ mode.Query
    → AllByRecursion (IsFit words a.chosen) a.arguments
unfolding ask
fit_arguments words a is query = by_program words a (program_of words) is query

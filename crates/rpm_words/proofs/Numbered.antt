-- Words that break no rule: what has to be a package number is one.
use Rattle.std.proofs.Common.{◌≡◌, ℕ, List, [], ◌∷◌, Option, Some, None, Ok, Err, IsSome, false, length, take, refl}
use Rattle.std.proofs.Common.{subst}
use Rattle.std.specs.Prelude.{nat_lt, if◌then◌else◌}
use Rattle.std.specs.Option.{option_map_or, is_none}
use Rattle.std.specs.List.{AllByRecursion}
use Rattle.rpm_words.specs.declared.switch.Program.{Program}
use Rattle.rpm_words.specs.declared.fault.WordsFault.{WordsFault}
use Rattle.rpm_words.specs.declared.fault.WordsKind.TheVariants.{NoMode, BadNumber}
use Rattle.rpm_words.specs.declared.takes.Expected.TheVariants.{Number}
use Rattle.rpm_words.specs.declared.takes.ArgumentRule.TheVariants.{Several, NumberAndText}
use Rattle.rpm_words.specs.declared.ask.Mode.{Mode}
use Rattle.rpm_words.specs.declared.ask.Mode.TheVariants as mode
use Rattle.rpm_words.specs.Words.{word_at}
use Rattle.rpm_words.specs.Number.{number}
use Rattle.rpm_words.specs.Takes.{takes}
use Rattle.rpm_words.specs.Fault.{fault}
use Rattle.rpm_words.specs.Place.{program_of}
use Rattle.rpm_words.specs.Broken.{argument_fault, too_many}
use Rattle.rpm_words.specs.Ask.{AskParts, asked_by, ask, IsNumber, HasNumbers}
use Rattle.rpm_words.specs.inner.Commands.{command_of_mode}
use Rattle.rpm_words.proofs.laws.Given.{KeepsRules, kept_asked}

number_there : (o : Option ℕ) (f : WordsFault) → (if is_none o then Some f else None) ≡ None → IsSome o
number_there (Some n) f is = refl
number_there None f is = absurd cc

numbers_there : (words : List (List ℕ)) (args : List ℕ)
    → AllByRecursion (λ w. argument_fault words Number w ≡ None) args
    → AllByRecursion (IsNumber words) args
numbers_there words [] each = tt
numbers_there words (w ∷ args) each =
    (number_there (number (word_at words w)) (fault BadNumber w) each.0, numbers_there words args each.1)

two : (args : List ℕ) → nat_lt (length args) 2 ≡ false → too_many NumberAndText args ≡ None → length args ≡ 2
two [] enough no_more = absurd cc
two (a ∷ []) enough no_more = absurd cc
two (a ∷ b ∷ []) enough no_more = refl
two (a ∷ b ∷ c ∷ args) enough no_more = absurd cc

replaced_by : (words : List (List ℕ)) (args : List ℕ) → KeepsRules words args NumberAndText
    → (length args ≡ 2) × AllByRecursion (IsNumber words) (take 1 args)
replaced_by words args k = (two args k.enough k.no_more, numbers_there words (take 1 args) k.good)

pub numbers_asked : (program : Program) (words : List (List ℕ)) (a : AskParts) → asked_by program words ≡ Ok a
    → HasNumbers words a
numbers_asked program words a is =
    let kept = kept_asked program words a is in
    let at : (m : Mode) → a.mode ≡ m → KeepsRules words a.arguments (takes (command_of_mode m) a.chosen) =
    λ m e. subst (λ (x : Mode). KeepsRules words a.arguments (takes (command_of_mode x) a.chosen)) e kept in
    record {
      erased = λ e. let k : KeepsRules words a.arguments (Several Number) = at mode.Erasepkg e in
          numbers_there words a.arguments k.good;
      replaced = λ e. replaced_by words a.arguments (at mode.Replacepkg e);
    }

by_program : (words : List (List ℕ)) (a : AskParts) (p : Option Program)
    → option_map_or (λ program. asked_by program words) p (Err (fault NoMode 0)) ≡ Ok a → HasNumbers words a
by_program words a None none = absurd cc
by_program words a (Some program) some = numbers_asked program words a some

-- what has to be a package number is one
pub number_arguments : (words : List (List ℕ)) (a : AskParts) → ask words ≡ Ok a → HasNumbers words a
unfolding ask
number_arguments words a is = by_program words a (program_of words) is

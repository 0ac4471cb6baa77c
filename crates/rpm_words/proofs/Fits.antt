-- The arguments of a command that is read are what it takes.
use Rattle.std.proofs.Common.{◌≡◌, ℕ, List, Result, Ok, Err, MatchResult, IfOk}
use Rattle.rpm_words.proofs.Vocabulary.{AllByRecursion, asked_by, AskParts, fit_asked, HasNumbers, IsFit, NoMemory, numbers_asked, Program, WordsFault}
use Rattle.rpm_words.specs.declared.ask.Mode.TheVariants as mode

pub read_fits : (program : Program) (words : List (List ℕ)) (r : Result AskParts WordsFault) →
    MatchResult r (λ a. asked_by program words ≡ Ok a) (λ f. (f.kind ≡ NoMemory → ⊥) → asked_by program words ≡ Err f) →
    IfOk r (λ a. a.mode ≡ mode.Query → AllByRecursion (IsFit words a.chosen) a.arguments)
read_fits program words (Ok a) h = λ query. fit_asked program words a h query
read_fits program words (Err f) h = tt

pub read_numbers : (program : Program) (words : List (List ℕ)) (r : Result AskParts WordsFault) →
    MatchResult r (λ a. asked_by program words ≡ Ok a) (λ f. (f.kind ≡ NoMemory → ⊥) → asked_by program words ≡ Err f) → IfOk r (λ a. HasNumbers words a)
read_numbers program words (Ok a) h = numbers_asked program words a h
read_numbers program words (Err f) h = tt

-- Words that break no rule: each argument of a query is a question.
use Rattle.std.proofs.Common.{◌≡◌, ℕ, Bool, ◌&&◌, true, false, subst, if◌then◌else◌, List, [], ◌∷◌, Option, Some, None, is_some, Result, Ok, Err, refl}
use Rattle.rpm_tool.proofs.Vocabulary.{AllByRecursion, AreQuestions, ask, AskParts, BadCapability, capability, CapabilityParts, Chosen}
use Rattle.rpm_tool.proofs.Vocabulary.{fit_arguments, is_err, is_none, is_package, is_query, is_question, IsFit, Mode, number, of_files, option_map}
use Rattle.rpm_tool.proofs.Vocabulary.{Selection, word_at, WordsFault}
use Rattle.std.specs.Result.{result_ok}
use Rattle.rpm_words.specs.declared.switch.Chosen.TheVariants as by
use Rattle.rpm_words.specs.declared.ask.Mode.TheVariants as mode

each_then : {P Q : ℕ → Type 0} → ((x : ℕ) → P x → Q x) → (xs : List ℕ) → AllByRecursion P xs → AllByRecursion Q xs
each_then so [] t = tt
each_then {P = P} {Q = Q} so (x ∷ xs) t = (so x t.0, each_then {P = P} {Q = Q} so xs t.1)

a_capability : (of : CapabilityParts → Selection) (r : Result CapabilityParts BadCapability) (f : WordsFault)
    → (if is_err r then Some f else None) ≡ None → is_some (option_map of (result_ok r)) ≡ true
a_capability of (Ok c) f none = refl
a_capability of (Err bad) f none = absurd cc

a_number : (of : ℕ → Selection) (o : Option ℕ) (f : WordsFault) → (if is_none o then Some f else None) ≡ None → is_some (option_map of o) ≡ true
a_number of (Some n) f none = refl
a_number of None f none = absurd cc

question_here : (words : List (List ℕ)) (c : Chosen) (w : ℕ) → (c ≡ by.Package → ⊥) → IsFit words c w
    → is_question c (word_at words w) ≡ true
question_here words by.Package w other none = absurd (other refl)
question_here words by.Provides w other none = a_capability _ (capability (word_at words w)) _ none
question_here words by.Requires w other none = a_capability _ (capability (word_at words w)) _ none
question_here words by.Conflicts w other none = a_capability _ (capability (word_at words w)) _ none
question_here words by.Obsoletes w other none = a_capability _ (capability (word_at words w)) _ none
question_here words by.Number w other none = a_number _ (number (word_at words w)) _ none
question_here words by.Tid w other none = a_number _ (number (word_at words w)) _ none
question_here words by.Recommends w other none = a_capability _ (capability (word_at words w)) _ none
question_here words others w other none = refl

query_mode : (m : Mode) → is_query m ≡ true → m ≡ mode.Query
query_mode mode.Query is = refl
query_mode others is = absurd cc

no_package : (m : Mode) (c : Chosen) → is_query m ≡ true → (is_query m && is_package c) ≡ false → c ≡ by.Package → ⊥
no_package m c query none same =
    let whole : (true && is_package c) ≡ false = subst (λ (b : Bool). (b && is_package c) ≡ false) query none in
    let both : true ≡ false = subst (λ (k : Chosen). (true && is_package k) ≡ false) same whole in absurd cc

pub questions : (words : List (List ℕ)) (a : AskParts) → ask words ≡ Ok a → is_query a.mode ≡ true → of_files a ≡ false → AreQuestions words a
questions words a is query files =
    each_then {P = IsFit words a.chosen} {Q = λ w. is_question a.chosen (word_at words w) ≡ true}
    (λ w fit. question_here words a.chosen w (no_package a.mode a.chosen query files) fit) a.arguments
    (fit_arguments words a is (query_mode a.mode query))

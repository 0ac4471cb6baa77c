-- What the answers to words say, to those that aren't done and to those that are.
use Rattle.std.proofs.Common.{◌≡◌, ◌∙◌, ℕ, true, false, List, Option, Some, None, Result, Ok, Err, refl, sym, ap, subst, inl, inr}
use Rattle.std.specs.Prelude.{◌≢◌}
use Rattle.rpm_tool.proofs.Vocabulary.{ask, AskParts, asks, asks_format, command_and_format, format_in, FormatFault, is_of_words, Tree, Undone, Why, WordsFault}
use Rattle.rpm_tool.specs.Theorem.{AnswersWords}
use Rattle.rpm_words.specs.declared.fault.WordsKind.TheVariants as kind
use Rattle.rpm_qfparse.specs.declared.fault.FormatKind.TheVariants as wrong
use Rattle.rpm_effects.specs.declared.answer.Why.TheVariants as why

none_some : (p : AskParts × Tree) (o : Option (AskParts × Tree)) → o ≡ None → o ≡ Some p → ⊥
none_some p o none some = cc

module _ (words : List (List ℕ)) where
  pub undone_words : (w : Why) → Undone (ask words) (asks_format words) w → AnswersWords words w
  unfolding asks_format
  undone_words (why.Usage g) t = record {
    usage = λ f. (λ same. cc, λ e. inl cc);
    usage_kind = λ f same. let one : g ≡ f = cc in subst (λ (x : WordsFault). x.kind ≢ kind.NoMemory) one t.1;
    bad_format = λ f. (λ same. cc, λ e. let both : None ≡ Some (Err f) = sym (ap (format_in words) t.0) ∙ e in cc);
    bad_format_kind = λ f same. absurd cc;
  }
  undone_words (why.BadFormat g) t = record {
    usage = λ f. (λ same. cc, λ e. let both : None ≡ Some (Err g) = sym (ap (format_in words) e) ∙ t.0 in cc);
    usage_kind = λ f same. absurd cc;
    bad_format = λ f. (λ same. cc, λ e. inl cc);
    bad_format_kind = λ f same. let one : g ≡ f = cc in subst (λ (x : FormatFault). x.kind ≢ wrong.NoMemory) one t.1;
  }
  undone_words why.NoMemory t = record {
    usage = λ f. (λ same. cc, λ e. inr refl);
    usage_kind = λ f same. absurd cc;
    bad_format = λ f. (λ same. cc, λ e. inr refl);
    bad_format_kind = λ f same. absurd cc;
  }
  undone_words _ t = absurd t

  no_tree : (asked : Result AskParts WordsFault) (f : FormatFault) → command_and_format asked (Some (Err f)) ≡ None
  no_tree (Ok a) f = refl
  no_tree (Err g) f = refl

  -- words that ask for a command are undone for want of memory alone
  pub starved : (w : Why) → Undone (ask words) (asks_format words) w → (a : AskParts) (tree : Tree) → asks words ≡ Some (a, tree) → w ≡ why.NoMemory
  unfolding asks asks_format
  starved (why.Usage f) t a tree read =
      absurd (none_some (a, tree) _ (ap (λ (r : Result AskParts WordsFault). command_and_format r (format_in words r)) t.0) read)
  starved (why.BadFormat f) t a tree read = absurd (none_some (a, tree) _ (ap (command_and_format (ask words)) t.0 ∙ no_tree (ask words) f) read)
  starved why.NoMemory t a tree read = refl
  starved _ t a tree read = absurd t

  -- neither answer comes where a command was read, and it is the one that the words ask for
  module _ {a : AskParts} {tree : Tree} (read : (ask words ≡ Ok a) × (asks_format words ≡ Some (Ok tree))) where
    pub done_words : (w : Why) → is_of_words w ≡ false → AnswersWords words w
    done_words w done = record {
      usage = λ f. (λ same. let both : true ≡ false = sym (ap is_of_words same) ∙ done in cc, λ e. let both : Ok a ≡ Err f = sym read.0 ∙ e in cc);
      usage_kind = λ f same. let both : true ≡ false = sym (ap is_of_words same) ∙ done in absurd cc;
      bad_format = λ f. (
        λ same. let both : true ≡ false = sym (ap is_of_words same) ∙ done in cc,
        λ e. let both : Some (Ok tree) ≡ Some (Err f) = sym read.1 ∙ e in cc,
      );
      bad_format_kind = λ f same. let both : true ≡ false = sym (ap is_of_words same) ∙ done in absurd cc;
    }

    pub asked_is : asks words ≡ Some (a, tree)
    unfolding asks
    asked_is = ap (command_and_format (ask words)) read.1 ∙ ap (λ (r : Result AskParts WordsFault). command_and_format r (Some (Ok tree))) read.0

    pub asked_some : {P : Type 0} → asks words ≡ None → P
    asked_some none = absurd (none_some (a, tree) (asks words) none asked_is)

-- a command that was asked is the one that was read
of_asked : (P : AskParts → Tree → Type 0) (o : Option (AskParts × Tree)) {a b : AskParts} {tree other : Tree} → o ≡ Some (a, tree)
    → o ≡ Some (b, other) → P a tree → P b other
of_asked P (Some p) {a = a} {b = b} {tree = tree} {other = other} one two is =
    let first : p ≡ (a, tree) = cc in
    let second : p ≡ (b, other) = cc in
    subst (λ (q : AskParts × Tree). P q.0 q.1) (sym first ∙ second) is
of_asked P None one two is = absurd cc

pub same_asked : (P : AskParts → Tree → Type 0) (words : List (List ℕ)) {a b : AskParts} {tree other : Tree} → asks words ≡ Some (a, tree)
    → asks words ≡ Some (b, other) → P a tree → P b other
same_asked P words one two is = of_asked P (asks words) one two is

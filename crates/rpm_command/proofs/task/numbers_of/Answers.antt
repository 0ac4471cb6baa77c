use Rattle.std.proofs.Common.{◌≡◌, ℕ, ◌+◌, List, [], ◌∷◌, ◌++◌, Option, Some, drop, sym, ap, ◌∙◌, append_assoc, arith}
use Rattle.std.specs.Prelude.{slice_get}
use Rattle.rpm_command.proofs.Vocabulary.{filter_map, number, word_at}
use Rattle.std.proofs.lemmas.List.Elements.{filter_map-append}
use Rattle.rpm_effects.proofs.laws.Parts.{drop_get}
use Rattle.rpm_command.proofs.task.numbers_of.Goals as goal

-- one more is gone over
more : (f : ℕ → Option ℕ) (args ns ms all : List ℕ) (k w : ℕ) → slice_get args k ≡ Some w → ms ≡ ns ++ filter_map f (w ∷ [])
    → ns ++ filter_map f (drop k args) ≡ all → ms ++ filter_map f (drop (k + 1) args) ≡ all
more f args ns ms all k w here is before =
    let rest = drop (k + 1) args in
    let cons : filter_map f (drop k args) ≡ filter_map f (w ∷ []) ++ filter_map f rest =
    ap (filter_map f) (drop_get args k w here) ∙ filter_map-append f (w ∷ []) rest in
    ap (λ (xs : List ℕ). xs ++ filter_map f rest) is ∙ append_assoc ns (filter_map f (w ∷ [])) (filter_map f rest)
    ∙ ap (λ (xs : List ℕ). ns ++ xs) (sym cons) ∙ before

pub loop-k-preserved : goal.loop-k-preserved
loop-k-preserved c = record {
  numbers = more (λ w. number (word_at c.args.words.now w)) c.args.ask.now.arguments c.loop-k.numbers.items c.push_number.new.numbers.items _ c.loop-k.k
      c.argument.result c.argument.ensures
      (c.in_ok-push_number.ensures.items ∙ ap (λ (t : List ℕ). c.loop-k.numbers.items ++ filter_map number (t ∷ [])) c.text_at.ensures)
      c.loop-k.invariant.numbers;
  few = omega (arith, c.in_ok-push_number.ensures.few, c.loop-k.invariant.few);
}

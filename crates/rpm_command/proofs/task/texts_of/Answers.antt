use Rattle.std.proofs.Common.{◌≡◌, ℕ, ◌+◌, List, [], ◌∷◌, ◌++◌, map, length, drop, Some, Bor, sym, ap, ◌∙◌, append_assoc, arith}
use Rattle.std.specs.Prelude.{slice_get}
use Rattle.std.proofs.lemmas.List.{length-append, map-append}
use Rattle.rpm_command.proofs.Vocabulary.{word_at}
use Rattle.rpm_effects.proofs.laws.Parts.{drop_get}
use Rattle.rpm_command.proofs.task.texts_of.Goals as goal

abbrev bytes : Bor (List ℕ) → List ℕ
bytes text = text.now

-- one more is gone over
more : (f : ℕ → List ℕ) (args : List ℕ) (ts us : List (Bor (List ℕ))) (t : Bor (List ℕ)) (k w : ℕ) → slice_get args k ≡ Some w → us ≡ ts ++ t ∷ []
    → t.now ≡ f w → map bytes ts ++ map f (drop k args) ≡ map f args → map bytes us ++ map f (drop (k + 1) args) ≡ map f args
more f args ts us t k w here is text before =
    let rest = map f (drop (k + 1) args) in
    ap (λ (xs : List (Bor (List ℕ))). map bytes xs ++ rest) is
    ∙ ap (λ (xs : List (List ℕ)). xs ++ rest) (map-append bytes ts (t ∷ []))
    ∙ append_assoc (map bytes ts) (t.now ∷ []) rest
    ∙ ap (λ (x : List ℕ). map bytes ts ++ x ∷ rest) text
    ∙ ap (λ (xs : List ℕ). map bytes ts ++ map f xs) (sym (drop_get args k w here)) ∙ before

pub loop-k-preserved : goal.loop-k-preserved
loop-k-preserved c =
    let items = c.in_ok-push.ensures.items in
    let longer : length c.push.new.self.items ≡ length c.loop-k.texts.items + 1 = ap length items ∙ length-append c.loop-k.texts.items (_ ∷ []) in
    record {
      texts = more (word_at c.args.words.now) c.args.ask.now.arguments c.loop-k.texts.items c.push.new.self.items _ c.loop-k.k c.argument.result
          c.argument.ensures items c.text_at.ensures c.loop-k.invariant.texts;
      few = omega (arith, longer, c.loop-k.invariant.few);
    }

-- The tokens of a command line, one more word at a time.
use Rattle.std.proofs.Common.{◌≡◌, ℕ, ◌+◌, ◌≤◌, List, [], ◌∷◌, ◌++◌, Some, length, drop, zero, suc, ap, sym, ◌∙◌, arith, add-one, append_assoc, append-nil}
use Rattle.rpm_words.proofs.Vocabulary.{Name, Program, Purpose, purpose_behind, said_tokens, said_behind, says, slice_get, Token}
use Rattle.std.proofs.lemmas.Grind.{common_steps}

pub drop_cut : {X : Type 0} (xs : List X) (i : ℕ) (x : X) → slice_get xs i ≡ Some x → drop i xs ≡ x ∷ drop (i + 1) xs
drop_cut [] zero x h = cc
drop_cut [] (suc i) x h = cc
drop_cut (y ∷ ys) zero x h = let e : y ≡ x = cc in grind (arith, common_steps)
drop_cut (y ∷ ys) (suc i) x h = rw add-one (drop_cut ys i x h ∙ rw add-one)

-- what a word adds
pub said_step : (program : Program) (previous : Purpose) (i : ℕ) (words : List (List ℕ)) (text : List ℕ) → slice_get words i ≡ Some text →
    said_behind program previous i (drop i words)
    ≡ says i (purpose_behind program previous text) text ++ said_behind program (purpose_behind program previous text) (i + 1) (drop (i + 1) words)
unfolding said_behind
said_step program previous i words text h = rw (drop_cut words i text h)

pub said_end : (program : Program) (previous : Purpose) (i : ℕ) (words : List (List ℕ)) → length words ≤ i → said_behind program previous i (drop i words) ≡ []
unfolding said_behind
said_end program previous i words h = let e : drop i words ≡ [] = grind (arith, common_steps) in rw e

pub tokens_begin : (program : Program) (words : List (List ℕ)) (tokens : List Token) → tokens ≡ [] →
    tokens ++ said_behind program Name 1 (drop 1 words) ≡ said_tokens program words
unfolding said_tokens
tokens_begin program words tokens h = rw h

pub tokens_step : (program : Program) (previous purpose : Purpose) (i : ℕ) (words : List (List ℕ)) (text : List ℕ) (tokens more all : List Token) →
    slice_get words i ≡ Some text → purpose ≡ purpose_behind program previous text → more ≡ tokens ++ says i purpose text →
    tokens ++ said_behind program previous i (drop i words) ≡ all → more ++ said_behind program purpose (i + 1) (drop (i + 1) words) ≡ all
tokens_step program previous purpose i words text tokens more all at r m before =
    ap (λ x. x ++ said_behind program purpose (i + 1) (drop (i + 1) words)) m
    ∙ append_assoc tokens _ _
    ∙ ap (λ (v : Purpose). tokens ++ (says i v text ++ said_behind program v (i + 1) (drop (i + 1) words))) r
    ∙ ap (λ x. tokens ++ x) (sym (said_step program previous i words text at))
    ∙ before

pub tokens_end : (program : Program) (previous : Purpose) (i : ℕ) (words : List (List ℕ)) (tokens all : List Token) → length words ≤ i →
    tokens ++ said_behind program previous i (drop i words) ≡ all → tokens ≡ all
tokens_end program previous i words tokens all h before =
    sym (append-nil tokens) ∙ ap (λ x. tokens ++ x) (sym (said_end program previous i words h)) ∙ before

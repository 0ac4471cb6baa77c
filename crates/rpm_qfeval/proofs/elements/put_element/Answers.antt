use Rattle.std.proofs.Common.{◌≡◌, ℕ, zero, suc, ◌≤◌, List, [], ◌∷◌, length, Some, None, cond, refl, ap, arith}
use Rattle.std.proofs.lemmas.Bool.{ne_eqb}
use Rattle.std.specs.Prelude.{slice_get}
use Rattle.rpm_qfeval.proofs.Vocabulary.{blob_text, count_of, Elements, number_text, NumberList, OneBlob, option_map, Show, shown_element, text_text, TextList}
use Rattle.rpm_qfeval.proofs.elements.put_element.Goals as goal

past : {X : Type 0} (xs : List X) (i : ℕ) → length xs ≤ i → slice_get xs i ≡ None
past [] i h = refl
past (x ∷ xs) zero h = absurd (omega arith)
past (x ∷ xs) (suc i) h = past xs i (omega arith)

past_end : (f : Show) (e : Elements) (i : ℕ) → count_of e ≤ i → shown_element f e i ≡ None
past_end f (NumberList ns) i h = ap (option_map (number_text f (length ns))) (past ns i h)
past_end f (TextList ts) i h = ap (option_map (text_text f (length ts))) (past ts i h)
past_end f (OneBlob b) zero h = absurd (omega arith)
past_end f (OneBlob b) (suc i) h = ap (λ v. cond v (Some (blob_text f b)) None) (ne_eqb (suc i) 0 (λ e. omega (arith, e)))

pub returns-then-place-count : goal.returns-then-place-count
returns-then-place-count g c =
    let le : count_of c.args.value.now ≤ c.args.place = omega arith in
    rw (past_end c.args.part.now.show c.args.value.now c.args.place le) c.put_none.ensures

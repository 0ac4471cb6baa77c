use Rattle.std.proofs.Common.{◌≡◌, ℕ, List, [], ◌∷◌, Some, ap, subst}
use Rattle.std.specs.Prelude.{slice_get}
use Rattle.rpm_qfeval.proofs.Vocabulary.{bytes, counts, rounds, Writes}
use Rattle.rpm_qfeval.proofs.inside.put_over.Goals as goal

first_counts : (counts : List ℕ) (count : ℕ) (f : ℕ → List ℕ) → Some count ≡ slice_get counts 0 → rounds (count ∷ []) f ≡ rounds counts f
first_counts [] count f e = absurd cc
first_counts (n ∷ ns) count f e = let same : count ≡ n = cc in ap (λ (k : ℕ). rounds (k ∷ []) f) same

pub returns-in-Some : goal.returns-in-Some
returns-in-Some g c =
    subst (λ (x : List ℕ). Writes g.O.Sink c.args.sink.now c.put_rounds.new.sink x c.put_rounds.result)
    (first_counts (counts c.args.view.now c.args.number c.args.inner.now) c.in-Some.count (λ i. bytes c.args.view.now c.args.number i
    c.args.inner.now) c.in-Some.ensures) c.put_rounds.ensures

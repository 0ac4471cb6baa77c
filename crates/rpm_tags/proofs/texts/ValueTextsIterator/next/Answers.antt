use Rattle.std.proofs.Common.{ℕ, ◌≤◌, List, length, subst, arith}
use Rattle.std.proofs.lemmas.List.Elements.{All-rest}
use Rattle.rpm_tags.proofs.texts.ValueTextsIterator.next.Goals.{in-Stored+in-None, in-Stored+in-Some, in-Joined, in-Files}
use Rattle.rpm_tags.proofs.Vocabulary.{IsPartLeft}
use Rattle.rpm_tags.proofs.texts.ValueTextsIterator.next.Goals as goal

pub invariant_of-self : goal.invariant_of-self
invariant_of-self c =
    elim c.match-self.branch [
      | in-Stored+in-None w ↦ rw (w.self-inside-is, w.in-None.ensures.steps.1) (λ k d h. absurd (omega arith))
      | in-Stored+in-Some w ↦ (let short = subst IsPartLeft w.in-Stored.is c.self.invariant in
          rw w.self-inside-is (All-rest (λ (text : List ℕ). length text ≤ 67108864) w.in-Some.text.now w.next.new.self w.in-Stored.texts
          w.in-Some.ensures.steps short))
      | in-Joined w ↦ rw w.self-inside-is tt
      | in-Files w ↦ rw w.self-inside-is tt
    ]

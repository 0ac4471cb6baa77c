use Rattle.std.proofs.Common.{◌≡◌, ℕ, inl, inr, true, subst, ◌∙◌, arith}
use Rattle.std.specs.Prelude.{is_some}
use Rattle.std.proofs.lemmas.Bool.{cases_lt}
use Rattle.rpm_group.proofs.Vocabulary.{page_at}
use Rattle.rpm_group.proofs.table.add_pages.Goals as goal

pub loop-q-preserved : goal.loop-q-preserved
loop-q-preserved c =
    let inv = c.loop-q.invariant in
    record {
      same = λ i. c.add_page.ensures.same i ∙ inv.same i;
      there = λ q from below. elim (cases_lt q c.loop-q.q) [
        | inl before ↦ c.add_page.ensures.pages q (inv.there q from before)
        | inr past ↦
            let is : c.loop-q.q ≡ q = omega arith in
            subst (λ (p : ℕ). is_some (page_at c.add_page.new.table.items p) ≡ true) is c.in_ok-add_page.ensures.there
      ];
    }

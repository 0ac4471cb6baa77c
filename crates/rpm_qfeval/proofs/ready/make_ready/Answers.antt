use Rattle.std.proofs.Common.{◌≡◌, ℕ, ◌+◌, List, [], ◌∷◌, ◌++◌, length, Some, inl, inr, sym, ap, ◌∙◌, subst}
use Rattle.std.specs.Prelude.{slice_get}
use Rattle.rpm_qfeval.proofs.Vocabulary.{Header, Part, parts_of_tree, Ready, StandReady, StandsReady, Tree}
use Rattle.rpm_qfeval.proofs.Plain.{get_more}
use Rattle.rpm_qfeval.proofs.ready.make_ready.Goals as goal

one_more : (h : Header) (number : ℕ) (inner : Tree) (all more : List Ready) (p : Part) (one : Ready) → StandReady h number inner all
    → more ≡ all ++ one ∷ [] → slice_get (parts_of_tree inner) (length all) ≡ Some p → StandsReady h number p one → StandReady h number inner more
one_more h number inner all more p one each is at this = λ k part other here there. elim (get_more all one other k
    (ap (λ xs. slice_get xs k) (sym is) ∙ there)) [
      | inl before ↦ each k part other here before
      | inr last ↦
          let same : p ≡ part = let e : Some p ≡ Some part = sym at ∙ ap (λ i. slice_get (parts_of_tree inner) i) (sym last.0) ∙ here in cc in
          subst (λ q. StandsReady h number q other) same (subst (λ (x : Ready). StandsReady h number p x) last.1 this)
    ]

pub loop-i-preserved : goal.loop-i-preserved
loop-i-preserved g c =
    let at : slice_get (parts_of_tree c.args.inner.now) (length c.loop-i.ready.items) ≡ Some c.at.result.now = rw c.loop-i.invariant.size c.at.ensures.value in
    record {
      size = c.push.ensures.len ∙ ap (λ (n : ℕ). n + 1) c.loop-i.invariant.size;
      each = one_more c.args.view.now c.args.number c.args.inner.now c.loop-i.ready.items c.push.new.self.items c.at.result.now c.ready_part.result
          c.loop-i.invariant.each c.push.ensures.items at c.ready_part.ensures;
    }

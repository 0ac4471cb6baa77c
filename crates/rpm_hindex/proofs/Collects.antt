-- A chain that is gone along.
use Rattle.std.proofs.Common.{◌≡◌, ℕ, ◌+◌, ◌<◌, ◌≤◌, List, [], ◌∷◌, ◌++◌, true, Result, Ok, sym, ap, ◌∙◌, arith, subst}
use Rattle.rpm_hindex.proofs.Vocabulary.{behind_place, FindFault, follow, HitsAre, Index, is_sound, IsFaultOf, next_at, sum_by}
use Rattle.std.proofs.lemmas.List.{append-nil}
use Rattle.std.proofs.lemmas.List.Sums.{sum_by-append, sum_by-cons}
use Rattle.rpm_hindex.specs.declared.faults.FindFault.TheVariants.{BadIndex, DiskFault, NoMemory}
use Rattle.rpm_hindex.proofs.Chains.{behind_all, behind_more, behind_ok, behind_err, behind_all_is_ok, follow_is_ok, follow_step}

module _ (x : Index) (b from : ℕ) (done : List ℕ) (at : ℕ) (so_far : follow x b from from ≡ behind_all done (follow x b at at)) where
  pub one_more : (next : ℕ) → 0 < at → is_sound x b at ≡ true → next ≡ next_at x.unit at → follow x b from from ≡ behind_all (done ++ at ∷ [])
      (follow x b next next)
  one_more next some sound is =
      so_far
      ∙ ap (behind_all done) (follow_step x b at at some (omega arith) sound ∙ ap (λ (n : ℕ). behind_place at (follow x b n n)) (sym is))
      ∙ sym (behind_more done at (follow x b next next))

  pub at_fault : (fault : FindFault) → IsFaultOf (follow x b at at) fault → IsFaultOf (follow x b from from) fault
  at_fault (BadIndex unit) e = so_far ∙ ap (behind_all done) e ∙ behind_err done unit
  at_fault DiskFault e = tt
  at_fault NoMemory e = tt

  pub at_end : {H : Type 0} (P : List ℕ → H → Type 0) (hits : H) → at ≡ 0 → P done hits → HitsAre P (follow x b from from) hits
  at_end P hits zeros p =
      let all = so_far ∙ ap (behind_all done) (ap (λ (n : ℕ). follow x b n n) zeros) ∙ behind_ok done [] ∙ ap Ok (append-nil done) in
      subst (λ (s : Result (List ℕ) ℕ). HitsAre P s hits) (sym all) p

  -- what was read is within the records of the chain
  pub cost_more : (units : ℕ → ℕ) (places : List ℕ) → 0 < at → follow x b from from ≡ Ok places → (is_sound x b at ≡ true)
      × (sum_by units done + units at ≤ sum_by units places)
  cost_more units places some e =
      let all = behind_all_is_ok done (follow x b at at) places (sym so_far ∙ e) in
      let one = follow_is_ok x b at at all.0 some (omega arith) all.1 in
      let sum1 : sum_by units places ≡ sum_by units done + sum_by units all.0 = ap (sum_by units) all.2 ∙ sum_by-append units done all.0 in
      let sum2 : sum_by units all.0 ≡ units at + sum_by units one.0 = ap (sum_by units) one.2 ∙ sum_by-cons units at one.0 in
      (one.1, omega arith)

  pub cost_all : (units : ℕ → ℕ) (places : List ℕ) → follow x b from from ≡ Ok places → sum_by units done ≤ sum_by units places
  cost_all units places e =
      let all = behind_all_is_ok done (follow x b at at) places (sym so_far ∙ e) in
      let sum1 : sum_by units places ≡ sum_by units done + sum_by units all.0 = ap (sum_by units) all.2 ∙ sum_by-append units done all.0 in
      omega arith

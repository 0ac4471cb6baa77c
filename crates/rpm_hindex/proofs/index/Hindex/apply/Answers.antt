use Rattle.std.proofs.Common.{rules, ◌≡◌, true, ℕ, List, sym, subst, ap, ◌∙◌}
use Rattle.rpm_hindex.proofs.Vocabulary.{file_after, buckets_after, index_in, is_ordered, IsAfter, IsChanged, IsPaddedPlan, IsPlanFor, LeavesOrder}
use Rattle.rpm_hindex.proofs.Vocabulary.{records, Row, IndexState, Units, Work, WritesPadded}
use Rattle.rpm_hindex.proofs.Results.{on_ok}
use Rattle.rpm_hindex.proofs.index.Hindex.apply.Goals as goal

ordered : (old new : IndexState) (work : Work) → IsAfter old new work → LeavesOrder work → is_ordered new.pending new.second new.units ≡ true
ordered old new work v leaves =
    ap (λ (b : ℕ). is_ordered b new.second new.units) v.pending
    ∙ ap (λ (u : List ℕ). is_ordered (buckets_after work) u new.units) v.second
    ∙ leaves new.units v.units

applied : (drops adds : List Row) (buckets : ℕ) (old new : Units) (work : Work) → new ≡ file_after work old → IsPlanFor drops adds buckets old work
    → IsChanged drops adds (records buckets old) (buckets_after work) new
unfolding IsPlanFor
applied drops adds buckets old new work is plan = subst (IsChanged drops adds (records buckets old) (buckets_after work)) (sym is) plan

padded : (buckets : ℕ) (old new : Units) (work : Work) → new ≡ file_after work old → IsPaddedPlan buckets old work
    → WritesPadded work (index_in buckets old) (index_in (buckets_after work) new)
unfolding IsPaddedPlan
padded buckets old new work is plan = subst (λ (f : Units). WritesPadded work (index_in buckets old) (index_in (buckets_after work) f)) (sym is) plan

pub returns-in-InPlace-clause-value : goal.returns-in-InPlace-clause-value
returns-in-InPlace-clause-value g c = search rules

pub returns-in-InPlace-clause-ordered : goal.returns-in-InPlace-clause-ordered
returns-in-InPlace-clause-ordered g c =
    on_ok c.patch.result _ _ (ordered c.args.self.now c.patch.new.self c.args.plan.work) (returns-in-InPlace-clause-value g c)

pub returns-in-InPlace-clause-left : goal.returns-in-InPlace-clause-left
returns-in-InPlace-clause-left g c = search rules

pub returns-in-InPlace-clause-rows : goal.returns-in-InPlace-clause-rows
returns-in-InPlace-clause-rows g c = on_ok c.patch.result _ _ (λ left told drops adds B plan. applied drops adds B _ _ c.args.plan.work
    (left.written told) plan) (returns-in-InPlace-clause-left g c)

pub returns-in-InPlace-clause-padded : goal.returns-in-InPlace-clause-padded
returns-in-InPlace-clause-padded g c = on_ok c.patch.result _ _ (λ left told B plan. padded B _ _ c.args.plan.work (left.written told) plan)
    (returns-in-InPlace-clause-left g c)

pub returns-in-Scratch-clause-value : goal.returns-in-Scratch-clause-value
returns-in-Scratch-clause-value g c = search rules

pub returns-in-Scratch-clause-ordered : goal.returns-in-Scratch-clause-ordered
returns-in-Scratch-clause-ordered g c =
    on_ok c.replace.result _ _ (ordered c.args.self.now c.replace.new.self c.args.plan.work) (returns-in-Scratch-clause-value g c)

pub returns-in-Scratch-clause-left : goal.returns-in-Scratch-clause-left
returns-in-Scratch-clause-left g c = search rules

pub returns-in-Scratch-clause-rows : goal.returns-in-Scratch-clause-rows
returns-in-Scratch-clause-rows g c = on_ok c.replace.result _ _ (λ left told drops adds B plan. applied drops adds B _ _ c.args.plan.work
    (left.written told) plan) (returns-in-Scratch-clause-left g c)

pub returns-in-Scratch-clause-padded : goal.returns-in-Scratch-clause-padded
returns-in-Scratch-clause-padded g c = on_ok c.replace.result _ _ (λ left told B plan. padded B _ _ c.args.plan.work (left.written told) plan)
    (returns-in-Scratch-clause-left g c)

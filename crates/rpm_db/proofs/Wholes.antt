-- An index that is well formed as a whole, while a change of it is worked out and written.
use Rattle.std.proofs.Common.{◌≡◌, ℕ, List, sym, subst}
use Rattle.rpm_db.proofs.Vocabulary.{BadCause, BadIndex, buckets_of, ChangeFault, Files, IsPlanFor, IsSealedAfter, IsWellFormed, IsWholeIndex, Row}
use Rattle.rpm_db.proofs.Vocabulary.{unit_at, Units, WholeCause, Work, WritesWhole}
use Rattle.rpm_db.proofs.Prepared.{never_bad}

-- a change is worked out, told by the first unit that a value keeps
pub whole_plan : (drops adds : List Row) (first : List ℕ) (idx : Units) (work : Work) → first ≡ unit_at idx 0
    → (IsWellFormed (buckets_of first) idx → IsPlanFor drops adds (buckets_of first) idx work) → IsWholeIndex idx → WritesWhole work idx
unfolding IsPlanFor
whole_plan drops adds first idx work same makes whole = (makes (subst (λ (u : List ℕ). IsWellFormed (buckets_of u) idx) (sym same) whole)).whole

-- and written and sealed
pub whole_sealed : (generation : ℕ) (work : Work) (from mid : Files) (idx : Units) → mid ≡ from → WritesWhole work from.idx
    → IsSealedAfter generation work mid.idx idx → IsWholeIndex idx
whole_sealed generation work from mid idx same writes sealed =
    let is = (subst (λ (f : Files). IsSealedAfter generation work f.idx idx) same sealed).sealed writes in
    subst (λ (buckets : ℕ). IsWellFormed buckets idx) (sym is.buckets_are) is.whole

-- or refused, but not for the index
pub whole_cause : (drops : List Row) (idx : Units) (fault : ChangeFault) → IsWholeIndex idx → BadCause drops idx fault → WholeCause fault
whole_cause drops idx (BadIndex unit) whole bad = never_bad drops (buckets_of (unit_at idx 0)) unit idx whole bad
whole_cause drops idx others whole bad = tt

-- One record of a chain, as it was read.
use Rattle.std.proofs.Common.{◌≡◌, ℕ, ◌+◌, ◌*◌, ◌/◌, ◌%◌, ◌^◌, ◌≤◌, List, Bool, true, false, ◌&&◌, cond, eqb, Result, Ok, Err, refl, sym, ap, ◌∙◌, arith, subst, inl, inr}
use Rattle.std.specs.Prelude.{Option, Some, None}
use Rattle.rpm_hindex.proofs.Vocabulary.{bytes_eq, Files, FindFault, first_record, has_key, Head, Hit, is_wanted, IsFaultOf, IsFront, IsOutsideIndex, Row, row_at}
use Rattle.rpm_hindex.proofs.Vocabulary.{row_of_hit, same_row, units_at, word}
use Rattle.std.proofs.lemmas.Bool.{cases_Bool, and_parts, eqb-true, eq-eqb, and_from}
use Rattle.rpm_hindex.specs.declared.faults.FindFault.TheVariants.{BadIndex, DiskFault, NoMemory}

pub number_at : (unit : ℕ → List ℕ) (at : ℕ) → (row_at unit at).number ≡ word 2 (unit at)
unfolding row_at
number_at unit at = refl

pub place_at : (unit : ℕ → List ℕ) (at : ℕ) → (row_at unit at).place ≡ word 3 (unit at)
unfolding row_at
place_at unit at = refl

-- a row with another number or place
pub other_row : (row r : Row) → (row.number ≡ r.number → row.place ≡ r.place → ⊥) → same_row row r ≡ false
other_row row r other = elim (cases_Bool (same_row row r)) [
  | inl same ↦
      let p = and_parts (eqb row.kind r.kind) _ same in
      let q = and_parts (bytes_eq row.key r.key) _ p.1 in
      let n = and_parts (eqb row.number r.number) (eqb row.place r.place) q.1 in
      absurd (other (eqb-true _ _ n.0) (eqb-true _ _ n.1))
  | inr apart ↦ apart
]

and_true : (t : Bool) → (t && true) ≡ t
and_true true = refl
and_true false = refl

-- a row with this number and place is the same by its key
same_by_key : (row r : Row) → row.number ≡ r.number → row.place ≡ r.place → has_key row.kind row.key r ≡ same_row row r
same_by_key row r n p =
    let both : (eqb row.number r.number && eqb row.place r.place) ≡ true = and_from (eqb row.number r.number) _ (eq-eqb _ _ n) (eq-eqb _ _ p) in
    sym (ap (λ (t : Bool). eqb row.kind r.kind && (bytes_eq row.key r.key && t)) both
    ∙ ap (λ (t : Bool). eqb row.kind r.kind && t) (and_true (bytes_eq row.key r.key)))

-- a row that has this key, and the number and place that are looked for, where only one is
pub wanted_by_key : (kind : ℕ) (key : List ℕ) (only : Option Hit) (r : Row) → ((hit : Hit) → only ≡ Some hit → (hit.number ≡ r.number) × (hit.place ≡ r.place))
    → has_key kind key r ≡ is_wanted kind key only r
wanted_by_key kind key None r same = refl
wanted_by_key kind key (Some hit) r same = let is = same hit refl in same_by_key (row_of_hit kind key hit) r is.0 is.1

-- a well formed chain has no fault
pub outside : (said : Result (List ℕ) ℕ) (places : List ℕ) (e : FindFault) → said ≡ Ok places → IsFaultOf said e → IsOutsideIndex e
outside said places (BadIndex unit) is fault =
    let wrong : Err unit ≡ Ok places = sym fault ∙ is in
    let no' : ⊥ = cc in no'
outside said places DiskFault is fault = tt
outside said places NoMemory is fault = tt

-- the last record that is kept stands among the records
pub front_last : (buckets : ℕ) (stays : Bool) (h : Head) (before now : Option Head) → now ≡ cond stays (Some h) before → IsFront buckets before
    → first_record buckets ≤ h.at → IsFront buckets now
front_last buckets true h before now is front below = subst (IsFront buckets) (sym is) below
front_last buckets false h before now is front below = subst (IsFront buckets) (sym is) front

-- what is so of a later disk is so of the first one
pub moved : (P : Files → ℕ → Type 0) (later file : Files) (p at : ℕ) → later ≡ file → p ≡ at → P later p → P file at
moved P later file p at same here is = subst (P file) here (subst (λ (f : Files). P f p) same is)

-- what the record's head says of its units
pub units_read : (unit : ℕ → List ℕ) (at p size : ℕ) → p ≡ at → word 1 (unit p) ≡ size → 16 + 16 * ((size % 2 ^ 28 + 15) / 16) ≡ 16 * units_at unit at
units_read unit at p size here is =
    let sized : word 1 (unit at) % 2 ^ 28 ≡ size % 2 ^ 28 = ap (λ (n : ℕ). n % 2 ^ 28) (ap (λ (q : ℕ). word 1 (unit q)) (sym here) ∙ is) in
    omega (arith, sized)

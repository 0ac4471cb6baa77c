-- One record on the way to a row's.
use Rattle.std.proofs.Common.{◌≡◌, ℕ, ◌+◌, ◌*◌, ◌<◌, ◌≤◌, List, [], ◌∷◌, ◌++◌, Bool, true, false, ◌&&◌, sym, ap, ◌∙◌, arith, subst}
use Rattle.std.specs.Prelude.{Option}
use Rattle.rpm_hindex.proofs.Vocabulary.{Files, filter, FindFault, follow, HasNone, Head, Index, index_in, is_sound, IsFaultOf, IsLastPlace, IsMet, IsOutsideIndex}
use Rattle.rpm_hindex.proofs.Vocabulary.{IsPath, IsSpot, Met, next_at, PathCosts, Row, row_at, same_row, SkipsTo, sum_by, unit_at, units_at}
use Rattle.std.proofs.lemmas.Bool.{and_parts}
use Rattle.std.proofs.lemmas.List.{append_assoc}
use Rattle.std.proofs.lemmas.List.Sums.{sum_by_push, sum_by-append, sum_by-cons}
use Rattle.rpm_hindex.proofs.Steps.{outside}
use Rattle.rpm_hindex.proofs.Paths.{path_next, path_follow}
use Rattle.rpm_hindex.proofs.Ways.{path_more, path_then, none_more, no_hit, cost_here}

-- a chain was gone along as far as a place, from which it goes on to another
module _ (B b from at end : ℕ) (file before : Files) (done left : List ℕ) (same : before ≡ file) (path : IsPath (index_in B file.idx) b from done at)
    (way : IsPath (index_in B file.idx) b at left end) (below : end < at) where
  abbrev x : Index
  x = index_in B file.idx

  abbrev units : ℕ → ℕ
  units = units_at (unit_at file.idx)

  pub next_left : (qs : List ℕ) × (left ≡ at ∷ qs) × (is_sound x b at ≡ true) × IsPath x b (next_at x.unit at) qs end
  next_left = path_next x b at end left way below

  all_units : sum_by units (done ++ left) ≡ sum_by units done + (units at + sum_by units next_left.0)
  all_units =
      sum_by-append units done left
      ∙ ap (λ (n : ℕ). sum_by units done + n) (ap (sum_by units) next_left.1 ∙ sum_by-cons units at next_left.0)

  -- a fault of the chain from there on comes from outside
  pub fault_outside : (rest : List ℕ) → IsPath x b end rest 0 → (e : FindFault) → IsFaultOf (follow (index_in B before.idx) b at at) e → IsOutsideIndex e
  fault_outside rest more e fault =
      outside (follow x b at at) (left ++ rest) e (path_follow x b at (left ++ rest) (path_then x b at end 0 left rest way more))
      (subst (λ (f : Files). IsFaultOf (follow (index_in B f.idx) b at at) e) same fault)

  -- with the record that stands there no more was read than the whole way costs
  pub cost_within : (first old new : ℕ) → old ≤ first + 16 * sum_by units done
      → (is_sound (index_in B before.idx) b at ≡ true → new ≤ old + 16 * units_at (unit_at before.idx) at) → new ≤ first + 16 * sum_by units (done ++ left)
  cost_within first old new so_far cost = omega (arith, cost_here B b at file before old new same cost next_left.2, all_units, so_far)

  -- the record that stands there was met
  module _ (row : Row) (met : Met) (is : IsMet (index_in B before.idx) at (same_row row) met) where
    pub met_first : IsMet x at (same_row row) met
    met_first = subst (λ (f : Files). IsMet (index_in B f.idx) at (same_row row) met) same is

    pub met_path : IsPath x b from (done ++ at ∷ []) met.next
    met_path = path_more x b from at met.next done path (omega (arith, below)) next_left.2 met_first.next

    pub met_left : IsPath x b met.next next_left.0 end
    met_left = subst (λ (n : ℕ). IsPath x b n next_left.0 end) (sym met_first.next) next_left.3

    -- what is so after it
    pub behind : (P : Index → List ℕ → Type 0) (after : Files) → after ≡ file
        → ((qs : List ℕ) → IsPath (index_in B after.idx) b met.next qs end → P (index_in B after.idx) qs) → P x next_left.0
    behind P after stays said =
        subst (λ (f : Files). (qs : List ℕ) → IsPath (index_in B f.idx) b met.next qs end → P (index_in B f.idx) qs) stays said next_left.0 met_left

    -- what was read with those after it
    pub cost_behind : (after : Files) (first old mid new : ℕ) → after ≡ file → old ≤ first + 16 * sum_by units done
        → (is_sound (index_in B before.idx) b at ≡ true → mid ≤ old + 16 * units_at (unit_at before.idx) at)
        → PathCosts (index_in B after.idx) b met.next end mid new → new ≤ first + 16 * sum_by units (done ++ left)
    cost_behind after first old mid new stays so_far cost costs =
        let rest = behind (λ (y : Index) (qs : List ℕ). new ≤ mid + 16 * sum_by (units_at y.unit) qs) after stays costs in
        omega (arith, rest, cost_here B b at file before old mid same cost next_left.2, all_units, so_far)

    -- what was read with it
    pub cost_passed : (first old mid : ℕ) → old ≤ first + 16 * sum_by units done
        → (is_sound (index_in B before.idx) b at ≡ true → mid ≤ old + 16 * units_at (unit_at before.idx) at)
        → mid ≤ first + 16 * sum_by units (done ++ at ∷ [])
    cost_passed first old mid so_far cost = omega (arith, cost_here B b at file before old mid same cost next_left.2, so_far, sum_by_push units done at)

    -- it isn't the row's, or is dropped
    pub none_passed : (kept : ℕ → Bool) → met.head.at ≡ at → HasNone (unit_at file.idx) kept row done → (met.is_wanted && kept met.head.at) ≡ false
        → HasNone (unit_at file.idx) kept row (done ++ at ∷ [])
    none_passed kept here none miss =
        none_more (unit_at file.idx) kept row done at none
        (λ stays. no_hit (same_row row (row_at (unit_at file.idx) at)) met.is_wanted (kept met.head.at) met_first.same miss (ap kept here ∙ stays))

    -- it is the row's and kept, and the dropped ones after it were skipped
    pub spot_met : (kept : ℕ → Bool) (last : Option Head) (to : ℕ) (after : Files) → met.head.at ≡ at
        → IsLastPlace (unit_at file.idx) (filter kept done) last → (met.is_wanted && kept met.head.at) ≡ true → after ≡ file
        → ((qs : List ℕ) → IsPath (index_in B after.idx) b met.next qs end → SkipsTo (index_in B after.idx) b end kept met.next to)
        → IsSpot x b from end kept row (record { before = last; at = at; behind = to })
    spot_met kept last to after here is_last hit stays skips =
        let parts = and_parts met.is_wanted (kept met.head.at) hit in
        record {
          front = done;
          path = path;
          last = is_last;
          some = omega (arith, below);
          sound = next_left.2;
          stays = ap kept (sym here) ∙ parts.1;
          same = sym met_first.same ∙ parts.0;
          long = met_first.long parts.0;
          rest = subst (λ (n : ℕ). SkipsTo x b end kept n to) met_first.next
              (behind (λ (y : Index) (qs : List ℕ). SkipsTo y b end kept met.next to) after stays skips);
        }

-- the way after one record more
pub left_more : (front done left qs : List ℕ) (at : ℕ) → front ≡ done ++ left → left ≡ at ∷ qs → front ≡ (done ++ at ∷ []) ++ qs
left_more front done left qs at is first = is ∙ ap (λ (ps : List ℕ). done ++ ps) first ∙ sym (append_assoc done (at ∷ []) qs)

-- The search that has entered nothing, and the one that has entered all.
use Rattle.std.proofs.Common.{◌≡◌, ℕ, ◌+◌, ◌≤◌, ◌<◌, List, [], zero, suc, length, get_or, replicate, refl, ◌∙◌, inl, inr, arith}
use Rattle.rpm_graph.proofs.Vocabulary.{AreWithin, Contains, IsEdge, IsOnPath, IsSearch, IsSplit, Link, unseen_count}
use Rattle.std.proofs.lemmas.Bool.{cases_lt}
use Rattle.std.proofs.lemmas.List.{length-replicate}
use Rattle.rpm_graph.proofs.Fronts.{waits_open}

all_unseen : (n : ℕ) → unseen_count (replicate n 0) ≡ n
all_unseen zero = refl
all_unseen (suc n) = let again = all_unseen n in omega (arith, again)

no_rank : (n v : ℕ) → ◌≡◌ {A = ℕ} (get_or (replicate n 0) v 0) 0
no_rank zero v = refl
no_rank (suc n) zero = refl
no_rank (suc n) (suc v) = no_rank n v

none : {X : Type 0} (x : X) → Contains [] x → ⊥
none x h = omega (arith, h.1)

pub fresh : (rows : List (List ℕ)) → IsSearch rows (replicate (length rows) 0) [] [] [] 0
fresh rows =
    let zeros = no_rank (length rows) in
    record {
      sized = length-replicate (length rows) 0;
      path_room = omega (arith, all_unseen (length rows));
      class_room = omega (arith, all_unseen (length rows));
      placed = λ i lt. absurd (omega (arith, lt));
      ranked = λ v o. absurd (omega (arith, o.entered, zeros v));
      bounded = λ v lt. omega (arith, zeros v);
      filled = λ c lt. absurd (omega (arith, lt));
      walks = λ v w ov ow flat. absurd (omega (arith, ov.entered, zeros v));
      together = λ v w v_in w_in over same. absurd (omega (arith, over, zeros v));
      looked = λ v w lt some goes. absurd (omega (arith, some, zeros v));
      pending_open = λ i lt. absurd (omega (arith, lt));
      pending_rises = λ i j le lt. absurd (omega (arith, lt));
      rooted = λ root has. absurd (none root has);
      roots_rise = λ i j less lt. absurd (omega (arith, lt));
      first = λ some. absurd (omega (arith, some));
    }

module _ (rows : List (List ℕ)) (ranks path roots : List ℕ) (pending : List Link) (closed : ℕ) (s : IsSearch rows ranks path roots pending closed)
    (empty : length path ≡ 0) where
  pub none_open : (v : ℕ) → IsOnPath (length rows) ranks v → ⊥
  none_open v o = let at = s.ranked v o in omega (arith, at.1, empty)

  module _ (ends : AreWithin rows) (seen : (v : ℕ) → v < length rows → 1 ≤ get_or ranks v 0) (classes : List ℕ) (sized : length classes ≡ length ranks)
      (lower : (v : ℕ) → v < length rows → get_or classes v 0 + (length rows + 1) ≡ get_or ranks v 0) where
    done : (v : ℕ) → v < length rows → length rows < get_or ranks v 0
    done v lt = elim (cases_lt (length rows) (get_or ranks v 0)) [
      | inl over ↦ over
      | inr low ↦ absurd (none_open v (record { within = lt; entered = seen v lt; below = low }))
    ]

    falls : (v w : ℕ) → v < length rows → IsEdge rows v w → get_or classes w 0 ≤ get_or classes v 0
    falls v w lt goes = elim (s.looked v w lt (seen v lt) goes) [
      | inl waits ↦ absurd (none_open v (waits_open s v w waits))
      | inr f ↦ let last = f.closed (done v lt) in omega (arith, last.1, lower v lt, lower w (ends v w goes))
    ]

    pub split_at_end : IsSplit rows classes closed
    split_at_end = record {
      sized = sized ∙ s.sized;
      bounded = λ v lt. omega (arith, lower v lt, done v lt, s.bounded v lt);
      filled = λ c lt. let was = s.filled c lt in (was.0, was.1, omega (arith, lower was.0 was.1, was.2));
      falls = falls;
      together = λ v w v_in w_in same. s.together v w v_in w_in (done v v_in) (omega (arith, lower v v_in, lower w w_in, same));
    }

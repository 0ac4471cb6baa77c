-- The bytes after keys, where records stay.
use Rattle.std.proofs.Common.{◌≡◌, ℕ, ◌+◌, ◌<◌, List, drop, refl, sym, ap, ◌∙◌, arith, subst, inl, inr}
use Rattle.rpm_hindex.proofs.Vocabulary.{AddsPadded, All, all_places, ArePadded, bytes_of, Contains, Index, key_units, length_at, past_key, Remains, units_from}
use Rattle.rpm_hindex.proofs.Vocabulary.{Units, units_at}
use Rattle.rpm_hindex.proofs.Runs.{run_same}
use Rattle.rpm_hindex.proofs.Wholes.{HasChains}
use Rattle.rpm_hindex.proofs.Extends.{Extends, Stands, length_same, all_same, stands_all, same_units, same_row}

-- a record whose length and whose key's units are as they were
pub past_same : (u v : ℕ → List ℕ) (p : ℕ) → length_at v p ≡ length_at u p → ((i : ℕ) → p < i → i < p + units_at u p → v i ≡ u i)
    → past_key v p ≡ past_key u p
past_same u v p long same =
    ap (λ (n : ℕ). drop n (bytes_of (units_from v (p + 1) (key_units n)))) long
    ∙ ap (λ (us : Units). drop (length_at u p) (bytes_of us)) (run_same v u (p + 1) (key_units (length_at u p)) (λ i ge lt. same i (omega arith) (omega arith)))

-- what stands in both
pub remains : (x y : Index) (e : Extends x y) (b p : ℕ) → Stands x b p → Contains (all_places x) p → Remains x y p
remains x y e b p s old =
    let here = same_units x y e b p s in
    record {
      stood = old;
      row = same_row x y e b p s;
      past = past_same x.unit y.unit p (length_same x.unit y.unit p here) (λ i ge lt. e.units i (omega (arith, s.front)) (omega (arith, s.sound.ends)));
    }

pub padded_then : (x y : Index) → ArePadded x → AddsPadded x y → ArePadded y
padded_then x y all adds p c = elim (adds p c) [
  | inl is ↦ is
  | inr old ↦ subst (All (λ (b : ℕ). b ≡ 0)) (sym old.past) (all p old.stood)
]

pub adds_none : (x : Index) → AddsPadded x x
adds_none x p c = inr (record { stood = c; row = refl; past = refl })

pub adds_then : (x y z : Index) → AddsPadded x y → AddsPadded y z → AddsPadded x z
adds_then x y z first second p c = elim (second p c) [
  | inl is ↦ inl is
  | inr old ↦ elim (first p old.stood) [
    | inl is ↦ inl (subst (All (λ (b : ℕ). b ≡ 0)) (sym old.past) is)
    | inr older ↦ inr (record { stood = older.stood; row = old.row ∙ older.row; past = old.past ∙ older.past })
  ]
]

-- the same index, read from elsewhere
pub adds_same : (x y : Index) (e : Extends x y) → ((b : ℕ) → b < x.buckets → y.head b ≡ x.head b) → (ps : ℕ → List ℕ) → HasChains x ps → AddsPadded x y
adds_same x y e heads ps has p c =
    let old = subst (λ (qs : List ℕ). Contains qs p) (all_same x y e heads ps has) c in
    let s = stands_all x y e heads ps has p old in
    inr (remains x y e s.0 p s.1 old)

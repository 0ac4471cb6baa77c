-- A row is dropped.
use Rattle.std.proofs.Common.{◌≡◌, ℕ, zero, suc, ◌<◌, List, [], ◌∷◌, length, Bool, true, false, not, Result, Ok, Err, refl, sym, ap, ◌∙◌, arith, subst, inl, inr}
use Rattle.rpm_hindex.proofs.Vocabulary.{bucket_of, chain, Contains, DropOfOne, filter, HasLess, HasNone, HitsAre, Index, is_kept, is_link, IsSpot, IsWhole}
use Rattle.rpm_hindex.proofs.Vocabulary.{kept_of, places_in, places_of, record_units, Row, row_at, same_is, Spot, units_at}
use Rattle.std.proofs.lemmas.List.Elements.{Contains-append_right}
use Rattle.std.proofs.lemmas.Bool.{cases_Bool, cond-true, cond-false}
use Rattle.rpm_hindex.proofs.Costing.{chain_are}
use Rattle.rpm_hindex.proofs.Wholes.{HasChains, has_chains}
use Rattle.rpm_hindex.proofs.Keeping.{less_none, less_one, kept_none}
use Rattle.rpm_hindex.proofs.Ways.{splits}

pub filter_in : (kept : ℕ → Bool) (ps : List ℕ) (q : ℕ) → Contains (filter kept ps) q → Contains ps q × (kept q ≡ true)
filter_in kept [] q (k, lt, e) = absurd (omega arith)
filter_in kept (p ∷ ps) q c = elim (cases_Bool (kept p)) [
  | inl stays ↦ front (subst (λ (qs : List ℕ). Contains qs q) (cond-true (kept p) (p ∷ filter kept ps) (filter kept ps) stays) c) stays (filter_in kept ps q)
  | inr gone ↦
      let r = filter_in kept ps q (subst (λ (qs : List ℕ). Contains qs q) (cond-false (kept p) (p ∷ filter kept ps) (filter kept ps) gone) c) in
      later r
] where
  later : Contains ps q × (kept q ≡ true) → Contains (p ∷ ps) q × (kept q ≡ true)
  later ((k, lt, e), is) = ((suc k, omega arith, e), is)

  front : Contains (p ∷ filter kept ps) q → kept p ≡ true → (Contains (filter kept ps) q → Contains ps q × (kept q ≡ true)) → Contains (p ∷ ps) q
      × (kept q ≡ true)
  front (zero, lt, e) stays below = ((0, omega arith, e), ap kept (sym e) ∙ stays)
  front (suc k, lt, e) stays below = later (below (k, omega arith, e))

-- the place of a spot
pub spot_in : (x : Index) (b : ℕ) (kept : ℕ → Bool) (row : Row) (s : Spot) → is_link x (x.head b) ≡ true → chain x b ≡ Ok (places_of x b)
    → IsSpot x b (x.head b) 0 kept row s → Contains (places_of x b) s.at
spot_in x b kept row s link said is =
    let t = splits x b kept row s link said is in
    let c : Contains (filter kept (places_of x b)) s.at = subst (λ (ps : List ℕ). Contains ps s.at) (sym t.are)
    (Contains-append_right t.before (s.at ∷ t.after) s.at (0, omega arith, refl)) in
    (filter_in kept (places_of x b) s.at c).0

-- its units are those of the row's record
pub spot_units : (x : Index) (b from : ℕ) (kept : ℕ → Bool) (row : Row) (s : Spot) → IsSpot x b from 0 kept row s → (n : ℕ)
    → n ≡ record_units (length row.key) → n ≡ units_at x.unit s.at
spot_units x b from kept row s is n long =
    long ∙ ap (λ (r : Row). record_units (length r.key)) (same_is row (row_at x.unit s.at) is.same) ∙ ap record_units is.long

module _ (x : Index) (count live : ℕ) (whole : IsWhole count live x) (row : Row) (dropped : ℕ → Bool) (b : ℕ)
    (below : b < x.buckets) (mine : b ≡ bucket_of x.buckets row) where
  has : HasChains x (places_of x)
  has = has_chains x whole.chains

  said : chain x b ≡ Ok (places_of x b)
  said = chain_are x b (whole.chains b below)

  -- there is none
  pub drops_none : (places : List ℕ) → chain x b ≡ Ok places → HasNone x.unit (is_kept dropped) row places
      → HasLess (row ∷ []) (kept_of x (is_kept dropped)) (kept_of x (is_kept dropped))
  drops_none places all none =
      let two : Ok (places_of x b) ≡ Ok places = sym said ∙ all in
      let same : places_of x b ≡ places = cc in
      less_none x has row (is_kept dropped) (kept_none x has row (is_kept dropped) (λ q c stays.
      none q (subst (λ (ps : List ℕ). Contains ps q) same (subst (λ (n : ℕ). Contains (places_of x n) q) (sym mine) c)) stays))

  -- there is one
  pub drops_one : (s : Spot) (new : ℕ → Bool) → is_link x (x.head b) ≡ true → IsSpot x b (x.head b) 0 (is_kept dropped) row s → DropOfOne dropped new s.at
      → HasLess (row ∷ []) (kept_of x (is_kept dropped)) (kept_of x (is_kept new))
  drops_one s new link is put =
      let q = spot_in x b (is_kept dropped) row s link said is in
      let gone : is_kept new s.at ≡ false = ap not put.here in
      less_one x has row (is_kept dropped) b s.at below q (same_is row (row_at x.unit s.at) is.same) (is_kept new) is.stays gone
      (λ r other. ap not (put.others r other))

-- the answer of a walk over a chain, in the words of its places
pub of_places : {H : Type 0} (P : List ℕ → H → Type 0) (x : Index) (b : ℕ) (hits : H) → HitsAre P (chain x b) hits → P (places_of x b) hits
unfolding places_of
of_places P x b hits h = parts (chain x b) h where
  parts : (said : Result (List ℕ) ℕ) → HitsAre P said hits → P (places_in said) hits
  parts (Ok places) are = are
  parts (Err unit) are = absurd are

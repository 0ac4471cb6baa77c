-- Ways over the records of a chain.
use Rattle.std.proofs.Common.{◌≡◌, ℕ, zero, suc, ◌+◌, ◌<◌, ◌≤◌, List, [], ◌∷◌, Ok, true, refl, sym, ap, ◌∙◌, arith, subst}
use Rattle.rpm_hindex.proofs.Vocabulary.{chain, ChainCosts, Contains, Files, follow, Index, index_in, is_sound, IsPath, next_at, PathCosts, unit_at, units_at}
use Rattle.std.proofs.lemmas.List.{append-nil}
use Rattle.rpm_hindex.proofs.Chains.{sound_parts, behind_ok}
use Rattle.rpm_hindex.proofs.FollowedLinks.{IsChain, chain_of_follow}
use Rattle.rpm_hindex.proofs.Ways.{path_follows}

module _ (x : Index) (b : ℕ) where
  -- a way falls
  pub path_falls : (from to : ℕ) (ps : List ℕ) → IsPath x b from ps to → to ≤ from
  path_falls from to [] is = omega (arith, is)
  path_falls from to (p ∷ ps) (is, some, sound, rest) =
      omega (arith, is, path_falls (next_at x.unit p) to ps rest, (sound_parts x b p sound).falls)

  -- its places stand before its end, and are those of sound records
  pub path_above : (from to : ℕ) (ps : List ℕ) → IsPath x b from ps to → (q : ℕ) → Contains ps q → (to < q) × (q ≤ from) × (is_sound x b q ≡ true)
  path_above from to [] is q (k, lt, e) = absurd (omega arith)
  path_above from to (p ∷ ps) (is, some, sound, rest) q (zero, lt, e) =
      let falls = path_falls (next_at x.unit p) to ps rest in
      (omega (arith, falls, (sound_parts x b p sound).falls, e), omega (arith, is, e), ap (is_sound x b) (sym e) ∙ sound)
  path_above from to (p ∷ ps) (is, some, sound, rest) q (suc k, lt, e) =
      let later = path_above (next_at x.unit p) to ps rest q (k, omega arith, e) in
      (later.0, omega (arith, later.1, (sound_parts x b p sound).falls, is), later.2)

  -- the next record of a way that isn't at its end
  pub path_next : (at to : ℕ) (ps : List ℕ) → IsPath x b at ps to → to < at
      → (qs : List ℕ) × (ps ≡ at ∷ qs) × (is_sound x b at ≡ true) × IsPath x b (next_at x.unit at) qs to
  path_next at to [] is below = absurd (omega (arith, is))
  path_next at to (p ∷ ps) (is, some, sound, rest) below = (
    ps,
    ap (λ (q : ℕ). q ∷ ps) (sym is),
    ap (is_sound x b) is ∙ sound,
    subst (λ (q : ℕ). IsPath x b (next_at x.unit q) ps to) (sym is) rest,
  )

  -- a way that is at its end
  pub path_ends : (at to : ℕ) (ps : List ℕ) → IsPath x b at ps to → at ≤ to → (ps ≡ []) × (at ≡ to)
  path_ends at to [] is le = (refl, is)
  path_ends at to (p ∷ ps) (is, some, sound, rest) le =
      absurd (omega (arith, is, path_falls (next_at x.unit p) to ps rest, (sound_parts x b p sound).falls))

  -- the whole of a chain
  chain_path : (at : ℕ) (ps : List ℕ) → IsChain x b at ps → IsPath x b at ps 0
  chain_path at [] is = is
  chain_path at (p ∷ ps) (is, some, sound, rest) = (is, some, sound, chain_path (next_at x.unit p) ps rest)

  pub follow_path : (at : ℕ) (ps : List ℕ) → follow x b at at ≡ Ok ps → IsPath x b at ps 0
  follow_path at ps ok = chain_path at ps (chain_of_follow x b at at ps (omega arith) ok)

  pub path_follow : (at : ℕ) (ps : List ℕ) → IsPath x b at ps 0 → follow x b at at ≡ Ok ps
  path_follow at ps path = path_follows x b at 0 ps path ∙ behind_ok ps [] ∙ ap Ok (append-nil ps)

-- what a chain costs, in the words of the first disk
pub chain_cost : (B b at : ℕ) (file later : Files) (old mid new : ℕ) → later ≡ file → chain (index_in B file.idx) b ≡ follow (index_in B file.idx) b at at
    → mid ≤ old + 16 → PathCosts (index_in B later.idx) b at 0 mid new
    → ChainCosts (chain (index_in B file.idx) b) (units_at (unit_at file.idx)) (old + 16) new
chain_cost B b at file later old mid new same is le costs = λ places e.
    let here = subst (λ (f : Files). PathCosts (index_in B f.idx) b at 0 mid new) same costs places
    (follow_path (index_in B file.idx) b at places (sym is ∙ e)) in
    omega (arith, here, le)

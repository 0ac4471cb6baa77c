-- The way to a row's record.
use Rattle.std.proofs.Common.{◌≡◌, ℕ, zero, suc, ◌+◌, ◌*◌, ◌<◌, ◌≤◌, List, [], ◌∷◌, ◌++◌, Bool, true, false, ◌&&◌, cond, Ok, refl, sym, ap, ◌∙◌, arith, subst, inl, inr}
use Rattle.std.specs.Prelude.{Option, Some, ◌⊎◌}
use Rattle.rpm_hindex.proofs.Vocabulary.{behind_place, chain, Contains, Files, filter, follow, HasNone, Head, Index, index_in, is_link, is_sound, IsRecordHead}
use Rattle.rpm_hindex.proofs.Vocabulary.{IsHeadWithin, IsLastPlace, IsPath, IsSpot, next_at, places_of, Row, row_at, same_row, Spot, sum_by, unit_at, units_at}
use Rattle.std.proofs.lemmas.List.{append_assoc, append-nil}
use Rattle.std.proofs.lemmas.List.Elements.{filter-append, Contains-append_cases}
use Rattle.std.proofs.lemmas.List.Sums.{sum_by-append}
use Rattle.std.proofs.lemmas.Bool.{cases_Bool, cond-true, cond-false, false≢true}
use Rattle.rpm_hindex.proofs.Chains.{behind_all, behind_all_is_ok, follow_step, chain_from}
use Rattle.rpm_hindex.proofs.FollowedLinks.{IsChain, chain_of_follow}

module _ (x : Index) (b : ℕ) where
  -- one record more
  pub path_more : (from at next : ℕ) (done : List ℕ) → IsPath x b from done at → 0 < at → is_sound x b at ≡ true → next ≡ next_at x.unit at
      → IsPath x b from (done ++ at ∷ []) next
  path_more from at next [] is some sound e = (is, some, sound, sym e)
  path_more from at next (p ∷ ps) (is, psome, psound, rest) some sound e = (is, psome, psound, path_more (next_at x.unit p) at next ps rest some sound e)

  -- two ways, one after the other
  pub path_then : (from mid to : ℕ) (ps qs : List ℕ) → IsPath x b from ps mid → IsPath x b mid qs to → IsPath x b from (ps ++ qs) to
  path_then from mid to [] qs first second = subst (λ (n : ℕ). IsPath x b n qs to) (sym first) second
  path_then from mid to (p ∷ ps) qs (is, some, sound, rest) second = (is, some, sound, path_then (next_at x.unit p) mid to ps qs rest second)

  -- what is read over a way
  pub path_follows : (from to : ℕ) (ps : List ℕ) → IsPath x b from ps to → follow x b from from ≡ behind_all ps (follow x b to to)
  path_follows from to [] is = ap (λ (n : ℕ). follow x b n n) is
  path_follows from to (p ∷ ps) (is, some, sound, rest) =
      ap (λ (n : ℕ). follow x b n n) is
      ∙ follow_step x b p p some (omega arith) sound
      ∙ ap (behind_place p) (path_follows (next_at x.unit p) to ps rest)

  pub path_cost : (from to : ℕ) (ps : List ℕ) (units : ℕ → ℕ) (places : List ℕ) → IsPath x b from ps to → follow x b from from ≡ Ok places
      → (rest : List ℕ) × (follow x b to to ≡ Ok rest) × (places ≡ ps ++ rest) × (sum_by units places ≡ sum_by units ps + sum_by units rest)
  path_cost from to ps units places path ok =
      let all = behind_all_is_ok ps (follow x b to to) places (sym (path_follows from to ps path) ∙ ok) in
      (all.0, all.1, all.2, ap (sum_by units) all.2 ∙ sum_by-append units ps all.0)

-- ---- the last that is kept

pub filter_last : (kept : ℕ → Bool) (ps : List ℕ) (p : ℕ) → kept p ≡ true → filter kept (ps ++ p ∷ []) ≡ filter kept ps ++ p ∷ []
filter_last kept ps p stays = filter-append kept ps (p ∷ []) ∙ ap (λ (qs : List ℕ). filter kept ps ++ qs) (cond-true (kept p) (p ∷ []) [] stays)

pub filter_same : (kept : ℕ → Bool) (ps : List ℕ) (p : ℕ) → kept p ≡ false → filter kept (ps ++ p ∷ []) ≡ filter kept ps
filter_same kept ps p gone =
    filter-append kept ps (p ∷ []) ∙ ap (λ (qs : List ℕ). filter kept ps ++ qs) (cond-false (kept p) (p ∷ []) [] gone) ∙ append-nil (filter kept ps)

pub last_more : (unit : ℕ → List ℕ) (kept : ℕ → Bool) (done : List ℕ) (at : ℕ) (before now : Option Head) (h : Head)
    → IsLastPlace unit (filter kept done) before → IsRecordHead unit h → h.at ≡ at → now ≡ cond (kept h.at) (Some h) before
    → IsLastPlace unit (filter kept (done ++ at ∷ [])) now
last_more unit kept done at before now h last head here is = elim (cases_Bool (kept at)) [
  | inl stays ↦
      let now_is : now ≡ Some h = is ∙ cond-true (kept h.at) (Some h) before (ap kept here ∙ stays) in
      subst (IsLastPlace unit (filter kept (done ++ at ∷ []))) (sym now_is)
      (head, (filter kept done, filter_last kept done at stays ∙ ap (λ (p : ℕ). filter kept done ++ p ∷ []) (sym here)))
  | inr gone ↦
      let now_is : now ≡ before = is ∙ cond-false (kept h.at) (Some h) before (ap kept here ∙ gone) in
      subst (IsLastPlace unit (filter kept (done ++ at ∷ []))) (sym now_is)
      (subst (λ (qs : List ℕ). IsLastPlace unit qs before) (sym (filter_same kept done at gone)) last)
]

pub none_more : (unit : ℕ → List ℕ) (kept : ℕ → Bool) (row : Row) (done : List ℕ) (at : ℕ) → HasNone unit kept row done
    → (kept at ≡ true → same_row row (row_at unit at) ≡ false) → HasNone unit kept row (done ++ at ∷ [])
none_more unit kept row done at none here q c stays = elim (Contains-append_cases done (at ∷ []) q c) [
  | inl in_done ↦ none q in_done stays
  | inr last ↦ only last
] where
  only : Contains (at ∷ []) q → same_row row (row_at unit q) ≡ false
  only (zero, lt, e) = ap (λ (p : ℕ). same_row row (row_at unit p)) (sym e) ∙ here (ap kept e ∙ stays)
  only (suc k, lt, e) = absurd (omega arith)

pub no_hit : (same is_row stays : Bool) → is_row ≡ same → (is_row && stays) ≡ false → stays ≡ true → same ≡ false
no_hit true true true e hit k = hit
no_hit true true false e hit k = absurd (false≢true k)
no_hit true false stays e hit k = sym e
no_hit false is_row stays e hit k = refl

-- what reading a record cost, in the words of the first disk
pub cost_here : (B b at : ℕ) (file later : Files) (old new : ℕ) → later ≡ file → (is_sound (index_in B later.idx) b at ≡ true → new ≤ old + 16 * units_at
    (unit_at later.idx) at)
    → is_sound (index_in B file.idx) b at ≡ true → new ≤ old + 16 * units_at (unit_at file.idx) at
cost_here B b at file later old new same cost =
    subst (λ (f : Files). is_sound (index_in B f.idx) b at ≡ true → new ≤ old + 16 * units_at (unit_at f.idx) at) same cost

pub within_last : (used : ℕ) (stays : Bool) (h : Head) (before now : Option Head) → now ≡ cond stays (Some h) before → IsHeadWithin used before → 0 < h.at
    → h.at < used → IsHeadWithin used now
within_last used true h before now is within some below = subst (IsHeadWithin used) (sym is) (some, below)
within_last used false h before now is within some below = subst (IsHeadWithin used) (sym is) within

pub chain_is : (x : Index) (b at : ℕ) → at ≡ x.head b → is_link x at ≡ true → chain x b ≡ follow x b at at
chain_is x b at word link = chain_from x b (ap (is_link x) (sym word) ∙ link) ∙ ap (λ (n : ℕ). follow x b n n) (sym word)

-- ---- a spot among the kept places

abbrev pub first_of : List ℕ → ℕ
first_of [] = 0
first_of (p ∷ ps) = p

-- the kept places on both sides of it
pub record Splits (x : Index) (b : ℕ) (kept : ℕ → Bool) (s : Spot) : Type 0 where
  pub before : List ℕ
  pub after : List ℕ
  pub are : filter kept (places_of x b) ≡ before ++ s.at ∷ after
  pub last : IsLastPlace x.unit before s.before
  pub next : first_of after ≡ s.behind

first_kept : (x : Index) (b : ℕ) (kept : ℕ → Bool) (at : ℕ) (ps : List ℕ) → IsChain x b at ps → (at ≡ 0) ⊎ (kept at ≡ true)
    → first_of (filter kept ps) ≡ at
first_kept x b kept at [] is ends = sym is
first_kept x b kept at (p ∷ ps) (is, some, sound, rest) (inl zeros) = absurd (omega (arith, is, some, zeros))
first_kept x b kept at (p ∷ ps) (is, some, sound, rest) (inr stays) =
    ap first_of (cond-true (kept p) (p ∷ filter kept ps) (filter kept ps) (ap kept (sym is) ∙ stays)) ∙ sym is

pub splits : (x : Index) (b : ℕ) (kept : ℕ → Bool) (row : Row) (s : Spot) → is_link x (x.head b) ≡ true → chain x b ≡ Ok (places_of x b)
    → IsSpot x b (x.head b) 0 kept row s → Splits x b kept s
splits x b kept row s link said is =
    let head = x.head b in
    let here : IsPath x b s.at (s.at ∷ is.rest.dropped) s.behind = (refl, is.some, is.sound, is.rest.path) in
    let path = path_then x b head s.at s.behind is.front (s.at ∷ is.rest.dropped) is.path here in
    let all = path_cost x b head s.behind (is.front ++ s.at ∷ is.rest.dropped) (λ (q : ℕ). 1) (places_of x b) path (sym (chain_from x b link) ∙ said) in
    let rest : List ℕ = all.0 in
    let dropped = filter-append kept is.rest.dropped rest ∙ ap (λ (qs : List ℕ). qs ++ filter kept rest) is.rest.none in
    record {
      before = filter kept is.front;
      after = filter kept rest;
      are = ap (filter kept) (all.2 ∙ append_assoc is.front (s.at ∷ is.rest.dropped) rest)
          ∙ filter-append kept is.front (s.at ∷ (is.rest.dropped ++ rest))
          ∙ ap (λ (qs : List ℕ). filter kept is.front ++ qs) (cond-true (kept s.at) (s.at ∷ filter kept (is.rest.dropped ++ rest)) _ is.stays
          ∙ ap (λ (qs : List ℕ). s.at ∷ qs) dropped);
      last = is.last;
      next = first_kept x b kept s.behind rest (chain_of_follow x b s.behind s.behind rest (omega arith) all.1) is.rest.ends;
    }

-- A change that cuts a record out of its chain.
use Rattle.std.proofs.Common.{◌≡◌, ℕ, suc, ◌-◌, ◌%◌, ◌<◌, ◌≤◌, List, [], ◌∷◌, ◌++◌, length, Bool, true, false, not, ◌&&◌, cond, ltb, BTreeMap, refl, sym, ap, ◌∙◌, arith, subst, inl, inr}
use Rattle.std.specs.Prelude.{Option, Some, None, unwrap_or}
use Rattle.rpm_hindex.proofs.Vocabulary.{all_places, BTreeSet, bucket_of, bucket_unit, CanGo, Change, index_after, Contains, contains, DropOfOne, filter}
use Rattle.rpm_hindex.proofs.Vocabulary.{first_record, get, Head, Index, index_in, is_kept, is_link, IsWithoutDropped, IsRecordHead, IsLastPlace, HasBuckets, IsSpot, IsWellFormed}
use Rattle.rpm_hindex.proofs.Vocabulary.{IsWhole, kept_of, nat_cmp, next_at, places_of, Puts, Row, row_at, rows_of, SetsBucket, SetsNext, Spot, Stays, times}
use Rattle.rpm_hindex.proofs.Vocabulary.{unit_after, unit_at, Units, units_at, units_of, Unlinks, word}
use Rattle.std.proofs.lemmas.List.{append_assoc}
use Rattle.std.proofs.lemmas.List.Elements.{Contains-append_right}
use Rattle.std.proofs.lemmas.Bool.{cases_eq, cases_Bool, cond-true, lt-ltb, ltb-true, ltb-false, eq-eqb, ne_eqb, and_right}
use Rattle.rpm_hindex.proofs.Chains.{sound_parts}
use Rattle.rpm_hindex.proofs.FollowedLinks.{IsChain}
use Rattle.rpm_hindex.proofs.Wholes.{HasChains, has_chains, places_are, sound_of, in_all, all_in}
use Rattle.rpm_hindex.proofs.Extends.{Stands, stands_in}
use Rattle.rpm_hindex.proofs.Drops.{chain_starts, chain_cuts, links_same}
use Rattle.rpm_hindex.proofs.Kept.{is_other}
use Rattle.rpm_hindex.proofs.Costing.{chain_are}
use Rattle.rpm_hindex.proofs.Dropping.{filter_in}
use Rattle.rpm_hindex.proofs.Ways.{first_of, splits}
use Rattle.rpm_hindex.proofs.Cutting.{but, between, stays_then, first_is, chain_rest, has_cut, whole_cut, rows_kept}

module _ (c : Change) (file : Units) (go : CanGo c) (none : length c.tail.items ≡ 0) (opens : HasBuckets c.extent file)
    (well : IsWellFormed c.extent.buckets file) (cut : IsWithoutDropped c file)
    (units : BTreeMap ℕ (List ℕ)) (dropped : BTreeSet ℕ) (n : ℕ) (b : ℕ) (below : b < c.extent.buckets) where
  abbrev x : Index
  x = index_in c.extent.buckets file

  abbrev y : Index
  y = index_after c file

  abbrev d : Change
  d = record { extent = c.extent; units = units; dropped = dropped; tail = c.tail; records = c.records - 1; live = c.live - n }

  abbrev z : Index
  z = index_after d file

  abbrev kept : ℕ → Bool
  kept = is_kept (λ p. contains nat_cmp c.dropped p)

  abbrev later : ℕ → Bool
  later = is_kept (λ p. contains nat_cmp dropped p)

  abbrev ks : ℕ → List ℕ
  ks a = filter kept (places_of x a)

  used : y.used ≡ x.used
  used = omega (arith, none, opens.used)

  hx : HasChains x (places_of x)
  hx = has_chains x well.chains

  has : HasChains y ks
  has a lt = let h = has_chains y cut.whole.chains a lt in (h.0, subst (IsChain y a (y.head a)) (cut.chains a lt) h.1)

  stands : (q : ℕ) → Contains (all_places x) q → (a : ℕ) × Stands x a q
  stands q m = let i = in_all x (places_of x) hx q m in let h = hx i.0 i.1 in (i.0, stands_in x i.0 (x.head i.0) (places_of x i.0) h.0 h.1 q i.2)

  some_units : (q : ℕ) → 0 < units_at x.unit q
  some_units q = omega arith

  in_x : (a q : ℕ) → a < c.extent.buckets → Contains (ks a) q → Contains (all_places x) q
  in_x a q lt m = all_in x (places_of x) hx q a lt ((filter_in kept (places_of x a) q m).0)

  abbrev old : ℕ → Option (List ℕ)
  old q = get nat_cmp c.units q

  abbrev new : ℕ → Option (List ℕ)
  new q = get nat_cmp units q

  unit_other : (key : ℕ) (w : List ℕ) → Puts old new key w → (i : ℕ) → (i ≡ key → ⊥) → z.unit i ≡ y.unit i
  unit_other key w put i other = ap (λ (o : Option (List ℕ)). cond (ltb i c.extent.used) (unwrap_or o (unit_at file i))
      (unit_at (units_of c.tail.items) (i - c.extent.used))) (put.others i other)

  unit_here : (key : ℕ) (w : List ℕ) → Puts old new key w → key < c.extent.used → z.unit key ≡ w
  unit_here key w put lt =
      cond-true (ltb key c.extent.used) (unit_after new file key) (unit_at (units_of c.tail.items) (key - c.extent.used)) (lt-ltb key c.extent.used lt)
      ∙ ap (λ (o : Option (List ℕ)). unwrap_or o (unit_at file key)) put.here

  both : (p : ℕ) → DropOfOne (λ q. contains nat_cmp c.dropped q) (λ q. contains nat_cmp dropped q) p → (q : ℕ) → later q ≡ (kept q && is_other p q)
  both p put q = elim (cases_eq q p) [
    | inl same ↦
        let gone : later q ≡ false = ap later same ∙ ap not put.here in
        gone ∙ sym (and_right (kept q) (is_other p q) (ap not (eq-eqb q p same)))
    | inr other ↦
        let stays : later q ≡ kept q = ap not (put.others q other) in
        stays ∙ and_true (kept q) (is_other p q) (ap not (ne_eqb q p other))
  ] where
    and_true : (s t : Bool) → t ≡ true → s ≡ (s && t)
    and_true true t is = sym is
    and_true false t is = refl

  -- whatever is cut
  finish : (pre : List ℕ) (p : ℕ) (post : List ℕ) → ks b ≡ pre ++ p ∷ post → n ≡ units_at x.unit p → DropOfOne (λ q. contains nat_cmp c.dropped q)
      (λ q. contains nat_cmp dropped q) p
      → ((q : ℕ) → Contains (all_places x) q → Stays x.unit z.unit q) → (is_link z (z.head b) ≡ true) × IsChain z b (z.head b) (pre ++ post)
      → ((a : ℕ) → a < c.extent.buckets → (a ≡ b → ⊥) → z.head a ≡ y.head a)
      → ((a q : ℕ) → a < c.extent.buckets → (a ≡ b → ⊥) → Contains (ks a) q → next_at z.unit q ≡ next_at y.unit q) → IsWithoutDropped d file
  finish pre p post is size put stays here heads nexts =
      let chains = has_cut x y z refl refl refl kept later hx has cut.stays stays b below pre p post is here heads nexts (both p put) in
      let whole = whole_cut x y z refl refl refl kept later hx has cut.stays stays b below pre p post is here heads nexts (both p put) _ _ c.records
      c.live well cut.whole in
      record {
        whole = subst (λ (m : ℕ). IsWhole (c.records - 1) (c.live - m) z) (sym size) whole.0;
        chains = λ a lt. places_are z (λ e. filter later (places_of x e)) chains a lt;
        stays = stays;
      }

  -- the first of a chain
  first_cut : (p to : ℕ) (post : List ℕ) → ks b ≡ p ∷ post → first_of post ≡ to → SetsBucket file old new b to → n ≡ units_at x.unit p
      → DropOfOne (λ q. contains nat_cmp c.dropped q) (λ q. contains nat_cmp dropped q) p → IsWithoutDropped d file
  first_cut p to post is behind_is sets size put =
      let key = bucket_unit b in
      let behind : (i : ℕ) → first_record c.extent.buckets ≤ i → z.unit i ≡ y.unit i = λ i ge. unit_other key sets.words sets.put i
      (λ e. absurd (omega (arith, e, ge, below, go.fours))) in
      let stays : (q : ℕ) → Contains (all_places x) q → Stays x.unit z.unit q = λ q m.
      let s = stands q m in stays_then x.unit y.unit z.unit q (some_units q) (λ i ge lt. behind i (omega (arith, ge, s.1.front))) (cut.stays q m) in
      let words : unit_after new file key ≡ sets.words = ap (λ (o : Option (List ℕ)). unwrap_or o (unit_at file key)) sets.put.here in
      let head : z.head b ≡ to = ap (word (b % 4)) words ∙ sets.word'.here in
      let heads : (a : ℕ) → a < c.extent.buckets → (a ≡ b → ⊥) → z.head a ≡ y.head a = λ a lt other. elim (cases_eq (bucket_unit a) key) [
        | inl same ↦
            ap (λ (u : ℕ). word (a % 4) (unit_after new file u)) same
            ∙ ap (word (a % 4)) words
            ∙ sets.word'.others (a % 4) (omega arith) (λ e. other (omega (arith, same, e)))
            ∙ sym (ap (λ (u : ℕ). word (a % 4) (unit_after old file u)) same)
        | inr apart ↦ ap (λ (o : Option (List ℕ)). word (a % 4) (unwrap_or o (unit_at file (bucket_unit a)))) (sets.put.others (bucket_unit a) apart)
      ] in
      let nexts : (a q : ℕ) → a < c.extent.buckets → Contains (ks a) q → next_at z.unit q ≡ next_at y.unit q = λ a q lt m.
      let s = stands q (in_x a q lt m) in ap (word 0) (behind q s.1.front) in
      let chain : IsChain y b (y.head b) (p ∷ post) = subst (IsChain y b (y.head b)) is (has b below).1 in
      let in_post : (r : ℕ) → Contains post r → Contains (ks b) r = λ r (k, lt, e). subst (λ (qs : List ℕ). Contains qs r) (sym is) (suc k, omega arith, e) in
      let same : (r : ℕ) → Contains post r → _ = λ r m.
      let i = in_x b r below (in_post r m) in (between x y z r (but x y r (cut.stays r i)) (but x z r (stays r i)), nexts b r below (in_post r m)) in
      let starts = chain_starts y z refl refl b (y.head b) p post chain same in
      let rest = chain_rest y b (y.head b) [] p post chain in
      let next : next_at y.unit p ≡ to = first_is y b (next_at y.unit p) post rest ∙ behind_is in
      let now : z.head b ≡ next_at y.unit p = head ∙ sym next in
      let link : is_link z (z.head b) ≡ true = ap (is_link z) now ∙ links_same y z refl refl (next_at y.unit p) ∙ (sound_parts y b p chain.2).link in
      finish [] p post is size put stays (link, subst (λ (m : ℕ). IsChain z b m post) (sym now) starts) heads (λ a q lt other m. nexts a q lt m)

  -- no other chain has the place
  elsewhere : (r : ℕ) → Contains (ks b) r → (a q : ℕ) → a < c.extent.buckets → (a ≡ b → ⊥) → Contains (ks a) q → q ≡ r → ⊥
  elsewhere r in_b a q lt other m e =
      let s = sound_parts y a q ((sound_of y ks has a q lt m).1) in
      let t = sound_parts y b r ((sound_of y ks has b r below in_b).1) in
      other (sym s.bucket ∙ ap (λ (k : ℕ). bucket_of y.buckets (row_at y.unit k)) e ∙ t.bucket)

  -- or one after another
  later_cut : (pre post : List ℕ) (h : Head) (at to : ℕ) → ks b ≡ pre ++ h.at ∷ at ∷ post → first_of post ≡ to → IsRecordHead x.unit h → SetsNext old new h to
      → n ≡ units_at x.unit at
      → DropOfOne (λ q. contains nat_cmp c.dropped q) (λ q. contains nat_cmp dropped q) at → IsWithoutDropped d file
  later_cut pre post h at to all behind_is is sets size put =
      let from = h.at in
      let w = sets.words in
      let put_w : Puts old new from w = sets.put in
      let mine : Contains (ks b) from = subst (λ (ps : List ℕ). Contains ps from) (sym all) (Contains-append_right pre (from ∷ at ∷ post)
      from (0, omega arith, refl)) in
      let in_b : Contains (all_places x) from = in_x b from below mine in
      let there = stands from in_b in
      let within : from < c.extent.used = omega (arith, there.1.sound.ends, used, none, some_units from) in
      let here : z.unit from ≡ w = unit_here from w put_w within in
      let others : (i : ℕ) → (i ≡ from → ⊥) → z.unit i ≡ y.unit i = unit_other from w put_w in
      let stays : (q : ℕ) → Contains (all_places x) q → Stays x.unit z.unit q = λ q m.
      let s = cut.stays q m in
      elim (cases_eq q from) [
        | inl same ↦
            let at_q : z.unit q ≡ w = ap z.unit same ∙ here in
            record {
              size = ap (word 1) at_q ∙ sets.packed ∙ sym is.packed ∙ ap (λ (k : ℕ). word 1 (x.unit k)) (sym same);
              number = ap (word 2) at_q ∙ sets.number ∙ sym is.number ∙ ap (λ (k : ℕ). word 2 (x.unit k)) (sym same);
              «in» = ap (word 3) at_q ∙ sets.«in» ∙ sym is.«in» ∙ ap (λ (k : ℕ). word 3 (x.unit k)) (sym same);
              key = λ i ge lt. others i (λ e. absurd (omega (arith, e, same, ge))) ∙ s.key i ge lt;
            }
        | inr apart ↦ stays_then x.unit y.unit z.unit q (some_units q) (λ i ge lt. others i (λ e. elim (cases_Bool (ltb q from)) [
          | inl low ↦ absurd (omega (arith, e, lt, well.apart q from m in_b (ltb-true q from low)))
          | inr high ↦ absurd (omega (arith, e, ge, apart, ltb-false q from high))
        ])) s
      ] in
      let heads : (a : ℕ) → a < c.extent.buckets → z.head a ≡ y.head a = λ a lt.
      ap (λ (o : Option (List ℕ)). word (a % 4) (unwrap_or o (unit_at file (bucket_unit a))))
      (put_w.others (bucket_unit a) (λ e. absurd (omega (arith, e, there.1.front, lt, go.fours)))) in
      let chain : IsChain y b (y.head b) (pre ++ from ∷ at ∷ post) = subst (IsChain y b (y.head b)) all (has b below).1 in
      let in_ks : (q : ℕ) → Contains (pre ++ from ∷ at ∷ post) q → Contains (all_places x) q = λ q m. in_x b q below
      (subst (λ (ps : List ℕ). Contains ps q) (sym all) m) in
      let split : pre ++ from ∷ at ∷ post ≡ (pre ++ from ∷ []) ++ at ∷ post = sym (append_assoc pre (from ∷ []) (at ∷ post)) in
      let rest = chain_rest y b (y.head b) (pre ++ from ∷ []) at post (subst (IsChain y b (y.head b)) split chain) in
      let next : next_at z.unit from ≡ next_at y.unit at = ap (word 0) here ∙ sets.next ∙ sym (first_is y b (next_at y.unit at) post rest ∙ behind_is) in
      let cuts = chain_cuts y z refl refl b (y.head b) pre from at post chain (λ q m. let i = in_ks q m in between x y z q
      (but x y q (cut.stays q i)) (but x z q (stays q i))) (λ q other m. ap (word 0) (others q other)) next in
      let same_head = heads b below in
      let link : is_link z (z.head b) ≡ true = ap (is_link z) same_head ∙ links_same y z refl refl (y.head b) ∙ (has b below).0 in
      let joined : pre ++ from ∷ post ≡ (pre ++ from ∷ []) ++ post = sym (append_assoc pre (from ∷ []) post) in
      let chain_now = subst (λ (m : ℕ). IsChain z b m ((pre ++ from ∷ []) ++ post)) (sym same_head) (subst (IsChain z b (y.head b)) joined cuts) in
      finish (pre ++ from ∷ []) at post (all ∙ split) size put stays (link, chain_now)
      (λ a lt other. heads a lt)
      (λ a q lt other m. ap (word 0) (others q (λ e. absurd (elsewhere from mine a q lt other m e))))

  pub drop_cuts : (row : Row) (s : Spot) → is_link x (x.head b) ≡ true → IsSpot x b (x.head b) 0 kept row s → Unlinks file old new b s.before s.behind
      → n ≡ units_at x.unit s.at → DropOfOne (λ q. contains nat_cmp c.dropped q) (λ q. contains nat_cmp dropped q) s.at → IsWithoutDropped d file
  drop_cuts row s link is sets size put =
      let t = splits x b kept row s link (chain_are x b (well.chains b below)) is in
      by_before s.before t.before s.at s.behind t.after t.are t.next t.last sets size put where
        by_before : (o : Option Head) (front : List ℕ) (at to : ℕ) (after : List ℕ) → ks b ≡ front ++ at ∷ after → first_of after ≡ to
            → IsLastPlace x.unit front o
            → Unlinks file old new b o to → n ≡ units_at x.unit at → DropOfOne (λ q. contains nat_cmp c.dropped q) (λ q. contains nat_cmp dropped q) at
            → IsWithoutDropped d
            file
        by_before None front at to after are next none sets size put =
            first_cut at to after (are ∙ ap (λ (ps : List ℕ). ps ++ at ∷ after) none) next sets size put
        by_before (Some h) front at to after are next (head, (pre, is)) sets size put =
            later_cut pre after h at to (are ∙ ap (λ (ps : List ℕ). ps ++ at ∷ after) is ∙ append_assoc pre (h.at ∷ []) (at ∷ after)) next head sets size put

-- what is left of the rows
pub rows_cut : (c : Change) (file : Units) → length c.tail.items ≡ 0 → HasBuckets c.extent file → IsWellFormed c.extent.buckets file → IsWithoutDropped c file
    → (r : Row) → times r (rows_of (index_after c file)) ≡ times r (kept_of (index_in c.extent.buckets file) (is_kept (λ p. contains nat_cmp c.dropped p)))
rows_cut c file none opens well cut r =
    let y : Index = index_after c file in
    let x : Index = index_in c.extent.buckets file in
    rows_kept x y (is_kept (λ p. contains nat_cmp c.dropped p)) refl (has_chains x well.chains) (λ a lt. let h = has_chains y cut.whole.chains a lt in
    (h.0, subst (IsChain y a (y.head a)) (cut.chains a lt) h.1)) cut.stays r

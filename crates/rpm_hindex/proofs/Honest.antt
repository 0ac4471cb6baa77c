-- What a fault of a change says of the index.
use Rattle.std.proofs.Common.{◌≡◌, ℕ, zero, suc, ◌+◌, ◌-◌, ◌/◌, ◌%◌, ◌<◌, ◌≤◌, List, [], ◌∷◌, length, Bool, true, false, not, cond, BTreeMap, Vec, Global, refl, sym, ap, ◌∙◌, arith, subst, inl, inr}
use Rattle.std.specs.Prelude.{Option, None, Some, unwrap_or, is_ok, ◌⊎◌}
use Rattle.rpm_hindex.proofs.Vocabulary.{all_places, BadIndex, BTreeSet, bucket_unit, CanGo, chain, Change, index_after, Contains, contains, DiskFault, DropOfOne}
use Rattle.rpm_hindex.proofs.Vocabulary.{first_record, get, HasNoFault, HasWord, Head, HoldsMore, if_kept, Index, index_in, IndexFull, is_kept}
use Rattle.rpm_hindex.proofs.Vocabulary.{is_link, IsBad, IsBadFor, IsBadSoFar, IsChainFault, IsFaulty, IsFront, IsHonest, IsLinked, HasBuckets, IsSpot}
use Rattle.rpm_hindex.proofs.Vocabulary.{IsWellFormed, nat_cmp, NoMemory, places_of, PrepareFault, Puts, record_units, Row, SetsBucket, Spot}
use Rattle.rpm_hindex.proofs.Vocabulary.{sum_by, unit_after, unit_at, Units, units_at, Unlinks, word}
use Rattle.std.proofs.lemmas.List.Sums.{sum_by-cons}
use Rattle.std.proofs.lemmas.Bool.{cases_eq, cases_Bool, cond-true, cond-false, false≢true}
use Rattle.rpm_hindex.proofs.Chains.{chain_bad}
use Rattle.rpm_hindex.proofs.Costing.{chain_are}
use Rattle.rpm_hindex.proofs.FollowedLinks.{link_at, within, behind_front}
use Rattle.rpm_hindex.proofs.Wholes.{flat_in}
use Rattle.rpm_hindex.proofs.Tallies.{length_sum}
use Rattle.rpm_hindex.proofs.Dropping.{spot_in, spot_units}

-- a chain's fault is one of either kind
pub faulty_bad : (buckets : ℕ) (file : Units) (e : PrepareFault) → IsFaulty buckets file e → IsBad buckets file e
faulty_bad buckets file (BadIndex unit) is = inl is
faulty_bad buckets file (IndexFull needed) is = tt
faulty_bad buckets file DiskFault is = tt
faulty_bad buckets file NoMemory is = tt

pub faulty_for : (drops : List Row) (buckets : ℕ) (file : Units) (e : PrepareFault) → IsFaulty buckets file e → IsBadFor drops buckets file e
faulty_for drops buckets file (BadIndex unit) is = inl is
faulty_for drops buckets file (IndexFull needed) is = tt
faulty_for drops buckets file DiskFault is = tt
faulty_for drops buckets file NoMemory is = tt

pub bad_chain : (buckets : ℕ) (file : Units) (e : PrepareFault) (b : ℕ) → b < buckets → IsChainFault (chain (index_in buckets file) b) e
    → IsFaulty buckets file e
bad_chain buckets file (BadIndex unit) b lt is = (b, lt, is)
bad_chain buckets file (IndexFull needed) b lt is = tt
bad_chain buckets file DiskFault b lt is = tt
bad_chain buckets file NoMemory b lt is = tt

pub fault_so_far : (buckets : ℕ) (file : Units) (e : PrepareFault) (b : ℕ) → b < buckets → IsChainFault (chain (index_in buckets file) b) e
    → IsBadSoFar buckets file e
fault_so_far buckets file (BadIndex unit) b lt is = inl (b, lt, is)
fault_so_far buckets file (IndexFull needed) b lt is = tt
fault_so_far buckets file DiskFault b lt is = tt
fault_so_far buckets file NoMemory b lt is = tt

-- ---- sums that fall

sum_most : (f g : ℕ → ℕ) (ps : List ℕ) → ((q : ℕ) → g q ≤ f q) → sum_by g ps ≤ sum_by f ps
sum_most f g [] others = omega arith
sum_most f g (q ∷ ps) others = omega (arith, sum_by-cons f q ps, sum_by-cons g q ps, others q, sum_most f g ps others)

pub sum_falls : (f g : ℕ → ℕ) (v : ℕ) (ps : List ℕ) (p : ℕ) → Contains ps p → g p + v ≤ f p → ((q : ℕ) → g q ≤ f q) → sum_by g ps + v ≤ sum_by f ps
sum_falls f g v [] p (k, lt, e) here others = absurd (omega arith)
sum_falls f g v (q ∷ ps) p (zero, lt, e) here others =
    let mine : g q + v ≤ f q = subst (λ (k : ℕ). g k + v ≤ f k) (sym e) here in
    omega (arith, sum_by-cons f q ps, sum_by-cons g q ps, mine, sum_most f g ps others)
sum_falls f g v (q ∷ ps) p (suc k, lt, e) here others = omega (
  arith,
  sum_by-cons f q ps,
  sum_by-cons g q ps,
  others q,
  sum_falls f g v ps p (k, omega arith, e) here others,
)

module _ (kept later : ℕ → Bool) (f : ℕ → ℕ) (p : ℕ) where
  -- what is kept without p
  pub kept_falls : (ps : List ℕ) → Contains ps p → kept p ≡ true → later p ≡ false → ((q : ℕ) → (q ≡ p → ⊥) → later q ≡ kept q)
      → sum_by (if_kept later f) ps + f p ≤ sum_by (if_kept kept f) ps
  kept_falls ps c stays gone others =
      let was : if_kept kept f p ≡ f p = cond-true (kept p) (f p) 0 stays in
      let is : if_kept later f p ≡ 0 = cond-false (later p) (f p) 0 gone in
      sum_falls (if_kept kept f) (if_kept later f) (f p) ps p c (omega (arith, was, is)) (λ q. elim (cases_eq q p) [
        | inl same ↦ let none : if_kept later f q ≡ 0 = ap (if_kept later f) same ∙ is in omega (arith, none)
        | inr other ↦ let same : if_kept later f q ≡ if_kept kept f q = ap (λ (t : Bool). cond t (f q) 0) (others q other) in omega (arith, same)
      ])

pub kept_least : (kept : ℕ → Bool) (f : ℕ → ℕ) (p : ℕ) (ps : List ℕ) → Contains ps p → kept p ≡ true → f p ≤ sum_by (if_kept kept f) ps
kept_least kept f p ps c stays =
    let was : if_kept kept f p ≡ f p = cond-true (kept p) (f p) 0 stays in
    let l = sum_falls (if_kept kept f) (λ q. 0) (f p) ps p c (omega (arith, was)) (λ q. omega arith) in
    omega arith

-- ---- a row is dropped

in_places : (x : Index) (b q : ℕ) → b < x.buckets → Contains (places_of x b) q → Contains (all_places x) q
unfolding all_places
in_places x b q lt c = flat_in (places_of x) 0 x.buckets q b (omega arith) (omega arith) c

-- whether unit 1 counts too little is known where no chain has a fault
pub bad_so_far : (buckets : ℕ) (file : Units) (e : PrepareFault) → HasNoFault (index_in buckets file) → IsBadSoFar buckets file e → IsBad buckets file e
bad_so_far buckets file (BadIndex unit) none (inl fault) = inl fault
bad_so_far buckets file (BadIndex unit) none (inr (one, more)) = inr (one, more none)
bad_so_far buckets file (IndexFull needed) none is = tt
bad_so_far buckets file DiskFault none is = tt
bad_so_far buckets file NoMemory none is = tt

-- or the fault isn't that
pub bad_other : (buckets : ℕ) (file : Units) (e : PrepareFault) → (e ≡ BadIndex 1 → ⊥) → IsBadSoFar buckets file e → IsFaulty buckets file e
bad_other buckets file (BadIndex unit) other (inl fault) = fault
bad_other buckets file (BadIndex unit) other (inr (one, more)) = absurd (other (ap BadIndex one))
bad_other buckets file (IndexFull needed) other is = tt
bad_other buckets file DiskFault other is = tt
bad_other buckets file NoMemory other is = tt

-- a well formed index has neither
pub not_bad : (buckets : ℕ) (file : Units) → IsWellFormed buckets file → IsBadSoFar buckets file (BadIndex 1) → ⊥
not_bad buckets file whole (inl (b, lt, e)) = false≢true (ap is_ok (sym e) ∙ whole.chains b lt)
not_bad buckets file whole (inr (one, more)) = elim (more whole.chains) [
  | inl few ↦ absurd (omega (arith, few, whole.records))
  | inr few ↦ absurd (omega (arith, few, whole.live))
]

link_more : (y z : Index) (at : ℕ) → z.buckets ≡ y.buckets → y.used ≤ z.used → is_link y at ≡ true → is_link z at ≡ true
link_more y z at same more link = elim (cases_eq at 0) [
  | inl zeros ↦ ap (is_link z) zeros
  | inr other ↦
      let some : 0 < at = omega (arith, other) in
      link_at z at (subst (λ (n : ℕ). first_record n ≤ at) (sym same) (behind_front y at link some)) (omega (arith, within y at link some, more))
]

module _ (c : Change) (file : Units) (go : CanGo c) (opens : HasBuckets c.extent file) (b : ℕ) (below : b < c.extent.buckets) (row : Row) (s : Spot)
    (link : is_link (index_in c.extent.buckets file) ((index_in c.extent.buckets file).head b) ≡ true)
    (is : HasNoFault (index_in c.extent.buckets file) → IsSpot (index_in c.extent.buckets file) b ((index_in c.extent.buckets file).head b) 0
    (is_kept (λ p. contains nat_cmp c.dropped p)) row s) (linked : IsLinked c.extent.buckets c.extent.used (Some s)) (honest : IsHonest c file) where
  abbrev x : Index
  x = index_in c.extent.buckets file

  abbrev y : Index
  y = index_after c file

  abbrev kept : ℕ → Bool
  kept = is_kept (λ p. contains nat_cmp c.dropped p)

  behind_link : is_link y s.behind ≡ true
  behind_link = elim (cases_eq s.behind 0) [
    | inl zeros ↦ ap (is_link y) zeros
    | inr other ↦
        let at = linked.0 (omega (arith, other)) in
        link_at y s.behind at.0 (omega (arith, at.1))
  ]

  units_are : HasNoFault x → (n : ℕ) → n ≡ record_units (length row.key) → n ≡ units_at x.unit s.at
  units_are none n long = spot_units x b (x.head b) kept row s (is none) n long

  mine : HasNoFault x → Contains (all_places x) s.at
  mine none = in_places x b s.at below (spot_in x b kept row s link (chain_are x b (none b below)) (is none))

  -- unit 1 counts too little
  pub drops_more : (n : ℕ) → n ≡ record_units (length row.key) → (c.records ≡ 0) ⊎ (c.live < n) → HasNoFault x → HoldsMore c.extent.buckets file
  drops_more n long why none =
      let m = mine none in
      let stays = (is none).stays in
      elim why [
        | inl zeros ↦ inl (omega (arith, zeros, honest.records none, kept_least kept (λ p. 1) s.at (all_places x) m stays))
        | inr less ↦ inr (omega (arith, less, units_are none n long, honest.live none, kept_least kept (units_at x.unit) s.at (all_places x) m stays))
      ]

  module _ (units : BTreeMap ℕ (List ℕ)) (dropped : BTreeSet ℕ) (n : ℕ) where
    abbrev d : Change
    d = record { extent = c.extent; units = units; dropped = dropped; tail = c.tail; records = c.records - 1; live = c.live - n }

    abbrev z : Index
    z = index_after d file

    abbrev later : ℕ → Bool
    later = is_kept (λ p. contains nat_cmp dropped p)

    abbrev Head' : ℕ → Type 0
    Head' a = (is_link z (z.head a) ≡ true) ⊎ (z.head a ≡ x.head a)

    as_was : (a : ℕ) → a < c.extent.buckets → z.head a ≡ y.head a → Head' a
    as_was a in' same = elim (honest.heads a in') [
      | inl link' ↦ inl (ap (is_link z) same ∙ link')
      | inr is' ↦ inr (same ∙ is')
    ]

    first : SetsBucket file (λ q. get nat_cmp c.units q) (λ q. get nat_cmp units q) b s.behind → (a : ℕ) → a < c.extent.buckets → Head' a
    first sets a in' =
        let key = bucket_unit b in
        let words : unit_after (λ q. get nat_cmp units q) file key ≡ sets.words = ap (λ (o : Option (List ℕ)). unwrap_or o (unit_at file key)) sets.put.here in
        elim (cases_eq a b) [
          | inl same ↦ inl (ap (λ (k : ℕ). is_link z (z.head k)) same ∙ ap (is_link z) (ap (word (b % 4)) words ∙ sets.word'.here) ∙ behind_link)
          | inr other ↦ as_was a in' (elim (cases_eq (bucket_unit a) key) [
            | inl same ↦
                ap (λ (u : ℕ). word (a % 4) (unit_after (λ q. get nat_cmp units q) file u)) same
                ∙ ap (word (a % 4)) words
                ∙ sets.word'.others (a % 4) (omega arith) (λ e. other (omega (arith, same, e)))
                ∙ sym (ap (λ (u : ℕ). word (a % 4) (unit_after (λ q. get nat_cmp c.units q) file u)) same)
            | inr apart ↦ ap (λ (o : Option (List ℕ)). word (a % 4) (unwrap_or o (unit_at file (bucket_unit a)))) (sets.put.others (bucket_unit a) apart)
          ])
        ]

    heads : (o : Option Head) → IsFront c.extent.buckets o → Unlinks file (λ q. get nat_cmp c.units q) (λ q. get nat_cmp units q) b o s.behind
        → (a : ℕ) → a < c.extent.buckets → Head' a
    heads None front sets a in' = first sets a in'
    heads (Some h) front sets a in' =
        let low : first_record c.extent.buckets ≤ h.at = front in
        as_was a in' (ap (λ (o : Option (List ℕ)). word (a % 4) (unwrap_or o (unit_at file (bucket_unit a))))
        (sets.put.others (bucket_unit a) (λ e. absurd (omega (arith, e, low, in', go.fours)))))

    pub drops_honest : Unlinks file (λ q. get nat_cmp c.units q) (λ q. get nat_cmp units q) b s.before s.behind → n ≡ record_units (length row.key)
        → DropOfOne (λ q. contains nat_cmp c.dropped q) (λ q. contains nat_cmp dropped q) s.at → 0 < c.records → n ≤ c.live → IsHonest d file
    drops_honest sets long put some enough =
        let gone : later s.at ≡ false = ap not put.here in
        let others : (q : ℕ) → (q ≡ s.at → ⊥) → later q ≡ kept q = λ q other. ap not (put.others q other) in
        record {
          heads = heads s.before linked.1 sets;
          records = λ none. omega (
            arith,
            some,
            honest.records none,
            kept_falls kept later (λ p. 1) s.at (all_places x) (mine none)
                (is none).stays gone others,
          );
          live = λ none. omega (
            arith,
            enough,
            units_are none n long,
            honest.live none,
            kept_falls kept later (units_at x.unit) s.at (all_places x) (mine none)
                (is none).stays gone others,
          );
        }

-- ---- a row is added

-- a bucket's word that is no link is as it was
pub bad_head : (c : Change) (file : Units) → HasBuckets c.extent file → IsHonest c file → (b next : ℕ) → b < c.extent.buckets → next
    ≡ (index_after c file).head b → is_link (index_after c file) next ≡ false → IsFaulty c.extent.buckets file (BadIndex (2 + b / 4))
bad_head c file opens honest b next below is no' =
    let x : Index = index_in c.extent.buckets file in
    let y : Index = index_after c file in
    let wrong : is_link y (y.head b) ≡ false = ap (is_link y) (sym is) ∙ no' in
    elim (honest.heads b below) [
      | inl link ↦ absurd (false≢true (sym wrong ∙ link))
      | inr same ↦ elim (cases_Bool (is_link x (x.head b))) [
        | inl link ↦ absurd (false≢true (sym wrong ∙ ap (is_link y) same ∙ link_more x y (x.head b) refl (omega (arith, opens.used)) link))
        | inr bad ↦ (b, below, chain_bad x b bad)
      ]
    ]

module _ (c : Change) (file : Units) (go : CanGo c) (b : ℕ) (below : b < c.extent.buckets) (units : BTreeMap ℕ (List ℕ)) (tail : Vec ℕ Global) (live : ℕ) where
  abbrev added : Change
  added = record { extent = c.extent; units = units; dropped = c.dropped; tail = tail; records = c.records + 1; live = c.live + live }

  pub adds_honest : (words w : List ℕ) (u : ℕ) → words ≡ unit_after (λ q. get nat_cmp c.units q) file (bucket_unit b) → u ≡ c.extent.used + length
      c.tail.items / 16 → HasWord words w (b % 4) u
      → Puts (λ q. get nat_cmp c.units q) (λ q. get nat_cmp units q) (bucket_unit b) w → length c.tail.items / 16 < length tail.items / 16
      → IsHonest c file → IsHonest added file
  adds_honest words w u words_are u_is has put longer honest =
      let y : Index = index_after c file in
      let z : Index = index_after added file in
      let key = bucket_unit b in
      let now : unit_after (λ q. get nat_cmp units q) file key ≡ w = ap (λ (o : Option (List ℕ)). unwrap_or o (unit_at file key)) put.here in
      let as_was : (a : ℕ) → a < c.extent.buckets → z.head a ≡ y.head a → (is_link z (z.head a) ≡ true)
      ⊎ (z.head a ≡ (index_in c.extent.buckets file).head a) = λ a lt same. elim (honest.heads a lt) [
        | inl link ↦ inl (ap (is_link z) same ∙ link_more y z (y.head a) refl (omega (arith, longer)) link)
        | inr is ↦ inr (same ∙ is)
      ] in
      record {
        heads = λ a lt. elim (cases_eq a b) [
          | inl same ↦
              let head : z.head b ≡ u = ap (word (b % 4)) now ∙ has.here in
              inl (ap (λ (k : ℕ). is_link z (z.head k)) same ∙ link_at z (z.head b) (omega (arith, head, u_is, go.front)) (omega (arith, head, u_is, longer)))
          | inr other ↦ as_was a lt (elim (cases_eq (bucket_unit a) key) [
            | inl same ↦
                ap (λ (k : ℕ). word (a % 4) (unit_after (λ q. get nat_cmp units q) file k)) same
                ∙ ap (word (a % 4)) now
                ∙ has.others (a % 4) (omega arith) (λ e. other (omega (arith, same, e)))
                ∙ ap (word (a % 4)) words_are
                ∙ sym (ap (λ (k : ℕ). word (a % 4) (unit_after (λ q. get nat_cmp c.units q) file k)) same)
            | inr apart ↦ ap (λ (o : Option (List ℕ)). word (a % 4) (unwrap_or o (unit_at file (bucket_unit a)))) (put.others (bucket_unit a) apart)
          ])
        ];
        records = λ none. omega (arith, honest.records none);
        live = λ none. omega (arith, honest.live none);
      }

-- ---- nothing is worked out yet

pub kept_most : (kept : ℕ → Bool) (f : ℕ → ℕ) (ps : List ℕ) → sum_by (if_kept kept f) ps ≤ sum_by f ps
kept_most kept f ps = sum_most f (if_kept kept f) ps (λ q. elim (cases_Bool (kept q)) [
  | inl stays ↦ let is : if_kept kept f q ≡ f q = cond-true (kept q) (f q) 0 stays in omega (arith, is)
  | inr gone ↦ let is : if_kept kept f q ≡ 0 = cond-false (kept q) (f q) 0 gone in omega (arith, is)
])

pub starts_honest : (c : Change) (file : Units) → ((q : ℕ) → get nat_cmp c.units q ≡ None) → c.records ≡ word 1 (unit_at file 1) → c.live
    ≡ word 2 (unit_at file 1) → IsHonest c file
starts_honest c file empty records_are live_is =
    let ps = all_places (index_in c.extent.buckets file) in
    let kept : ℕ → Bool = is_kept (λ p. contains nat_cmp c.dropped p) in
    record {
      heads = λ b lt. inr (ap (λ (o : Option (List ℕ)). word (b % 4) (unwrap_or o (unit_at file (bucket_unit b)))) (empty (bucket_unit b)));
      records = λ none. omega (arith, records_are, kept_most kept (λ p. 1) ps, length_sum ps);
      live = λ none. omega (arith, live_is, kept_most kept (units_at (unit_at file)) ps);
    }

pub bad_memory : (buckets : ℕ) (file : Units) (e : PrepareFault) → e ≡ NoMemory → IsFaulty buckets file e
bad_memory buckets file e is = subst (IsFaulty buckets file) (sym is) tt

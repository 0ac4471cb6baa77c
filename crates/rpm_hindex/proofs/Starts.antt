-- Where the next row of a bucket is looked for first.
use Rattle.std.proofs.Common.{◌≡◌, ℕ, suc, List, [], ◌∷◌, ◌++◌, Bool, true, false, cond, not, Ok, refl, sym, ap, ◌∙◌, arith, subst, inl, inr}
use Rattle.std.specs.Prelude.{Option, Some, None, ◌⊎◌}
use Rattle.rpm_hindex.proofs.Vocabulary.{AreStarts, bucket_of, chain, Contains, DropOfOne, filter, follow, Head, Index, is_kept, is_sound, IsFoundFrom, IsLastPlace}
use Rattle.rpm_hindex.proofs.Vocabulary.{IsMissing, IsPath, IsSpot, IsStart, next_at, option_or, Puts, Row, row_at, Spot, Start}
use Rattle.std.proofs.lemmas.List.{append_assoc, append-nil}
use Rattle.std.proofs.lemmas.List.Elements.{filter-append, Contains-append_cases}
use Rattle.std.proofs.lemmas.Bool.{cases_eq, cond-false}
use Rattle.rpm_hindex.proofs.Chains.{sound_parts, follow_is_ok, chain_from}
use Rattle.rpm_hindex.proofs.FollowedLinks.{chain_ok}
use Rattle.rpm_hindex.proofs.Paths.{path_falls, path_above, path_follow, follow_path}
use Rattle.rpm_hindex.proofs.Ways.{path_then, path_cost}

-- ---- a row is found after a start, or before it

-- the last of two lists
pub last_or : (unit : ℕ → List ℕ) (ps qs : List ℕ) (p q : Option Head) → IsLastPlace unit ps q → IsLastPlace unit qs p
    → IsLastPlace unit (ps ++ qs) (option_or p q)
last_or unit ps qs None q first none = subst (λ (rs : List ℕ). IsLastPlace unit rs q) (sym (ap (λ (rs : List ℕ). ps ++ rs) none ∙ append-nil ps)) first
last_or unit ps qs (Some h) q first (head, (front, is)) =
    (head, (ps ++ front, ap (λ (rs : List ℕ). ps ++ rs) is ∙ sym (append_assoc ps front (h.at ∷ []))))

module _ (x : Index) (b from : ℕ) (kept : ℕ → Bool) (row : Row) (start : Start) (st : IsStart x b from kept start) where
  -- the way from there on
  pub way_behind : (places : List ℕ) → IsPath x b from places 0 → (rest : List ℕ) × IsPath x b start.at rest 0 × (places ≡ st.front ++ rest)
  way_behind places path =
      let all = path_cost x b from start.at st.front (λ (q : ℕ). 1) places st.path (path_follow x b from places path) in
      (all.0, follow_path x b start.at all.0 all.1, all.2)

  pub found_behind : (s : Spot) → IsSpot x b start.at 0 kept row s
      → IsSpot x b from 0 kept row (record { before = option_or s.before start.before; at = s.at; behind = s.behind })
  found_behind s is = record {
    front = st.front ++ is.front;
    path = path_then x b from start.at s.at st.front is.front st.path is.path;
    last = subst (λ (ps : List ℕ). IsLastPlace x.unit ps (option_or s.before start.before)) (sym (filter-append kept st.front is.front))
        (last_or x.unit (filter kept st.front) (filter kept is.front) s.before start.before st.last is.last);
    some = is.some;
    sound = is.sound;
    stays = is.stays;
    same = is.same;
    long = is.long;
    rest = is.rest;
  }

  pub found_before : (s : Spot) → IsSpot x b from start.at kept row s → IsSpot x b from 0 kept row s
  found_before s is = record {
    front = is.front;
    path = is.path;
    last = is.last;
    some = is.some;
    sound = is.sound;
    stays = is.stays;
    same = is.same;
    long = is.long;
    rest = record { dropped = is.rest.dropped; path = is.rest.path; none = is.rest.none; ends = ends is.rest.ends st.ends };
  } where
    ends : (s.behind ≡ start.at) ⊎ (kept s.behind ≡ true) → (start.at ≡ 0) ⊎ (kept start.at ≡ true) → (s.behind ≡ 0) ⊎ (kept s.behind ≡ true)
    ends (inl same) (inl zeros) = inl (same ∙ zeros)
    ends (inl same) (inr stays) = inr (ap kept same ∙ stays)
    ends (inr stays) of_start = inr stays

  missing : IsMissing x b start.at 0 kept row → IsMissing x b from start.at kept row → IsMissing x b from 0 kept row
  missing behind before = record {
    places = before.places ++ behind.places;
    path = path_then x b from start.at 0 before.places behind.places before.path behind.path;
    none = λ q c stays. elim (Contains-append_cases before.places behind.places q c) [
      | inl first ↦ before.none q first stays
      | inr later ↦ behind.none q later stays
    ];
  }

  -- or nowhere
  pub found_or_missing : IsMissing x b start.at 0 kept row → (found : Option Spot) → IsFoundFrom x b from start.at kept row found → IsFoundFrom x b from 0
      kept row found
  found_or_missing behind (Some s) is = found_before s is
  found_or_missing behind None is = missing behind is

-- ---- a place fewer is kept

pub record Loses (kept later : ℕ → Bool) (p : ℕ) : Type 0 where
  pub gone : later p ≡ false
  pub others : (q : ℕ) → (q ≡ p → ⊥) → later q ≡ kept q

pub loses : (old new : ℕ → Bool) (p : ℕ) → DropOfOne old new p → Loses (is_kept old) (is_kept new) p
loses old new p put = record {
  gone = ap not put.here;
  others = λ q other. ap not (put.others q other);
}

filter_each : (kept later : ℕ → Bool) (ps : List ℕ) → ((q : ℕ) → Contains ps q → later q ≡ kept q) → filter later ps ≡ filter kept ps
filter_each kept later [] same = refl
filter_each kept later (p ∷ ps) same =
    ap (λ (t : Bool). cond t (p ∷ filter later ps) (filter later ps)) (same p (0, omega arith, refl))
    ∙ ap (λ (qs : List ℕ). cond (kept p) (p ∷ qs) qs) (filter_each kept later ps (λ q (k, lt, e). same q (suc k, omega arith, e)))

module _ (x : Index) (b from : ℕ) (kept later : ℕ → Bool) where
  -- a start of another bucket stays
  pub start_stays : (s : Start) (places : List ℕ) → follow x b from from ≡ Ok places → ((q : ℕ) → is_sound x b q ≡ true → later q ≡ kept q)
      → IsStart x b from kept s → IsStart x b from later s
  start_stays s places ok same is = record {
    front = is.front;
    path = is.path;
    last = subst (λ (ps : List ℕ). IsLastPlace x.unit ps s.before)
        (sym (filter_each kept later is.front (λ q c. same q (path_above x b from s.at is.front is.path q c).2))) is.last;
    ends = elim is.ends [
      | inl zeros ↦ inl zeros
      | inr stays ↦ elim (cases_eq s.at 0) [
        | inl zeros ↦ inl zeros
        | inr some ↦
            let rest = path_cost x b from s.at is.front (λ (q : ℕ). 1) places is.path ok in
            let sound = (follow_is_ok x b s.at s.at rest.0 (omega (arith, some)) (omega arith) rest.1).1 in
            inr (same s.at sound ∙ stays)
      ]
    ];
  }

  -- the next row is looked for after the record that was dropped
  pub start_next : (row : Row) (s : Spot) → Loses kept later s.at → IsSpot x b from 0 kept row s
      → IsStart x b from later (record { before = s.before; at = s.behind })
  start_next row s less is =
      let dropped : List ℕ = is.rest.dropped in
      let next = next_at x.unit s.at in
      let falls = (sound_parts x b s.at is.sound).falls in
      let below = path_falls x b next s.behind dropped is.rest.path in
      let front_same = filter_each kept later is.front (λ q c. less.others q (λ e. absurd (omega (
        arith,
        e,
        (path_above x b from s.at is.front is.path q c).0,
      )))) in
      let rest_same = filter_each kept later dropped (λ q c. less.others q (λ e. absurd (omega (
        arith,
        e,
        falls,
        (path_above x b next s.behind dropped is.rest.path q c).1,
      )))) in
      let none = cond-false (later s.at) (s.at ∷ filter later dropped) (filter later dropped) less.gone ∙ rest_same ∙ is.rest.none in
      record {
        front = is.front ++ s.at ∷ dropped;
        path = path_then x b from s.at s.behind is.front (s.at ∷ dropped) is.path (refl, is.some, is.sound, is.rest.path);
        last = subst (λ (ps : List ℕ). IsLastPlace x.unit ps s.before)
            (sym (filter-append later is.front (s.at ∷ dropped) ∙ ap (λ (ps : List ℕ). filter later is.front ++ ps) none
            ∙ append-nil (filter later is.front) ∙ front_same)) is.last;
        ends = elim is.rest.ends [
          | inl zeros ↦ inl zeros
          | inr stays ↦ inr (less.others s.behind (λ e. absurd (omega (arith, e, falls, below))) ∙ stays)
        ];
      }

-- ---- all starts

-- what is so of the new value, and of those of other keys
pub puts_each : {X : Type 0} (P : ℕ → X → Type 0) (old new : ℕ → Option X) (key : ℕ) (value : X) → Puts old new key value → P key value
    → ((k : ℕ) (v : X) → (k ≡ key → ⊥) → old k ≡ Some v → P k v) → (k : ℕ) (v : X) → new k ≡ Some v → P k v
puts_each {X} P old new key value put here others k v is = elim (cases_eq k key) [
  | inl same ↦
      let some : Some v ≡ Some value = sym is ∙ ap new same ∙ put.here in
      let value_is : v ≡ value = cc in
      subst (P k) (sym value_is) (subst (λ (n : ℕ). P n value) (sym same) here)
  | inr other ↦ others k v other (sym (put.others k other) ∙ is)
]

pub starts_next : (x : Index) (b : ℕ) (kept later : ℕ → Bool) (row : Row) (s : Spot) (old new : ℕ → Option Start) → Loses kept later s.at
    → is_sound x b s.at ≡ true → ((places : List ℕ) → chain x b ≡ Ok places → IsSpot x b (x.head b) 0 kept row s)
    → Puts old new b (record { before = s.before; at = s.behind }) → AreStarts x kept old → AreStarts x later new
starts_next x b kept later row s old new less sound spot put starts =
    puts_each (λ (a : ℕ) (t : Start). (places : List ℕ) → chain x a ≡ Ok places → IsStart x a (x.head a) later t) old new b
    (record { before = s.before; at = s.behind }) put (λ places ok. start_next x b (x.head b) kept later row s less (spot places ok)) other where
      other : (a : ℕ) (t : Start) → (a ≡ b → ⊥) → old a ≡ Some t → (places : List ℕ) → chain x a ≡ Ok places → IsStart x a (x.head a) later t
      other a t apart is places ok =
          let link = (chain_ok x a places ok).0 in
          let same : (q : ℕ) → is_sound x a q ≡ true → later q ≡ kept q = λ q in_a. less.others q (λ e. apart (sym (sound_parts x a q in_a).bucket
          ∙ ap (λ (p : ℕ). bucket_of x.buckets (row_at x.unit p)) e ∙ (sound_parts x b s.at sound).bucket)) in
          start_stays x a (x.head a) kept later t places (sym (chain_from x a link) ∙ ok) same (starts a t is places ok)

-- The least of the classes that are ready is taken out, and listed next.
use Rattle.std.proofs.Common.{◌≡◌, ℕ, ◌≤◌, ◌<◌, ◌++◌, ◌⊎◌, true, false, List, [], ◌∷◌, zero, suc, length, get_or, inl, inr, refl, sym, ap, subst, ◌∙◌, arith}
use Rattle.rpm_graph.proofs.Vocabulary.{All, AreFalling, AreLeast, Contains, IsEdge, IsLeastReady, IsLtBy, IsReadyOrWaits, IsUnderway, listed_at, Listing}
use Rattle.std.proofs.lemmas.Bool.{cases_lt, cases_Bool}
use Rattle.std.proofs.lemmas.List.{get_or_append_left, get_or_push, length_push, take-append-le, take_all}
use Rattle.std.proofs.lemmas.List.Elements.{All-contains}
use Rattle.rpm_graph.proofs.Sets.{first_or_rest, rest_of, pair_cmp, le_of_less, not_below_itself}

module _ (ends : List (List ℕ)) (leasts : List ℕ) (s t : Listing) (u : IsUnderway ends leasts s) (n class : ℕ) (checked : t.checked.items ≡ s.checked.items)
    (waiting : t.waiting.items ≡ s.waiting.items) (listed : t.listed.items ≡ s.listed.items)
    (removed : s.ready.keys ≡ (n, class) ∷ t.ready.keys) (above : All (IsLtBy pair_cmp (n, class)) t.ready.keys) where
  abbrev head : ℕ × ℕ
  head = (n, class)

  popped : Contains s.ready.keys head
  popped = subst (λ ks. Contains ks head) (sym removed) (0, omega arith, refl)

  still : (p : ℕ × ℕ) → Contains t.ready.keys p → Contains s.ready.keys p
  still p has = subst (λ ks. Contains ks p) (sym removed) (rest_of head t.ready.keys p has)

  one_of : (p : ℕ × ℕ) → Contains s.ready.keys p → (head ≡ p) ⊎ Contains t.ready.keys p
  one_of p has = first_or_rest head t.ready.keys p (subst (λ ks. Contains ks p) removed has)

  pub popped_class : (class < length ends) × (n ≡ get_or leasts class 0)
      × (listed_at s.listed.items class ≡ false) × ((d : ℕ) → IsEdge ends class d → listed_at s.listed.items d ≡ true)
  popped_class = u.ready n class popped

  pub popped_underway : IsUnderway ends leasts t
  popped_underway = record {
    checked_long = ap length checked ∙ u.checked_long;
    waiting_long = ap length waiting ∙ u.waiting_long;
    listed_long = ap length listed ∙ u.listed_long;
    checked_in = rw checked u.checked_in;
    checked = rw (checked, listed) u.checked;
    waits = rw (waiting, listed) u.waits;
    ready = λ m c has. rw listed (u.ready m c (still (m, c) has));
  }

  pub popped_taken : (m : ℕ) → Contains t.ready.keys (m, class) → ⊥
  popped_taken m has =
      let was = u.ready m class (still (m, class) has) in
      let same : m ≡ n = was.1 ∙ sym popped_class.1 in
      not_below_itself head (subst (λ x. IsLtBy pair_cmp head (x, class)) same (All-contains (IsLtBy pair_cmp head) t.ready.keys (m, class) above has))

  pub popped_placed : (c : ℕ) → IsReadyOrWaits leasts s c → (c ≡ class) ⊎ IsReadyOrWaits leasts t c
  popped_placed c placed = elim placed [
    | inl has ↦ elim (one_of (get_or leasts c 0, c) has) [
      | inl is ↦ inl (sym (ap (λ (p : ℕ × ℕ). p.1) is))
      | inr rest ↦ inr (inl rest)
    ]
    | inr goes ↦ inr (inr (goes.0, rw waiting goes.1))
  ]

  popped_least : (c : ℕ) → Contains s.ready.keys (get_or leasts c 0, c) → get_or leasts class 0 ≤ get_or leasts c 0
  popped_least c has = elim (one_of (get_or leasts c 0, c) has) [
    | inl is ↦ omega (arith, popped_class.1, ap (λ (p : ℕ × ℕ). p.0) is)
    | inr rest ↦
        let less = All-contains (IsLtBy pair_cmp head) t.ready.keys (get_or leasts c 0, c) above rest in
        omega (arith, popped_class.1, le_of_less head (get_or leasts c 0, c) less)
  ]

  module _ (order : List ℕ) (there : (c : ℕ) → Contains order c → listed_at s.listed.items c ≡ true)
      (back : (c : ℕ) → listed_at s.listed.items c ≡ true → Contains order c)
      (placed : (c : ℕ) → c < length ends → listed_at s.listed.items c ≡ false → IsReadyOrWaits leasts s c) where
    unlisted_of : (d : ℕ) → (Contains order d → ⊥) → listed_at s.listed.items d ≡ false
    unlisted_of d none = elim (cases_Bool (listed_at s.listed.items d)) [ inl done_there ↦ absurd (none (back d done_there)) | inr still_open ↦ still_open ]

    not_both : (d : ℕ) → listed_at s.listed.items d ≡ true → listed_at s.listed.items d ≡ false → ⊥
    not_both d done_there still_open = cc

    pub is_least : IsLeastReady ends leasts order class
    is_least = record {
      ready = record {
        within = popped_class.0;
        unlisted = λ has. not_both class (there class has) popped_class.2;
        ends_listed = λ d goes. back d (popped_class.3 d goes);
      };
      first = λ d r. elim (placed d r.within (unlisted_of d r.unlisted)) [
        | inl has ↦ popped_least d has
        | inr goes ↦ let w = u.waits goes.0 d goes.1 in absurd (not_both goes.0 (there goes.0 (r.ends_listed goes.0 w.0)) w.1)
      ];
    }

pub least_more : (ends : List (List ℕ)) (leasts order : List ℕ) (class : ℕ) → AreLeast ends leasts order → IsLeastReady ends leasts order class
    → AreLeast ends leasts (order ++ class ∷ [])
least_more ends leasts order class all next k lt = elim (cases_lt k (length order)) [
  | inl inside ↦ rw (take-append-le k order (class ∷ []) (omega (arith, inside)), get_or_append_left order (class ∷ []) 0 k inside) (all k inside)
  | inr end ↦
      let at : length order ≡ k = omega (arith, lt, length_push order class) in
      rw (take-append-le k order (class ∷ []) (omega (arith, at)), take_all k order (omega (arith, at)), get_or_push order class 0 k at) next
]

-- where none is ready, each class is listed
pub all_listed : (ends : List (List ℕ)) (leasts : List ℕ) (s : Listing) → IsUnderway ends leasts s → AreFalling ends → length s.ready.keys ≡ 0
    → ((c : ℕ) → c < length ends → listed_at s.listed.items c ≡ false → IsReadyOrWaits leasts s c)
    → (n c : ℕ) → c < n → c < length ends → listed_at s.listed.items c ≡ true
all_listed ends leasts s u falls empty placed zero c lt inside = absurd (omega (arith, lt))
all_listed ends leasts s u falls empty placed (suc n) c lt inside = elim (cases_Bool (listed_at s.listed.items c)) [
  | inl done_there ↦ done_there
  | inr still_open ↦ elim (placed c inside still_open) [
    | inl has ↦ absurd (omega (arith, has.1, empty))
    | inr goes ↦
        let w = u.waits goes.0 c goes.1 in
        let less = falls c goes.0 w.0 in
        let done : listed_at s.listed.items goes.0 ≡ true = all_listed ends leasts s u falls empty placed n goes.0 (omega (arith, less, lt))
        (omega (arith, less, inside)) in
        let untaken : listed_at s.listed.items goes.0 ≡ false = w.1 in
        absurd (cc)
  ]
]

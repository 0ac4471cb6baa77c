-- A class is listed, and those that waited for it are taken out.
use Rattle.std.proofs.Common.{◌≡◌, ℕ, ◌<◌, ◌⊎◌, Bool, true, false, cond, List, [], length, get_or, set, inl, inr, sym, ap, subst, ◌∙◌, arith}
use Rattle.rpm_graph.proofs.Vocabulary.{Contains, IsEdge, IsListedNow, IsReadyOrWaits, IsUnderway, listed_at, Listing, row_lists, unlisted_count}
use Rattle.std.proofs.lemmas.Bool.{cases_lt, cases_eq}
use Rattle.std.proofs.lemmas.List.{length-set, length-map, get_or-set_same, get_or-set_other, get_or_past}
use Rattle.std.proofs.lemmas.List.Sums.{sum_by-set}

none : (x : ℕ) → Contains [] x → ⊥
none x has = omega (arith, has.1)

-- what has an end is a class
pub goes_in : (ends : List (List ℕ)) (c d : ℕ) → IsEdge ends c d → c < length ends
goes_in ends c d goes = elim (cases_lt c (length ends)) [
  | inl inside ↦ inside
  | inr past ↦ absurd (none d (subst (λ l. Contains l d) (get_or_past ends c [] past) goes))
]

module _ (listed : List Bool) (class : ℕ) (inside : class < length listed) where
  pub marked_there : listed_at (set listed class true) class ≡ true
  marked_there = get_or-set_same listed class true false inside

  pub marked_stays : (c : ℕ) → listed_at listed c ≡ true → listed_at (set listed class true) c ≡ true
  marked_stays c done_there = elim (cases_eq c class) [
    | inl is ↦ subst (λ x. listed_at (set listed class true) x ≡ true) (sym is) marked_there
    | inr differs ↦ get_or-set_other listed class c true false differs ∙ done_there
  ]

  pub marked_other : (c : ℕ) → (c ≡ class → ⊥) → listed_at (set listed class true) c ≡ listed_at listed c
  marked_other c differs = get_or-set_other listed class c true false differs

  pub marked_only : (c : ℕ) → listed_at (set listed class true) c ≡ false → (c ≡ class → ⊥) × (listed_at listed c ≡ false)
  marked_only c still_open = elim (cases_eq c class) [
    | inl is ↦
        let done_there : listed_at (set listed class true) c ≡ true = subst (λ x. listed_at (set listed class true) x ≡ true) (sym is) marked_there in
        absurd (cc)
    | inr differs ↦ (differs, sym (marked_other c differs) ∙ still_open)
  ]

  pub marked_fewer : listed_at listed class ≡ false → unlisted_count (set listed class true) < unlisted_count listed
  marked_fewer free =
      let one = sum_by-set (λ (b : Bool). cond b 0 1) listed class true false inside in
      let was : ◌≡◌ {A = ℕ} (cond (listed_at listed class) 0 1) 1 = ap (λ (b : Bool). cond b 0 1) free in
      omega (arith, one, was)

module _ (ends : List (List ℕ)) (leasts : List ℕ) (s t : Listing) (u : IsUnderway ends leasts s) (class : ℕ) (inside : class < length ends)
    (free : listed_at s.listed.items class ≡ false) (done : (d : ℕ) → IsEdge ends class d → listed_at s.listed.items d ≡ true)
    (taken : (n : ℕ) → Contains s.ready.keys (n, class) → ⊥) (m : IsListedNow class s t) where
  class_in : class < length s.listed.items
  class_in = omega (arith, inside, u.listed_long)

  class_waits : class < length (row_lists s.waiting.items)
  class_waits = omega (arith, inside, u.waiting_long, length-map s.waiting.items (λ r. r.items))

  not_both : (d : ℕ) → listed_at s.listed.items d ≡ true → listed_at s.listed.items d ≡ false → ⊥
  not_both d done_there still_open = cc

  -- what waits for another class is not the one that is listed
  waits_other : (d c : ℕ) → IsEdge (row_lists s.waiting.items) d c → c ≡ class → ⊥
  waits_other d c goes is =
      let w = u.waits d c goes in
      not_both d (done d (subst (λ x. IsEdge ends x d) is w.0)) w.1

  waits_then : (d c : ℕ) → IsEdge (set (row_lists s.waiting.items) class []) d c
      → IsEdge ends c d × (listed_at (set s.listed.items class true) d ≡ false) × (listed_at (set s.listed.items class true) c ≡ false)
  waits_then d c goes = elim (cases_eq d class) [
    | inl is ↦
        let empty = ap (λ x. get_or (set (row_lists s.waiting.items) class []) x []) is ∙ get_or-set_same (row_lists s.waiting.items) class [] [] class_waits in
        absurd (none c (subst (λ l. Contains l c) empty goes))
    | inr differs ↦
        let was : IsEdge (row_lists s.waiting.items) d c = subst (λ l. Contains l c)
        (get_or-set_other (row_lists s.waiting.items) class d [] [] differs) goes in
        let w = u.waits d c was in
        (w.0, marked_other s.listed.items class class_in d differs ∙ w.1, marked_other s.listed.items class class_in c (waits_other d c was) ∙ w.2)
  ]

  ready_then : (n c : ℕ) → Contains s.ready.keys (n, c) → (c < length ends) × (n ≡ get_or leasts c 0)
      × (listed_at (set s.listed.items class true) c ≡ false) × ((d : ℕ) → IsEdge ends c d → listed_at (set s.listed.items class true) d ≡ true)
  ready_then n c has =
      let r = u.ready n c has in
      let differs : c ≡ class → ⊥ = λ is. taken n (subst (λ x. Contains s.ready.keys (n, x)) is has) in
      (r.0, r.1, marked_other s.listed.items class class_in c differs ∙ r.2, λ d goes. marked_stays s.listed.items class class_in d (r.3 d goes))

  pub marked_underway : IsUnderway ends leasts t
  marked_underway = record {
    checked_long = ap length m.checked ∙ u.checked_long;
    waiting_long = omega (
      arith,
      ap length m.waiting,
      length-set (row_lists s.waiting.items) class [],
      length-map s.waiting.items (λ r. r.items),
      length-map t.waiting.items (λ r. r.items),
      u.waiting_long,
    );
    listed_long = ap length m.listed ∙ length-set s.listed.items class true ∙ u.listed_long;
    checked_in = rw m.checked u.checked_in;
    checked = λ c i lt. rw m.listed (marked_stays s.listed.items class class_in (get_or (get_or ends c []) i 0)
        (u.checked c i (subst (λ l. i < get_or l c 0) m.checked lt)));
    waits = rw (m.waiting, m.listed) waits_then;
    ready = rw (m.ready, m.listed) ready_then;
  }

  -- what is not listed was placed, and is, or waited for the class
  pub marked_placed : (c : ℕ) → listed_at t.listed.items c ≡ false → (c ≡ class) ⊎ IsReadyOrWaits leasts s c
      → IsReadyOrWaits leasts t c ⊎ Contains (get_or (row_lists s.waiting.items) class []) c
  marked_placed c still_open was = elim was [
    | inl is ↦ absurd ((marked_only s.listed.items class class_in c (subst (λ l. listed_at l c ≡ false) m.listed still_open)).0 is)
    | inr placed ↦ elim placed [
      | inl has ↦ inl (inl (rw m.ready has))
      | inr goes ↦ elim (cases_eq goes.0 class) [
        | inl is ↦ inr (subst (λ d. IsEdge (row_lists s.waiting.items) d c) is goes.1)
        | inr differs ↦ inl (inr (goes.0, rw (m.waiting, get_or-set_other (row_lists s.waiting.items) class goes.0 [] [] differs) goes.1))
      ]
    ]
  ]

  -- what waited for the class is a class that is not listed
  pub waited : (c : ℕ) → Contains (get_or (row_lists s.waiting.items) class []) c → (c < length ends) × (listed_at t.listed.items c ≡ false)
  waited c goes =
      let w = u.waits class c goes in
      (goes_in ends c class w.0, rw m.listed (marked_other s.listed.items class class_in c (waits_other class c goes) ∙ w.2))

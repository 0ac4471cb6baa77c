-- A class that was looked at again is among those that are ready, or waits for an end of its own.
use Rattle.std.proofs.Common.{◌≡◌, ℕ, ◌≤◌, ◌<◌, ◌⊎◌, Bool, true, false, List, [], ◌∷◌, ◌++◌, length, get_or, set, inl, inr, refl, sym, ap, subst, ◌∙◌, arith}
use Rattle.rpm_graph.proofs.Vocabulary.{AreFalling, Contains, IsEdge, IsFirstUnlisted, IsReadyOrWaits, IsUnderway, listed_at, Listing, row_lists, with_link}
use Rattle.std.proofs.lemmas.Bool.{cases_lt, cases_eq}
use Rattle.std.proofs.lemmas.List.{length-set, length-map, get_or-set_same, get_or-set_other, get_or_default}
use Rattle.rpm_graph.proofs.Rowing.{goes_new, goes_kept, goes_only}

module _ (ends : List (List ℕ)) (leasts : List ℕ) (falls : AreFalling ends) (s : Listing) (u : IsUnderway ends leasts s) (class : ℕ)
    (inside : class < length ends) (free : listed_at s.listed.items class ≡ false) (at : ℕ)
    (first : IsFirstUnlisted (get_or ends class []) s.listed.items (get_or s.checked.items class 0) at) where
  abbrev row : List ℕ
  row = get_or ends class []

  before : (i : ℕ) → i < at → listed_at s.listed.items (get_or row i 0) ≡ true
  before i lt = elim (cases_lt i (get_or s.checked.items class 0)) [
    | inl sooner ↦ u.checked class i sooner
    | inr later ↦ first.before i later lt
  ]

  class_in : class < length s.checked.items
  class_in = omega (arith, inside, u.checked_long)

  checked_in_then : (c : ℕ) → get_or (set s.checked.items class at) c 0 ≤ length (get_or ends c [])
  checked_in_then c = elim (cases_eq c class) [
    | inl is ↦ subst (λ x. get_or (set s.checked.items class at) x 0 ≤ length (get_or ends x [])) (sym is)
        (rw (get_or-set_same s.checked.items class at 0 class_in) first.within)
    | inr differs ↦ rw (get_or-set_other s.checked.items class c at 0 differs) (u.checked_in c)
  ]

  checked_then : (c i : ℕ) → i < get_or (set s.checked.items class at) c 0 → listed_at s.listed.items (get_or (get_or ends c []) i 0) ≡ true
  checked_then c i lt = elim (cases_eq c class) [
    | inl is ↦
        let here : get_or (set s.checked.items class at) c 0 ≡ at
        = ap (λ x. get_or (set s.checked.items class at) x 0) is ∙ get_or-set_same s.checked.items class at 0 class_in in
        subst (λ x. listed_at s.listed.items (get_or (get_or ends x []) i 0) ≡ true) (sym is) (before i (omega (arith, lt, here)))
    | inr differs ↦ u.checked c i (omega (arith, lt, get_or-set_other s.checked.items class c at 0 differs))
  ]

  module _ (short : at < length row) where
    abbrev end : ℕ
    end = get_or row at 0

    goes_end : IsEdge ends class end
    goes_end = (at, short, get_or_default row at end 0 short)

    end_in : end < length (row_lists s.waiting.items)
    end_in = omega (arith, falls class end goes_end, inside, u.waiting_long, length-map s.waiting.items (λ r. r.items))

    waits_then : (d c : ℕ) → IsEdge (with_link (row_lists s.waiting.items) end class) d c
        → IsEdge ends c d × (listed_at s.listed.items d ≡ false) × (listed_at s.listed.items c ≡ false)
    waits_then d c goes = elim (goes_only (row_lists s.waiting.items) end class end_in d c goes) [
      | inl old ↦ u.waits d c old
      | inr new ↦ rw (new.0, new.1) (goes_end, first.there short, free)
    ]

    module _ (t : Listing) (checked : t.checked.items ≡ set s.checked.items class at)
        (waiting : row_lists t.waiting.items ≡ with_link (row_lists s.waiting.items) end class) (listed : t.listed.items ≡ s.listed.items)
        (ready : t.ready.keys ≡ s.ready.keys) where
      pub waits_underway : IsUnderway ends leasts t
      waits_underway = record {
        checked_long = omega (arith, ap length checked, length-set s.checked.items class at, u.checked_long);
        waiting_long = omega (
          arith,
          ap length waiting,
          length-set (row_lists s.waiting.items) end (get_or (row_lists s.waiting.items) end [] ++ class ∷ []),
          length-map s.waiting.items (λ r. r.items),
          length-map t.waiting.items (λ r. r.items),
          u.waiting_long,
        );
        listed_long = ap length listed ∙ u.listed_long;
        checked_in = rw checked checked_in_then;
        checked = rw (checked, listed) checked_then;
        waits = rw (waiting, listed) waits_then;
        ready = rw (ready, listed) u.ready;
      }

      pub waits_keeps : (c : ℕ) → IsReadyOrWaits leasts s c → IsReadyOrWaits leasts t c
      waits_keeps c placed = elim placed [
        | inl has ↦ inl (rw ready has)
        | inr goes ↦ inr (goes.0, rw waiting (goes_kept (row_lists s.waiting.items) end class end_in goes.0 c goes.1))
      ]

      pub waits_placed : IsReadyOrWaits leasts t class
      waits_placed = inr (end, rw waiting (goes_new (row_lists s.waiting.items) end class end_in))

  module _ (long : length row ≤ at) where
    all_listed : (d : ℕ) → IsEdge ends class d → listed_at s.listed.items d ≡ true
    all_listed d (i, lt, is) = rw (sym (get_or_default row i 0 d lt ∙ is)) (before i (omega (arith, lt, long)))

    module _ (t : Listing) (checked : t.checked.items ≡ set s.checked.items class at)
        (waiting : t.waiting.items ≡ s.waiting.items) (listed : t.listed.items ≡ s.listed.items)
        (added : Contains t.ready.keys (get_or leasts class 0, class)) (kept : (p : ℕ × ℕ) → Contains s.ready.keys p → Contains t.ready.keys p)
        (only : (p : ℕ × ℕ) → Contains t.ready.keys p → Contains s.ready.keys p ⊎ (p ≡ (get_or leasts class 0, class))) where
      ready_then : (n c : ℕ) → Contains t.ready.keys (n, c) → (c < length ends) × (n ≡ get_or leasts c 0)
          × (listed_at s.listed.items c ≡ false) × ((d : ℕ) → IsEdge ends c d → listed_at s.listed.items d ≡ true)
      ready_then n c has = elim (only (n, c) has) [
        | inl old ↦ u.ready n c old
        | inr new ↦ rw (ap (λ (p : ℕ × ℕ). p.0) new, ap (λ (p : ℕ × ℕ). p.1) new) (inside, refl, free, all_listed)
      ]

      pub ready_underway : IsUnderway ends leasts t
      ready_underway = record {
        checked_long = omega (arith, ap length checked, length-set s.checked.items class at, u.checked_long);
        waiting_long = ap length waiting ∙ u.waiting_long;
        listed_long = ap length listed ∙ u.listed_long;
        checked_in = rw checked checked_in_then;
        checked = rw (checked, listed) checked_then;
        waits = rw (waiting, listed) u.waits;
        ready = rw listed ready_then;
      }

      pub ready_keeps : (c : ℕ) → IsReadyOrWaits leasts s c → IsReadyOrWaits leasts t c
      ready_keeps c placed = elim placed [
        | inl has ↦ inl (kept (get_or leasts c 0, c) has)
        | inr goes ↦ inr (goes.0, rw waiting goes.1)
      ]

      pub ready_placed : IsReadyOrWaits leasts t class
      ready_placed = inl added

-- an end is lower than its class
pub row_below : (ends : List (List ℕ)) → AreFalling ends → (class i : ℕ) → i < length (get_or ends class []) → get_or (get_or ends class []) i 0 < class
row_below ends falls class i lt =
    falls class (get_or (get_or ends class []) i 0) (i, lt, get_or_default (get_or ends class []) i (get_or (get_or ends class []) i 0) 0 lt)

-- what was found in a row that was read
pub first_read : (whole shown : List ℕ) (listed read : List Bool) (checked : List ℕ) (class from at : ℕ) → shown ≡ whole → read ≡ listed
    → class < length checked → from ≡ get_or checked class from → IsFirstUnlisted shown read from at → IsFirstUnlisted whole listed (get_or checked class 0) at
first_read whole shown listed read checked class from at row_is read_is lt from_is first =
    let begins : from ≡ get_or checked class 0 = from_is ∙ get_or_default checked class from 0 lt in
    subst (λ r. IsFirstUnlisted r listed (get_or checked class 0) at) row_is (subst (λ l. IsFirstUnlisted shown l (get_or checked class 0) at) read_is
    (subst (λ f. IsFirstUnlisted shown read f at) begins first))

-- What stands among rows, and among hits.
use Rattle.std.proofs.Common.{◌≡◌, ℕ, ◌+◌, ◌<◌, ◌&&◌, ◌==◌, List, [], ◌∷◌, map, Bool, true, false, cond, refl, sym, ap, ◌∙◌, inl, inr, arith}
use Rattle.rpm_select.proofs.Vocabulary.{bytes_eq, Hit, is_in, is_row_of, list_any, or_cases, or_left, or_right, Row, same_hit, same_row, times, times_hit}
use Rattle.std.proofs.lemmas.Bool.{cases_Bool, and_parts, eqb-true, eq-eqb}
use Rattle.std.proofs.lemmas.List.Sums.{sum_by-cons}

both : (a b : Bool) → a ≡ true → b ≡ true → (a && b) ≡ true
both true b first second = second
both false b first second = absurd cc

abbrev pub row : ℕ → List ℕ → ℕ → ℕ → Row
row kind key n place = record { kind = kind; key = key; number = n; place = place }

same_parts : (r s : Row) → same_row r s ≡ true → is_row_of r.kind r.key r.number s ≡ true
same_parts r s is =
    let first = and_parts (r.kind == s.kind) _ is in
    let second = and_parts (bytes_eq r.key s.key) _ first.1 in
    let third = and_parts (r.number == s.number) _ second.1 in
    both (r.kind == s.kind) _ first.0 (both (bytes_eq r.key s.key) _ second.0 (eq-eqb s.number r.number (sym (eqb-true r.number s.number third.0))))

-- a row that is there is found by its kind, key and number
pub times_found : (r : Row) (rs : List Row) → 0 < times r rs → list_any (is_row_of r.kind r.key r.number) rs ≡ true
unfolding times
times_found r [] some = absurd (omega (arith, some))
times_found r (s ∷ rs) some = elim (cases_Bool (same_row r s)) [
  | inl same ↦ or_left (is_row_of r.kind r.key r.number s) _ (same_parts r s same)
  | inr other ↦ or_right (is_row_of r.kind r.key r.number s) _ (times_found r rs (rw other at some))
]

times_cons : (r s : Row) (rs : List Row) → times r (s ∷ rs) ≡ cond (same_row r s) 1 0 + times r rs
unfolding times
times_cons r s rs = sum_by-cons (λ x. cond (same_row r x) 1 0) s rs

one_more : (r s : Row) (rs : List Row) → same_row r s ≡ true → 0 < times r (s ∷ rs)
one_more r s rs same =
    let more : times r (s ∷ rs) ≡ 1 + times r rs = times_cons r s rs ∙ ap (λ (b : Bool). cond b 1 0 + times r rs) same in
    omega (arith, more)

no_less : (r s : Row) (rs : List Row) → 0 < times r rs → 0 < times r (s ∷ rs)
no_less r s rs some = omega (arith, some, times_cons r s rs)

-- and what is found stands at some place
pub found_times : (kind : ℕ) (key : List ℕ) (n : ℕ) (rs : List Row) → list_any (is_row_of kind key n) rs ≡ true → (place : ℕ)
    × (0 < times (row kind key n place) rs)
found_times kind key n [] is = absurd cc
found_times kind key n (s ∷ rs) is = elim (or_cases (is_row_of kind key n s) (list_any (is_row_of kind key n) rs) is) [
  | inl first ↦
      (let one = and_parts (kind == s.kind) (bytes_eq key s.key && (s.number == n)) first in
      let two = and_parts (bytes_eq key s.key) (s.number == n) one.1 in
      let same : same_row (row kind key n s.place) s ≡ true =
      both (kind == s.kind) (bytes_eq key s.key && ((n == s.number) && (s.place == s.place))) one.0
      (both (bytes_eq key s.key) ((n == s.number) && (s.place == s.place)) two.0 (both (n == s.number) (s.place == s.place)
      (eq-eqb n s.number (sym (eqb-true s.number n two.1))) (eq-eqb s.place s.place refl))) in
      (s.place, one_more (row kind key n s.place) s rs same))
  | inr later ↦
      (let rest = found_times kind key n rs later in
      (rest.0, no_less (row kind key n rest.0) s rs rest.1))
]

pub hit_found : (h : Hit) (hits : List Hit) → 0 < times_hit h hits → is_in h.number (map (λ hit. hit.number) hits) ≡ true
unfolding times_hit
hit_found h [] some = absurd (omega (arith, some))
hit_found h (x ∷ hits) some = elim (cases_Bool (same_hit h x)) [
  | inl same ↦
      or_left (x.number == h.number) _ (eq-eqb x.number h.number (sym (eqb-true h.number x.number (and_parts (h.number == x.number) _ same).0)))
  | inr other ↦ or_right (x.number == h.number) _ (hit_found h hits (rw other at some))
]

hits_cons : (h x : Hit) (hits : List Hit) → times_hit h (x ∷ hits) ≡ cond (same_hit h x) 1 0 + times_hit h hits
unfolding times_hit
hits_cons h x hits = sum_by-cons (λ y. cond (same_hit h y) 1 0) x hits

one_hit : (h x : Hit) (hits : List Hit) → same_hit h x ≡ true → 0 < times_hit h (x ∷ hits)
one_hit h x hits same =
    let more : times_hit h (x ∷ hits) ≡ 1 + times_hit h hits = hits_cons h x hits ∙ ap (λ (b : Bool). cond b 1 0 + times_hit h hits) same in
    omega (arith, more)

no_fewer : (h x : Hit) (hits : List Hit) → 0 < times_hit h hits → 0 < times_hit h (x ∷ hits)
no_fewer h x hits some = omega (arith, some, hits_cons h x hits)

abbrev pub hit : ℕ → ℕ → Hit
hit n place = record { number = n; place = place }

pub found_hit : (n : ℕ) (hits : List Hit) → is_in n (map (λ h. h.number) hits) ≡ true → (place : ℕ) × (0 < times_hit (hit n place) hits)
found_hit n [] is = absurd cc
found_hit n (x ∷ hits) is = elim (or_cases (x.number == n) (is_in n (map (λ h. h.number) hits)) is) [
  | inl first ↦
      (let eq : n ≡ x.number = sym (eqb-true x.number n first) in
      let same : same_hit (hit n x.place) x ≡ true =
      both (n == x.number) (x.place == x.place) (eq-eqb n x.number eq) (eq-eqb x.place x.place refl) in
      (x.place, one_hit (hit n x.place) x hits same))
  | inr later ↦
      (let rest = found_hit n hits later in
      (rest.0, no_fewer (hit n rest.0) x hits rest.1))
]

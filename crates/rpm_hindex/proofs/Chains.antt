-- Chains, link by link.
use Rattle.std.proofs.Common.{◌≡◌, ℕ, zero, suc, ◌+◌, ◌/◌, ◌%◌, ◌^◌, ◌<◌, ◌≤◌, List, [], ◌∷◌, ◌++◌, true, false, cond, eqb, ltb, leb, Result, Ok, Err, refl, sym, ap, ◌∙◌, arith, inl, inr}
use Rattle.std.proofs.lemmas.Bool.{cases_Bool, cond-true, cond-false, and_parts, eq-eqb, ne_eqb, eqb-true, eqb-false, ltb-true, leb-true, and_from, and_left, and_right}
use Rattle.rpm_hindex.proofs.Vocabulary.{behind_place, bucket_of, chain, follow, hash_of, Index, is_link, is_placed, is_sound, key_at, next_at, row_at, units_at}
use Rattle.rpm_hindex.proofs.Vocabulary.{word}

-- what a sound record is
pub record Sound (x : Index) (b at : ℕ) : Type 0 where
  pub link : is_link x (next_at x.unit at) ≡ true
  pub falls : next_at x.unit at < at
  pub ends : at + units_at x.unit at ≤ x.used
  pub bucket : bucket_of x.buckets (row_at x.unit at) ≡ b

pub sound_parts : (x : Index) (b at : ℕ) → is_sound x b at ≡ true → Sound x b at
unfolding is_sound
sound_parts x b at e =
    let p = and_parts (is_placed x at) (eqb (bucket_of x.buckets (row_at x.unit at)) b) e in
    let q = and_parts (is_link x (next_at x.unit at)) _ p.0 in
    let r = and_parts (ltb (next_at x.unit at) at) (leb (at + units_at x.unit at) x.used) q.1 in
    record { link = q.0; falls = ltb-true _ _ r.0; ends = leb-true _ _ r.1; bucket = eqb-true _ _ p.1 }

pub sound_from : (x : Index) (b at : ℕ) → is_placed x at ≡ true → hash_of (word 1 (x.unit at) / 2 ^ 28) (key_at x.unit at) % x.buckets ≡ b
    → is_sound x b at ≡ true
unfolding is_sound row_at
sound_from x b at placed bucket = and_from (is_placed x at) _ placed (eq-eqb _ b bucket)

pub unsound_place : (x : Index) (b at : ℕ) → is_placed x at ≡ false → is_sound x b at ≡ false
unfolding is_sound
unsound_place x b at bad = and_left (is_placed x at) _ bad

pub unsound_bucket : (x : Index) (b at : ℕ) → (hash_of (word 1 (x.unit at) / 2 ^ 28) (key_at x.unit at) % x.buckets ≡ b → ⊥) → is_sound x b at ≡ false
unfolding is_sound row_at
unsound_bucket x b at other = and_right (is_placed x at) _ (ne_eqb _ b other)

pub record Placed (x : Index) (at : ℕ) : Type 0 where
  pub link : is_link x (next_at x.unit at) ≡ true
  pub falls : next_at x.unit at < at
  pub ends : at + units_at x.unit at ≤ x.used

pub placed_parts : (x : Index) (at : ℕ) → is_placed x at ≡ true → Placed x at
placed_parts x at e =
    let q = and_parts (is_link x (next_at x.unit at)) _ e in
    let r = and_parts (ltb (next_at x.unit at) at) (leb (at + units_at x.unit at) x.used) q.1 in
    record { link = q.0; falls = ltb-true _ _ r.0; ends = leb-true _ _ r.1 }

module _ (x : Index) (b : ℕ) where
  pub follow_zero : (n : ℕ) → follow x b n 0 ≡ Ok []
  follow_zero zero = refl
  follow_zero (suc n) = refl

  follow_at : (n at : ℕ) → 0 < at → follow x b (suc n) at ≡ cond (is_sound x b at) (behind_place at (follow x b n (next_at x.unit at))) (Err at)
  follow_at n at some = cond-false (eqb at 0) (Ok []) _ (ne_eqb at 0 (λ e. absurd (omega arith)))

  -- enough is enough
  pub fuel : (m n at : ℕ) → at ≤ m → at ≤ n → follow x b m at ≡ follow x b n at
  fuel zero n at le ge =
      let zeros : at ≡ 0 = omega arith in
      ap (follow x b zero) zeros ∙ sym (follow_zero n) ∙ ap (follow x b n) (sym zeros)
  fuel (suc m) zero at le ge =
      let zeros : at ≡ 0 = omega arith in
      ap (follow x b (suc m)) zeros ∙ follow_zero (suc m) ∙ sym (ap (follow x b zero) zeros)
  fuel (suc m) (suc n) at le ge = elim (cases_Bool (eqb at 0)) [
    | inl zero_at ↦
        let zeros : at ≡ 0 = eqb-true at 0 zero_at in
        ap (follow x b (suc m)) zeros ∙ sym (ap (follow x b (suc n)) zeros)
    | inr other ↦
        let some : 0 < at = omega (arith, eqb-false at 0 other) in
        elim (cases_Bool (is_sound x b at)) [
          | inl sound ↦
              let s = sound_parts x b at sound in
              follow_at m at some ∙ cond-true (is_sound x b at) _ _ sound
              ∙ ap (behind_place at) (fuel m n (next_at x.unit at) (omega (arith, s.falls)) (omega (arith, s.falls)))
              ∙ sym (follow_at n at some ∙ cond-true (is_sound x b at) _ _ sound)
          | inr bad ↦
              follow_at m at some ∙ cond-false (is_sound x b at) _ _ bad
              ∙ sym (follow_at n at some ∙ cond-false (is_sound x b at) _ _ bad)
        ]
  ]

  pub follow_step : (n at : ℕ) → 0 < at → at ≤ n → is_sound x b at ≡ true
      → follow x b n at ≡ behind_place at (follow x b (next_at x.unit at) (next_at x.unit at))
  follow_step zero at some le sound = absurd (omega arith)
  follow_step (suc n) at some le sound =
      let s = sound_parts x b at sound in
      follow_at n at some ∙ cond-true (is_sound x b at) _ _ sound
      ∙ ap (behind_place at) (fuel n (next_at x.unit at) (next_at x.unit at) (omega (arith, s.falls)) (omega arith))

  pub follow_bad : (n at : ℕ) → 0 < at → at ≤ n → is_sound x b at ≡ false → follow x b n at ≡ Err at
  follow_bad zero at some le bad = absurd (omega arith)
  follow_bad (suc n) at some le bad = follow_at n at some ∙ cond-false (is_sound x b at) _ _ bad

  pub chain_bad : is_link x (x.head b) ≡ false → chain x b ≡ Err (2 + (b / 4))
  unfolding chain
  chain_bad bad = cond-false (is_link x (x.head b)) _ _ bad

  pub chain_from : is_link x (x.head b) ≡ true → chain x b ≡ follow x b (x.head b) (x.head b)
  unfolding chain
  chain_from link = cond-true (is_link x (x.head b)) _ _ link

-- several places in front
abbrev pub behind_all : List ℕ → Result (List ℕ) ℕ → Result (List ℕ) ℕ
behind_all [] said = said
behind_all (p ∷ ps) said = behind_place p (behind_all ps said)

pub behind_more : (ps : List ℕ) (p : ℕ) (said : Result (List ℕ) ℕ) → behind_all (ps ++ p ∷ []) said ≡ behind_all ps (behind_place p said)
behind_more [] p said = refl
behind_more (q ∷ ps) p said = ap (behind_place q) (behind_more ps p said)

pub behind_ok : (ps qs : List ℕ) → behind_all ps (Ok qs) ≡ Ok (ps ++ qs)
behind_ok [] qs = refl
behind_ok (p ∷ ps) qs = ap (behind_place p) (behind_ok ps qs)

pub behind_err : (ps : List ℕ) (unit : ℕ) → behind_all ps (Err unit) ≡ Err unit
behind_err [] unit = refl
behind_err (p ∷ ps) unit = ap (behind_place p) (behind_err ps unit)

behind_is_ok : (p : ℕ) (said : Result (List ℕ) ℕ) (places : List ℕ) → behind_place p said ≡ Ok places → (rest : List ℕ) × (said ≡ Ok rest) × (places ≡ p ∷ rest)
behind_is_ok p (Ok rest) places e = let same : places ≡ p ∷ rest = cc in (rest, refl, same)
behind_is_ok p (Err unit) places e = absurd (let no' : ⊥ = cc in no')

pub behind_all_is_ok : (ps : List ℕ) (said : Result (List ℕ) ℕ) (places : List ℕ) → behind_all ps said ≡ Ok places → (rest : List ℕ)
    × (said ≡ Ok rest) × (places ≡ ps ++ rest)
behind_all_is_ok [] said places e = (places, e, refl)
behind_all_is_ok (p ∷ ps) said places e =
    let one = behind_is_ok p (behind_all ps said) places e in
    let more = behind_all_is_ok ps said one.0 one.1 in
    (more.0, more.1, one.2 ∙ ap (λ (qs : List ℕ). p ∷ qs) more.2)

pub follow_is_ok : (x : Index) (b n at : ℕ) (places : List ℕ) → 0 < at → at ≤ n → follow x b n at ≡ Ok places
    → (rest : List ℕ) × (is_sound x b at ≡ true) × (places ≡ at ∷ rest) × (follow x b (next_at x.unit at) (next_at x.unit at) ≡ Ok rest)
follow_is_ok x b n at places some le e = elim (cases_Bool (is_sound x b at)) [
  | inl sound ↦
      let one = behind_is_ok at _ places (sym (follow_step x b n at some le sound) ∙ e) in
      (one.0, sound, one.2, one.1)
  | inr bad ↦
      let wrong : Err at ≡ Ok places = sym (follow_bad x b n at some le bad) ∙ e in
      absurd (let no' : ⊥ = cc in no')
]

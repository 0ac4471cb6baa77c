-- What a torn write of Hindex.db leaves.
use Rattle.std.proofs.Common.{◌≡◌, ℕ, ◌≤◌, List, [], ◌∷◌, length, sym, ap, ◌∙◌, arith, inl, inr}
use Rattle.std.proofs.lemmas.List.{get_or_past}
use Rattle.std.proofs.lemmas.Bool.{cases_lt, cases_eq}
use Rattle.rpm_outside.specs.declared.disk.Disk as disk
use Rattle.rpm_hindex.proofs.Vocabulary.{blank, Changes, changes_then, changes_weaker, Idx, length-put, with_units, put_after, put_before, put_inside, same_units}
use Rattle.rpm_hindex.proofs.Vocabulary.{SameSeal, SealedOrSame, Torn, unit_at, Units, VoidOrSame}

-- a write after unit 0 leaves it
pub torn_behind : (at : ℕ) (us a b : Units) → 1 ≤ at → Torn at us a b → SameSeal a b
torn_behind at us a b behind torn = elim (torn.each 0) [
  | inl old ↦ old
  | inr new ↦ new ∙ put_before at us a 0 (omega arith)
]

module _ (unit : List ℕ) (a b : Units) (torn : Torn 0 (unit ∷ []) a b) where
  rest_same : (i : ℕ) → 1 ≤ i → unit_at b i ≡ unit_at a i
  rest_same i from = elim (torn.each i) [
    | inl old ↦ old
    | inr new ↦ new ∙ put_after 0 (unit ∷ []) a i (omega arith)
  ]

  front_new : unit_at b 0 ≡ unit_at (with_units 0 (unit ∷ []) a) 0 → unit_at b 0 ≡ unit
  front_new e = e ∙ put_inside 0 (unit ∷ []) a 0 (omega arith)

  long : 1 ≤ length a → length b ≡ length a
  long some = omega (arith, torn.no_shorter, torn.no_longer, length-put 0 (unit ∷ []) a)

  same_file : 1 ≤ length a → unit_at b 0 ≡ unit_at a 0 → b ≡ a
  same_file some old = same_units b a (long some) (λ i. elim (cases_eq i 0) [
    | inl zeros ↦ ap (unit_at b) zeros ∙ old ∙ sym (ap (unit_at a) zeros)
    | inr other ↦ rest_same i (omega (arith, other))
  ])

  new_file : 1 ≤ length a → unit_at b 0 ≡ unit_at (with_units 0 (unit ∷ []) a) 0 → b ≡ with_units 0 (unit ∷ []) a
  new_file some new = same_units b (with_units 0 (unit ∷ []) a) (omega (arith, long some, length-put 0 (unit ∷ []) a)) (λ i. elim (cases_eq i 0) [
    | inl zeros ↦ ap (unit_at b) zeros ∙ new ∙ sym (ap (unit_at (with_units 0 (unit ∷ []) a)) zeros)
    | inr other ↦ rest_same i (omega (arith, other)) ∙ sym (put_after 0 (unit ∷ []) a i (omega (arith, other)))
  ])

  pub torn_seal : SealedOrSame unit a b
  torn_seal some = elim (torn.each 0) [
    | inl old ↦ inl (same_file some old)
    | inr new ↦ inr (new_file some new)
  ]

  pub torn_void : unit ≡ blank → VoidOrSame a b
  torn_void zeros = elim (torn.each 0) [
    | inr new ↦ inl (front_new new ∙ zeros)
    | inl old ↦ elim (cases_lt 0 (length a)) [
      | inl some ↦ inr (same_file some old)
      | inr none ↦ inl (old ∙ get_or_past a 0 blank none)
    ]
  ]

-- what leaves unit 0, and then one more write
module _ {D : Type 0} (d : disk.Ghosts D) (trans : (a b c : D) → d.follows a b → d.follows b c → d.follows a c) (a b c : D) where
  pub seal_then : Changes d Idx SameSeal 0 a b → Changes d Idx SameSeal 0 b c → Changes d Idx SameSeal 0 a c
  seal_then = changes_then _ Idx trans SameSeal SameSeal SameSeal 0 0 0 a b c (omega arith) (λ x y p. p) (λ x y z p q. q ∙ p)

  pub seal_torn : (at : ℕ) (us : Units) → 1 ≤ at → Changes d Idx SameSeal 0 a b → Changes d Idx (Torn at us) 0 b c → Changes d Idx SameSeal 0 a c
  seal_torn at us behind first torn = seal_then first (changes_weaker _ Idx (Torn at us) SameSeal 0 0 b c (omega arith) (λ x y. torn_behind at us x y
      behind) torn)

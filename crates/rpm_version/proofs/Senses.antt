-- Flags of which the bits of a sense alone are kept.
use Rattle.std.proofs.Common.{◌≡◌, ℕ, ◌*◌, ◌^◌, Bool, true, false, ◌||◌, ◌==◌, List, Option, Some, None, refl, sym, ap, ◌∙◌, inl, inr, arith}
use Rattle.std.specs.Prelude.{bit_and}
use Rattle.rpm_version.proofs.Vocabulary.{bit_at, Equal, equal_but_release, evr, evr_order, EvrParts, Greater, is_open, Less, ranges_meet, Ordering, overlaps}
use Rattle.rpm_version.proofs.Vocabulary.{share_sense}
use Rattle.std.proofs.lemmas.Bool.{cases_Bool}
use Rattle.std.proofs.lemmas.Bool.Decides.{nat_tests}
use Rattle.std.proofs.lemmas.Nat.Bits.{and_pow, bit_at_and, bit_at-lt}

kept_at : (flags k : ℕ) → bit_at 14 k ≡ 1 → bit_and (bit_and flags 14) (2 ^ k) ≡ bit_and flags (2 ^ k)
kept_at flags k one =
    let both : bit_at (bit_and flags 14) k ≡ bit_at flags k = omega (arith, bit_at_and flags 14 k, one, bit_at-lt flags k) in
    and_pow (bit_and flags 14) k ∙ ap (λ (b : ℕ). b * 2 ^ k) both ∙ sym (and_pow flags k)

less_kept : (flags : ℕ) → bit_and (bit_and flags 14) 2 ≡ bit_and flags 2
less_kept flags = kept_at flags 1 refl

greater_kept : (flags : ℕ) → bit_and (bit_and flags 14) 4 ≡ bit_and flags 4
greater_kept flags = kept_at flags 2 refl

equal_kept : (flags : ℕ) → bit_and (bit_and flags 14) 8 ≡ bit_and flags 8
equal_kept flags = kept_at flags 3 refl

pub open_kept : (flags : ℕ) (v : List ℕ) → is_open (bit_and flags 14) v ≡ is_open flags v
unfolding is_open
open_kept flags v = rw (less_kept flags, greater_kept flags, equal_kept flags) refl

released : (f flags : ℕ) (r s : Option (List ℕ)) → equal_but_release f r (bit_and flags 14) s ≡ equal_but_release f r flags s
unfolding equal_but_release
released f flags (Some r) (Some s) = refl
released f flags (Some r) None = rw equal_kept
released f flags None (Some s) = refl
released f flags None None = refl

shared : (f flags : ℕ) → share_sense f (bit_and flags 14) ≡ share_sense f flags
unfolding share_sense
shared f flags = rw (less_kept flags, greater_kept flags, equal_kept flags) refl

meets_kept : (o : Ordering) (f : ℕ) (a : EvrParts) (flags : ℕ) (b : EvrParts) → ranges_meet o f a (bit_and flags 14) b ≡ ranges_meet o f a flags b
meets_kept Less f a flags b = rw less_kept
meets_kept Greater f a flags b = rw greater_kept
meets_kept Equal f a flags b = λ i. shared f flags i || released f flags a.release b.release i

pub overlaps_kept : (f : ℕ) (v : List ℕ) (flags : ℕ) (w : List ℕ) → overlaps f v (bit_and flags 14) w ≡ overlaps f v flags w
unfolding overlaps
overlaps_kept f v flags w =
    λ i. is_open f v || open_kept flags w i || meets_kept (evr_order (evr v) (evr w)) f (evr v) flags (evr w) i

pub opened : (w : List ℕ) → is_open 0 w ≡ true
unfolding is_open
opened w = refl

durable : (a x y : Bool) → (a || true || x) ≡ (a || true || y)
durable true x y = refl
durable false x y = refl

-- where every version is in a range, no flags say the same
pub overlaps_open : (f : ℕ) (v : List ℕ) (flags : ℕ) (w : List ℕ) → true ≡ is_open flags w → overlaps f v 0 w ≡ overlaps f v flags w
unfolding overlaps
overlaps_open f v flags w is =
    let order = evr_order (evr v) (evr w) in
    (λ i. is_open f v || opened w i || ranges_meet order f (evr v) 0 (evr w))
    ∙ durable (is_open f v) (ranges_meet order f (evr v) 0 (evr w)) (ranges_meet order f (evr v) flags (evr w))
    ∙ (λ i. is_open f v || is i || ranges_meet order f (evr v) flags (evr w))

-- where it isn't, a bit is left
pub some_kept : (flags : ℕ) (w : List ℕ) → false ≡ is_open flags w → (bit_and flags 14 == 0) ≡ is_open flags w
some_kept flags w closed = elim (cases_Bool (bit_and flags 14 == 0)) [
  | inr left ↦ left ∙ closed
  | inl none ↦
      (let zero : bit_and flags 14 ≡ 0 = grind (arith, nat_tests) in
      let both : true ≡ false = sym (opened w) ∙ ap (λ (n : ℕ). is_open n w) (sym zero) ∙ open_kept flags w ∙ sym closed in
      absurd cc)
]

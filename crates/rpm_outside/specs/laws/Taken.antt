-- What a sink gained over several writes.
use Rattle.std.proofs.Common.{◌≡◌, ℕ, ◌+◌, ◌-◌, ◌≤◌, Bool, List, [], ◌++◌, length, take, drop, sym, ap, ◌∙◌}
use Rattle.std.proofs.Common.{append_assoc, length-append, arith}
use Rattle.std.proofs.lemmas.List.{append-nil, take-take, take-append-le}
use Rattle.std.proofs.Math.Seq.{take-add, take-append-add}
use Rattle.rpm_outside.specs.Sinks.{GainIs, GainedPart, IsPrefix}

module _ (tells : Bool) where
  pub gained_none : (a : List ℕ) → GainIs tells a a []
  gained_none a told = sym (append-nil a)

  pub gained_more : (a b c x y : List ℕ) → GainIs tells a b x → GainIs tells b c y → GainIs tells a c (x ++ y)
  gained_more a b c x y p q told = q told ∙ ap (λ (t : List ℕ). t ++ y) (p told) ∙ append_assoc a x y

  -- a piece of what is left after the first bytes
  pub taken_more : (a b c bytes : List ℕ) (done n : ℕ) → n ≤ length bytes - done → GainIs tells a b (take done bytes)
      → GainIs tells b c
      (take n (take (length bytes - done) (drop done bytes))) → GainIs tells a c (take (done + n) bytes)
  taken_more a b c bytes done n le p q told =
      let piece : take n (take (length bytes - done) (drop done bytes))
      ≡ take n (drop done bytes) = take-take n (length bytes - done) (drop done bytes) le in
      rw take-add (gained_more a b c (take done bytes) (take n (drop done bytes)) p (λ t. rw piece at (q t)) told)

  pub then_part : (a b c x y : List ℕ) → GainIs tells a b x → GainedPart tells b c y → GainedPart tells a c (x ++ y)
  then_part a b c x y p (n, le, q) =
      let within : length x + n ≤ length (x ++ y) = omega (arith, length-append x y) in
      (length x + n, within, λ told. rw take-append-add (gained_more a b c x (take n y) p q told))

  pub part_then : (a b x y : List ℕ) → GainedPart tells a b x → GainedPart tells a b (x ++ y)
  part_then a b x y (n, le, q) =
      let within : n ≤ length (x ++ y) = omega (arith, length-append x y) in
      (n, within, λ told. rw take-append-le (q told))

pub begins_refl : (a : List ℕ) → IsPrefix a a
begins_refl a = ([], sym (append-nil a))

pub begins_trans : (a b c : List ℕ) → IsPrefix a b → IsPrefix b c → IsPrefix a c
begins_trans a b c (x, p) (y, q) = (x ++ y, q ∙ ap (λ (t : List ℕ). t ++ y) p ∙ append_assoc a x y)

-- What is known of a header that was read from its own bytes.
use Rattle.std.proofs.Common.{◌≡◌, ℕ, zero, suc, ◌+◌, ◌*◌, ◌<◌, ◌≤◌, List, ◌∷◌, length, take, map, Bool, true, false, Option, Some, None, Result, Ok, Err, refl, sym, ap, subst, ◌∙◌, arith, inl, inr}
use Rattle.std.specs.Prelude.{nat_lt, if◌then◌else◌}
use Rattle.rpm_header.proofs.Vocabulary.{each_below, entries, fault_at, first, Header, header, header_of, HeaderFault, IsCutAsSaid, IsOwn, IsBlobSound, Item, number_at}
use Rattle.rpm_header.proofs.Vocabulary.{range_with_len, Short, TooManyEntries, TooMuchData, unless, w32}
use Rattle.std.proofs.lemmas.Bool.{cases_eq, ltb-false}
use Rattle.rpm_header.proofs.Cut.{is_cut}
use Rattle.rpm_header.proofs.Each.{length-entries}

pub record IsOpened (h : Header) : Type 0 where
  pub sound : IsBlobSound (length h.entries) h.blob
  pub same : h.entries ≡ entries (length h.entries) h.blob

passes : {X : Type 0} (test : Bool) (e : HeaderFault) (r : Result X HeaderFault) (x : X) → (if test then Err e else r) ≡ Ok x → (test ≡ false) × (r ≡ Ok x)
passes true e r x is = absurd cc
passes false e r x is = (refl, is)

kept : {X : Type 0} (fault : Option HeaderFault) (x y : X) → unless fault x ≡ Ok y → (fault ≡ None) × (x ≡ y)
kept None x y is = (refl, cc)
kept (Some e) x y is = absurd cc

none_first : {X : Type 0} (o : Option X) (os : List (Option X)) → first (o ∷ os) ≡ None → (o ≡ None) × (first os ≡ None)
none_first None os e = (refl, e)
none_first (Some x) os e = absurd cc

none_from : (f : ℕ → Option HeaderFault) (a n : ℕ) → first (map f (range_with_len a n)) ≡ None → (k : ℕ) → a ≤ k → k < a + n → f k ≡ None
none_from f a zero none k from below = absurd (omega arith)
none_from f a (suc n) none k from below =
    let both = none_first (f a) (map f (range_with_len (a + 1) n)) none in
    elim (cases_eq a k) [
      | inl same ↦ (rw (← same) both.0)
      | inr other ↦ (none_from f (a + 1) n both.1 k (omega arith) (omega arith))
    ]

pub opened : (h : Header) → header h.blob ≡ Ok h → IsOpened h
unfolding header header_of
opened h is =
    let il = number_at w32 h.blob 0 in
    let dl = number_at w32 h.blob 4 in
    let own = take (8 + 16 * il + dl) h.blob in
    let long = passes (nat_lt (length h.blob) 8) Short _ h is in
    let few = passes (nat_lt 65535 il) TooManyEntries _ h long.1 in
    let small = passes (nat_lt 67108864 dl) TooMuchData _ h few.1 in
    let whole = passes (nat_lt (length h.blob) (8 + 16 * il + dl)) Short (header_of il own) h small.1 in
    let parts = kept (first (each_below il (fault_at il own))) (record { blob = own; entries = entries il own }) h whole.1 in
    let blob : own ≡ h.blob = ap (λ (x : Header). x.blob) parts.1 in
    let items : entries il own ≡ h.entries = ap (λ (x : Header). x.entries) parts.1 in
    let number : il ≡ length h.entries = sym (length-entries il own) ∙ ap (λ (es : List Item). length es) items in
    let cut : IsCutAsSaid il own =
    is_cut il dl (8 + 16 * il + dl) h.blob refl refl refl (ltb-false (length h.blob) (8 + 16 * il + dl) whole.0) (ltb-false 65535 il few.0)
    (ltb-false 67108864 dl small.0) in
    let sound : IsBlobSound il own = record { cut = cut; faultless = λ k below. none_from (fault_at il own) 0 il parts.0 k (omega arith) (omega arith) } in
    record {
      sound = subst (λ (b : List ℕ). IsBlobSound (length h.entries) b) blob (subst (λ (n : ℕ). IsBlobSound n own) number sound);
      same = sym items ∙ ap (λ (b : List ℕ). entries il b) blob ∙ ap (λ (n : ℕ). entries n h.blob) number;
    }

-- its own bytes are two lengths, the index and at most 64 MiB of data
pub record PartsFit (n : ℕ) (blob : List ℕ) : Type 0 where
  pub index : 8 + 16 * n ≤ length blob
  pub few : n ≤ 65535
  pub small : length blob ≤ 8 + 16 * n + 67108864

pub fits : (h : Header) (n : ℕ) (blob : List ℕ) → blob ≡ h.blob → n ≡ length h.entries → header blob ≡ Ok h → PartsFit n blob
fits h n blob own number is =
    let o = opened h (subst (λ (b : List ℕ). header b ≡ Ok h) own is) in
    record {
      index = omega (arith, o.sound.cut.whole, ap length own);
      few = omega (arith, o.sound.cut.few);
      small = omega (arith, o.sound.cut.whole, o.sound.cut.small, ap length own);
    }

-- own bytes keep what a view keeps, and are its header
pub own_sound : (bytes : List ℕ) → IsOwn bytes → IsBlobSound (number_at w32 bytes 0) bytes
    × (header bytes ≡ Ok (record { blob = bytes; entries = entries (number_at w32 bytes 0) bytes }))
own_sound bytes (h, is, own) =
    let o = opened h (subst (λ (b : List ℕ). header b ≡ Ok h) (sym own) is) in
    let number : length h.entries ≡ number_at w32 bytes 0 = sym o.sound.cut.front ∙ ap (λ (b : List ℕ). number_at w32 b 0) own in
    let items : h.entries ≡ entries (number_at w32 bytes 0) bytes = o.same ∙ ap (λ (n : ℕ). entries n h.blob) number
    ∙ ap (λ (b : List ℕ). entries (number_at w32 bytes 0) b) own in
    let first : h ≡ record { blob = bytes; entries = h.entries } = ap (λ (b : List ℕ). record { blob = b; entries = h.entries }) own in
    let whole : h ≡ record { blob = bytes; entries = entries (number_at w32 bytes 0) bytes } = first
    ∙ ap (λ (es : List Item). record { blob = bytes; entries = es }) items in (
      subst (λ (b : List ℕ). IsBlobSound (number_at w32 bytes 0) b) own (subst (λ (n : ℕ). IsBlobSound n h.blob) number o.sound),
      is ∙ ap (λ (x : Header). Ok x) whole,
    )

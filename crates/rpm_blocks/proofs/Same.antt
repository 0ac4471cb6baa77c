-- Lists of ranges that have the same blocks.
use Rattle.std.proofs.Common.{◌≡◌, ℕ, zero, suc, ◌<◌, ◌⊎◌, List, [], ◌∷◌, length, inl, inr, sym, subst, arith}
use Rattle.rpm_blocks.proofs.Vocabulary.{end_of_range, Has, HaveSameBlocks, insert, IsFree, IsUnused, Range, range_at, remove}
use Rattle.std.proofs.lemmas.Bool.{cases_lt}

-- a block lies in a range, or it does not
pub has_or_not : (r : Range) (b : ℕ) → Has r b ⊎ (¬ Has r b)
has_or_not r b = elim (cases_lt b r.start) [
  | inl below ↦ inr (λ h. omega (arith, h.from))
  | inr from ↦ elim (cases_lt b (end_of_range r)) [
    | inl inside ↦ inl (record { from = from; below = inside })
    | inr above ↦ inr (λ h. omega (arith, h.below))
  ]
]

-- a block that no range of the list has is not in the first, and not in the others
pub unused_head : (r : Range) (l : List Range) (b : ℕ) → IsUnused (r ∷ l) b → ¬ Has r b
unused_head r l b unused = unused 0 (omega arith)

pub unused_tail : (r : Range) (l : List Range) (b : ℕ) → IsUnused (r ∷ l) b → IsUnused l b
unused_tail r l b unused i lt = unused (suc i) (omega arith)

pub unused_cons : (r : Range) (l : List Range) (b : ℕ) → (¬ Has r b) → IsUnused l b → IsUnused (r ∷ l) b
unused_cons r l b head tail zero lt = head
unused_cons r l b head tail (suc i) lt = tail i (omega arith)

pub same_refl : (l : List Range) → HaveSameBlocks l l
same_refl l = record { there = λ b h. h; back = λ b h. h }

pub same_sym : (l m : List Range) → HaveSameBlocks l m → HaveSameBlocks m l
same_sym l m s = record { there = s.back; back = s.there }

pub same_trans : (l m n : List Range) → HaveSameBlocks l m → HaveSameBlocks m n → HaveSameBlocks l n
same_trans l m n s t = record { there = λ b h. t.there b (s.there b h); back = λ b h. s.back b (t.back b h) }

pub same_cons : (r : Range) (l m : List Range) → HaveSameBlocks l m → HaveSameBlocks (r ∷ l) (r ∷ m)
same_cons r l m s = record {
  there = λ b h. unused_cons r m b (unused_head r l b h) (s.there b (unused_tail r l b h));
  back = λ b h. unused_cons r l b (unused_head r m b h) (s.back b (unused_tail r m b h));
}

swapped : (r s : Range) (l : List Range) (b : ℕ) → IsUnused (r ∷ s ∷ l) b → IsUnused (s ∷ r ∷ l) b
swapped r s l b h =
    let tail = unused_tail r (s ∷ l) b h in
    unused_cons s (r ∷ l) b (unused_head s l b tail) (unused_cons r l b (unused_head r (s ∷ l) b h) (unused_tail s l b tail))

pub same_swap : (r s : Range) (l : List Range) → HaveSameBlocks (r ∷ s ∷ l) (s ∷ r ∷ l)
same_swap r s l = record { there = swapped r s l; back = swapped s r l }

-- two ranges that touch have the blocks of one
pub same_joined : (low high whole : Range) (l : List Range) → low.start ≡ whole.start → end_of_range low ≡ high.start → end_of_range high ≡ end_of_range whole
    → HaveSameBlocks (low ∷ high ∷ l) (whole ∷ l)
same_joined low high whole l starts touch ends = record {
  there = λ b h.
      let tail = unused_tail low (high ∷ l) b h in
      let not_low : ¬ Has low b = unused_head low (high ∷ l) b h in
      let not_high : ¬ Has high b = unused_head high l b tail in
      unused_cons whole l b
      (λ has. elim (cases_lt b (end_of_range low)) [
        | inl below ↦ not_low (record { from = omega (arith, has.from); below = below })
        | inr above ↦ not_high (record { from = omega arith; below = omega (arith, has.below) })
      ])
      (unused_tail high l b tail);
  back = λ b h.
      let not_whole : ¬ Has whole b = unused_head whole l b h in
      unused_cons low (high ∷ l) b
      (λ has. not_whole (record { from = omega (arith, has.from); below = omega (arith, has.below) }))
      (unused_cons high l b
      (λ has. not_whole (record { from = omega (arith, has.from); below = omega (arith, has.below) }))
      (unused_tail whole l b h));
}

insert_there : (l : List Range) (at : ℕ) (r : Range) (b : ℕ) → IsUnused (r ∷ l) b → IsUnused (insert l at r) b
insert_there l zero r b h = h
insert_there [] (suc at) r b h = h
insert_there (x ∷ l) (suc at) r b h =
    let tail = unused_tail r (x ∷ l) b h in
    unused_cons x (insert l at r) b (unused_head x l b tail) (insert_there l at r b (unused_cons r l b (unused_head r (x ∷ l) b h) (unused_tail x l b tail)))

insert_back : (l : List Range) (at : ℕ) (r : Range) (b : ℕ) → IsUnused (insert l at r) b → IsUnused (r ∷ l) b
insert_back l zero r b h = h
insert_back [] (suc at) r b h = h
insert_back (x ∷ l) (suc at) r b h =
    let rest = insert_back l at r b (unused_tail x (insert l at r) b h) in
    unused_cons r (x ∷ l) b (unused_head r l b rest) (unused_cons x l b (unused_head x (insert l at r) b h) (unused_tail r l b rest))

-- a range that is put in anywhere adds its blocks
pub same_insert : (l : List Range) (at : ℕ) (r : Range) → HaveSameBlocks (r ∷ l) (insert l at r)
same_insert l at r = record { there = insert_there l at r; back = insert_back l at r }

same_removed : (l : List Range) (i : ℕ) → i < length l → HaveSameBlocks l (range_at l i ∷ remove l i)
same_removed [] i lt = absurd (omega arith)
same_removed (x ∷ l) zero lt = same_refl (x ∷ l)
same_removed (x ∷ l) (suc i) lt =
    let inner = same_cons x l (range_at l i ∷ remove l i) (same_removed l i (omega arith)) in
    same_trans (x ∷ l) (x ∷ range_at l i ∷ remove l i) (range_at l i ∷ x ∷ remove l i) inner (same_swap x (range_at l i) (remove l i))

-- and one that is taken out takes them with it
pub same_remove : (l : List Range) (i : ℕ) (x : Range) → i < length l → x ≡ range_at l i → HaveSameBlocks l (x ∷ remove l i)
same_remove l i x lt is = subst (λ (y : Range). HaveSameBlocks l (y ∷ remove l i)) (sym is) (same_removed l i lt)

-- a range that meets neither list can be left out of both
pub same_without : (r : Range) (l m : List Range) → HaveSameBlocks (r ∷ l) (r ∷ m) → IsFree l r → IsFree m r → HaveSameBlocks l m
same_without r l m same free_l free_m = record {
  there = λ b h. elim (has_or_not r b) [
    | inl has ↦ free_m b has
    | inr out ↦ unused_tail r m b (same.there b (unused_cons r l b out h))
  ];
  back = λ b h. elim (has_or_not r b) [
    | inl has ↦ free_l b has
    | inr out ↦ unused_tail r l b (same.back b (unused_cons r m b out h))
  ];
}

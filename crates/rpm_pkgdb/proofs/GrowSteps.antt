-- A slot page is added after its moves.
use Rattle.std.proofs.Common.{◌≡◌, ◌⊎◌, ℕ, ◌+◌, ◌^◌, ◌<◌, ◌≤◌, List, length, take, true, sym, ap, ◌∙◌, subst, arith}
use Rattle.rpm_pkgdb.proofs.Vocabulary.{CanAdd, end_of, is_used, IsKept, IsMovable, IsNextOf, KeepsStore, Move, move_at, Pairs, Slot, slot_at, Store, Units}
use Rattle.rpm_pkgdb.proofs.Vocabulary.{with_moves}
use Rattle.rpm_pkgdb.proofs.Made.{made}
use Rattle.rpm_pkgdb.proofs.Pairwise.{used_below}
use Rattle.rpm_pkgdb.proofs.MoveListLaws.{next_of, unmoved}

module _ (v : Store) (some : 1 ≤ v.pages) (moves : List Move) (can : CanAdd v moves) (i : ℕ) (below : i < length moves) where
  abbrev m : Move
  m = move_at moves i

  abbrev current : Store
  current = with_moves v (take i moves)

  next : IsNextOf current m
  next = next_of v moves i can.are below

  same : slot_at current.slots m.place ≡ slot_at v.slots m.place
  same = unmoved v moves i can.are below

  used : is_used (slot_at v.slots m.place) ≡ true
  used = ap is_used (sym same) ∙ next.used

  pub movable : (numbers : Pairs) → IsKept numbers v.pages v.slots → IsMovable v.slots m
  movable numbers kept =
      let here = used_below v.slots m.place used in
      let fits = next.least.fits in
      record {
        below = here;
        place = omega (arith, here, kept.count, kept.limit);
        end = (kept.sound.placed m.place used).below;
        room = subst (λ (s : Slot). m.to + s.count ≤ 2 ^ 28) same fits.ends;
        apart =
            subst (λ (s : Slot). (m.to + s.count ≤ s.offset) ⊎ (end_of s ≤ m.to)) same (fits.apart m.place next.used);
      }

  pub moved_within : (file : Units) → KeepsStore file v → end_of (slot_at v.slots m.place) ≤ length file
  moved_within file keeps = ((made file v keeps some).sound.placed m.place used).inside

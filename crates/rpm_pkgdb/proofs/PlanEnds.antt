-- Plans with and without a slot page.
use Rattle.std.proofs.Common.{◌≡◌, ℕ, ◌+◌, ◌*◌, ◌/◌, ◌<◌, ◌≤◌, List, length, true, false, Bool, Some, None, refl, sym, ap, ◌∙◌, subst, arith}
use Rattle.rpm_pkgdb.proofs.Vocabulary.{AreAllUsed, blocks_for, CanAdd, CantMove, FitsNowhere, grown, has_number, HoldsPage, is_used, IsFirstFree, IsStoreFull}
use Rattle.rpm_pkgdb.proofs.Vocabulary.{IsKept, IsLeast, IsPackageNumber, IsPlan, NeedsPage, next_end, next_number, NoMove, NoRoom, Page, Pairs, Slot}
use Rattle.rpm_pkgdb.proofs.Vocabulary.{slot_at, Store}
use Rattle.rpm_pkgdb.proofs.PlannedLaws.{same_next, first_behind}

-- 43 more than a blob, in blocks
blocks_are : (size : ℕ) → blocks_for size ≡ (size + 43) / 16
blocks_are size = ap (λ (k : ℕ). k / 16) (omega arith)

-- a free slot shows that not all are used
some_free : (v : Store) (is_new : Bool) (place : ℕ) → (is_new ≡ true → IsFirstFree v.slots place) → NeedsPage v is_new None
some_free v is_new place free new all =
    let f = free new in
    let used : is_used (slot_at v.slots place) ≡ true = all place f.below in
    let unused = f.unused in
    cc

module _ (v : Store) (number place size : ℕ) (is_new : Bool) (new : is_new ≡ true → (number ≡ next_number v) × IsFirstFree v.slots place) where
  pub there_plan : (start : ℕ) → (is_new ≡ false → has_number number (slot_at v.slots place) ≡ true) → IsPackageNumber number → place < length v.slots
      → size ≤ 68157432 → (pages : ℕ) → pages ≡ v.pages → IsLeast v.slots ((size + 43) / 16) (256 * pages) start
      → IsPlan v (record { target = record { number = number; place = place; start = start; length = size; is_new = is_new }; page = None })
  there_plan start held numbered below few pages same least = record {
    page = some_free v is_new place (λ is. (new is).1);
    held = tt;
    number = λ is. (new is).0;
    target = record {
      new = new;
      held = held;
      number = numbered;
      below = below;
      few = few;
      start = subst (λ (n : ℕ). IsLeast v.slots (blocks_for size) (256 * n) start) same
          (subst (λ (n : ℕ). IsLeast v.slots n (256 * pages) start) (sym (blocks_are size)) least);
    };
  }

  pub there_full : (pages : ℕ) → pages ≡ v.pages → FitsNowhere v.slots ((size + 43) / 16) (256 * pages) → IsStoreFull v is_new size
  there_full pages same nowhere =
      NoRoom None (some_free v is_new place (λ is. (new is).1))
      (subst (λ (n : ℕ). FitsNowhere v.slots (blocks_for size) (256 * n)) same
      (subst (λ (n : ℕ). FitsNowhere v.slots n (256 * pages)) (sym (blocks_are size)) nowhere))

module _ (v : Store) (numbers : Pairs) (kept : IsKept numbers v.pages v.slots) (made : 1 ≤ v.pages) (page : Page) (can : CanAdd v page.moves.items)
    (holds : HoldsPage v (Some page)) (size pages : ℕ) (same : pages ≡ v.pages) where
  pub behind_plan : (number place start : ℕ) → number ≡ next_number v → IsPackageNumber number → place ≡ length v.slots → size ≤ 68157432
      → IsLeast page.slots.items ((size + 43) / 16) (256 * (pages + 1)) start
      → IsPlan v (record { target = record { number = number; place = place; start = start; length = size; is_new = true }; page = Some page })
  behind_plan number place start next numbered at few least =
      let all = (grown (Some page.moves.items) v).slots in
      let first : IsFirstFree all place = subst (IsFirstFree all) (sym at) (first_behind numbers v kept made page.moves.items can) in
      record {
        page = (refl, can);
        held = holds;
        number = λ is. next;
        target = record {
          new = λ is. (next ∙ sym (same_next numbers v kept made page.moves.items can), first);
          held = λ no. absurd (let e : true ≡ false = no in cc);
          number = numbered;
          below = first.below;
          few = few;
          start = subst (λ (n : ℕ). IsLeast all (blocks_for size) (256 * (n + 1)) start) same
              (subst (λ (n : ℕ). IsLeast all n (256 * (pages + 1)) start) (sym (blocks_are size))
              (subst (λ (l : List Slot). IsLeast l ((size + 43) / 16) (256 * (pages + 1)) start) holds.0 least));
        };
      }

  pub behind_full : FitsNowhere page.slots.items ((size + 43) / 16) (256 * (pages + 1)) → IsStoreFull v true size
  behind_full nowhere =
      let all = (grown (Some page.moves.items) v).slots in
      NoRoom (Some page.moves.items) (refl, can)
      (subst (λ (n : ℕ). FitsNowhere all (blocks_for size) (256 * (n + 1))) same
      (subst (λ (n : ℕ). FitsNowhere all n (256 * (pages + 1))) (sym (blocks_are size))
      (subst (λ (l : List Slot). FitsNowhere l ((size + 43) / 16) (256 * (pages + 1))) holds.0 nowhere)))

pub stuck_full : (v : Store) (size : ℕ) → AreAllUsed v.slots → CantMove v.slots (next_end v) → IsStoreFull v true size
stuck_full v size all stuck = NoMove refl all stuck

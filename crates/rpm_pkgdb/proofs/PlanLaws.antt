-- Places among ranges are places among slots.
use Rattle.std.proofs.Common.{inl, inr, ℕ, ◌+◌, ◌^◌, ◌≤◌, List, Option, Some, None, MatchOption, sym, subst}
use Rattle.rpm_pkgdb.proofs.Vocabulary.{apart_from_free, AreRangesOf, AreSound, FitsSlots, FitsNowhere, free_from_apart, IsLeast, IsLeastFit, Range, range}
use Rattle.rpm_pkgdb.proofs.Vocabulary.{range_of_slot, Slot, slot_at}
use Rattle.rpm_blocks.specs.Blocks.{end_of_range as range_end, Fits as FitsIn}

module _ (pages : ℕ) (ranges : List Range) (slots : List Slot) (sound : AreSound pages (2 ^ 28) slots) (are : AreRangesOf ranges slots) (count : ℕ)
    (some : 1 ≤ count) where
  pub fits_from : (start : ℕ) → FitsIn ranges count start → FitsSlots slots count start
  fits_from start fits = record {
    ends = fits.ends;
    apart =
        λ k used. elim (apart_from_free ranges (range start count) (range_of_slot (slot_at slots k)) fits.free (are.each k used) some
        (sound.placed k used).some) [ inl above ↦ inr above | inr below ↦ inl below ];
  }

  pub fits_to : (start : ℕ) → FitsSlots slots count start → FitsIn ranges count start
  fits_to start fits = record {
    free = free_from_apart ranges (range start count) (λ x there.
        let u = are.only x there in
        let e = u.is in
        elim (fits.apart u.at u.used) [
          | inl below ↦ inr (subst (λ (y : Range). start + count ≤ y.start) (sym e) below)
          | inr above ↦ inl (subst (λ (y : Range). range_end y ≤ start) (sym e) above)
        ]);
    ends = fits.ends;
  }

  pub least_from : (from : ℕ) (r : Option ℕ) → IsLeastFit ranges count from r → MatchOption r (FitsNowhere slots count from) (IsLeast slots count from)
  least_from from None none = λ block le fits. none block le (fits_to block fits)
  least_from from (Some start) (from_on, fits, least) =
      record { from_on = from_on; fits = fits_from start fits; least = λ block le lt fits. least block le lt (fits_to block fits) }

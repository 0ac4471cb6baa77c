-- The fields of a value once a database was made.
use Rattle.std.proofs.Common.{◌≡◌, ℕ, ◌^◌, List, [], ◌++◌, true, replicate, Option, Some, None, ap, ◌∙◌, arith}
use Rattle.std.proofs.lemmas.List.{length-replicate, nil_from_length}
use Rattle.rpm_pkgdb.proofs.Vocabulary.{Blocks, free, HasUsed, is_used, IsKept, Pairs, Slot, slot_at}
use Rattle.rpm_pkgdb.proofs.Pairwise.{used_below}
use Rattle.rpm_pkgdb.proofs.Makes.{not_used, new_sound}

module _ (numbers : Pairs) (pages : ℕ) (slots : List Slot) (kept : IsKept numbers pages slots) (none : pages ≡ 0) where
  pub no_slots : slots ≡ []
  no_slots = nil_from_length slots (omega (arith, kept.count, none))

  pub new_kept : IsKept numbers 1 (replicate 254 free)
  new_kept = record {
    places = record {
      each = λ k below used. absurd (not_used k used);
      only = λ n k found. absurd (let o = kept.places.only n k found in omega (arith, o.0, kept.count, none));
    };
    numbered = λ k below used. absurd (not_used k used);
    sound = new_sound 1 (2 ^ 28);
    limit = omega arith;
    count = length-replicate 254 free;
  }

  pub new_used : (used : Option Blocks) (spare : ℕ) → HasUsed used spare slots → HasUsed used spare (replicate 254 free)
  new_used None spare has = has
  new_used (Some b) spare has = (
    record {
      each = λ k used. absurd (not_used k used);
      only = λ x there. absurd (let u = has.0.only x there in omega (arith, used_below slots u.at u.used, kept.count, none));
    },
    has.1,
  )

  pub none_taken : (k : ℕ) → is_used (slot_at slots k) ≡ true → ⊥
  none_taken k used = omega (arith, used_below slots k used, kept.count, none)

  pub new_slots : (items : List Slot) → items ≡ slots ++ replicate 254 free → items ≡ replicate 254 free
  new_slots items is = is ∙ ap (λ (l : List Slot). l ++ replicate 254 free) no_slots

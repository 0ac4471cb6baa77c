-- The slot of a number that a value holds.
use Rattle.std.proofs.Common.{◌≡◌, ◌≢◌, inl, inr, ℕ, ◌+◌, ◌^◌, ◌<◌, ◌≤◌, List, length, true, Some, None, IsSome, min, sym, ap, ◌∙◌, subst, arith, set, length-set}
use Rattle.std.proofs.lemmas.Bool.{cases_eq}
use Rattle.rpm_pkgdb.proofs.Vocabulary.{AreSound, AreUsedTo, MapWithoutOne, end_of, without_number, find_in, free, freed_slots, has_number, HasSlot, is_used, IsKept}
use Rattle.rpm_pkgdb.proofs.Vocabulary.{IsPackageNumber, Pairs, Slot, slot_at, slot_with, Store, with_free}
use Rattle.rpm_pkgdb.proofs.Facts.{number_facts}
use Rattle.rpm_pkgdb.proofs.ClearLaws.{free_sound, set_here, set_other}
use Rattle.rpm_pkgdb.proofs.Pairwise.{used_below}
use Rattle.rpm_pkgdb.proofs.Places.{freed_is_set, with_at}
use Rattle.rpm_pkgdb.proofs.Kept.{slot_missing}

pub not_held : (numbers : Pairs) (pages : ℕ) (slots : List Slot) → IsKept numbers pages slots → (n : ℕ) → IsSome (slot_with n slots)
    → find_in numbers n ≡ None → ⊥
not_held numbers pages slots kept n some none =
    let missing = slot_missing (find_in numbers) slots kept.places n none in
    let e : IsSome {T = Slot} None = subst IsSome missing some in
    cc

module _ (numbers : Pairs) (pages : ℕ) (slots : List Slot) (kept : IsKept numbers pages slots) (n k : ℕ) (found : find_in numbers n ≡ Some k) where
  pub held_below : k < length slots
  held_below = (let o = kept.places.only n k found in o.0)

  pub held_has : has_number n (slot_at slots k) ≡ true
  held_has = (let o = kept.places.only n k found in o.1)

  pub held_used : is_used (slot_at slots k) ≡ true
  held_used = (number_facts n (slot_at slots k) held_has).used

  pub held_room : k + 3 ≤ 2 ^ 28
  held_room = omega (arith, held_below, kept.limit, kept.count)

  pub held_end : end_of (slot_at slots k) ≤ 2 ^ 28
  held_end = (kept.sound.placed k held_used).below

  pub held_slot : (st : Store) (s : Slot) → st.slots ≡ slots → st.pages ≡ pages → s ≡ slot_at slots k → HasSlot st k s
  held_slot st s same pages_are is = record {
    made = omega (arith, held_below, kept.count, pages_are);
    below = omega (arith, held_below, ap length same);
    is = ap (λ (l : List Slot). slot_at l k) same ∙ sym is;
    used = ap is_used is ∙ held_used;
  }

  pub held_number : (s : Slot) → s ≡ slot_at slots k → s.number ≡ n
  held_number s is = ap (λ (t : Slot). t.number) is ∙ (number_facts n (slot_at slots k) held_has).number

  pub held_package : IsPackageNumber n
  held_package = subst IsPackageNumber (number_facts n (slot_at slots k) held_has).number (kept.numbered k held_below held_used)

  pub held_with : (st : Store) (s : Slot) → st.slots ≡ slots → s ≡ slot_at slots k → slot_with n st.slots ≡ Some s
  held_with st s same is = ap (slot_with n) same ∙ with_at pages (2 ^ 28) slots kept.sound n k held_has ∙ ap Some (sym is)

  pub held_erased : (st : Store) → st.slots ≡ slots → with_free k st ≡ without_number n st
  held_erased st same =
      let e : set st.slots k free ≡ freed_slots n st.slots =
      ap (λ (l : List Slot). set l k free) same ∙ sym (freed_is_set pages (2 ^ 28) slots kept.sound n k held_has) ∙ ap (freed_slots n) (sym same) in
      ap (λ (l : List Slot). record st { slots = l }) e

  pub freed_kept : (next : Pairs) → MapWithoutOne (find_in numbers) (find_in next) n → IsKept next pages (set slots k free)
  freed_kept next drops = record {
    places = record {
      each = λ j below used. elim (cases_eq j k) [
        | inl here ↦ absurd (not_used j here used)
        | inr other ↦
            (let stays = set_other pages (2 ^ 28) slots kept.sound k held_below free j other in
            let was : is_used (slot_at slots j) ≡ true = ap is_used (sym stays) ∙ used in
            let differs : (slot_at slots j).number ≢ n =
            λ same. (kept.sound.apart j k other was held_used).numbers (same ∙ sym (number_facts n (slot_at slots k) held_has).number) in
            ap (λ (t : Slot). find_in next t.number) stays ∙ drops.others (slot_at slots j).number differs ∙ kept.places.each j (used_below slots j was) was)
      ];
      only = λ m j is. elim (cases_eq m n) [
        | inl same ↦ absurd (let e : find_in next m ≡ None = ap (find_in next) same ∙ drops.gone in cc)
        | inr differs ↦
            (let o = kept.places.only m j (sym (drops.others m differs) ∙ is) in
            let other : j ≢ k =
            λ here. differs (sym (number_facts m (slot_at slots j) o.1).number ∙ ap (λ (i : ℕ). (slot_at slots i).number) here
            ∙ (number_facts n (slot_at slots k) held_has).number) in
            (omega (arith, o.0, length-set slots k free), ap (has_number m) (set_other pages (2 ^ 28) slots kept.sound k held_below free j other) ∙ o.1))
      ];
    };
    numbered = λ j below used. elim (cases_eq j k) [
      | inl here ↦ absurd (not_used j here used)
      | inr other ↦
          (let stays = set_other pages (2 ^ 28) slots kept.sound k held_below free j other in
          subst (λ (t : Slot). IsPackageNumber t.number) (sym stays)
          (kept.numbered j (omega (arith, below, length-set slots k free)) (ap is_used (sym stays) ∙ used)))
    ];
    sound = free_sound pages (2 ^ 28) slots kept.sound k held_below;
    limit = kept.limit;
    count = length-set slots k free ∙ kept.count;
  }
    where
      not_used : (j : ℕ) → j ≡ k → is_used (slot_at (set slots k free) j) ≡ true → ⊥
      not_used j here used =
          (let e : slot_at (set slots k free) j ≡ free = ap (slot_at (set slots k free)) here
          ∙ set_here pages (2 ^ 28) slots kept.sound k held_below free in let f : is_used (slot_at (set slots k free) j) ≡ is_used free = ap is_used e in
          cc)

-- the place of a slot is the one that the numbers tell
pub found_at_slot : (numbers : Pairs) (pages : ℕ) (slots : List Slot) → IsKept numbers pages slots → (n k : ℕ) → k < length slots → (s : Slot)
    → slot_at slots k ≡ s → is_used s ≡ true → s.number ≡ n → find_in numbers n ≡ Some k
found_at_slot numbers pages slots kept n k below s is used number =
    ap (find_in numbers) (sym (ap (λ (t : Slot). t.number) is ∙ number)) ∙ kept.places.each k below (ap is_used is ∙ used)

-- the slots that are used for sure, once one is free
pub freed_taken : (pages : ℕ) (slots : List Slot) → AreSound pages (2 ^ 28) slots → (k : ℕ) → k < length slots → (from next : ℕ) → AreUsedTo slots from
    → next ≡ min from k → AreUsedTo (set slots k free) next
freed_taken pages slots sound k below from next taken is j under =
    ap is_used (set_other pages (2 ^ 28) slots sound k below free j (omega (arith, under, is))) ∙ taken j (omega (arith, under, is))

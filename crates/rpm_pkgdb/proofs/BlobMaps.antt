-- The map of the blobs after a write.
use Rattle.std.proofs.Common.{◌≡◌, ◌≢◌, inl, inr, ℕ, ◌+◌, ◌-◌, ◌<◌, ◌≤◌, List, length, take, drop, true, false, ◌==◌, Option, Some, None, refl, sym, ap, ◌∙◌, subst, arith, set, length-drop, eq-eqb, if◌then◌else◌}
use Rattle.rpm_pkgdb.proofs.Vocabulary.{AreSound, blank, blob_in, blobs, blocks_at, end_of, eq_by_cmp, Frame, frame_of, free, get-blobs, has_number}
use Rattle.rpm_pkgdb.proofs.Vocabulary.{is_framed, is_used, IsPlaced, nat_cmp, option_map, SameBlocks, Slot, slot_at, slot_with, Store, unit_at, Units}
use Rattle.rpm_pkgdb.proofs.Vocabulary.{unsigned_tied}
use Rattle.std.specs.FinMap as finite
use Rattle.std.proofs.lemmas.Cmp.{nat_cmp_total}
use Rattle.std.proofs.lemmas.List.{same_lists, get_or-take, get_or-drop, get_or_default, length-take}
use Rattle.std.proofs.lemmas.Bool.{cases_eq}
use Rattle.std.proofs.lemmas.Bool.Decides.{nat_tests}
use Rattle.rpm_pkgdb.proofs.Facts.{number_facts}
use Rattle.rpm_pkgdb.proofs.ClearLaws.{set_other, set_here}
use Rattle.rpm_pkgdb.proofs.Places.{Search, Here, Nowhere, search_for, with_at, with_set_other, freed_absent}

-- units of a range that lies in both files
pub same_part : (a b : Units) (at n : ℕ) → at + n ≤ length a → at + n ≤ length b → ((i : ℕ) → at ≤ i → i < at + n → unit_at b i ≡ unit_at a i)
    → take n (drop at b) ≡ take n (drop at a)
same_part a b at n in_a in_b same =
    let long_a : length (take n (drop at a)) ≡ n = omega (arith, length-take n (drop at a), length-drop at a) in
    let long_b : length (take n (drop at b)) ≡ n = omega (arith, length-take n (drop at b), length-drop at b) in
    same_lists (take n (drop at b)) (take n (drop at a)) (long_b ∙ sym long_a) (λ k d below.
    let lt : k < n = omega arith in
    let in_b_k : k < length (take n (drop at b)) = below in
    let in_a_k : k < length (take n (drop at a)) = omega arith in
    get_or_default (take n (drop at b)) k d blank in_b_k
    ∙ get_or-take n (drop at b) k blank lt
    ∙ get_or-drop at b k blank
    ∙ same (at + k) (omega arith) (omega arith)
    ∙ sym (get_or-drop at a k blank)
    ∙ sym (get_or-take n (drop at a) k blank lt)
    ∙ get_or_default (take n (drop at a)) k blank d in_a_k)

pub same_frame : (pages : ℕ) (a b : Units) (n : ℕ) (s : Slot) → IsPlaced pages (length a) s → IsPlaced pages (length b) s
    → ((i : ℕ) → s.offset ≤ i → i < end_of s → unit_at b i ≡ unit_at a i) → frame_of n s b ≡ frame_of n s a
same_frame pages a b n s in_a in_b same =
    let head : unit_at b s.offset ≡ unit_at a s.offset = same s.offset (omega arith) (omega (arith, in_a.some)) in
    let rest : take (s.count - 1) (drop (s.offset + 1) b) ≡ take (s.count - 1) (drop (s.offset + 1) a) =
    same_part a b (s.offset + 1) (s.count - 1) (omega (arith, in_a.inside, in_a.some)) (omega (arith, in_b.inside, in_b.some))
    (λ i from to. same i (omega arith) (omega (arith, in_a.some))) in
    let f : blocks_at s b ≡ blocks_at s a = rw (head, rest) refl in
    ap (λ (x : Frame). if is_framed n s.count x then Some x else None) f

module _ (a b : Units) (pages : ℕ) where
  -- a number whose slot is the same, with the same bytes
  pub same_get : (st ut : Store) (n : ℕ) → AreSound pages (length a) st.slots → AreSound pages (length b) ut.slots → slot_with n ut.slots ≡ slot_with n st.slots
      → ((k : ℕ) → has_number n (slot_at st.slots k) ≡ true → slot_at ut.slots k ≡ slot_at st.slots k)
      → ((k i : ℕ) → has_number n (slot_at st.slots k) ≡ true → (slot_at st.slots k).offset ≤ i → i < end_of (slot_at st.slots k) → unit_at b i ≡ unit_at a i)
      → finite.get (blobs b ut) n ≡ finite.get (blobs a st) n
  same_get st ut n sound_a sound_b same kept blocks =
      get-blobs b ut n ∙ ap (option_map (λ s. option_map blob_in (frame_of n s b))) same ∙ at_place (search_for n st.slots) ∙ sym (get-blobs a st n)
    where
      at_place : Search n st.slots → option_map (λ s. option_map blob_in (frame_of n s b)) (slot_with n st.slots)
          ≡ option_map (λ s. option_map blob_in (frame_of n s a)) (slot_with n st.slots)
      at_place (Here k below has is) =
          let s = slot_at st.slots k in
          let used = (number_facts n s has).used in
          let stays : slot_at ut.slots k ≡ s = kept k has in
          let in_b : IsPlaced pages (length b) s = subst (IsPlaced pages (length b)) stays (sound_b.placed k (ap is_used stays ∙ used)) in
          let frame = same_frame pages a b n s (sound_a.placed k used) in_b (λ i from to. blocks k i has from to) in
          rw is (ap (λ (f : Option Frame). Some (option_map blob_in f)) frame)
      at_place (Nowhere none is) = rw is refl

  -- the slots are the same, and so are their blocks
  pub same_blobs : (st ut : Store) → ut.slots ≡ st.slots → AreSound pages (length a) st.slots → AreSound pages (length b) st.slots → SameBlocks st.slots a b
      → blobs b ut ≡ blobs a st
  same_blobs st ut same sound_a sound_b blocks =
      finite.same_map nat_cmp_total finite.nat_cmp-IsAntisymmetric (blobs b ut) (blobs a st) (λ n.
      same_get st ut n sound_a (subst (AreSound pages (length b)) (sym same) sound_b) (ap (slot_with n) same)
      (λ k has. ap (λ (l : List Slot). slot_at l k) same)
      (λ k i has from to. blocks k i (number_facts n (slot_at st.slots k) has).used from to))

  -- one slot is another, and the blocks of the others are the same
  module _ (st ut : Store) (k : ℕ) (s : Slot) (n : ℕ) (below : k < length st.slots) (is : ut.slots ≡ set st.slots k s)
      (sound_a : AreSound pages (length a) st.slots) (sound_b : AreSound pages (length b) ut.slots) where
    pub other_get : (m : ℕ) → has_number m s ≡ false → has_number m (slot_at st.slots k) ≡ false
        → ((j i : ℕ) → j ≢ k → is_used (slot_at st.slots j) ≡ true → (slot_at st.slots j).offset ≤ i → i < end_of (slot_at st.slots j)
        → unit_at b i ≡ unit_at a i) → finite.get (blobs b ut) m ≡ finite.get (blobs a st) m
    other_get m new old blocks =
        same_get st ut m sound_a sound_b (ap (slot_with m) is ∙ with_set_other m st.slots k s new old)
        (λ j has. ap (λ (l : List Slot). slot_at l j) is ∙ set_other pages (length a) st.slots sound_a k below s j (differs m old j has))
        (λ j i has from to. blocks j i (differs m old j has) (number_facts m (slot_at st.slots j) has).used from to)
      where
        differs : (m : ℕ) → has_number m (slot_at st.slots k) ≡ false → (j : ℕ) → has_number m (slot_at st.slots j) ≡ true → j ≢ k
        differs m old j has same =
            (let e : has_number m (slot_at st.slots j) ≡ has_number m (slot_at st.slots k) = ap (λ (i : ℕ). has_number m (slot_at st.slots i)) same in cc)

tied : (m n : ℕ) → eq_by_cmp nat_cmp m n ≡ (m == n)
tied m n = unsigned_tied m n

pub other_number : (m n : ℕ) (s : Slot) → s.number ≡ n → m ≢ n → has_number m s ≡ false
other_number m n s is differs = grind (arith, nat_tests)

free_number : (m : ℕ) → has_number m free ≡ false
free_number m = refl

module _ (a b : Units) (pages : ℕ) (st ut : Store) (k n : ℕ) (has : has_number n (slot_at st.slots k) ≡ true) (below : k < length st.slots)
    (sound_a : AreSound pages (length a) st.slots) (sound_b : AreSound pages (length b) ut.slots) where
  -- the number is erased
  pub freed_blobs : ut.slots ≡ set st.slots k free → SameBlocks ut.slots a b → blobs b ut ≡ finite.remove (blobs a st) n
  freed_blobs is blocks = finite.same_map nat_cmp_total finite.nat_cmp-IsAntisymmetric (blobs b ut) (finite.remove (blobs a st) n) (λ m.
      elim (cases_eq m n) [
        | inl here ↦ gone m here ∙ sym (finite.get-remove nat_cmp_total (blobs a st) n m
            ∙ (let t : eq_by_cmp nat_cmp m n ≡ true = tied m n ∙ eq-eqb m n here in rw t refl))
        | inr other ↦
            other_get a b pages st ut k free n below is sound_a sound_b m (free_number m)
            (other_number m n (slot_at st.slots k) (number_facts n (slot_at st.slots k) has).number other) kept
            ∙ sym (finite.get-remove nat_cmp_total (blobs a st) n m
            ∙ (let t : eq_by_cmp nat_cmp m n ≡ false = tied m n ∙ grind (arith, nat_tests) in rw t refl))
      ])
    where
      kept : (j i : ℕ) → j ≢ k → is_used (slot_at st.slots j) ≡ true → (slot_at st.slots j).offset ≤ i → i < end_of (slot_at st.slots j)
          → unit_at b i ≡ unit_at a i
      kept j i differs used from to =
          let stays : slot_at ut.slots j ≡ slot_at st.slots j =
          ap (λ (l : List Slot). slot_at l j) is ∙ set_other pages (length a) st.slots sound_a k below free j differs in
          blocks j i (ap is_used stays ∙ used) (subst (λ (t : Slot). t.offset ≤ i) (sym stays) from) (subst (λ (t : Slot). i < end_of t) (sym stays) to)

      gone : (m : ℕ) → m ≡ n → finite.get (blobs b ut) m ≡ None
      gone m here =
          let e : slot_with n ut.slots ≡ None = ap (slot_with n) is ∙ freed_absent pages (length a) st.slots sound_a n k has in
          ap (finite.get (blobs b ut)) here ∙ get-blobs b ut n ∙ (rw e refl)

module _ (a b : Units) (pages : ℕ) (st ut : Store) (k n : ℕ) (s : Slot) (below : k < length st.slots) (sound_a : AreSound pages (length a) st.slots)
    (sound_b : AreSound pages (length b) ut.slots) where
  -- a number has a new blob
  pub put_blobs : ut.slots ≡ set st.slots k s → has_number n s ≡ true → ((m : ℕ) → m ≢ n → has_number m (slot_at st.slots k) ≡ false) → (f : Frame)
      → frame_of n s b ≡ Some f
      → ((j i : ℕ) → j ≢ k → is_used (slot_at st.slots j) ≡ true → (slot_at st.slots j).offset ≤ i → i < end_of (slot_at st.slots j)
      → unit_at b i ≡ unit_at a i)
      → blobs b ut ≡ finite.insert (blobs a st) n (Some (blob_in f))
  put_blobs is has old f framed kept =
      finite.same_map nat_cmp_total finite.nat_cmp-IsAntisymmetric (blobs b ut) (finite.insert (blobs a st) n (Some (blob_in f))) (λ m.
      elim (cases_eq m n) [
        | inl here ↦ there m here ∙ sym (finite.get-insert nat_cmp_total (blobs a st) n (Some (blob_in f)) m
            ∙ (let t : eq_by_cmp nat_cmp m n ≡ true = tied m n ∙ eq-eqb m n here in rw t refl))
        | inr other ↦
            other_get a b pages st ut k s n below is sound_a sound_b m (other_number m n s (number_facts n s has).number other) (old m other) kept
            ∙ sym (finite.get-insert nat_cmp_total (blobs a st) n (Some (blob_in f)) m
            ∙ (let t : eq_by_cmp nat_cmp m n ≡ false = tied m n ∙ grind (arith, nat_tests) in rw t refl))
      ])
    where
      there : (m : ℕ) → m ≡ n → finite.get (blobs b ut) m ≡ Some (Some (blob_in f))
      there m here =
          let stays : slot_at ut.slots k ≡ s = ap (λ (l : List Slot). slot_at l k) is ∙ set_here pages (length a) st.slots sound_a k below s in
          let found : slot_with n ut.slots ≡ Some s = with_at pages (length b) ut.slots sound_b n k (ap (has_number n) stays ∙ has) ∙ ap Some stays in
          ap (finite.get (blobs b ut)) here ∙ get-blobs b ut n ∙ rw (found, framed) refl

-- Free slots that are written.
use Rattle.std.proofs.Common.{◌≡◌, ℕ, ◌+◌, ◌-◌, ◌*◌, ◌/◌, ◌<◌, ◌≤◌, List, length, take, drop, replicate, sym, ap, ◌∙◌, subst, arith, length-drop}
use Rattle.std.proofs.lemmas.List.{same_lists, get_or-take, get_or-drop, get_or-replicate, length-take}
use Rattle.rpm_pkgdb.proofs.Vocabulary.{blank, free, IsSlotUnit, length-cut_up, with_units, put_inside, unit_at, unit_at-cut_up, Units, units_of}

module _ (page : List ℕ) (count : ℕ) (long : length page ≡ 4096) (few : count ≤ 256) where
  abbrev front : List ℕ
  front = take (16 * count) page

  front_long : length front ≡ 16 * count
  front_long = omega (arith, length-take (16 * count) page)

  pub front_count : length (units_of front) ≡ count
  front_count = omega (arith, front_long, length-cut_up (length front / 16) front)

  same_unit : (k : ℕ) → k < count → take 16 (drop (16 * k) front) ≡ take 16 (drop (16 * k) page)
  same_unit k below =
      let a : length (take 16 (drop (16 * k) front)) ≡ 16 = omega (arith, front_long, length-take 16 (drop (16 * k) front), length-drop (16 * k) front) in
      let b : length (take 16 (drop (16 * k) page)) ≡ 16 = omega (arith, long, length-take 16 (drop (16 * k) page), length-drop (16 * k) page) in
      same_lists (take 16 (drop (16 * k) front)) (take 16 (drop (16 * k) page)) (a ∙ sym b) (λ i d lt.
      let in_unit : i < 16 = omega arith in
      get_or-take 16 (drop (16 * k) front) i d in_unit ∙ get_or-drop (16 * k) front i d ∙ get_or-take (16 * count) page (16 * k + i) d (omega arith)
      ∙ sym (get_or-drop (16 * k) page i d) ∙ sym (get_or-take 16 (drop (16 * k) page) i d in_unit))

  pub front_unit : (k : ℕ) → k < count → unit_at (units_of front) k ≡ unit_at (units_of page) k
  front_unit k below =
      unit_at-cut_up (length front / 16) front k (omega (arith, front_long)) ∙ same_unit k below ∙ sym (unit_at-cut_up (length page / 16) page k (omega arith))

  pub slots_written : (unit : List ℕ) → IsSlotUnit unit free → units_of page ≡ replicate 256 unit → (at : ℕ) (old new : Units)
      → new ≡ with_units at (units_of front) old → (i : ℕ) → at ≤ i → i < at + count → IsSlotUnit (unit_at new i) free
  slots_written unit is units at old new written i low high =
      let k = i - at in
      let e : unit_at new i ≡ unit =
      ap (λ (u : Units). unit_at u i) written ∙ ap (unit_at (with_units at (units_of front) old)) (omega arith)
      ∙ put_inside at (units_of front) old k (omega (arith, front_count)) ∙ front_unit k (omega arith)
      ∙ ap (λ (u : Units). unit_at u k) units ∙ get_or-replicate 256 k unit blank (omega arith) in
      subst (λ (u : List ℕ). IsSlotUnit u free) (sym e) is

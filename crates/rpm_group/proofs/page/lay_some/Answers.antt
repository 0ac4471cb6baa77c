use Rattle.std.proofs.Common.{◌≡◌, inl, inr, ℕ, ◌+◌, ◌-◌, ◌*◌, ◌<◌, ◌≤◌, true, false, length, List, take, drop, get_or, refl, sym, ap, ◌∙◌, arith, below_more}
use Rattle.std.proofs.lemmas.List.{length-take, length-drop, take_all}
use Rattle.std.specs.Prelude.{unwrap_or, Bool, Option}
use borrow.Rule.Slice.PartMut.{put_mid}
use Rattle.rpm_group.proofs.Vocabulary.{in_marked, unit_in}
use Rattle.rpm_group.proofs.ByteLaws.{unit_put_inside, unit_put_outside, marked, unmarked}
use Rattle.rpm_group.proofs.page.lay_some.Goals as goal
use Rattle.rpm_group.proofs.page.lay_some.Goals.{then-marks-at, else-marks-at}

-- as far as unit k the held units were copied
abbrev Laid : List Bool → List ℕ → ℕ → List ℕ → ℕ → List ℕ → Type 0
Laid marks bytes at old k now = ((j : ℕ) → j < k → unit_in now j ≡ unwrap_or (in_marked marks bytes (at + j)) (unit_in old j))
    × ((j : ℕ) → k ≤ j → unit_in now j ≡ unit_in old j)

module _ (marks : List Bool) (bytes : List ℕ) (at k : ℕ) (old now next : List ℕ)
    (done : (j : ℕ) → j < k → unit_in now j ≡ unwrap_or (in_marked marks bytes (at + j)) (unit_in old j))
    (rest : (j : ℕ) → k ≤ j → unit_in now j ≡ unit_in old j) where
  skipped : get_or marks (at + k) false ≡ false → next ≡ now → Laid marks bytes at old (k + 1) next
  skipped unheld is = (
    below_more (λ j. unit_in next j ≡ unwrap_or (in_marked marks bytes (at + j)) (unit_in old j)) k
        (λ j below. ap (λ (bs : List ℕ). unit_in bs j) is ∙ done j below)
        (ap (λ (bs : List ℕ). unit_in bs k) is ∙ rest k (omega arith)
        ∙ ap (λ (o : Option (List ℕ)). unwrap_or o (unit_in old k))
        (sym (unmarked (get_or marks (at + k) false) (unit_in bytes (at + k)) unheld))),
    λ j past. ap (λ (bs : List ℕ). unit_in bs j) is ∙ rest j (omega arith),
  )

  copied : (unit : List ℕ) → get_or marks (at + k) false ≡ true → length unit ≡ 16 → unit ≡ unit_in bytes (at + k)
      → 16 * k + 16 ≤ length now → (n : ℕ) → n ≡ 16 → next ≡ put_mid (16 * k) n now unit → Laid marks bytes at old (k + 1) next
  copied unit held sixteen is within n is_n put =
      let inside = unit_put_inside k (16 * k) n 1 now unit refl (omega (arith, is_n)) (omega (arith, is_n)) (omega (arith, is_n)) in
      let outside = unit_put_outside k (16 * k) n 1 now unit refl (omega (arith, is_n)) (omega (arith, is_n)) (omega (arith, is_n)) in
      let zero_more : k ≡ k + 0 = omega arith in (
        below_more (λ j. unit_in next j ≡ unwrap_or (in_marked marks bytes (at + j)) (unit_in old j)) k
            (λ j below. ap (λ (bs : List ℕ). unit_in bs j) put ∙ outside j (inl below) ∙ done j below)
            (ap (λ (bs : List ℕ). unit_in bs k) put
            ∙ ap (λ (j : ℕ). unit_in (put_mid (16 * k) n now unit) j) zero_more
            ∙ inside 0 (omega arith)
            ∙ first unit sixteen
            ∙ is
            ∙ ap (λ (o : Option (List ℕ)). unwrap_or o (unit_in old k)) (sym (marked (get_or marks (at + k) false) (unit_in bytes (at + k)) held))),
        λ j past. ap (λ (bs : List ℕ). unit_in bs j) put ∙ outside j (inr (omega (arith, past))) ∙ rest j (omega arith),
      )
    where
      first : (u : List ℕ) → length u ≡ 16 → unit_in u 0 ≡ u
      first u long = take_all 16 u (omega (arith, long))

pub loop-k-preserved : goal.loop-k-preserved
loop-k-preserved c =
    let inv = c.loop-k.invariant in
    let k = c.loop-k.k in
    let marks = c.args.marks.now in
    let bytes = c.args.bytes.now in
    let laid : Laid marks bytes c.args.at c.args.into.now (k + 1) c.if-marks-at.into = elim c.if-marks-at.branch [
      | then-marks-at w ↦
          let long : length bytes ≡ 4096 = c.requires.bytes in
          let n : 16 * k + 16 - 16 * k ≡ 16 = omega arith in
          let m : 16 * (c.args.at + k) + 16 - 16 * (c.args.at + k) ≡ 16 = omega arith in
          let is = w.copy_from_slice.ensures.after ∙ ap (λ (i : ℕ). take i (drop (16 * (c.args.at + k)) bytes)) m in
          copied marks bytes c.args.at k c.args.into.now c.loop-k.into c.if-marks-at.into inv.done inv.rest w.copy_from_slice.new.self w.if-marks-at.true
          (omega (arith, w.copy_from_slice.ensures.len, length-take (16 * k + 16 - 16 * k) (drop (16 * k) c.loop-k.into), length-drop (16 * k) c.loop-k.into))
          is (omega arith) (16 * k + 16 - 16 * k) n w.into-is
      | else-marks-at w ↦ skipped marks bytes c.args.at k c.args.into.now c.loop-k.into c.if-marks-at.into inv.done inv.rest w.if-marks-at.false w.into-is
    ] in
    record { done = laid.0; rest = laid.1 }

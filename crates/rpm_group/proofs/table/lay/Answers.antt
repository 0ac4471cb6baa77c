use Rattle.std.proofs.Common.{◌≡◌, inl, inr, ℕ, ◌+◌, ◌-◌, ◌*◌, ◌/◌, ◌%◌, ◌<◌, ◌≤◌, List, length, take, drop, refl, sym, ap, ◌∙◌, arith}
use Rattle.std.specs.Prelude.{unwrap_or}
use Rattle.std.proofs.lemmas.List.{length-take, length-drop}
use Rattle.std.proofs.lemmas.Bool.{cases_lt}
use borrow.Rule.Slice.PartMut.{put_mid}
use Rattle.rpm_group.proofs.Vocabulary.{held_at, Table, unit_in}
use Rattle.rpm_group.proofs.ByteLaws.{unit_put_inside, unit_put_outside}
use Rattle.rpm_group.proofs.Tables.{unit_in_part}
use Rattle.rpm_group.proofs.table.lay.Goals as goal

module _ (table : Table) (unit done n place a size : ℕ) (old now part : List ℕ) (is_place : place ≡ unit + done) (is_a : a ≡ 16 * done)
    (is_size : size ≡ 16 * n) (within : a + size ≤ length now) (long : length part ≡ size)
    (lays : (k : ℕ) → k < n → unit_in part k ≡ unwrap_or (held_at table (place + k)) (unit_in now (done + k)))
    (behind : (k : ℕ) → done ≤ k → unit_in now k ≡ unit_in old k) where
  abbrev next : List ℕ
  next = put_mid a size now part

  behind_more : (k : ℕ) → done + n ≤ k → unit_in next k ≡ unit_in old k
  behind_more k past = unit_put_outside done a size n now part is_a is_size long within k (inr past) ∙ behind k (omega arith)

  before_more : ((k : ℕ) → k < done → unit_in now k ≡ unwrap_or (held_at table (unit + k)) (unit_in old k)) → (k : ℕ) → k < done + n
      → unit_in next k ≡ unwrap_or (held_at table (unit + k)) (unit_in old k)
  before_more before k below = elim (cases_lt k done) [
    | inl earlier ↦ unit_put_outside done a size n now part is_a is_size long within k (inl earlier) ∙ before k earlier
    | inr from ↦
        let j : ℕ = k - done in
        let back : k ≡ done + j = omega arith in
        let here : place + j ≡ unit + k = omega arith in
        ap (λ (i : ℕ). unit_in next i) back
        ∙ unit_put_inside done a size n now part is_a is_size long within j (omega arith)
        ∙ lays j (omega arith)
        ∙ ap (λ (i : ℕ). unwrap_or (held_at table i) (unit_in now (done + j))) here
        ∙ ap (λ (i : ℕ). unwrap_or (held_at table (unit + k)) (unit_in now i)) (sym back)
        ∙ ap (λ (u : List ℕ). unwrap_or (held_at table (unit + k)) u) (behind k from)
  ]

pub loop-done-preserved : goal.loop-done-preserved
loop-done-preserved c =
    let inv = c.loop-done.invariant in
    let done = c.loop-done.done in
    let n = c.min-n.result in
    let now = c.loop-done.into in
    let size = 16 * (done + n) - 16 * done in
    let is_size : size ≡ 16 * n = omega arith in
    let long : length now ≡ length c.args.into.now = c.loop-done.auto.into in
    let within : 16 * done + size ≤ length now = omega (arith, c.min-n.ensures) in
    let part = take size (drop (16 * done) now) in
    let part_long : length part ≡ size = omega (arith, length-take size (drop (16 * done) now), length-drop (16 * done) now) in
    let part_count : length part / 16 ≡ n = omega arith in
    let place : 256 * ((c.args.unit + done) / 256) + (c.args.unit + done) % 256 ≡ c.args.unit + done = omega arith in
    let new_long : length c.lay_in.new.into ≡ size = c.lay_in.auto.into ∙ part_long in
    let lays : (k : ℕ) → k < n → unit_in c.lay_in.new.into k
    ≡ unwrap_or (held_at c.args.table.now.items (256 * ((c.args.unit + done) / 256) + (c.args.unit + done) % 256 + k)) (unit_in now (done + k)) =
    λ k below.
    c.lay_in.ensures k (omega (arith, part_count, below))
    ∙ ap (λ (u : List ℕ). unwrap_or (held_at c.args.table.now.items (256 * ((c.args.unit + done) / 256) + (c.args.unit + done) % 256 + k)) u)
    (unit_in_part now done n size k is_size below) in
    record {
      place = omega (arith, c.min-n.ensures);
      before = before_more c.args.table.now.items c.args.unit done n _ (16 * done) size c.args.into.now now c.lay_in.new.into place refl is_size
          within new_long lays inv.behind inv.before;
      behind = behind_more c.args.table.now.items c.args.unit done n _ (16 * done) size c.args.into.now now c.lay_in.new.into place refl is_size
          within new_long lays inv.behind;
    }

use Rattle.std.proofs.Common.{◌≡◌, ◌⊎◌, ◌+◌, ◌-◌, ◌*◌, ◌/◌, ◌%◌, ◌<◌, ◌≤◌, ℕ, List, true, length, refl, sym, ap, ◌∙◌, Some, arith}
use Rattle.rpm_group.specs.inner.Holding.{PageWrote}
use borrow.Rule.Slice.PartMut.{put_mid}
use Rattle.rpm_group.proofs.Vocabulary.{is_marked, Page, unit_in}
use Rattle.rpm_group.proofs.ByteLaws.{unit_put_inside, unit_put_outside, marked, same_mark}
use Rattle.rpm_group.proofs.page.Page.hold.Goals as goal

-- units were put into a page, and are marked in the new one, in which the others are as before
wrote : (at : ℕ) (bytes put : List ℕ) (old new : Page) → length bytes % 16 ≡ 0 → at + length bytes / 16 ≤ 256 → length old.bytes ≡ 4096
    → put ≡ bytes → new.bytes ≡ put_mid (16 * at) (16 * (at + length bytes / 16) - 16 * at) old.bytes put
    → ((k : ℕ) → at ≤ k → k < at + length bytes / 16 → is_marked new.marks k ≡ true)
    → ((k : ℕ) → (k < at) ⊎ (at + length bytes / 16 ≤ k) → is_marked new.marks k ≡ is_marked old.marks k) → PageWrote at bytes old new
wrote at bytes put old new sixteens fits long is by inside outside =
    let n = length bytes / 16 in
    let whole : length bytes ≡ 16 * n = omega (arith, sixteens) in
    let part : 16 * (at + n) - 16 * at ≡ 16 * n = omega arith in
    let same : length put ≡ 16 * (at + n) - 16 * at = omega (arith, ap length is) in
    let within : 16 * at + (16 * (at + n) - 16 * at) ≤ length old.bytes = omega (arith, fits) in
    record {
      inside = λ k below.
          marked (is_marked new.marks (at + k)) (unit_in new.bytes (at + k)) (inside (at + k) (omega arith) (omega arith))
          ∙ ap (λ u. Some u) (ap (λ (bs : List ℕ). unit_in bs (at + k)) by
          ∙ unit_put_inside at (16 * at) (16 * (at + n) - 16 * at) n old.bytes put refl part same within k below ∙ ap (λ bs. unit_in bs k) is);
      outside = λ k out.
          same_mark (is_marked old.marks k) (is_marked new.marks k) (unit_in old.bytes k) (unit_in new.bytes k) (outside k out)
          (ap (λ (bs : List ℕ). unit_in bs k) by
          ∙ unit_put_outside at (16 * at) (16 * (at + n) - 16 * at) n old.bytes put refl part same within k out);
    }

pub returns-then-mark : goal.returns-then-mark
returns-then-mark c =
    let all = c.mark.ensures.all c.if-mark.true in
    wrote c.args.at c.args.bytes.now c.copy_from_slice.new.self c.args.self.now _ c.requires.whole c.requires.within (omega arith)
    c.copy_from_slice.ensures.after c.mark.ensures.bytes (λ k low high. sym (all k) ∙ c.mark.ensures.inside k low high)
    (λ k out. sym (all k) ∙ c.mark.ensures.outside k out)

pub returns-else-mark : goal.returns-else-mark
returns-else-mark c =
    wrote c.args.at c.args.bytes.now c.copy_from_slice.new.self c.args.self.now c.mark.new.self c.requires.whole c.requires.within (omega arith)
    c.copy_from_slice.ensures.after c.mark.ensures.bytes c.mark.ensures.inside c.mark.ensures.outside

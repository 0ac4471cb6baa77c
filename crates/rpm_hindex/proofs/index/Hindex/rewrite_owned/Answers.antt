use Rattle.std.proofs.Common.{sym, subst, ap, ◌∙◌, arith, ℕ, List, length, ◌+◌, ◌≤◌, ◌^◌}
use Rattle.rpm_hindex.proofs.Vocabulary.{ArePadded, bucket_count, EndsInZero, first_record, index_in, is_ordered, IsWellFormed, live_of, records, SameRows}
use Rattle.rpm_hindex.proofs.Vocabulary.{Units, word}
use Rattle.rpm_hindex.proofs.Drafting.{length-le-live}
use Rattle.rpm_hindex.proofs.Scratch.{image_ordered, image_size, image_zero}
use Rattle.rpm_hindex.proofs.Seals.{image_held}
use Rattle.rpm_hindex.proofs.index.Hindex.rewrite_owned.Goals as goal

pub returns-clause-ordered : goal.returns-clause-ordered
returns-clause-ordered g c =
    let rows = c.args.rows in
    let B = bucket_count (length rows) in
    let room : first_record B + live_of rows ≤ 2 ^ 28 = omega (arith, c.in_ok-image.ensures.full) in
    let few_rows : length rows ≤ 2 ^ 28 = omega (arith, length-le-live rows, room) in
    let pending = c.in-Ok.ensures.value.pending ∙ c.in_ok-image.ensures.buckets in
    ap (λ (b : ℕ). is_ordered b c.replace.new.self.second c.replace.new.self.units) pending
    ∙ ap (λ (u : List ℕ). is_ordered B u c.replace.new.self.units) c.in-Ok.ensures.value.second
    ∙ image_ordered rows c.in_ok-image.image.bytes.items c.replace.new.self.units c.in_ok-image.ensures.made room few_rows c.in-Ok.ensures.value.units

pub returns-clause-value : goal.returns-clause-value
returns-clause-value g c =
    let rows = c.args.rows in
    let bytes = c.in_ok-image.image.bytes.items in
    let made = c.in_ok-image.ensures.made in
    let value = c.in-Ok.ensures.value in
    record {
      pending = value.pending ∙ c.in_ok-image.ensures.buckets;
      voided = c.in-Ok.ensures.voided;
      size = ap (word 0) value.second ∙ image_size rows bytes made;
      zero = subst EndsInZero (sym value.second) (image_zero rows (bucket_count (length rows)) bytes made);
    }

pub returns-clause-padded : goal.returns-clause-padded
returns-clause-padded g c = λ told.
    let file : Units = (g.D.Disk.files c.replace.new.disk).idx in
    let pending = c.in-Ok.ensures.value.pending ∙ c.in_ok-image.ensures.buckets in
    let made = c.in_ok-image.ensures.made.made file (image_held c.in_ok-image.image.bytes.items _ _ (c.in-Ok.ensures.left.written told)) in
    subst (λ (n : ℕ). ArePadded (index_in n file)) (sym pending) made.padded

pub returns-clause-grows : goal.returns-clause-grows
returns-clause-grows g c = omega (arith, c.in-Ok.ensures.value.grows, c.in_ok-image.ensures.made.long)

pub returns-clause-whole : goal.returns-clause-whole
returns-clause-whole g c = λ told.
    let file : Units = (g.D.Disk.files c.replace.new.disk).idx in
    let pending = c.in-Ok.ensures.value.pending ∙ c.in_ok-image.ensures.buckets in
    subst (λ (n : ℕ). IsWellFormed n file) (sym pending) (c.in_ok-image.ensures.made.made file (image_held c.in_ok-image.image.bytes.items _ _
    (c.in-Ok.ensures.left.written told))).whole

pub returns-clause-rows : goal.returns-clause-rows
returns-clause-rows g c = λ told.
    let file : Units = (g.D.Disk.files c.replace.new.disk).idx in
    let pending = c.in-Ok.ensures.value.pending ∙ c.in_ok-image.ensures.buckets in
    subst (λ (n : ℕ). SameRows c.args.rows (records n file)) (sym pending)
    (c.in_ok-image.ensures.made.made file (image_held c.in_ok-image.image.bytes.items _ _ (c.in-Ok.ensures.left.written told))).same

use Rattle.std.proofs.Common.{◌≡◌, ◌+◌, ◌-◌, ◌++◌, ◌∙◌, sym, ap, arith, length, ℕ, List}
use Rattle.std.specs.Prelude.{replicate}
use Rattle.rpm_header.proofs.Vocabulary.{end_of_data}
use Rattle.rpm_header.proofs.LaidOut.{offset_is, end_more, data_more, data_all}
use Rattle.rpm_header.proofs.laying.append_data.Goals as goal

pub loop-entry-preserved : goal.loop-entry-preserved
loop-entry-preserved c =
    let e = c.entry-item.result in
    let next = c.offset_from-offset.result + length c.bytes-bytes.result.now in
    let offset = offset_is c.loop-entry.end c.offset_from-offset.result c.form.result e c.offset_from-offset.ensures.value c.form.ensures in
    let ends : next ≡ end_of_data c.loop-entry.end e = omega (arith, offset, ap length c.bytes-bytes.ensures) in
    let same = end_more c.args.entries.now c.loop-entry.entry-index c.loop-entry.end e c.loop-entry-test.true c.entry-item.is next ends in
    let zeros = c.in_ok-append_zeros.ensures ∙ ap (λ (n : ℕ). c.loop-entry.out.items ++ replicate (n - c.loop-entry.end) 0) offset in
    let added = c.in_ok-extend_from_slice.ensures.items ∙ ap (λ (b : List ℕ). c.append_zeros.new.out.items ++ b) c.bytes-bytes.ensures in
    record {
      small = omega arith;
      written =
          data_more c.args.entries.now c.loop-entry.entry-index c.loop-entry.end e c.loop-entry-test.true c.entry-item.is next c.loop-entry.out.items
          c.append_zeros.new.out.items c.extend_from_slice.new.self.items ends zeros added ∙ c.loop-entry.invariant.written;
    }

pub returns : goal.returns
returns c =
    sym (data_all c.args.entries.now c.loop-entry.entry-index c.loop-entry.end c.loop-entry.out.items c.loop-entry-test.false)
    ∙ c.loop-entry.invariant.written

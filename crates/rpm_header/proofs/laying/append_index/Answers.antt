use Rattle.std.proofs.Common.{◌≡◌, ◌+◌, ◌++◌, ◌∙◌, sym, ap, arith, length, refl}
use Rattle.rpm_header.proofs.Vocabulary.{end_of_data, index_bytes, IndexEntry}
use Rattle.rpm_header.proofs.LaidOut.{offset_is, indexed_is, end_more, index_more, index_all}
use Rattle.rpm_header.proofs.laying.append_index.Goals as goal

pub overflow_cast-count : goal.overflow_cast-count
overflow_cast-count c =
    let e = c.entry-item.result in
    let same =
    end_more c.args.entries.now c.loop-entry.entry-index c.loop-entry.end e c.loop-entry-test.true c.entry-item.is (end_of_data c.loop-entry.end e) refl in
    omega (arith, c.count.ensures.few, same)

pub loop-entry-preserved : goal.loop-entry-preserved
loop-entry-preserved c =
    let e = c.entry-item.result in
    let next = c.offset_from-offset.result + length c.bytes.result.now in
    let offset = offset_is c.loop-entry.end c.offset_from-offset.result c.form-form.result e c.offset_from-offset.ensures.value c.form-form.ensures in
    let ends : next ≡ end_of_data c.loop-entry.end e = omega (arith, offset, ap length c.bytes.ensures) in
    let same = end_more c.args.entries.now c.loop-entry.entry-index c.loop-entry.end e c.loop-entry-test.true c.entry-item.is next ends in
    let entry =
    indexed_is c.loop-entry.end e c.tag.result c.kind_of.result c.offset_from-offset.result c.count.result c.form-form.result c.tag.ensures
    c.kind_of.ensures.value c.form-form.ensures offset c.count.ensures.value in
    let added = c.in_ok-append_index_entry.ensures ∙ ap (λ (i : IndexEntry). c.loop-entry.out.items ++ index_bytes i) entry in
    record {
      small = omega arith;
      written =
          index_more c.args.entries.now c.loop-entry.entry-index c.loop-entry.end e c.loop-entry-test.true c.entry-item.is next c.loop-entry.out.items
          c.append_index_entry.new.out.items ends added ∙ c.loop-entry.invariant.written;
    }

pub returns : goal.returns
returns c =
    sym (index_all c.args.entries.now c.loop-entry.entry-index c.loop-entry.end c.loop-entry.out.items c.loop-entry-test.false)
    ∙ c.loop-entry.invariant.written

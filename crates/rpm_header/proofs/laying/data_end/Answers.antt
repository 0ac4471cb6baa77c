use Rattle.std.proofs.Common.{◌≡◌, ◌+◌, ◌<◌, ◌≤◌, ◌∙◌, sym, ap, arith, length, lt-ltb, le-ltb, refl}
use Rattle.rpm_header.proofs.Vocabulary.{data_from, end_of_data}
use Rattle.rpm_header.proofs.LaidOut.{offset_is, end_more, end_all}
use Rattle.rpm_header.proofs.laying.data_end.Goals as goal

pub returns-then-end : goal.returns-then-end
returns-then-end c =
    let e = c.entry-item.result in
    let next = c.offset_from-offset.result + length c.bytes.result.now in
    let ends : next ≡ end_of_data c.loop-entry.end e =
    omega (
      arith,
      offset_is c.loop-entry.end c.offset_from-offset.result c.form.result e c.offset_from-offset.ensures.value c.form.ensures,
      ap length c.bytes.ensures,
    ) in
    let same = end_more c.args.entries.now c.loop-entry.entry-index c.loop-entry.end e c.loop-entry-test.true c.entry-item.is next ends in
    let past : 67108864 < c.args.start + length (data_from c.args.start c.args.entries.now) = omega arith in
    rw (lt-ltb 67108864 (c.args.start + length (data_from c.args.start c.args.entries.now)) past) refl

pub loop-entry-preserved : goal.loop-entry-preserved
loop-entry-preserved c =
    let e = c.entry-item.result in
    let next = c.offset_from-offset.result + length c.bytes.result.now in
    let ends : next ≡ end_of_data c.loop-entry.end e =
    omega (
      arith,
      offset_is c.loop-entry.end c.offset_from-offset.result c.form.result e c.offset_from-offset.ensures.value c.form.ensures,
      ap length c.bytes.ensures,
    ) in
    record {
      small = omega arith;
      same =
          sym (end_more c.args.entries.now c.loop-entry.entry-index c.loop-entry.end e c.loop-entry-test.true c.entry-item.is next ends)
          ∙ c.loop-entry.invariant.same;
    }

pub returns : goal.returns
returns c =
    let all = end_all c.args.entries.now c.loop-entry.entry-index c.loop-entry.end c.loop-entry-test.false in
    let total : c.args.start + length (data_from c.args.start c.args.entries.now) ≡ c.loop-entry.end = sym c.loop-entry.invariant.same ∙ all in
    let within : c.args.start + length (data_from c.args.start c.args.entries.now) ≤ 67108864 = omega arith in
    rw (le-ltb 67108864 (c.args.start + length (data_from c.args.start c.args.entries.now)) within, total) refl

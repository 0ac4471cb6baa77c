use Rattle.std.proofs.Common.{◌∙◌, sym, subst}
use Rattle.rpm_header.proofs.Vocabulary.{ReadsBack}
use Rattle.rpm_header.proofs.Repacked.{repacked, repacked_item, repacked_parts}
use Rattle.rpm_header.proofs.packed.PackedEntry.stored.Goals as goal

pub invariant_of-result : goal.invariant_of-result
invariant_of-result c =
    let e = c.args.entry.now in
    let r =
    repacked c.args.tag e c.in_ok-bytes.bytes.items c.ranges.tag.fits c.requires.tag c.requires.elements c.form.ensures.whole c.stored.ensures.again
    (c.in_ok-bytes.ensures.items ∙ c.stored.ensures.value) in
    repacked_parts c.args.tag e c.form.result c.count.result c.in_ok-bytes.bytes.items c.form.ensures.value c.count.ensures.value r

pub returns-clause-value : goal.returns-clause-value
returns-clause-value c =
    let e = c.args.entry.now in
    let r =
    repacked c.args.tag e c.in_ok-bytes.bytes.items c.ranges.tag.fits c.requires.tag c.requires.elements c.form.ensures.whole c.stored.ensures.again
    (c.in_ok-bytes.ensures.items ∙ c.stored.ensures.value) in
    repacked_item c.args.tag e c.form.result c.count.result c.in_ok-bytes.bytes.items c.form.ensures.value c.count.ensures.value r

pub returns-clause-again : goal.returns-clause-again
returns-clause-again c =
    let r =
    repacked c.args.tag c.args.entry.now c.in_ok-bytes.bytes.items c.ranges.tag.fits c.requires.tag c.requires.elements c.form.ensures.whole
    c.stored.ensures.again (c.in_ok-bytes.ensures.items ∙ c.stored.ensures.value) in
    subst ReadsBack (sym (returns-clause-value c)) r.back

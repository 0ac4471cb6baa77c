use Rattle.std.proofs.Common.{subst, ap, refl, sym, ◌∙◌, length}
use Rattle.rpm_header.proofs.Vocabulary.{ReadsBack, Values}
use Rattle.rpm_header.proofs.NumbersAgain.{fits_first, fits_more, written_more, written_all}
use Rattle.rpm_header.proofs.Packing.{numbers_packed, numbers_read_back, item_of}
use Rattle.rpm_header.proofs.packed.PackedEntry.numbers.Goals as goal

pub append_number-requires : goal.append_number-requires
append_number-requires c = fits_first c.args.form c.args.values.now c.loop-value.value-index _ c.loop-value-test.true c.loop-value.invariant.fit refl

pub loop-value-preserved : goal.loop-value-preserved
loop-value-preserved c = record {
  written =
      written_more c.args.form c.args.values.now c.loop-value.value-index _ c.loop-value.bytes.items c.append_number.new.bytes.items c.loop-value-test.true
      refl c.in_ok-append_number.ensures ∙ c.loop-value.invariant.written;
  fit = fits_more c.args.form c.args.values.now c.loop-value.value-index c.loop-value-test.true c.loop-value.invariant.fit;
}

pub invariant_of-result : goal.invariant_of-result
invariant_of-result c =
    let all =
    written_all c.args.form c.args.values.now c.loop-value.value-index c.loop-value.bytes.items c.loop-value-test.false
    c.loop-value.invariant.written in
    (numbers_packed c.args.form c.args.values.now (length c.args.values.now) c.loop-value.bytes.items c.requires.numbers c.requires.fit refl all).1

pub returns-clause-value : goal.returns-clause-value
returns-clause-value c =
    let all =
    written_all c.args.form c.args.values.now c.loop-value.value-index c.loop-value.bytes.items c.loop-value-test.false
    c.loop-value.invariant.written in
    ap (λ (vs : Values). item_of c.args.tag c.args.form (length c.args.values.now) vs)
    (numbers_packed c.args.form c.args.values.now (length c.args.values.now) c.loop-value.bytes.items c.requires.numbers c.requires.fit refl all).0

pub returns-clause-again : goal.returns-clause-again
returns-clause-again c =
    subst ReadsBack (sym (returns-clause-value c)) (numbers_read_back c.args.tag c.args.form c.args.values.now c.ranges.tag.fits c.requires.tag
    c.requires.numbers c.requires.some c.requires.fit)

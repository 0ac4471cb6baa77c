use Rattle.std.proofs.Common.{sym, subst, ap, refl, length}
use Rattle.rpm_header.specs.declared.form.Form.TheVariants as form
use Rattle.rpm_header.proofs.Vocabulary.{ReadsBack, Values}
use Rattle.rpm_header.proofs.Packing.{bin_packed, bin_read_back, item_of}
use Rattle.rpm_header.proofs.packed.PackedEntry.bin.Goals as goal

pub invariant_of-result : goal.invariant_of-result
invariant_of-result c = (bin_packed c.args.bytes.now (length c.args.bytes.now) c.in_ok-bytes.bytes.items refl c.in_ok-bytes.ensures.items).1

pub returns-clause-value : goal.returns-clause-value
returns-clause-value c =
    ap (λ (vs : Values). item_of c.args.tag form.Bin (length c.args.bytes.now) vs)
    (bin_packed c.args.bytes.now (length c.args.bytes.now) c.in_ok-bytes.bytes.items refl c.in_ok-bytes.ensures.items).0

pub returns-clause-again : goal.returns-clause-again
returns-clause-again c =
    subst ReadsBack (sym (returns-clause-value c)) (bin_read_back c.args.tag c.args.bytes.now c.ranges.tag.fits c.requires.tag c.requires.some)

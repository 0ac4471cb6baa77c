use Rattle.std.proofs.Common.{ap, sym, subst, ◌∙◌, ℕ}
use Rattle.rpm_header.proofs.Vocabulary.{ReadsBack, Texts, Values}
use Rattle.rpm_header.proofs.Packing.{item_of}
use Rattle.rpm_header.proofs.PackedTexts.{texts_packed, texts_read_back, list_has_texts}
use Rattle.rpm_header.proofs.packed.PackedEntry.texts.Goals as goal

pub invariant_of-result : goal.invariant_of-result
invariant_of-result c =
    (texts_packed c.args.form c.args.texts.now c.count.result c.in_ok-bytes.bytes.items
    (list_has_texts c.args.form c.requires.texts) c.bytes.ensures.each c.count.ensures (c.in_ok-bytes.ensures.items ∙ c.bytes.ensures.value)).1

pub returns-clause-value : goal.returns-clause-value
returns-clause-value c =
    let both =
    texts_packed c.args.form c.args.texts.now c.count.result c.in_ok-bytes.bytes.items
    (list_has_texts c.args.form c.requires.texts) c.bytes.ensures.each c.count.ensures (c.in_ok-bytes.ensures.items ∙ c.bytes.ensures.value) in
    ap (λ (vs : Values). item_of c.args.tag c.args.form c.count.result vs) both.0
    ∙ ap (λ (n : ℕ). item_of c.args.tag c.args.form n (Texts c.args.texts.now)) c.count.ensures

pub returns-clause-again : goal.returns-clause-again
returns-clause-again c =
    subst ReadsBack (sym (returns-clause-value c)) (texts_read_back c.args.tag c.args.form c.args.texts.now c.ranges.tag.fits c.requires.tag
    c.requires.texts c.requires.some c.bytes.ensures.each)

use Rattle.std.proofs.Common.{subst, ◌≡◌, ap, refl, sym, ◌∙◌, [], ◌∷◌, ◌++◌, List, ℕ}
use Rattle.std.proofs.lemmas.List.{append-nil}
use Rattle.rpm_header.specs.declared.form.Form.TheVariants as form
use Rattle.rpm_header.proofs.Vocabulary.{ReadsBack, Values}
use Rattle.rpm_header.proofs.Packing.{item_of}
use Rattle.rpm_header.proofs.PackedTexts.{texts_packed, text_read_back}
use Rattle.rpm_header.proofs.packed.PackedEntry.text.Goals as goal

pub invariant_of-result : goal.invariant_of-result
invariant_of-result c =
    let stored : c.append_text.new.bytes.items ≡ c.args.text.now ++ 0 ∷ [] =
    c.in_ok-append_text.ensures.ok ∙ ap (λ (b : List ℕ). b ++ c.args.text.now ++ 0 ∷ []) c.new-bytes.ensures.items in
    (texts_packed form.Text (c.args.text.now ∷ []) 1 c.append_text.new.bytes.items refl (c.requires.text, tt) refl (stored
    ∙ sym (append-nil (c.args.text.now ++ 0 ∷ [])))).1

pub returns-clause-value : goal.returns-clause-value
returns-clause-value c =
    let stored : c.append_text.new.bytes.items ≡ c.args.text.now ++ 0 ∷ [] =
    c.in_ok-append_text.ensures.ok ∙ ap (λ (b : List ℕ). b ++ c.args.text.now ++ 0 ∷ []) c.new-bytes.ensures.items in
    ap (λ (vs : Values). item_of c.args.tag form.Text 1 vs)
    (texts_packed form.Text (c.args.text.now ∷ []) 1 c.append_text.new.bytes.items refl (c.requires.text, tt) refl (stored
    ∙ sym (append-nil (c.args.text.now ++ 0 ∷ [])))).0

pub returns-clause-again : goal.returns-clause-again
returns-clause-again c =
    subst ReadsBack (sym (returns-clause-value c)) (text_read_back c.args.tag c.args.text.now c.ranges.tag.fits c.requires.tag c.requires.text)

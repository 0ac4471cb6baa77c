use Rattle.std.proofs.Common.{take, ap, sym, ◌∙◌, ℕ, ◌*◌}
use Rattle.rpm_header.proofs.Stored.{is_stored, bytes_of_texts, bytes_of_others}
use Rattle.rpm_header.proofs.entry.stored_of.Goals as goal
use Rattle.rpm_header.proofs.entry.stored_of.Goals.{then-has_texts, else-has_texts}

pub returns-clause-value : goal.returns-clause-value
returns-clause-value c =
    let bytes = c.args.bytes.now in
    let whole = λ (n : ℕ). take n bytes in
    elim c.if-has_texts.branch [
      | then-has_texts w ↦
          ap whole w.end-is ∙ bytes_of_texts c.args.tag c.args.form c.args.count w.texts_end-end.result bytes (sym c.has_texts.ensures
          ∙ w.if-has_texts.true) w.texts_end-end.ensures.value
      | else-has_texts w ↦
          ap whole w.end-is ∙ ap (λ (n : ℕ). take (c.args.count * n) bytes) w.alignment.ensures.value
          ∙ bytes_of_others c.args.tag c.args.form c.args.count bytes (sym c.has_texts.ensures ∙ w.if-has_texts.false) c.requires.elements c.requires.inside
          (λ i. (c.type_inv.bytes i).fits)
    ]

pub returns-clause-again : goal.returns-clause-again
returns-clause-again c = is_stored c.args.tag c.args.form c.args.count c.args.bytes.now c.requires.inside (λ i. (c.type_inv.bytes i).fits)

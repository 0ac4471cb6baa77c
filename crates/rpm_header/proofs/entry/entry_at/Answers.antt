use Rattle.std.proofs.Common.{◌≡◌, ◌∙◌, ap, None, Some, refl, List, ℕ}
use Rattle.rpm_header.proofs.Vocabulary.{entry_of, index_entry, IndexEntry}
use Rattle.rpm_header.proofs.Values.{sound_form, no_form, entry_made, made}
use Rattle.rpm_header.proofs.entry.entry_at.Goals as goal

pub unreachable-requires : goal.unreachable-requires
unreachable-requires c =
    let entry = c.index_entry_at-entry.result in
    let section = c.section_of-section.result.now in
    no_form c.args.i entry section None (sound_form c.args.il c.args.blob.now c.args.i entry section None c.index_entry_at-entry.ensures
    c.section_of-section.ensures c.in-None.ensures (c.requires.sound.faultless c.args.i c.requires.below)) refl

pub elements_of-requires : goal.elements_of-requires
elements_of-requires c =
    sound_form c.args.il c.args.blob.now c.args.i c.index_entry_at-entry.result c.section_of-section.result.now
    (Some c.in-Some.form) c.index_entry_at-entry.ensures c.section_of-section.ensures c.in-Some.ensures
    (c.requires.sound.faultless c.args.i c.requires.below)

pub returns : goal.returns
returns c =
    let entry = c.index_entry_at-entry.result in
    let section = c.section_of-section.result.now in
    let here : made entry c.in-Some.form c.elements_of.result.now ≡ entry_of entry section =
    entry_made entry section c.elements_of.result.now c.in-Some.form c.in-Some.ensures c.elements_of.ensures.elements in
    here ∙ ap (λ (e : IndexEntry). entry_of e section) c.index_entry_at-entry.ensures
    ∙ ap (λ (s : List ℕ). entry_of (index_entry c.args.il c.args.blob.now c.args.i) s) c.section_of-section.ensures

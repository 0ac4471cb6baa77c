use Rattle.std.proofs.Common.{◌∙◌, ◌≡◌, ◌+◌, ◌*◌, ap, arith, drop, length-drop, length, subst, List, ℕ, Ok}
use Rattle.std.proofs.lemmas.List.{length-take-le}
use Rattle.rpm_header.proofs.Vocabulary.{header}
use Rattle.rpm_header.proofs.Opened.{fits}
use Rattle.rpm_header.proofs.parts.parts_of.Goals as goal

pub index_of-requires : goal.index_of-requires
index_of-requires c =
    (fits c.args.view.now c.entries-entries.result c.blob-blob.result.now c.blob-blob.ensures.value c.entries-entries.ensures.value
    c.blob-blob.ensures.again).index

pub section_of-requires : goal.section_of-requires
section_of-requires c =
    (fits c.args.view.now c.entries-entries.result c.blob-blob.result.now c.blob-blob.ensures.value c.entries-entries.ensures.value
    c.blob-blob.ensures.again).index

pub returns-clause-whole : goal.returns-clause-whole
returns-clause-whole c =
    let f =
    fits c.args.view.now c.entries-entries.result c.blob-blob.result.now c.blob-blob.ensures.value c.entries-entries.ensures.value
    c.blob-blob.ensures.again in
    ap length c.index_of.ensures ∙ length-take-le (16 * c.entries-entries.result) (drop 8 c.blob-blob.result.now)
    (omega (arith, f.index, length-drop 8 c.blob-blob.result.now)) ∙ ap (λ n. 16 * n) c.entries-entries.ensures.value

pub returns-clause-small : goal.returns-clause-small
returns-clause-small c =
    let f =
    fits c.args.view.now c.entries-entries.result c.blob-blob.result.now c.blob-blob.ensures.value c.entries-entries.ensures.value
    c.blob-blob.ensures.again in
    omega (arith, f.small, ap length c.section_of.ensures, length-drop (8 + 16 * c.entries-entries.result) c.blob-blob.result.now)

pub returns-clause-again : goal.returns-clause-again
returns-clause-again c = subst (λ (b : List ℕ). header b ≡ Ok c.args.view.now) c.blob-blob.ensures.value c.blob-blob.ensures.again

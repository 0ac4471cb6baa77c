use Rattle.std.proofs.Common.{ℕ, ◌==◌, ap, ◌∙◌}
use Rattle.rpm_version.proofs.Vocabulary.{is_open, overlaps}
use Rattle.rpm_version.proofs.Senses.{open_kept, opened, overlaps_kept, overlaps_open, some_kept}
use Rattle.rpm_version.proofs.capability.Capability.of_range.Goals as goal
use Rattle.rpm_version.proofs.capability.Capability.of_range.Goals.{then-is_open, else-is_open}

pub returns-clause-plain : goal.returns-clause-plain
returns-clause-plain c =
    let flags = c.args.flags in
    let version = c.args.version.now in
    elim c.if-is_open.branch [
      | then-is_open w ↦
          ap (λ (n : ℕ). is_open n version) w.sense-is ∙ opened version ∙ w.if-is_open.ensures ∙ open_kept flags version
      | else-is_open w ↦ ap (λ (n : ℕ). is_open n version) w.sense-is ∙ open_kept flags version
    ]

pub returns-clause-flags : goal.returns-clause-flags
returns-clause-flags c =
    let flags = c.args.flags in
    let version = c.args.version.now in
    elim c.if-is_open.branch [
      | then-is_open w ↦ ap (λ (n : ℕ). n == 0) w.sense-is ∙ w.if-is_open.ensures ∙ open_kept flags version
      | else-is_open w ↦ ap (λ (n : ℕ). n == 0) w.sense-is ∙ some_kept flags version (w.if-is_open.ensures ∙ open_kept flags version)
    ]

pub returns-clause-same : goal.returns-clause-same
returns-clause-same c = λ f v.
    let flags = c.args.flags in
    let version = c.args.version.now in
    elim c.if-is_open.branch [
      | then-is_open w ↦
          ap (λ (n : ℕ). overlaps f v n version) w.sense-is ∙ overlaps_open f v flags version (w.if-is_open.ensures ∙ open_kept flags version)
      | else-is_open w ↦ ap (λ (n : ℕ). overlaps f v n version) w.sense-is ∙ overlaps_kept f v flags version
    ]

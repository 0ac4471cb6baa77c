use Rattle.std.proofs.Common.{◌≡◌, [], ◌∷◌}
use Rattle.std.specs.Prelude.{codes}
use Rattle.rpm_report.proofs.Vocabulary.{concat, conflict_line, label_told, whole_step}
use Rattle.rpm_report.proofs.file_report.put_conflict.Goals as goal

pub returns-clause-part : goal.returns-clause-part
returns-clause-part g c = λ et e.
    let r = c.args.report.now in
    let found = c.args.conflict.now in
    let line : concat (c.path.result.now ∷ codes ": " ∷ c.label-first.result.now ∷ codes " " ∷ c.label-second.result.now ∷ codes ":"
    ∷ c.if_differs-digest.result.now ∷ c.if_differs-mode.result.now ∷ c.if_differs-link.result.now ∷ codes "\n" ∷ [])
    ≡ conflict_line (label_told r found.first) (label_told r found.second) found = cc in
    rw (← line) (c.put_out.ensures.part (whole_step 0) et e)

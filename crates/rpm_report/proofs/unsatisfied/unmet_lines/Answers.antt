use Rattle.std.proofs.Common.{◌≡◌, ℕ, List, get_or, ap, ◌∙◌}
use Rattle.std.specs.Prelude.{slice_get}
use Rattle.rpm_report.proofs.Vocabulary.{header_label, line_of, requirements, Unmet}
use Rattle.rpm_report.proofs.Labels.{header_label_is}
use Rattle.rpm_report.proofs.Rowed.{lines_more}
use Rattle.rpm_report.proofs.unsatisfied.unmet_lines.Goals as goal

pub loop-unmet-preserved : goal.loop-unmet-preserved
loop-unmet-preserved c =
    let h = c.in-Ok.view in
    let n = c.args.number in
    let none : Unmet = record { number = 0; place = 0 } in
    let label : c.deref.result.now ≡ header_label n h = c.deref.ensures.value ∙ c.in_ok-label-in-Ok.ensures ∙ header_label_is h n in
    record {
      so_far = c.in_ok-push_unmet-in-Ok.ensures.text
          ∙ lines_more n c.args.row.now c.loop-unmet.unmet-index none h c.loop-unmet.lines.items _ c.loop-unmet-test.true
          (ap (λ (t : List ℕ). line_of t (slice_get (requirements h) (get_or c.args.row.now c.loop-unmet.unmet-index none).place)) label)
          c.loop-unmet.invariant.so_far;
      left = c.in_ok-push_unmet-in-Ok.ensures.left;
    }

use Rattle.rpm_words.proofs.Vocabulary.{first_broken}
use Rattle.rpm_words.proofs.Told.{told_by}
use Rattle.rpm_words.proofs.broken.first_broken.Goals as goal

pub returns : goal.returns
unfolding first_broken
returns c =
    let h = told_by c.early_fault.result c.no_value.result c.no_mode.result c.misplaced.result c.too_few.result c.too_many.result c.bad_argument.result
    c.or.result c.or-2.result c.or-3.result c.or-4.result c.or-5.result c.or-6.result
    c.or.ensures c.or-2.ensures c.or-3.ensures c.or-4.ensures c.or-5.ensures c.or-6.ensures in
    cc (
      h,
      c.early_fault.ensures,
      c.no_value.ensures,
      c.no_mode.ensures,
      c.misplaced.ensures,
      c.too_few.ensures,
      c.too_many.ensures,
      c.bad_argument.ensures,
      c.checked.ensures,
      c.expected.ensures,
      c.takes-takes.ensures,
      c.unwrap_or-command.ensures,
      c.unwrap_or-chosen.ensures,
    )

-- How long a log can be: each unit of the files is held at most once, and begins at most one run.
use Rattle.std.proofs.Common.{inl, inr, ℕ, zero, suc, ◌*◌, ◌≤◌, length, arith}
use Rattle.std.specs.Prelude.{Bool}
use Rattle.std.proofs.lemmas.Bool.{cases_Bool}
use Rattle.rpm_group.proofs.Vocabulary.{begins_run, count_below, Files, is_held, laid_file, laid_files, Layers, longest_log, needed_units, Pages, Units}
use Rattle.rpm_group.proofs.Vocabulary.{units_of_log}
use Rattle.rpm_group.proofs.Counts.{step, step_one}
use Rattle.rpm_group.proofs.Laids.{length-laid}

count_most : (test : ℕ → Bool) (n : ℕ) → count_below test n ≤ n
unfolding count_below
count_most test zero = omega arith
count_most test (suc n) = elim (cases_Bool (test n)) [
  | inl one ↦ omega (arith, count_most test n, step_one test n one)
  | inr none ↦ omega (arith, count_most test n, step test n none)
]

units_most : (pages : Pages) (file : Units) → units_of_log pages ≤ 2 * length (laid_file pages file)
units_most pages file = omega (
  arith,
  count_most (begins_run pages.table.items) pages.end,
  count_most (is_held pages.table.items) pages.end,
  length-laid pages.table.items pages.end file,
)

pub needed_most : (held : Layers) (files : Files) → needed_units held ≤ longest_log (laid_files held files)
needed_most held files = omega (arith, units_most held.pkg files.pkg, units_most held.idx files.idx)

use Rattle.std.proofs.Common.{◌≡◌, drop}
use Rattle.rpm_words.proofs.Vocabulary.{as_spellings, switch_in}
use Rattle.rpm_words.proofs.switch.switch_in.Given as goal

abbrev pub invariant-loop-spelling : goal.invariant-loop-spelling
invariant-loop-spelling l = switch_in (as_spellings (drop l.spelling-index l.spellings)) l.text ≡ switch_in (as_spellings l.spellings) l.text

use Rattle.std.proofs.Common.{◌≡◌}
use denote.Shadow.{shadow}
use denote.Text.{Utf8}
use Rattle.rpm_words.proofs.Vocabulary.{folder}
use Rattle.rpm_words.proofs.Folders.{last_folder}
use Rattle.rpm_words.proofs.place.folder_of.Given as goal

abbrev pub invariant-loop-i : goal.invariant-loop-i
invariant-loop-i l = (last_folder l.words l.program l.purpose l.i l.folder ≡ folder l.program l.words) × shadow (Utf8 l.folder)

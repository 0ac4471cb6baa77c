use Rattle.std.proofs.Common.{arith, rules}
use Rattle.rpm_words.proofs.Spelled.{made_spelled}
use Rattle.rpm_words.proofs.Folders.{folder_begin, folder_step, folder_end}
use Rattle.rpm_words.proofs.place.folder_of.Goals as goal

pub loop-i-init : goal.loop-i-init
loop-i-init c = (folder_begin _ _, search rules)

pub folder_behind-folder-requires : goal.folder_behind-folder-requires
folder_behind-folder-requires c = made_spelled _ _ _ _ c.purpose_behind-purpose.ensures

pub loop-i-preserved : goal.loop-i-preserved
loop-i-preserved c = (
  folder_step _ _ _ _ _ _ _ _ _ c.word-text.ensures c.purpose_behind-purpose.ensures c.folder_behind-folder.ensures c.loop-i.invariant.0,
  search rules,
)

pub returns : goal.returns
returns c = folder_end _ _ _ _ _ _ (omega arith) c.loop-i.invariant.0

use Rattle.std.proofs.Common.{subst, Result}
use Rattle.rpm_file.proofs.Vocabulary.{AnswersBytes, FileFault, Header, stamp_items}
use Rattle.rpm_file.proofs.Merged.{merged_is}
use Rattle.rpm_file.proofs.merging.merged.Goals as goal

pub returns-in-Ok : goal.returns-in-Ok
returns-in-Ok c =
    let main = c.args.main.now in
    let signature = c.args.signature.now.entries in
    subst (λ (found : Result Header FileFault). AnswersBytes found c.with_entries.result)
    (merged_is signature main (stamp_items c.args.stamps.now) c.in-Ok.more c.requires.index c.in-Ok.ensures) c.with_entries.ensures

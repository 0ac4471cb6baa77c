use Rattle.std.proofs.Common.{◌+◌, length, subst, sym}
use Rattle.rpm_file.proofs.Vocabulary.{dribbled_data, IsMadeFault, header_with_entries}
use Rattle.rpm_file.proofs.Merged.{keeps_limits, made_bytes, made_not}
use Rattle.rpm_file.proofs.merging.with_entries.Goals as goal

pub returns-in-Ok : goal.returns-in-Ok
returns-in-Ok c =
    let main = c.args.main.now in
    let more = c.args.more.now in
    let w = c.with_dribbles.ensures in
    made_bytes main more c.in-Ok.blob.items (keeps_limits c.with_dribbles.result c.in-Ok.blob (length main.entries + length more)
    (length (dribbled_data main more)) c.in-Ok.is w.too_many w.too_much) c.in-Ok.ensures.laid c.in-Ok.ensures.again

pub returns-in-Err : goal.returns-in-Err
returns-in-Err c =
    let main = c.args.main.now in
    let more = c.args.more.now in
    let w = c.with_dribbles.ensures in
    subst (IsMadeFault (header_with_entries main more)) (sym c.fault_of.ensures)
    (made_not c.with_dribbles.result c.in-Err.fault main more c.in-Err.is w.too_many w.too_much)

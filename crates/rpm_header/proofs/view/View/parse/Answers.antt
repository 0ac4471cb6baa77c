use Rattle.std.proofs.Common.{◌+◌, ◌*◌, refl, arith}
use Rattle.rpm_header.proofs.Cut.{is_cut}
use Rattle.rpm_header.proofs.Own.{own_front}
use Rattle.rpm_header.proofs.view.View.parse.Goals as goal

pub checked-requires : goal.checked-requires
checked-requires c =
    is_cut c.u32_at-il.result c.u32_at-dl.result (8 + 16 * c.u32_at-il.result + c.u32_at-dl.result) c.args.blob.now c.u32_at-il.ensures c.u32_at-dl.ensures
    refl (omega arith) (omega arith) (omega arith)

pub returns-clause-own : goal.returns-clause-own
returns-clause-own c =
    own_front c.checked.result c.u32_at-il.result (8 + 16 * c.u32_at-il.result + c.u32_at-dl.result) c.args.blob.now (omega arith) c.checked.ensures

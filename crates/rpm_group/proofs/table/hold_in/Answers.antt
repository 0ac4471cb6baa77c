use Rattle.std.proofs.Common.{◌/◌, refl, arith}
use Rattle.rpm_group.proofs.Tables.{wrote_set, keeps_set}
use Rattle.rpm_group.proofs.table.hold_in.Goals as goal

pub returns-then-q-len-clause-holds : goal.returns-then-q-len-clause-holds
returns-then-q-len-clause-holds c = wrote_set c.args.table.now.items (c.args.q / 256) c.index_mut.result.now c.hold.new.leaf
    (omega (arith, c.if-q-len.true, c.len.ensures)) c.index_mut.ensures.value c.args.q c.args.at c.args.bytes.now refl c.requires.within c.hold.ensures.wrote

pub returns-then-q-len-clause-pages : goal.returns-then-q-len-clause-pages
returns-then-q-len-clause-pages c = keeps_set c.args.table.now.items (c.args.q / 256) c.index_mut.result.now c.hold.new.leaf
    (omega (arith, c.if-q-len.true, c.len.ensures)) c.index_mut.ensures.value c.hold.ensures.pages

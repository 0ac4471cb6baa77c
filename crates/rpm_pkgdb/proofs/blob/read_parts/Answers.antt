use Rattle.std.proofs.Common.{sym, ap, ◌∙◌}
use Rattle.rpm_pkgdb.proofs.Vocabulary.{is_head}
use Rattle.rpm_pkgdb.proofs.PartedBlocks.{first, are_blocks}
use Rattle.rpm_pkgdb.proofs.blob.read_parts.Goals as goal

pub returns-then-not-is_head-clause-parts : goal.returns-then-not-is_head-clause-parts
returns-then-not-is_head-clause-parts g c = λ told.
    let at = first (g.D.Disk.files c.args.disk.now).pkg c.args.slot c.in_ok-bytes.bytes.items c.requires.some (c.requires.within told)
    c.in_ok-bytes.ensures.long (c.in_ok-bytes.ensures.units told) (c.in_ok-bytes.ensures.bytes told) in
    ap (is_head c.args.n c.args.slot.count) (sym (c.parted-blocks.ensures.head ∙ at)) ∙ sym c.if-not-is_head.ensures

pub returns-then-slot-le-FEW-clause-parts : goal.returns-then-slot-le-FEW-clause-parts
returns-then-slot-le-FEW-clause-parts g c = λ told.
    are_blocks (g.D.Disk.files c.args.disk.now).pkg c.args.slot c.in_ok-bytes.bytes.items c.requires.some (c.requires.within told)
    c.in_ok-bytes.ensures.long (c.in_ok-bytes.ensures.units told) (c.in_ok-bytes.ensures.bytes told)
    c.parted-blocks.result.head c.parted-blocks.result.rest.items c.parted-blocks.ensures.head c.parted-blocks.ensures.rest

use Rattle.std.proofs.Common.{◌≡◌, ◌+◌, ◌-◌, ◌*◌, ◌/◌, length, take, refl, ap, arith, IsTrue}
use Rattle.std.proofs.lemmas.List.{length-take}
use Rattle.rpm_pkgdb.proofs.Vocabulary.{blocks_for, length-put, with_units, SameOutside, units_of}
use Rattle.rpm_pkgdb.proofs.Changing.{map_ok, writes_weaker, writes_then, writes_failed}
use Rattle.rpm_pkgdb.proofs.BlobWrites.{count-head, parts_written, head_within, front_within, last_within}
use Rattle.rpm_pkgdb.proofs.new_blob.write_blob.Goals as goal

pub returns-in_err-write_units-clause-writes : goal.returns-in_err-write_units-clause-writes
returns-in_err-write_units-clause-writes g c =
    let b = c.args.blob.now in
    writes_failed g.D.Disk (writes_weaker g.D.Disk c.in_err-write_units.ensures.writes (omega arith)
    (head_within c.args.number c.args.generation b c.blob_head-head.result (take (16 * (length b / 16)) b)
    (take c.last_units-end.result.1 c.last_units-end.result.0) c.blob_head-head.ensures refl c.last_units-end.ensures.bytes c.args.start c.requires.few))

pub write_some-requires-clause-inside : goal.write_some-requires-clause-inside
write_some-requires-clause-inside g c = λ told.
    let head = c.blob_head-head.result in
    let b = c.args.blob.now in
    let one =
    count-head c.args.number c.args.generation b head (take (16 * (length b / 16)) b)
    (take c.last_units-end.result.1 c.last_units-end.result.0) c.blob_head-head.ensures refl c.last_units-end.ensures.bytes in
    omega (arith, one, ap length (c.in_ok-write_units.ensures.written told), length-put c.args.start (units_of head) (g.D.Disk.files c.args.disk.now).pkg)

pub returns-in_err-write_some-clause-writes : goal.returns-in_err-write_some-clause-writes
returns-in_err-write_some-clause-writes g c =
    let b = c.args.blob.now in
    let head = c.blob_head-head.result in
    let front = take (16 * (length b / 16)) b in
    let last = take c.last_units-end.result.1 c.last_units-end.result.0 in
    let one =
    head_within c.args.number c.args.generation b head front last c.blob_head-head.ensures refl c.last_units-end.ensures.bytes c.args.start
    c.requires.few in
    writes_failed g.D.Disk (writes_then g.D.Disk g.met.D.Disk.follows_trans c.write_units.ensures.writes c.in_err-write_some.ensures.writes (omega arith) one
    (λ x y z torn next. front_within c.args.number c.args.generation b head front last c.blob_head-head.ensures refl c.last_units-end.ensures.bytes
    c.args.start c.requires.few x y z (one x y torn) next))

pub returns-clause-writes : goal.returns-clause-writes
returns-clause-writes g c =
    let b = c.args.blob.now in
    let head = c.blob_head-head.result in
    let front = take (16 * (length b / 16)) b in
    let last = take c.last_units-end.result.1 c.last_units-end.result.0 in
    let long : length last ≡ 16 * (blocks_for (length b) - 1 - length b / 16) =
    omega (arith, length-take c.last_units-end.result.1 c.last_units-end.result.0, c.last_units-end.ensures.end, c.last_units-end.ensures.room) in
    let one =
    head_within c.args.number c.args.generation b head front last c.blob_head-head.ensures refl c.last_units-end.ensures.bytes c.args.start
    c.requires.few in
    writes_then g.D.Disk g.met.D.Disk.follows_trans
    (writes_then g.D.Disk g.met.D.Disk.follows_trans {T = SameOutside c.args.start (blocks_for (length b))} {most = 0} c.write_units.ensures.writes
    c.write_some.ensures.writes (omega arith) one
    (λ x y z torn next. front_within c.args.number c.args.generation b head front last c.blob_head-head.ensures refl c.last_units-end.ensures.bytes
    c.args.start c.requires.few x y z (one x y torn) next))
    c.write_units-2.ensures.writes (omega arith) (λ x y r. r)
    (λ x y z so_far torn. last_within c.args.number c.args.generation b head front last c.blob_head-head.ensures refl c.last_units-end.ensures.bytes
    c.args.start c.requires.few x y z long so_far torn)

pub returns-clause-written : goal.returns-clause-written
returns-clause-written g c =
    let D = g.D.Disk in
    let b = c.args.blob.now in
    let head = c.blob_head-head.result in
    let front = take (16 * (length b / 16)) b in
    let last = take c.last_units-end.result.1 c.last_units-end.result.0 in
    let F2 = (D.files c.write_some.new.disk).pkg in
    let F3 = (D.files c.write_units-2.new.disk).pkg in
    map_ok c.write_units-2.result (λ (third : IsTrue D.tells → F3 ≡ with_units (c.args.start + 1 + length b / 16) (units_of last) F2) told.
    parts_written c.args.number c.args.generation b head front last c.blob_head-head.ensures refl c.last_units-end.ensures.bytes c.args.start
    (D.files c.args.disk.now).pkg (D.files c.write_units.new.disk).pkg F2 F3
    (c.in_ok-write_units.ensures.written told) (c.in_ok-write_some.ensures.written told) (third told)) c.write_units-2.ensures.written

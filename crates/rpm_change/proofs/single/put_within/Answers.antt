use Rattle.std.proofs.Common.{◌≡◌, refl, sym, ◌∙◌}
use Rattle.rpm_change.proofs.Vocabulary.{Add, add_fault, next-state, Put, put_fault, read_again, resumed_database, store_of, state_in}
use Rattle.rpm_change.proofs.Gathered.{gathered_one, ungathered_one}
use Rattle.rpm_change.proofs.single.put_within.Goals as goal

pub of_checked-view-requires : goal.of_checked-view-requires
of_checked-view-requires g c = (read_again c.args.blob.now, c.requires.own, refl)

pub returns-in-Ok : goal.returns-in-Ok
returns-in-Ok g c =
    let done = c.in-Ok.ensures in
    let same : c.of_checked-view.result ≡ read_again c.args.blob.now = cc in
    let law = next-state (g.D.Disk.files c.args.disk.now).pkg (store_of c.args.db.now) in
    rw c.in-None.is (gathered_one g.D.Disk (Add c.args.blob.now) done.runs _ (rw same at done.gathers) done.left.indexed
    (λ is. done.causes.0 (sym law ∙ is)) done.causes.1.later.0 done.end done.index done.cause.later)

pub returns-in-Err : goal.returns-in-Err
returns-in-Err g c =
    let said = c.in-Err.ensures in
    let view = c.of_checked-view.result in
    let blob = c.args.blob.now in
    let db = c.args.db.now in
    let same : view ≡ read_again blob = cc in
    let f = c.in-Err.fault in
    let law = next-state (g.D.Disk.files c.args.disk.now).pkg (store_of db) in
    let gathers = rw same at said.gathers in
    rw (c.in-None.is, c.halt_of.ensures)
    (ungathered_one g.D.Disk (Add blob) said.runs f gathers said.left
    (λ i full. add_fault i _ (resumed_database db) (state_in g.D.Disk c.args.disk.now db) view.blob blob f law said.causes gathers.room full) refl refl
    said.whole said.cause (λ is. cc))

pub returns-in-Ok-replace_view : goal.returns-in-Ok-replace_view
returns-in-Ok-replace_view g c =
    let done = c.in-Ok-replace_view.ensures in
    let same : c.of_checked-view.result ≡ read_again c.args.blob.now = cc in
    rw c.in-Some.is (gathered_one g.D.Disk (Put c.in-Some.n c.args.blob.now) done.runs _ (rw same at done.gathers) done.left.indexed tt
    done.causes.1.later.0 done.end done.index done.cause.later)

pub returns-in-Err-replace_view : goal.returns-in-Err-replace_view
returns-in-Err-replace_view g c =
    let said = c.in-Err-replace_view.ensures in
    let view = c.of_checked-view.result in
    let n = c.in-Some.n in
    let blob = c.args.blob.now in
    let db = c.args.db.now in
    let same : view ≡ read_again blob = cc in
    let f = c.in-Err-replace_view.fault in
    let gathers = rw same at said.gathers in
    rw (c.in-Some.is, c.halt_of-in-Err-replace_view.ensures)
    (ungathered_one g.D.Disk (Put n blob) said.runs f gathers said.left
    (λ i full. put_fault i _ (resumed_database db) (state_in g.D.Disk c.args.disk.now db) n view.blob blob f said.causes gathers.room full) refl refl
    said.whole said.cause (λ is. cc))

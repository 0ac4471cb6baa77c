use Rattle.rpm_tool.proofs.Vocabulary.{always_keyed, asked_reaches, Bearer, blocks_cost, Damage, request_of, PlainProgress, RequestProgress}
use Rattle.rpm_tool.proofs.Vocabulary.{Files, inner, is_indexed, looks_then}
use Rattle.rpm_tool.proofs.Vocabulary.{no_index_rows, StoreAnswer, Pkg, pkg_read, reach_sum, reached_by, read_to, store_of, shown_outputs, store, Store, Units}
use Rattle.std.proofs.Common.{◌≡◌, ◌+◌, ◌-◌, ◌^◌, ◌≤◌, ◌||◌, false, Result, refl, sym, ap, ◌∙◌, subst, arith}
use Rattle.rpm_effects.specs.declared.answer.Why.TheVariants as why
use Rattle.rpm_print.proofs.laws.Askable.{keeps_none}
use Rattle.rpm_tool.proofs.Faults.{cause_then, hands_none, le_first}
use Rattle.rpm_tool.proofs.Requests.{does_reads}
use Rattle.rpm_print.proofs.laws.Peeking.{looks_unindexed}
use Rattle.rpm_pkgdb.specs.Costs.{opening_cost}
use Rattle.rpm_effects.proofs.laws.Reaching.{through_none}
use Rattle.rpm_tool.proofs.Unloaded.{unopened_fault, unopened_memory}
use Rattle.rpm_query.proofs.laws.Sums.{store_by, store_sum}
use Rattle.rpm_tool.proofs.unindexed.answer_unindexed.Goals as goal

pub answer_opened-requires : goal.answer_opened-requires
answer_opened-requires g c =
    let opened = c.in-Ok.ensures in
    record {
      asked = record {
        keeps = opened.kept;
        keeps_index = λ told. keeps_none (g.D.Disk.files c.open_unindexed.new.disk).idx c.in-Ok.db.index opened.unindexed;
        going = opened.runs;
      };
      request = c.requires.request;
    }

pub returns-in-Ok-clause-went : goal.returns-in-Ok-clause-went
returns-in-Ok-clause-went g c = λ told.
    let d = g.D.Disk in
    let a = c.args.ask.now in
    let words = c.args.words.now in
    let tree = c.args.format.now in
    let db = c.in-Ok.db in
    let s = (store_of db) in
    let files = d.files c.args.disk.now in
    let file = files.pkg in
    let mid = d.files c.open_unindexed.new.disk in
    let start = pkg_read d c.args.disk.now in
    let between = pkg_read d c.open_unindexed.new.disk in
    let now = pkg_read d c.answer_opened.new.disk in
    let given = c.answer_opened.result in
    let old = shown_outputs g.O.Sink g.E.Sink c.args.out.now c.args.err.now in
    let new = shown_outputs g.O.Sink g.E.Sink c.answer_opened.new.out c.answer_opened.new.err in
    let said = c.in-Ok.ensures in
    let read : Units → Bearer → Type 0 = λ u for. now ≤ between + reached_by (asked_reaches false u s words a) db for in
    let went = rw said.unindexed at (c.answer_opened.ensures.does.went told (no_index_rows db mid.pkg mid.idx said.unindexed)) in
    subst (λ (r : Result Store Damage). StoreAnswer (PlainProgress tree words a file start now) r given old new) (sym (said.store told))
    (does_reads tree file s words a (request_of a.mode) (read file) (λ for. now ≤ start + read_to file words a s for)
    (λ for le. omega (arith, le, said.reads told, store_by (asked_reaches false file s words a) db for)) given old new
    (subst (λ (f : Files). RequestProgress (request_of a.mode) tree f.pkg s words a (read f.pkg) given old new) (said.looks.untouched told).same went))

pub returns-in-Ok-clause-reads : goal.returns-in-Ok-clause-reads
returns-in-Ok-clause-reads g c = λ told.
    let d = g.D.Disk in
    let a = c.args.ask.now in
    let words = c.args.words.now in
    let db = c.in-Ok.db in
    let s = (store_of db) in
    let file = (d.files c.args.disk.now).pkg in
    let mid = d.files c.open_unindexed.new.disk in
    let between = pkg_read d c.open_unindexed.new.disk in
    let now = pkg_read d c.answer_opened.new.disk in
    let said = c.in-Ok.ensures in
    let read = rw said.unindexed at (c.answer_opened.ensures.does.reads c.requires.plain told (no_index_rows db mid.pkg mid.idx said.unindexed)) in
    let here : now ≤ between + reach_sum (asked_reaches false file s words a) db =
    subst (λ (f : Files). now ≤ between + reach_sum (asked_reaches false f.pkg s words a) db) (said.looks.untouched told).same read in
    let most = ap (λ (r : Result Store Damage). blocks_cost (λ t. false) file r words a) (said.store told) in
    omega (arith, here, said.reads told, most, store_sum (asked_reaches false file s words a) db)

pub returns-in-Ok-clause-looks : goal.returns-in-Ok-clause-looks
returns-in-Ok-clause-looks g c =
    let d = g.D.Disk in
    let start = c.args.disk.now in
    let mid = c.open_unindexed.new.disk in
    let end = c.answer_opened.new.disk in
    let more = pkg_read d end - pkg_read d mid in
    let none : (always_keyed (request_of c.args.ask.now.mode) || is_indexed c.in-Ok.db) ≡ false =
    ap (λ b. b || is_indexed c.in-Ok.db) c.requires.plain ∙ c.in-Ok.ensures.unindexed in (
      2 ^ 32 + more,
      looks_then d Pkg g.met.D.Disk.follows_trans (2 ^ 32) more (2 ^ 32 + more) start mid end
          (omega arith) c.in-Ok.ensures.looks
          (looks_unindexed d none c.answer_opened.ensures.does.looks),
    )

pub returns-in-Ok-clause-done : goal.returns-in-Ok-clause-done
returns-in-Ok-clause-done g c = c.answer_opened.ensures.done

pub returns-in-Ok-clause-disk : goal.returns-in-Ok-clause-disk
returns-in-Ok-clause-disk g c =
    let faults = g.D.Disk.faults in
    cause_then (faults c.args.disk.now) (faults c.open_unindexed.new.disk) (faults c.answer_opened.new.disk) c.open_unindexed.ensures.cause.later
    c.answer_opened.ensures.disk

pub returns-in-Ok-clause-hands : goal.returns-in-Ok-clause-hands
returns-in-Ok-clause-hands g c = c.answer_opened.ensures.hands

-- ---- what wasn't opened

pub returns-in-Err-DiskFault-clause-hands : goal.returns-in-Err-DiskFault-clause-hands
returns-in-Err-DiskFault-clause-hands g c =
    hands_none g.O.Sink g.E.Sink g.met.O.Sink.follows_refl g.met.E.Sink.follows_refl why.DiskFault refl c.args.out.now c.args.err.now

pub returns-in-Err-NoMemory-clause-hands : goal.returns-in-Err-NoMemory-clause-hands
returns-in-Err-NoMemory-clause-hands g c =
    hands_none g.O.Sink g.E.Sink g.met.O.Sink.follows_refl g.met.E.Sink.follows_refl why.NoMemory refl c.args.out.now c.args.err.now

pub returns-in-Err-DiskFault-clause-went : goal.returns-in-Err-DiskFault-clause-went
returns-in-Err-DiskFault-clause-went g c = λ told.
    unopened_fault c.args.format.now c.args.words.now c.args.ask.now (g.D.Disk.files c.args.disk.now).pkg (pkg_read g.D.Disk c.args.disk.now)
    (pkg_read g.D.Disk c.open_unindexed.new.disk) (shown_outputs g.O.Sink g.E.Sink c.args.out.now c.args.err.now)
    (through_none {ot = g.O.Sink.tells} {et = g.E.Sink.tells} (g.O.Sink.taken (inner c.args.out.now)) (g.E.Sink.taken (inner c.args.err.now)))

pub returns-in-Err-NoMemory-clause-went : goal.returns-in-Err-NoMemory-clause-went
returns-in-Err-NoMemory-clause-went g c = λ told.
    unopened_memory c.args.format.now c.args.words.now c.args.ask.now (g.D.Disk.files c.args.disk.now).pkg (pkg_read g.D.Disk c.args.disk.now)
    (pkg_read g.D.Disk c.open_unindexed.new.disk) (shown_outputs g.O.Sink g.E.Sink c.args.out.now c.args.err.now)
    (through_none {ot = g.O.Sink.tells} {et = g.E.Sink.tells} (g.O.Sink.taken (inner c.args.out.now)) (g.E.Sink.taken (inner c.args.err.now)))

pub returns-in-Err-Damaged-clause-looks : goal.returns-in-Err-Damaged-clause-looks
returns-in-Err-Damaged-clause-looks g c = (2 ^ 32, c.open_unindexed.ensures.looks)

pub returns-in-Err-Damaged-clause-reads : goal.returns-in-Err-Damaged-clause-reads
returns-in-Err-Damaged-clause-reads g c = λ told.
    let file = (g.D.Disk.files c.args.disk.now).pkg in
    le_first (pkg_read g.D.Disk c.open_unindexed.new.disk) (pkg_read g.D.Disk c.args.disk.now) (opening_cost file)
    (blocks_cost (λ s. false) file (store file) c.args.words.now c.args.ask.now) (c.open_unindexed.ensures.reads told)

pub returns-in-Err-DiskFault-clause-looks : goal.returns-in-Err-DiskFault-clause-looks
returns-in-Err-DiskFault-clause-looks g c = (2 ^ 32, c.open_unindexed.ensures.looks)

pub returns-in-Err-DiskFault-clause-reads : goal.returns-in-Err-DiskFault-clause-reads
returns-in-Err-DiskFault-clause-reads g c = λ told.
    let file = (g.D.Disk.files c.args.disk.now).pkg in
    le_first (pkg_read g.D.Disk c.open_unindexed.new.disk) (pkg_read g.D.Disk c.args.disk.now) (opening_cost file)
    (blocks_cost (λ s. false) file (store file) c.args.words.now c.args.ask.now) (c.open_unindexed.ensures.reads told)

pub returns-in-Err-NoMemory-clause-looks : goal.returns-in-Err-NoMemory-clause-looks
returns-in-Err-NoMemory-clause-looks g c = (2 ^ 32, c.open_unindexed.ensures.looks)

pub returns-in-Err-NoMemory-clause-reads : goal.returns-in-Err-NoMemory-clause-reads
returns-in-Err-NoMemory-clause-reads g c = λ told.
    let file = (g.D.Disk.files c.args.disk.now).pkg in
    le_first (pkg_read g.D.Disk c.open_unindexed.new.disk) (pkg_read g.D.Disk c.args.disk.now) (opening_cost file)
    (blocks_cost (λ s. false) file (store file) c.args.words.now c.args.ask.now) (c.open_unindexed.ensures.reads told)

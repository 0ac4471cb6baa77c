use Rattle.std.proofs.Common.{◌≡◌, sym, ap, subst, ◌∙◌}
use Rattle.rpm_group.proofs.Vocabulary.{Closed, entries_log, entries_of, Files, heads_behind, IsOpen, laid_files, Log, log_not_log, log_state, LogSays}
use Rattle.rpm_group.proofs.Vocabulary.{LogState, Reading, reopened_files, reopened_open, Units, unlogged_entries, with_entries, with_file}
use Rattle.rpm_group.proofs.Readouts.{on_ok_map}
use Rattle.rpm_group.proofs.load.hold_log.Goals as goal

-- the entries are held over the two files, and the log stays
held_reopened : (files new : Files) (behind : LogState) → log_state files.log ≡ behind → IsOpen (log_state files.log)
    → new ≡ with_entries (entries_of behind) files → new ≡ with_file Log files.log (reopened_files files)
held_reopened files new behind is opened held =
    let entries = entries_of (log_state files.log) in
    let not = log_not_log files.log entries opened in
    held
    ∙ ap (λ (s : LogState). with_entries (entries_of s) files) (sym is)
    ∙ ap (λ (us : Units). with_file Log us (with_entries entries files)) (entries_log entries files not)
    ∙ ap (λ (f : Files). with_file Log files.log f) (unlogged_entries entries files not ∙ sym (reopened_open files entries opened))

pub returns-in-Opened-clause-held : goal.returns-in-Opened-clause-held
returns-in-Opened-clause-held g c = on_ok_map c.hold_entries.result c.hold_entries.ensures.held
    (λ held told.
    let D = g.D.Disk in
    let files : Files = D.files c.args.disk.now in
    let mid : Files = D.files c.read_log.new.disk in
    let commit_record = c.in-Opened.commit_record in
    let same : mid ≡ files = (c.read_log.ensures.reads.looks.untouched told).same in
    let says = subst (λ (r : Reading). LogSays r files.log) c.in-Opened.is (c.in-Ok.ensures.says told) in
    held_reopened files (laid_files c.hold_entries.new.held files) (heads_behind commit_record files.log) says.0 says.2
    (held told files
    ∙ ap (λ (f : Files). with_entries (entries_of (heads_behind commit_record f.log)) (laid_files c.args.held.now files)) same
    ∙ ap (λ (f : Files). with_entries (entries_of (heads_behind commit_record files.log)) f) (c.requires files)))

pub returns-in-Shut-clause-entries : goal.returns-in-Shut-clause-entries
returns-in-Shut-clause-entries g c = λ told files.
    let first : Files = g.D.Disk.files c.args.disk.now in
    let closed : log_state first.log ≡ Closed = subst (λ (r : Reading). LogSays r first.log) c.in-Shut.is (c.in-Ok.ensures.says told) in
    c.requires files ∙ ap (λ (s : LogState). with_entries (entries_of s) files) (sym closed)

pub returns-in-Opened-clause-entries : goal.returns-in-Opened-clause-entries
returns-in-Opened-clause-entries g c = on_ok_map c.hold_entries.result c.hold_entries.ensures.held
    (λ held told files.
    let D = g.D.Disk in
    let first : Files = D.files c.args.disk.now in
    let commit_record = c.in-Opened.commit_record in
    let same : D.files c.read_log.new.disk ≡ first = (c.read_log.ensures.reads.looks.untouched told).same in
    let says = subst (λ (r : Reading). LogSays r first.log) c.in-Opened.is (c.in-Ok.ensures.says told) in
    held told files
    ∙ ap (λ (f : Files). with_entries (entries_of (heads_behind commit_record f.log)) (laid_files c.args.held.now files)) same
    ∙ ap (λ (f : Files). with_entries (entries_of (heads_behind commit_record first.log)) f) (c.requires files)
    ∙ ap (λ (s : LogState). with_entries (entries_of s) files) (sym says.0))

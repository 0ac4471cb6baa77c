use Rattle.rpm_query.proofs.Vocabulary.{Bearer, before_others, Everything, Files, idle, inner, outputs, packages, packages_in, packages_part, PartIs, picks, Pkg, Portion, Reach}
use Rattle.rpm_query.proofs.Vocabulary.{PartProgress, reached_by, ReadsIn, store_of, Step, step_by, CommandProgress, Why}
use Rattle.std.proofs.Common.{◌≡◌, ◌+◌, ◌-◌, ◌≤◌, Bool, List, [], ◌∷◌, Err, sym, subst, arith}
use Rattle.std.proofs.lemmas.List.{append-nil}
use Rattle.rpm_db.specs.Database.{packages_cost, packages_cost_to}
use Rattle.rpm_outside.proofs.laws.Looking.{looks_then}
use Rattle.rpm_select.specs.declared.selection.Selection.TheVariants as question
use Rattle.rpm_query.proofs.laws.Sums.{reads_one}
use Rattle.rpm_effects.proofs.laws.Stopping.{reached_reads}
use Rattle.rpm_effects.proofs.laws.Parts.{went_stop}
use Rattle.rpm_print.proofs.laws.Askable.{asked_still}
use Rattle.rpm_query.proofs.querying.query_all.Goals as goal

pub print_above-requires : goal.print_above-requires
print_above-requires g c = record {
  asked = asked_still g.D.Disk c.args.disk.now c.begin_unasked-picker.new.disk c.args.db.now
      c.begin_unasked-picker.ensures.looks.untouched c.requires.asked;
  prints = c.requires.prints;
}

pub returns-clause-went : goal.returns-clause-went
returns-clause-went g c = λ told rows.
    let db = c.args.db.now in
    let s = (store_of db) in
    let old = outputs g.O.Sink.tells (g.O.Sink.taken (inner c.args.out.now)) g.E.Sink.tells (g.E.Sink.taken (inner c.args.err.now)) in
    let new = outputs g.O.Sink.tells (g.O.Sink.taken (inner c.print_above.new.out)) g.E.Sink.tells (g.E.Sink.taken (inner c.print_above.new.err)) in
    let start = g.D.Disk.bytes_read c.args.disk.now Pkg in
    let between = g.D.Disk.bytes_read c.begin_unasked-picker.new.disk Pkg in
    let now = g.D.Disk.bytes_read c.print_above.new.disk Pkg in
    let part_of : Files → Portion = λ f. packages_part (step_by c.args.request c.args.format.now 0) c.args.after (picks (packages f.pkg s) question.All) in
    let part = part_of (g.D.Disk.files c.args.disk.now) in
    let reads : Bearer → Type 0 = λ for. now ≤ start + reached_by (Everything ∷ []) db for in
    let what = c.in-Err.halt in
    let is : c.begin_unasked-picker.result ≡ Everything = c.begin_unasked-picker.ensures.reach told rows in
    let begun = g.D.Disk.files c.begin_unasked-picker.new.disk in
    let done : PartIs part (Err what) old new (ReadsIn 0 c.args.after Everything db between now) =
    subst (λ (f : Files). PartIs (part_of f) (Err what) old new (ReadsIn 0 c.args.after Everything db between now))
    (c.begin_unasked-picker.ensures.looks.untouched told).same
    (subst (λ (r : Reach). PartIs (part_of begun) (Err what) old new (ReadsIn 0 c.args.after r db between now)) is
    (c.in-Err.ensures.went told (c.begin_unasked-picker.ensures.serves told rows)
    (c.new.ensures (packages_in g.D.Disk c.begin_unasked-picker.new.disk db)) 0)) in
    subst (λ (w : Why). CommandProgress (before_others part idle) w old new reads) (sym c.from.ensures)
    (went_stop Bool (before_others part idle) what old new reads
    (subst (λ (ss : List Step). PartProgress {T = Bool} ss (Err what) old new reads) (sym (append-nil part.steps))
    (reached_reads {T = Bool} part.steps (Err what) old new (ReadsIn 0 c.args.after Everything db between now) reads
    (λ b r. reads_one Everything db c.args.after start between now b c.begin_unasked-picker.ensures.looks.reads.pkg r) done.steps)))

pub returns-clause-looks : goal.returns-clause-looks
returns-clause-looks g c =
    let db = c.args.db.now in
    let first = c.begin_unasked-picker in
    looks_then g.D.Disk Pkg g.met.D.Disk.follows_trans 0 (packages_cost db - packages_cost_to c.args.after db) (packages_cost db) c.args.disk.now first.new.disk
    c.print_above.new.disk (omega arith) first.ensures.looks c.in-Err.ensures.looks

use Rattle.std.proofs.Common.{◌≡◌, ◌∙◌, length, ap, refl, arith, rules}
use Rattle.rpm_db.proofs.Vocabulary.{Files, units_for}
use Rattle.rpm_hindex.specs.declared.faults.RewriteFault.TheVariants as rewrite
use Rattle.rpm_db.proofs.Emptied.{never_full}
use Rattle.rpm_db.proofs.Making.{remade_both, remade_look, remade_void}
use Rattle.rpm_db.proofs.starting.empty_index.Goals as goal

pub returns-in-Ok-rewrite_owned-clause-runs : goal.returns-in-Ok-rewrite_owned-clause-runs
returns-in-Ok-rewrite_owned-clause-runs g c =
    remade_both g.D.Disk g.met.D.Disk.follows_trans (remade_look g.D.Disk c.in-Ok.ensures.reads.looks refl)
    (remade_void g.D.Disk c.rewrite_owned.ensures.writes.changes)

pub returns-in-Err-rewrite_owned-clause-runs : goal.returns-in-Err-rewrite_owned-clause-runs
returns-in-Err-rewrite_owned-clause-runs g c =
    remade_both g.D.Disk g.met.D.Disk.follows_trans (remade_look g.D.Disk c.in-Ok.ensures.reads.looks refl)
    (remade_void g.D.Disk c.rewrite_owned.ensures.writes.changes)

pub returns-in-Err-rewrite_owned-clause-room : goal.returns-in-Err-rewrite_owned-clause-room
returns-in-Err-rewrite_owned-clause-room g c = λ needed is.
    let same : c.in-Err-rewrite_owned.fault ≡ rewrite.IndexFull needed = cc in
    never_full c.new-rows.result c.new-rows.ensures c.in-Err-rewrite_owned.fault c.in-Err-rewrite_owned.ensures.full needed same

pub returns-in-Ok-rewrite_owned-clause-empty : goal.returns-in-Ok-rewrite_owned-clause-empty
returns-in-Ok-rewrite_owned-clause-empty g c = record {
  voided = search rules;
  ordered = search rules;
  kept = search rules;
  whole = search rules;
  rows = search rules;
  durable = search rules;
  reach = λ told.
      omega (
        arith,
        c.in-Ok-rewrite_owned.ensures.grows,
        ap units_for c.new-rows.ensures,
        (c.in-Ok.ensures.kept told).units,
        ap (λ (f : Files). length f.idx) (c.in-Ok.ensures.reads.looks.untouched told).same,
      );
}

pub returns-in-Err-rewrite_owned-clause-refused : goal.returns-in-Err-rewrite_owned-clause-refused
returns-in-Err-rewrite_owned-clause-refused g c = λ refusal.
    let D = g.D.Disk in
    let looks = c.in-Ok.ensures.reads.looks in
    let same = (c.in-Err-rewrite_owned.ensures.refused refusal).1 in
    (λ told. ap D.files same ∙ (looks.untouched told).same, ap D.moment same ∙ looks.moment_stays)

use Rattle.std.proofs.Common.{◌≡◌, ℕ, true, false, ap, refl, sym, ◌∙◌, subst}
use Rattle.std.specs.Prelude.{IsTrue}
use Rattle.rpm_db.proofs.Vocabulary.{Files, HasRows, is_current, is_current_at, packages, store}
use Rattle.rpm_db.proofs.Making.{rows_of_lawful, rows_of_index, current_same, remade_both, remade_look}
use Rattle.rpm_db.proofs.indexing.index_for.Goals as goal

pub returns-then-is_current-clause-index : goal.returns-then-is_current-clause-index
returns-then-is_current-clause-index g c =
    let D = g.D.Disk in
    let value = c.args.store.now in
    let a = c.args.disk.now in
    let b = c.open.new.disk in
    let old = D.files a in
    let new = D.files b in
    let looks = c.in-Ok.ensures.reads.looks in
    let same = λ (told : IsTrue D.tells). (looks.untouched told).same in
    let here : is_current value.generation c.in-Ok.index ≡ true =
    ap (λ (n : ℕ). is_current n c.in-Ok.index) (sym c.generation.ensures.value) ∙ sym c.is_current.ensures ∙ c.if-is_current.true in
    let now : IsTrue D.tells → is_current_at value.generation old.idx ≡ true = λ told.
    ap (λ (f : Files). is_current_at value.generation f.idx) (sym (same told))
    ∙ sym (current_same value.generation new.idx c.in-Ok.index (c.in-Ok.ensures.kept told)) ∙ here in
    record {
      current = here;
      kept = c.in-Ok.ensures.kept;
      durable = λ told image left.
          c.requires.can.idx told image (subst (λ (t : ℕ). D.left_since a t image) looks.moment_stays ((looks.untouched told).images (D.moment b) image left))
          ∙ ap (λ (f : Files). f.idx) (sym (same told));
      rows_are = λ told lawful.
          subst (λ (f : Files). HasRows (packages f.pkg value) f.idx) (sym (same told))
          (rows_of_lawful old.pkg old.idx value (c.requires.can.keeps told) c.requires.can.made lawful (now told));
      made = λ told stale. absurd (let both : true ≡ false = sym (now told) ∙ stale in cc);
    }

pub returns-in-Ok-make_index-clause-index : goal.returns-in-Ok-make_index-clause-index
returns-in-Ok-make_index-clause-index g c =
    let D = g.D.Disk in
    let value = c.args.store.now in
    let e = c.in-Ok-make_index.ensures in
    let new = D.files c.make_index.new.disk in
    let rows_now : IsTrue D.tells → HasRows (packages new.pkg value) new.idx = λ told.
    (let same = (c.in-Ok.ensures.reads.looks.untouched told).same in
    let pkg : new.pkg ≡ (D.files c.args.disk.now).pkg = (e.runs.reads_as told).pkg ∙ ap (λ (f : Files). f.pkg) same in
    rows_of_index new.pkg new.idx value (ap store pkg ∙ c.requires.can.keeps told) (e.sealed.index_of told)) in
    record {
      current = e.sealed.current;
      kept = e.sealed.kept;
      durable = e.sealed.durable;
      rows_are = λ told lawful. rows_now told;
      made = λ told stale. rows_now told;
    }

pub returns-in-Ok-make_index-clause-runs : goal.returns-in-Ok-make_index-clause-runs
returns-in-Ok-make_index-clause-runs g c =
    remade_both g.D.Disk g.met.D.Disk.follows_trans (remade_look g.D.Disk c.in-Ok.ensures.reads.looks refl) c.in-Ok-make_index.ensures.runs

pub returns-in-Err-IndexFull-clause-runs : goal.returns-in-Err-IndexFull-clause-runs
returns-in-Err-IndexFull-clause-runs g c =
    remade_both g.D.Disk g.met.D.Disk.follows_trans (remade_look g.D.Disk c.in-Ok.ensures.reads.looks refl) c.in-Err-IndexFull.ensures.runs

pub returns-in-Err-DiskFault-clause-runs : goal.returns-in-Err-DiskFault-clause-runs
returns-in-Err-DiskFault-clause-runs g c =
    remade_both g.D.Disk g.met.D.Disk.follows_trans (remade_look g.D.Disk c.in-Ok.ensures.reads.looks refl) c.in-Err-DiskFault.ensures.runs

pub returns-in-Err-NoMemory-clause-runs : goal.returns-in-Err-NoMemory-clause-runs
returns-in-Err-NoMemory-clause-runs g c =
    remade_both g.D.Disk g.met.D.Disk.follows_trans (remade_look g.D.Disk c.in-Ok.ensures.reads.looks refl) c.in-Err-NoMemory.ensures.runs

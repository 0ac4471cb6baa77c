use Rattle.std.proofs.Common.{◌≡◌, ℕ, Some, false, refl, sym, ap, ◌∙◌, arith, rules}
use Rattle.std.proofs.lemmas.Grind.{common_steps}
use Rattle.rpm_hindex.specs.State as hindex
use Rattle.rpm_db.proofs.Vocabulary.{Database, made_new, store_of, state, Store}
use Rattle.rpm_db.proofs.Rebuilt.{indexed_now}
use Rattle.rpm_db.proofs.Stays.{state_made}
use Rattle.rpm_db.proofs.database.Db.init.Goals as goal

pub returns-in-Ok-clause-done : goal.returns-in-Ok-clause-done
returns-in-Ok-clause-done g c = λ is.
    let e = c.in-Ok.ensures in
    let new = g.D.Disk.files c.make_files.new.disk in
    let same : c.self.inside.store ≡ store_of c.args.self.now = ap store_of c.self.view_is in
    let one : c.make_files.new.store.generation ≡ 1 = ap (λ (s : Store). s.generation) e.made in
    record {
      store_is = e.made ∙ ap made_new same;
      generation = one;
      indexed = refl;
      going = c.if-self.false;
      keeps = e.empty.kept;
      keeps_index = e.empty.units;
      index = λ told.
          indexed_now new.pkg new.idx c.make_files.new.store (Some c.in-Ok.index) c.self.inside.is_stopped (e.empty.kept told) refl
          (ap (λ (n : ℕ). hindex.is_current n c.in-Ok.index) one ∙ e.empty.current) (e.empty.units told) (e.empty.index_of told);
      quiet = e.empty.quiet;
      durable = e.empty.durable;
      reach = e.reach;
      end = e.end;
    }

pub returns-in-Ok-clause-made : goal.returns-in-Ok-clause-made
returns-in-Ok-clause-made g c =
    let old = g.D.Disk.files c.args.disk.now in
    let new = g.D.Disk.files c.make_files.new.disk in
    let value : Store = store_of c.args.self.now in
    let same : c.self.inside.store ≡ value = ap store_of c.self.view_is in
    let going : c.args.self.now.stopped ≡ false = sym (ap (λ (db : Database). db.stopped) c.self.view_is) ∙ c.if-self.false in
    let none : c.self.inside.store.pages ≡ 0 = grind (arith, common_steps, c.is_blank.ensures, c.if-not-is_blank.false) in
    record {
      made_is = grind (arith, common_steps, c.is_blank.ensures, c.if-not-is_blank.false, same);
      state_is = λ told.
          ap (state new.pkg) (c.in-Ok.ensures.made ∙ ap made_new same)
          ∙ state_made old.pkg new.pkg value (c.requires.keeps going told) (sym (ap (λ (s : Store). s.pages) same) ∙ none);
      not_blank = search rules;
    }

use Rattle.std.proofs.Common.{◌≡◌, ℕ, Some, sym, ap, subst, ◌∙◌}
use Rattle.rpm_pkgdb.proofs.Vocabulary.{IsKept, IsPut, option_map, Placement, put_in, replaced_by, Store, with_put, with_placed, with_plan, with_spare}
use Rattle.rpm_pkgdb.proofs.PlacedRules.{own_placed}
use Rattle.rpm_pkgdb.proofs.Written.{put_spare}
use Rattle.rpm_pkgdb.proofs.store.PkgDb.put.Goals as goal

pub returns-clause-put : goal.returns-clause-put
returns-clause-put g c = λ told.
    let D = g.D.Disk in
    let st = c.args.self.now in
    let plan = c.args.plan in
    let blob = c.args.blob.now in
    let new = c.note_put.new.self in
    let a = c.args.disk.now in
    let b = c.write_plan.new.disk in
    let same : new ≡ with_spare new.spare (with_plan plan st) =
    c.note_put.ensures.value ∙ ap (λ (v : Store). with_spare new.spare (with_put plan.target v)) c.note_page.ensures in
    subst (λ (v : Store). IsPut D a b st v plan.target blob) (sym same)
    (put_spare D a b st (with_plan plan st) new.spare plan.target blob (c.in-Ok.ensures.put told))

pub returns-clause-value : goal.returns-clause-value
returns-clause-value g c =
    let st = c.args.self.now in
    let plan = c.args.plan in
    let new = c.note_put.new.self in
    let kept = subst (λ (x : Store). IsKept c.self.inside.numbers.pairs x.pages x.slots) c.self.view_is c.self.invariant.kept in
    let same : new ≡ with_spare new.spare (with_plan plan st) =
    c.note_put.ensures.value ∙ ap (λ (v : Store). with_spare new.spare (with_put plan.target v)) c.note_page.ensures in
    record {
      ok = same;
      placed =
          ap (λ (k : ℕ). put_in (replaced_by plan.target) k st) (sym c.requires.length)
          ∙ ap (option_map (λ (p : Placement). with_placed p st)) (own_placed _ st kept c.requires.ready.made plan c.requires.plan)
          ∙ ap Some (sym (ap (with_spare st.spare) same));
      spare = ap (λ (v : Store). v.spare) (sym c.note_page.ensures) ∙ c.note_put.ensures.spare;
    }

use Rattle.std.proofs.Common.{◌≡◌, ℕ, ◌+◌, ◌/◌, ◌∷◌, [], List, length, max, ap, sym, ◌∙◌, subst, arith, rules}
use Rattle.std.specs.Prelude.{IsTrue}
use Rattle.rpm_hindex.proofs.Vocabulary.{after_tail, after_units, cut_up_one, KeepsIndexValue, Patch, with_units, IndexState, Units}
use Rattle.rpm_hindex.proofs.TornWrites.{seal_then, seal_torn}
use Rattle.rpm_hindex.proofs.Swapping.{units_swap}
use Rattle.rpm_hindex.proofs.Patched.{patched_kept}
use Rattle.rpm_hindex.proofs.index.Hindex.patch.Goals as goal

pub returns-in_err-write_patches-clause-writes : goal.returns-in_err-write_patches-clause-writes
returns-in_err-write_patches-clause-writes g c = record {
  changes = seal_then g.D.Disk g.met.D.Disk.follows_trans _ _ _ c.in_ok-write_tail.ensures.writes.changes c.in_err-write_patches.ensures.writes.changes;
  cause = search rules;
}

pub returns-in_err-write_synced-clause-writes : goal.returns-in_err-write_synced-clause-writes
returns-in_err-write_synced-clause-writes g c = record {
  changes =
      let trans = g.met.D.Disk.follows_trans in
      seal_torn g.D.Disk trans _ _ _ 1 _ (omega arith)
      (seal_then g.D.Disk trans _ _ _ c.in_ok-write_tail.ensures.writes.changes c.in_ok-write_patches.ensures.writes.changes)
      c.in_err-write_synced.ensures.writes.changes;
  cause = search rules;
}

pub returns-clause-writes : goal.returns-clause-writes
returns-clause-writes g c = record {
  changes =
      let trans = g.met.D.Disk.follows_trans in
      seal_torn g.D.Disk trans _ _ _ 1 _ (omega arith)
      (seal_then g.D.Disk trans _ _ _ c.in_ok-write_tail.ensures.writes.changes c.in_ok-write_patches.ensures.writes.changes)
      c.in_ok-write_synced.ensures.writes.changes;
  cause = search rules;
}

pub returns-clause-left : goal.returns-clause-left
returns-clause-left g c =
    let p = c.args.patches.now in
    let s = c.args.self.now in
    let n = p.used + length p.tail.items / 16 in
    let old : Units = (g.D.Disk.files c.args.disk.now).idx in
    let first = ap (λ (t : IndexState). t.first) c.self.view_is in
    let units : c.max-self-inside.result ≡ max s.units n = c.max-self-inside.ensures ∙ ap (λ (k : ℕ). max k (p.used + c.len.result / 16))
    (ap (λ (t : IndexState). t.units) c.self.view_is) ∙ ap (λ (m : ℕ). max s.units (p.used + m / 16)) (c.len.ensures ∙ p.tail.ok.0) in
    let written = λ (told : IsTrue g.D.Disk.tells).
    c.in_ok-write_synced.ensures.written told
    ∙ ap (λ (us : Units). with_units 1 us (g.D.Disk.files c.write_patches.new.disk).idx) (cut_up_one p.second (omega arith))
    ∙ ap (λ (f : Units). with_units 1 (p.second ∷ []) f) (c.in_ok-write_patches.ensures.written told
    ∙ ap (λ (ps : List Patch). after_units ps (g.D.Disk.files c.write_tail.new.disk).idx) c.deref-2.ensures.value
    ∙ ap (λ (f : Units). after_units p.units.items f) (c.in_ok-write_tail.ensures.written told)
    ∙ ap (λ (t : List ℕ). after_units p.units.items (after_tail p.used t old)) c.deref.ensures.value
    ∙ units_swap p.used p.tail.items p.units.items old c.requires.patches.each
    (omega (arith, c.requires.patches.fits, (c.requires.keeps told).units))) in
    record {
      written = written;
      durable = c.in_ok-write_synced.ensures.durable;
      kept = λ told. subst (λ (f : List ℕ). KeepsIndexValue (g.D.Disk.files c.write_synced.new.disk).idx
          (record { first = f; second = p.second; units = c.max-self-inside.result; pending = p.buckets })) (sym first)
          (patched_kept p s c.max-self-inside.result p.buckets old (g.D.Disk.files c.write_synced.new.disk).idx
          c.requires.patches (c.requires.keeps told) (written told) units);
    }

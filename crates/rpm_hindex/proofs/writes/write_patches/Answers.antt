use Rattle.std.proofs.Common.{◌∷◌, [], ap, sym, ◌∙◌, arith, rules}
use Rattle.rpm_hindex.proofs.Vocabulary.{patch_at, with_units, Units}
use Rattle.rpm_hindex.proofs.TornWrites.{seal_then}
use Rattle.rpm_hindex.proofs.Patched.{after_next}
use Rattle.rpm_hindex.proofs.writes.write_patches.Goals as goal

pub returns-in_err-write_patch-clause-writes : goal.returns-in_err-write_patch-clause-writes
returns-in_err-write_patch-clause-writes g c = record {
  changes =
      seal_then g.D.Disk g.met.D.Disk.follows_trans _ _ _ c.loop-k.invariant.changes c.in_err-write_patch.ensures.writes.changes;
  cause = search rules;
}

pub loop-k-preserved : goal.loop-k-preserved
loop-k-preserved g c = record {
  written = λ told.
      let k = c.loop-k.k in
      c.in_ok-write_patch.ensures.written told
      ∙ ap (λ (f : Units). with_units (patch_at c.args.patches.now k).unit ((patch_at c.args.patches.now k).words ∷ []) f) (c.loop-k.invariant.written told)
      ∙ sym (after_next c.args.patches.now k (g.D.Disk.files c.args.disk.now).idx c.loop-k-test.true);
  changes = seal_then g.D.Disk g.met.D.Disk.follows_trans _ _ _ c.loop-k.invariant.changes c.in_ok-write_patch.ensures.writes.changes;
  faults = omega (arith, c.loop-k.invariant.faults, c.write_patch.ensures.writes.cause.later);
}

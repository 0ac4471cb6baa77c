use Rattle.rpm_store_tests.proofs.commit_tests.write_all.Goals as goal

pub loop-file-init : goal.loop-file-init
loop-file-init g c = record { goes_on = g.met.D.Disk.follows_refl c.args.disk.now }

pub loop-file-preserved : goal.loop-file-preserved
loop-file-preserved g c = record {
  goes_on = g.met.D.Disk.follows_trans c.args.disk.now c.loop-file.disk c.write_at.new.self c.loop-file.invariant.goes_on c.write_at.ensures.follows;
}

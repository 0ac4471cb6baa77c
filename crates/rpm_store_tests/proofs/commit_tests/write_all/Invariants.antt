use Rattle.rpm_store_tests.proofs.commit_tests.write_all.Given as goal

abbrev pub invariant-loop-file : goal.invariant-loop-file
invariant-loop-file g l = record { goes_on : g.D.Disk.follows l.initial.disk l.disk }

use Rattle.rpm_store_tests.proofs.db_crash_tests.failing.Goals as goal

pub put-requires-clause-serving : goal.put-requires-clause-serving
put-requires-clause-serving c = λ going told.
    let e = c.in-Ok.ensures in
    record { keeps = (e.opened told).keeps.0; index = (e.opened told).keeps.1; quiet = e.served.quiet told; durable = e.served.index_durable told }

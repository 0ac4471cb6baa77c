use Rattle.rpm_store_tests.proofs.db_change_tests.erase.Goals as goal

pub erase-requires-clause-serving : goal.erase-requires-clause-serving
erase-requires-clause-serving g c = λ going told.
    let e = c.in-Ok.ensures in
    record { keeps = (e.opened told).keeps.0; index = (e.opened told).keeps.1; quiet = e.served.quiet told; durable = e.served.index_durable told }

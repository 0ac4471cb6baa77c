use Rattle.std.proofs.Common.{◌≡◌, is_some, true, false, Ok, Err, sym, ap, ◌∙◌, subst}
use Rattle.rpm_db.proofs.Vocabulary.{database_of, IsOrdered, KeepsUnits, Store}
use Rattle.rpm_db.proofs.Batched.{gathers_asked}
use Rattle.rpm_db.proofs.Results.{err_as}
use Rattle.rpm_db.proofs.Wholes.{whole_cause}
use Rattle.rpm_db.proofs.batch.Batch.change.Goals as goal

-- ---- what changing the store asks for

pub change_store-requires-clause-ready : goal.change_store-requires-clause-ready
change_store-requires-clause-ready g c =
    let was = rw (sym c.db.view_is, sym c.self.view_is) at c.requires.gathering in
    record {
      going = was.going;
      made = c.db.invariant.made (ap is_some c.in-Some.is);
      keeps = λ told. (was.serving told).keeps;
      quiet = λ told. (was.serving told).quiet;
      durable = λ told. (was.serving told).durable;
    }

pub change_store-requires-clause-takes : goal.change_store-requires-clause-takes
change_store-requires-clause-takes g c = rw (sym c.db.view_is) at c.requires.takes

pub change_store-requires-clause-order : goal.change_store-requires-clause-order
change_store-requires-clause-order g c =
    let was = rw (sym c.db.view_is) at c.requires.gathering in subst IsOrdered c.in-Some.is was.ordered

pub change_store-requires-clause-units : goal.change_store-requires-clause-units
change_store-requires-clause-units g c =
    let was = rw (sym c.db.view_is) at c.requires.gathering in
    λ told. subst (KeepsUnits (g.D.Disk.files c.args.disk.now).idx) c.in-Some.is (was.serving told).index

-- ---- it was changed

pub returns-clause-later : goal.returns-clause-later
returns-clause-later g c = rw (sym c.db.view_is) c.in-Ok.ensures.later

pub returns-clause-reads : goal.returns-clause-reads
returns-clause-reads g c = rw (sym c.db.view_is) c.in-Ok.ensures.reads

pub returns-clause-gathers : goal.returns-clause-gathers
returns-clause-gathers g c =
    let e = c.in-Ok.ensures in
    let was = rw (sym c.db.view_is, sym c.self.view_is) at c.requires.gathering in
    rw (sym c.db.view_is, sym c.self.view_is) (gathers_asked g.D.Disk c.args.disk.now c.change_store.new.disk c.db.inside.store c.change_store.new.store
    c.db.inside.index c.db.inside.is_stopped c.self.inside.owed c.change_store.new.owed was e.index (Ok tt) c.args.request c.requires.own e.room e.done e.sums
    e.gathered (λ told. (let t = e.takes told in record { full = t.full; bad = λ told'. tt })) e.crashes)

pub returns-clause-left : goal.returns-clause-left
returns-clause-left g c =
    let was = rw (sym c.db.view_is) at c.requires.gathering in
    record { indexed = was.indexed; stopped = tt; refused = tt; same = tt; moment = tt; bad = λ told. tt }

-- ---- or refused

pub returns-in-Err-clause-later : goal.returns-in-Err-clause-later
returns-in-Err-clause-later g c = rw (sym c.db.view_is) c.in-Err.ensures.later

pub returns-in-Err-clause-reads : goal.returns-in-Err-clause-reads
returns-in-Err-clause-reads g c = rw (sym c.db.view_is) c.in-Err.ensures.reads

pub returns-in-Err-clause-gathers : goal.returns-in-Err-clause-gathers
returns-in-Err-clause-gathers g c =
    let e = c.in-Err.ensures in
    let was = rw (sym c.db.view_is, sym c.self.view_is) at c.requires.gathering in
    rw (sym c.db.view_is, sym c.self.view_is) (gathers_asked {A = Unit {0}} g.D.Disk c.args.disk.now c.change_store.new.disk c.db.inside.store
    c.change_store.new.store c.db.inside.index c.db.inside.is_stopped c.self.inside.owed c.change_store.new.owed was e.index (Err c.in-Err.fault) c.args.request
    c.requires.own e.room tt tt tt (λ told. (let t = e.takes told in record { full = t.full; bad = t.bad })) e.crashes)

pub returns-in-Err-clause-whole : goal.returns-in-Err-clause-whole
returns-in-Err-clause-whole g c = λ told whole. whole_cause _ _ c.in-Err.fault whole ((c.in-Err.ensures.takes told).bad told)

pub returns-in-Err-clause-spent : goal.returns-in-Err-clause-spent
returns-in-Err-clause-spent g c = λ is.
    let s = c.in-Err.ensures.spent (err_as _ _ is) in
    (s.0, cc, cc)

pub returns-in-Err-clause-left : goal.returns-in-Err-clause-left
returns-in-Err-clause-left g c =
    let was = rw (sym c.db.view_is) at c.requires.gathering in
    let e = c.in-Err.ensures in
    rw (sym c.db.view_is, sym c.self.view_is) (record {
      indexed = was.indexed;
      stopped = was.suspends;
      refused = λ refusal. ap (λ (v : Store). database_of v c.db.inside.index c.db.inside.is_stopped) (e.refused refusal).0;
      same = λ refusal. (e.refused refusal).1;
      moment = λ refusal. (e.refused refusal).2;
      bad = λ told. (e.takes told).bad told;
    })

-- ---- the value holds together

pub invariant_of-db : goal.invariant_of-db
invariant_of-db g c =
    let was = rw (sym c.db.view_is) at c.requires.gathering in
    record {
      made = λ some. c.change_store.ensures.made;
      going = λ is. absurd (let both : true ≡ false = sym was.suspends ∙ is in cc);
      order = λ is. absurd (let both : true ≡ false = sym was.suspends ∙ is in cc);
    }

pub invariant_of-db-2 : goal.invariant_of-db-2
invariant_of-db-2 g c =
    let was = rw (sym c.db.view_is) at c.requires.gathering in
    record {
      made = λ some. c.change_store.ensures.made;
      going = λ is. absurd (let both : true ≡ false = sym was.suspends ∙ is in cc);
      order = λ is. absurd (let both : true ≡ false = sym was.suspends ∙ is in cc);
    }

use Rattle.std.proofs.Common.{ℕ, List, ◌+◌, [], ◌∷◌, length, sym, ap, subst, arith, rules}
use Rattle.rpm_pkgdb.proofs.Vocabulary.{blobs, IsHeadUnit, IsRaised, RaisesTo, SameOutside, Store, with_generation}
use Rattle.rpm_pkgdb.proofs.ClearLaws.{torn_outside}
use Rattle.rpm_pkgdb.proofs.StayLaws.{raised_stay}
use Rattle.rpm_pkgdb.proofs.Changing.{writes_weaker, crashes_while}
use Rattle.rpm_pkgdb.proofs.Made.{made}
use Rattle.rpm_pkgdb.proofs.Reaching.{unit_ends}
use Rattle.rpm_pkgdb.proofs.Raises.{while_raised, raised, raised_map, raises_to, raised_quiet}
use Rattle.rpm_pkgdb.proofs.Written.{written}
use Rattle.rpm_pkgdb.proofs.store.PkgDb.raise.Goals as goal

abbrev higher : Store → Store
higher s = with_generation (s.generation + 1) s

abbrev IsHigher : List ℕ → Store → Type 0
IsHigher unit s = IsHeadUnit unit (s.generation + 1) s.pages

pub returns-in_default-clause-images : goal.returns-in_default-clause-images
returns-in_default-clause-images g c = λ told quiet.
    let D = g.D.Disk in
    let st = c.args.self.now in
    let unit = c.head_unit.result in
    let is = subst (IsHigher unit) c.self.view_is c.head_unit.ensures in
    let F0 = (D.files c.args.disk.now).pkg in
    crashes_while g.D.Disk told (RaisesTo st (st.generation + 1) F0) c.write_one.ensures.writes
    (λ from image was torn. raises_to st c.requires.ready.made unit (st.generation + 1) is F0 image.pkg (c.requires.ready.keeps told)
    (while_raised st c.requires.ready.made unit (st.generation + 1) is F0 from.pkg image.pkg (quiet from was) torn))

pub returns-clause-images : goal.returns-clause-images
returns-clause-images g c = λ told quiet.
    let D = g.D.Disk in
    let st = c.args.self.now in
    let unit = c.head_unit.result in
    let is = subst (IsHigher unit) c.self.view_is c.head_unit.ensures in
    let F0 = (D.files c.args.disk.now).pkg in
    crashes_while g.D.Disk told (RaisesTo st (st.generation + 1) F0) c.write_one.ensures.writes
    (λ from image was torn. raises_to st c.requires.ready.made unit (st.generation + 1) is F0 image.pkg (c.requires.ready.keeps told)
    (while_raised st c.requires.ready.made unit (st.generation + 1) is F0 from.pkg image.pkg (quiet from was) torn))

pub returns-in_default-clause-writes : goal.returns-in_default-clause-writes
returns-in_default-clause-writes g c =
    record {
      changes = (writes_weaker g.D.Disk {S = SameOutside 0 1} {n = 0} c.write_one.ensures.writes (omega arith) (torn_outside 0 (c.head_unit.result ∷
          []))).changes;
      cause = search rules;
    }

pub returns-clause-writes : goal.returns-clause-writes
returns-clause-writes g c =
    record {
      changes = (writes_weaker g.D.Disk {S = SameOutside 0 1} {n = 0} c.write_one.ensures.writes (omega arith) (torn_outside 0 (c.head_unit.result ∷
          []))).changes;
      cause = search rules;
    }

pub returns-clause-raised : goal.returns-clause-raised
returns-clause-raised g c = λ told.
    let D = g.D.Disk in
    let st = c.args.self.now in
    let unit = c.head_unit.result in
    let is = subst (IsHigher unit) c.self.view_is c.head_unit.ensures in
    let a = c.args.disk.now in
    let next = c.write_one.new.disk in
    let F0 = (D.files a).pkg in
    let F1 = (D.files next).pkg in
    let some = c.requires.ready.made in
    let keeps = c.requires.ready.keeps told in
    let put = c.in-Ok.ensures.written told in
    let stands = raised st some unit (st.generation + 1) is F0 F1 keeps put in
    let at = made F0 st keeps some in
    subst (λ (v : Store). IsRaised D a next st v) (sym (ap higher c.self.view_is)) (record {
      written =
          written D next (higher st) (blobs F0 st) some stands.keeps
          (raised_quiet st some unit (st.generation + 1) is (D.files a) (D.files next) (D.left_since next (D.moment next)) keeps put
          (c.in-Ok.ensures.durable told))
          (raised_map st some unit (st.generation + 1) is F0 F1 keeps stands);
      others = raised_stay st (st.generation + 1) F0 F1 some keeps stands;
      reach = unit_ends (length F0) 0 unit F0 F1 (omega (arith, at.lawful.inside, at.lawful.some)) put (omega arith);
    })

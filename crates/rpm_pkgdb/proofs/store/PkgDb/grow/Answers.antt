use Rattle.rpm_pkgdb.proofs.Vocabulary.{Anything, CanGrowBy, IsGrown, Move, moves_of, moving_cost, Page, Pkg, RepresentsBlobs, started, IsTornOnly, Writes}
use Rattle.std.proofs.Common.{◌≡◌, ◌*◌, List, Option, Some, OnOk, refl, sym, ap, ◌∙◌, subst, IsTrue}
use Rattle.rpm_pkgdb.proofs.Changing.{done, writes_none}
use Rattle.rpm_pkgdb.proofs.FreedLaws.{freed_none}
use Rattle.rpm_pkgdb.proofs.LeftLaws.{stands_still}
use Rattle.rpm_pkgdb.proofs.store.PkgDb.grow.Goals as goal

pub returns-in-None-clause-images : goal.returns-in-None-clause-images
returns-in-None-clause-images g c = λ told quiet.
    let D = g.D.Disk in
    let v = c.args.self.now in
    let d = c.args.disk.now in
    let P = RepresentsBlobs v (D.files d).pkg in
    started D d (IsTornOnly Pkg P (D.left_since d (D.moment d)))
    (λ image here. record {
      from = image;
      was = here;
      pkg = stands_still v (D.files d).pkg image.pkg c.requires.made (c.requires.keeps told) (quiet image here);
      idx = refl;
      log = refl;
    })

pub returns-in-None-clause-writes : goal.returns-in-None-clause-writes
returns-in-None-clause-writes g c =
    let d = c.args.disk.now in
    subst (λ (o : Option Page). Writes g.D.Disk Pkg Anything (moving_cost c.args.self.now.slots (moves_of o)) done d d)
    (sym c.in-None.is) (writes_none g.D.Disk g.met.D.Disk.follows_refl d (λ x. tt))

pub grow_by-requires-clause-can : goal.grow_by-requires-clause-can
grow_by-requires-clause-can g c =
    let whole : Some c.deref.result.now ≡ moves_of c.args.page.now = ap Some c.deref.ensures.value ∙ ap moves_of (sym c.in-Some.is) in
    subst (CanGrowBy c.args.self.now) (sym whole) c.requires.can

pub returns-in-Some-clause-writes : goal.returns-in-Some-clause-writes
returns-in-Some-clause-writes g c =
    let whole : Some c.deref.result.now ≡ moves_of c.args.page.now = ap Some c.deref.ensures.value ∙ ap moves_of (sym c.in-Some.is) in
    subst (λ (m : Option (List Move)). Writes g.D.Disk Pkg Anything (moving_cost c.args.self.now.slots m) c.grow_by.result c.args.disk.now
    c.grow_by.new.disk) whole c.grow_by.ensures.writes

pub returns-in-None-clause-grown : goal.returns-in-None-clause-grown
returns-in-None-clause-grown g c = λ told.
    let D = g.D.Disk in
    let v = c.args.self.now in
    let d = c.args.disk.now in
    subst (λ (o : Option Page). IsGrown D d d v (moves_of o)) (sym c.in-None.is) (record {
      kept = c.requires.keeps told;
      quiet = λ quiet. quiet;
      blobs_are = refl;
      others = λ n. refl;
      freed = freed_none (256 * v.pages) v.slots (D.files d).pkg;
      stays = λ none. refl;
      reach = λ limit within short. short;
    })

pub returns-in-Some-clause-grown : goal.returns-in-Some-clause-grown
returns-in-Some-clause-grown g c =
    let D = g.D.Disk in
    let v = c.args.self.now in
    let d = c.args.disk.now in
    let e = c.grow_by.new.disk in
    let whole : Some c.deref.result.now ≡ moves_of c.args.page.now = ap Some c.deref.ensures.value ∙ ap moves_of (sym c.in-Some.is) in
    subst (λ (m : Option (List Move)). OnOk c.grow_by.result (IsTrue D.tells → IsGrown D d e v m)) whole c.grow_by.ensures.grown

use Rattle.std.proofs.Common.{◌≡◌, true, inl, ℕ, ◌≤◌, ◌+◌, length, max, Bool, if◌then◌else◌, Option, Some, None, IfSome, IsTrue, sym, ap, ◌∙◌, subst, arith}
use Rattle.std.specs.FinMap as finite
use Rattle.rpm_pkgdb.proofs.Vocabulary.{BlobMap, blobs, blocks_for, framed_blob, IsBlobPut, IsKept, KeepsBlank, moves_of, next_field, next_unit, PutsTo}
use Rattle.rpm_pkgdb.proofs.Vocabulary.{RepresentsBlobs, StaysBut, Store, store_end, unit_at, Units, units_of, WhilePut, with_plan}
use Rattle.rpm_pkgdb.proofs.Changing.{map_ok, crashes_weaker, writes_then, crashes_next}
use Rattle.rpm_pkgdb.proofs.FramingLaws.{count-framed}
use Rattle.rpm_pkgdb.proofs.PlannedLaws.{may_grow, none_for}
use Rattle.rpm_pkgdb.proofs.PutEnds.{whole_part, replaced_zeros}
use Rattle.rpm_pkgdb.proofs.PutSteps.{after, was_held, place_fits, few_bytes, room, can_put, puts_from, put_freed}
use Rattle.rpm_pkgdb.proofs.Reaching.{end_within, old_ends, old_far, place_ends, grown_within, start_far, target_ends}
use Rattle.rpm_pkgdb.proofs.PutsTo.{puts_to, put_map}
use Rattle.rpm_pkgdb.proofs.StayLaws.{put_stay}
use Rattle.rpm_pkgdb.proofs.LeftLaws.{still_but, puts_but}
use Rattle.rpm_pkgdb.proofs.Written.{written}
use Rattle.rpm_pkgdb.proofs.store.PkgDb.write_plan.Goals as goal

pub grow-requires-clause-can : goal.grow-requires-clause-can
grow-requires-clause-can g c =
    let plan = c.args.plan.now in
    may_grow c.args.self.now plan.target.is_new (moves_of plan.page) c.requires.plan.page

pub returns-clause-writes : goal.returns-clause-writes
returns-clause-writes g c =
    writes_then g.D.Disk g.met.D.Disk.follows_trans c.grow.ensures.writes c.put_blob.ensures.writes (omega arith) (λ x y r. tt) (λ x y z r s. tt)

pub put_blob-requires : goal.put_blob-requires
put_blob-requires g c =
    let v = c.args.self.now in
    let plan = c.args.plan.now in
    let is = c.requires.plan in
    let some = c.requires.made in
    let kept = subst (λ (x : Store). IsKept c.self.inside.numbers.pairs x.pages x.slots) c.self.view_is c.self.invariant.kept in
    record {
      few = few_bytes v plan is some c.args.blob.now c.requires.length;
      blocks = room v plan is some c.args.blob.now c.requires.length;
      length_is = c.requires.length;
      number = is.target.number.1;
      place = place_fits v plan is some _ kept;
      end = c.requires.old.end;
    }

pub returns-in_err-grow-clause-crashes : goal.returns-in_err-grow-clause-crashes
returns-in_err-grow-clause-crashes g c = λ told quiet.
    let D = g.D.Disk in
    let v = c.args.self.now in
    let n = c.args.plan.now.target.number in
    let these : Option Units = Some (units_of (framed_blob n v.generation c.args.blob.now)) in
    let d = c.args.disk.now in
    let F0 = (D.files d).pkg in
    let still = c.grow.ensures.images told quiet in
    record {
      images =
          crashes_weaker D (RepresentsBlobs v F0) (PutsTo v c.args.plan.now.target c.args.blob.now F0) d c.grow.new.disk
          (λ image s. inl s.stands) still;
      left = crashes_weaker D (RepresentsBlobs v F0) (StaysBut n these v F0) d c.grow.new.disk (still_but n these v F0) still;
    }

pub returns-clause-crashes : goal.returns-clause-crashes
returns-clause-crashes g c = λ told quiet.
    let D = g.D.Disk in
    let v = c.args.self.now in
    let plan = c.args.plan.now in
    let n = plan.target.number in
    let blob = c.args.blob.now in
    let gen = c.self.inside.generation in
    let gen_is : gen ≡ v.generation = ap (λ (x : Store). x.generation) c.self.view_is in
    let is = c.requires.plan in
    let old = c.args.old in
    let can = can_put v plan is c.requires.made blob c.requires.length gen gen_is (omega arith) old c.requires.old.new c.requires.old.held in
    let a = c.args.disk.now in
    let b = c.grow.new.disk in
    let e = c.put_blob.new.disk in
    let F0 = (D.files a).pkg in
    let F1 = (D.files b).pkg in
    let mid = after v plan is c.requires.made in
    let these : Option Units = Some (units_of (framed_blob n v.generation blob)) in
    let page = c.in_ok-grow.ensures.grown told in
    let still = c.grow.ensures.images told quiet in
    let second = c.put_blob.ensures.images told mid can (page.quiet quiet) in
    let P = PutsTo v plan.target blob F0 in
    let B = StaysBut n these v F0 in
    record {
      images =
          crashes_next g.D.Disk told P c.grow.ensures.writes
          (crashes_weaker D (RepresentsBlobs v F0) P a b (λ image s. inl s.stands) still)
          (crashes_weaker D (WhilePut mid plan.target gen blob F1) P b e
          (λ image w. puts_from v plan is c.requires.made blob c.requires.length F0 F1 image page.blobs_are
          (puts_to mid plan.target gen old blob can F1 image page.kept w)) second);
      left =
          crashes_next g.D.Disk told B c.grow.ensures.writes
          (crashes_weaker D (RepresentsBlobs v F0) B a b (still_but n these v F0) still)
          (crashes_weaker D (WhilePut mid plan.target gen blob F1) B b e
          (λ image w. subst (λ (g : ℕ). StaysBut n (Some (units_of (framed_blob n g blob))) v F0 image) gen_is
          (puts_but v F0 mid plan.target gen old blob can F1 page.kept page.others image w)) second);
    }

pub returns-clause-put : goal.returns-clause-put
returns-clause-put g c =
    let D = g.D.Disk in
    let v = c.args.self.now in
    let plan = c.args.plan.now in
    let target = plan.target in
    let blob = c.args.blob.now in
    let gen = c.self.inside.generation in
    let gen_is : gen ≡ v.generation = ap (λ (x : Store). x.generation) c.self.view_is in
    let is = c.requires.plan in
    let some = c.requires.made in
    let old = c.args.old in
    let new = c.requires.old.new in
    let held = c.requires.old.held in
    let own = subst (λ (x : Store). IsKept c.self.inside.numbers.pairs x.pages x.slots) c.self.view_is c.self.invariant.kept in
    let can = can_put v plan is some blob c.requires.length gen gen_is (omega arith) old new held in
    let mid = after v plan is some in
    let e = c.put_blob.new.disk in
    let F0 = (D.files c.args.disk.now).pkg in
    let F1 = (D.files c.grow.new.disk).pkg in
    let F2 = (D.files e).pkg in
    let limit = max (length F0) (store_end (with_plan plan v)) in
    let within = end_within limit (with_plan plan v) (omega arith) in
    let short : length F0 ≤ limit = omega arith in
    map_ok c.put_blob.result (λ (put : IsTrue D.tells → IsBlobPut D c.grow.new.disk e target gen old blob) told.
    let p = put told in
    let page = c.in_ok-grow.ensures.grown told in
    let keeps = c.requires.keeps told in
    let stands = p.stands mid can page.kept in
    let is_next : target.is_new ≡ true → next_field target ≡ Some (target.number + 1) =
    λ is_new. ap (λ (b : Bool). if b then Some (target.number + 1) else None) is_new in
    let ends = target_ends _ v own some plan is old new held F0 keeps limit short within in
    record {
      written =
          written D e (with_plan plan v) (finite.insert (blobs F0 v) target.number (Some blob)) can.made stands.keeps (p.quiet mid can page.kept)
          (put_map mid target gen old blob can F1 F2 page.kept stands
          ∙ ap (λ (B : BlobMap). finite.insert B target.number (Some blob)) page.blobs_are);
      others = λ m differs. put_stay mid target gen old blob can F1 F2 page.kept stands m differs ∙ page.others m;
      framed_in =
          whole_part F2 target.start (blocks_for (length blob)) (units_of (framed_blob target.number gen blob))
          (count-framed target.number gen blob) stands.holds
          ∙ ap (λ (n : ℕ). units_of (framed_blob target.number n blob)) gen_is;
      next = λ is_new. subst (λ (o : Option ℕ). IfSome o (λ n. unit_at F2 1 ≡ next_unit n)) (is_next is_new) (p.next (new is_new));
      stays = λ not_new.
          p.stays (start_far _ v own some plan is old new held F0 keeps limit short within)
          (old_far _ v own some plan is old new held F0 keeps limit short within not_new) not_new
          ∙ ap (λ (u : Units). unit_at u 1) (page.stays (none_for v target.is_new (moves_of plan.page) is.page not_new));
      zeros = replaced_zeros v target is.number (was_held v plan is some) F0 F2 old some keeps held p.zeros;
      freed =
          put_freed v plan is some _ own old held F0 F1 F2 page.freed p.zeros
          (subst (λ (n : ℕ). KeepsBlank (target.place + 3) target.start (blocks_for n) F1 F2) (sym c.requires.length) p.blanks);
      reach =
          p.reach limit (subst (λ (n : ℕ). target.start + blocks_for n ≤ limit) c.requires.length ends)
          (place_ends _ v own some plan is old new held F0 keeps limit short within)
          (old_ends _ v own some plan is old new held F0 keeps limit short within)
          (page.reach limit (grown_within _ v own some plan is old new held F0 keeps limit short within) short);
    }) c.put_blob.ensures.put

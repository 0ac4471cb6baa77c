use Rattle.std.proofs.Common.{◌≡◌, ℕ, ◌+◌, ◌*◌, ◌≤◌, List, length, None, Some, refl, sym, ap, ◌∙◌, subst, arith, IsTrue}
use Rattle.rpm_pkgdb.proofs.Vocabulary.{StoreBeforeOrAfter, CanGrow, CanGrowFrom, CanMoveAll, end_of, IsKept, IsMovable, IsPageAdded, KeepsBlank, move_at}
use Rattle.rpm_pkgdb.proofs.Vocabulary.{MovesWithin, moving_cost, next_end, Slot, slot_at, RepresentsBlobs, Store, with_moves, with_page}
use Rattle.rpm_pkgdb.proofs.FreedLaws.{freed_page}
use Rattle.rpm_pkgdb.proofs.Changing.{map_ok, crashes_weaker, writes_then, writes_weaker, writes_failed, crashes_next}
use Rattle.rpm_pkgdb.proofs.GrowLaws.{grown_map}
use Rattle.rpm_pkgdb.proofs.GrowSteps.{movable, moved_within}
use Rattle.rpm_pkgdb.proofs.LeftLaws.{still_then, grows_to}
use Rattle.rpm_pkgdb.proofs.PlannedLaws.{can_grow}
use Rattle.rpm_pkgdb.proofs.Reaching.{moves_within}
use Rattle.rpm_pkgdb.proofs.StayLaws.{grown_stay}
use Rattle.rpm_pkgdb.proofs.store.PkgDb.grow_by.Goals as goal

pub move_all-requires-clause-movable : goal.move_all-requires-clause-movable
move_all-requires-clause-movable g c = λ i below.
    let v = c.args.self.now in
    let kept = subst (λ (x : Store). IsKept c.self.inside.numbers.pairs x.pages x.slots) c.self.view_is c.self.invariant.kept in
    let same : v.slots ≡ c.deref.result.now = ap (λ (x : Store). x.slots) (sym c.self.view_is) ∙ sym c.deref.ensures.value in
    subst (λ (l : List Slot). IsMovable l (move_at c.args.moves.now i)) same (movable v c.requires.made c.args.moves.now c.requires.can i below _ kept)

pub move_all-requires-clause-within : goal.move_all-requires-clause-within
move_all-requires-clause-within g c = λ told i below.
    let D = g.D.Disk in
    let v = c.args.self.now in
    let same : v.slots ≡ c.deref.result.now = ap (λ (x : Store). x.slots) (sym c.self.view_is) ∙ sym c.deref.ensures.value in
    let F0 = (D.files c.args.disk.now).pkg in
    subst (λ (l : List Slot). end_of (slot_at l (move_at c.args.moves.now i).place) ≤ length F0) same
    (moved_within v c.requires.made c.args.moves.now c.requires.can i below F0 (c.requires.keeps told))

pub returns-in_err-move_all-clause-images : goal.returns-in_err-move_all-clause-images
returns-in_err-move_all-clause-images g c = λ told quiet.
    let v = c.args.self.now in
    let same : v.slots ≡ c.deref.result.now = ap (λ (x : Store). x.slots) (sym c.self.view_is) ∙ sym c.deref.ensures.value in
    c.move_all.ensures.images told v (record { some = c.requires.made; same = same; are = c.requires.can.are }) quiet

pub returns-in_err-move_all-clause-writes : goal.returns-in_err-move_all-clause-writes
returns-in_err-move_all-clause-writes g c =
    let moves = c.args.moves.now in
    let same : c.deref.result.now ≡ c.args.self.now.slots = c.deref.ensures.value ∙ ap (λ (x : Store). x.slots) c.self.view_is in
    writes_failed g.D.Disk (writes_weaker g.D.Disk c.in_err-move_all.ensures.writes (omega (arith, ap (λ (l : List Slot). moving_cost l (Some moves)) same))
    (λ x y r. tt))

pub returns-clause-writes : goal.returns-clause-writes
returns-clause-writes g c =
    let moves = c.args.moves.now in
    let same : c.deref.result.now ≡ c.args.self.now.slots = c.deref.ensures.value ∙ ap (λ (x : Store). x.slots) c.self.view_is in
    writes_then g.D.Disk g.met.D.Disk.follows_trans c.move_all.ensures.writes c.add_page.ensures.writes
    (omega (arith, ap (λ (l : List Slot). moving_cost l (Some moves)) same)) (λ x y r. tt) (λ x y z r s. tt)

pub returns-clause-images : goal.returns-clause-images
returns-clause-images g c = λ told quiet.
    let D = g.D.Disk in
    let v = c.args.self.now in
    let moves = c.args.moves.now in
    let kept = subst (λ (x : Store). IsKept c.self.inside.numbers.pairs x.pages x.slots) c.self.view_is c.self.invariant.kept in
    let same : v.slots ≡ c.deref.result.now = ap (λ (x : Store). x.slots) (sym c.self.view_is) ∙ sym c.deref.ensures.value in
    let mid = with_moves v moves in
    let can : CanGrow mid = can_grow c.self.inside.numbers.pairs v kept c.requires.made moves c.requires.can in
    let from : CanGrowFrom c.self.inside.generation c.self.inside.pages mid =
    record { can = can; generation_is = ap (λ (x : Store). x.generation) c.self.view_is; pages_are = ap (λ (x : Store). x.pages) c.self.view_is } in
    let all : CanMoveAll c.deref.result.now moves v = record { some = c.requires.made; same = same; are = c.requires.can.are } in
    let d = c.args.disk.now in
    let F0 = (D.files d).pkg in
    let F1 = (D.files c.move_all.new.disk).pkg in
    let P = RepresentsBlobs v F0 in
    let m = c.in_ok-move_all.ensures.moved told in
    let before = c.requires.keeps told in
    crashes_next g.D.Disk told P c.move_all.ensures.writes (c.move_all.ensures.images told v all quiet)
    (crashes_weaker D (StoreBeforeOrAfter mid (with_page mid) F1) P c.move_all.new.disk c.add_page.new.disk
    (λ image w. still_then v mid F0 F1 image refl refl (m.blobs_are v all before) (m.others v all before)
    (grows_to mid can F1 (m.keeps v all before) image w))
    (c.add_page.ensures.images told mid from (m.quiet v all quiet)))

pub returns-clause-grown : goal.returns-clause-grown
returns-clause-grown g c =
    let D = g.D.Disk in
    let v = c.args.self.now in
    let moves = c.args.moves.now in
    let some = c.requires.made in
    let kept = subst (λ (x : Store). IsKept c.self.inside.numbers.pairs x.pages x.slots) c.self.view_is c.self.invariant.kept in
    let same : v.slots ≡ c.deref.result.now = ap (λ (x : Store). x.slots) (sym c.self.view_is) ∙ sym c.deref.ensures.value in
    let pages : v.pages ≡ c.self.inside.pages = ap (λ (x : Store). x.pages) (sym c.self.view_is) in
    let mid = with_moves v moves in
    let can : CanGrow mid = can_grow c.self.inside.numbers.pairs v kept some moves c.requires.can in
    let from : CanGrowFrom c.self.inside.generation c.self.inside.pages mid =
    record { can = can; generation_is = ap (λ (x : Store). x.generation) c.self.view_is; pages_are = ap (λ (x : Store). x.pages) c.self.view_is } in
    let all : CanMoveAll c.deref.result.now moves v = record { some = some; same = same; are = c.requires.can.are } in
    let end = 256 * (c.self.inside.pages + 1) in
    let end_is : end ≡ next_end v = ap (λ (x : Store). next_end x) c.self.view_is in
    let F0 = (D.files c.args.disk.now).pkg in
    let F1 = (D.files c.move_all.new.disk).pkg in
    let F2 = (D.files c.add_page.new.disk).pkg in
    map_ok c.add_page.result (λ (added : IsTrue D.tells
    → IsPageAdded D c.move_all.new.disk c.add_page.new.disk c.self.inside.generation c.self.inside.pages) told.
    let p = added told in
    let m = c.in_ok-move_all.ensures.moved told in
    let before = c.requires.keeps told in
    let keeps = m.keeps v all before in
    let stands = p.stands mid from keeps in
    record {
      kept = stands.keeps;
      quiet = λ quiet. p.quiet mid from keeps;
      blobs_are = grown_map mid can F1 F2 keeps stands ∙ m.blobs_are v all before;
      others = λ n. grown_stay mid can F1 F2 keeps stands n ∙ m.others v all before n;
      freed =
          freed_page (next_end v) v.slots mid.slots F0 F1 F2 (m.zeros v all before end_is) (subst (λ (n : ℕ). KeepsBlank n 0 0 F1 F2) end_is p.blanks);
      stays = λ none. absurd (let e : Some moves ≡ None = none in cc);
      reach = λ limit within short.
          p.reach limit (omega (arith, within.pages, pages)) (m.reach limit
          (λ i below. subst (λ (l : List Slot). MovesWithin limit l (move_at moves i)) same
          (moves_within v moves i c.requires.can.are below _ kept some c.requires.can F0 before limit within short)) short);
    }) c.add_page.ensures.added

use Rattle.rpm_pkgdb.proofs.Vocabulary.{AreMoved, blobs, blocks_with, CanMove, CanMoveAll, KeepsStore, Move, move_at, next_end, NoShorter, Pkg, pkg, Quiet, Slot}
use Rattle.rpm_pkgdb.proofs.Vocabulary.{RepresentsBlobs, started, IsTornOnly, CrashLeavesFile, Store, WhileMoved, Writes}
use Rattle.std.proofs.Common.{◌≡◌, ℕ, ◌+◌, ◌<◌, IsTrue, List, length, take, sym, ap, ◌∙◌, subst, arith, refl}
use Rattle.std.proofs.lemmas.List.{take_all}
use Rattle.rpm_outside.specs.declared.disk.Disk as disk
use Rattle.rpm_pkgdb.proofs.Changing.{done, crashes_weaker, writes_none, writes_then, writes_weaker, writes_failed, crashes_next}
use Rattle.rpm_pkgdb.proofs.LeftLaws.{stands_still, still_then, moves_to}
use Rattle.rpm_pkgdb.proofs.Moves.{moved_map}
use Rattle.rpm_pkgdb.proofs.MoveSteps.{old_slot, cost_to, cost_more, cost_few, current, next, old, kept, can_move, then_after}
use Rattle.rpm_pkgdb.proofs.FreedLaws.{freed_none}
use Rattle.rpm_pkgdb.proofs.FreedMoves.{freed_then}
use Rattle.rpm_pkgdb.proofs.StayLaws.{moved_stay}
use Rattle.rpm_pkgdb.proofs.added_page.move_all.Goals as goal

pub loop-k-init : goal.loop-k-init
loop-k-init g c =
    let D = g.D.Disk in
    let d = c.args.disk.now in
    record {
      moved = λ told. record {
        keeps = λ value all keeps. keeps;
        blobs_are = λ value all keeps. refl;
        others = λ value all keeps n. refl;
        zeros = λ value all keeps from_is. freed_none (next_end value) value.slots (D.files d).pkg;
        quiet = λ value all quiet. quiet;
        reach = λ limit each short. short;
      };
      images = λ told value all quiet.
          let P = RepresentsBlobs value (D.files d).pkg in
          let keeps : KeepsStore (D.files d).pkg value = (quiet (D.files d) (g.met.D.Disk.as_read d told)).keeps in
          started D d (IsTornOnly Pkg P (D.left_since d (D.moment d)))
          (λ image here. record {
            from = image;
            was = here;
            pkg = stands_still value (D.files d).pkg image.pkg all.some keeps (quiet image here);
            idx =
                refl;
            log = refl;
          });
      writes =
          writes_weaker D (writes_none D g.met.D.Disk.follows_refl d (λ x. omega arith)) (omega arith) (λ x y r. r);
    }

-- what crashes leave of one move more
crashes : {D : Type 0} (d : disk.Ghosts D) (a b e : D) (slots : List Slot) (moves : List Move) (k zeros_from : ℕ) → k < length moves → (told : IsTrue d.tells)
    → Writes d Pkg NoShorter (cost_to slots moves k) done a b
    → AreMoved d a b slots moves (take k moves) zeros_from → (value : Store) → CanMoveAll slots moves value → KeepsStore (pkg d a) value → Quiet d a value
    → CrashLeavesFile d a b (RepresentsBlobs value (pkg d a))
    → ((u : Store) → CanMove u (move_at moves k).place (old_slot slots (move_at moves k)) (move_at moves k).to → Quiet d b u
    → CrashLeavesFile d b e (WhileMoved u (move_at moves k).place (old_slot slots (move_at moves k)) (move_at moves k).to (pkg d b)))
    → CrashLeavesFile d a e (RepresentsBlobs value (pkg d a))
crashes d a b e slots moves k zeros_from lt told wrote so_far value all keeps quiet still more =
    let u = current value slots moves k all.some all.same all.are lt in
    let m = next value slots moves k all.some all.same all.are lt in
    let o = old value slots moves k all.some all.same all.are lt in
    let can = can_move value slots moves k all.some all.same all.are lt in
    let now = kept value slots moves k all.some all.same all.are lt in
    let P = RepresentsBlobs value (pkg d a) in
    crashes_next d told P wrote still
    (crashes_weaker d (WhileMoved u m.place o m.to (pkg d b)) P b e
    (λ image w. still_then value u (pkg d a) (pkg d b) image now.generation_is now.field_is (so_far.blobs_are value all keeps) (so_far.others value all keeps)
    (moves_to u m.place o m.to can (pkg d b) (so_far.keeps value all keeps) image w))
    (more u can (so_far.quiet value all quiet)))

pub returns-in_err-move_blocks-clause-images : goal.returns-in_err-move_blocks-clause-images
returns-in_err-move_blocks-clause-images g c = λ told value all quiet.
    let D = g.D.Disk in
    let l = c.loop-k in
    let d = c.args.disk.now in
    let keeps : KeepsStore (D.files d).pkg value = (quiet (D.files d) (g.met.D.Disk.as_read d told)).keeps in
    crashes D d l.disk c.move_blocks.new.disk c.args.slots.now c.args.moves.now l.k c.args.zeros_from c.loop-k-test.true told l.invariant.writes
    (l.invariant.moved told) value all keeps quiet (l.invariant.images told value all quiet) (c.move_blocks.ensures.images told)

pub returns-in_err-move_blocks-clause-writes : goal.returns-in_err-move_blocks-clause-writes
returns-in_err-move_blocks-clause-writes g c =
    let l = c.loop-k in
    let slots = c.args.slots.now in
    let moves = c.args.moves.now in
    writes_failed g.D.Disk (writes_then g.D.Disk g.met.D.Disk.follows_trans l.invariant.writes c.in_err-move_blocks.ensures.writes
    (omega (arith, cost_more slots moves l.k c.loop-k-test.true, cost_few slots moves (l.k + 1))) (λ x y r. r) (λ x y z r q. omega (arith, r, q)))

pub loop-k-preserved : goal.loop-k-preserved
loop-k-preserved g c =
    let D = g.D.Disk in
    let l = c.loop-k in
    let d = c.args.disk.now in
    let e = c.move_blocks.new.disk in
    let slots = c.args.slots.now in
    let moves = c.args.moves.now in
    let k = l.k in
    let lt : k < length moves = c.loop-k-test.true in
    let F0 = (D.files d).pkg in
    let F1 = (D.files l.disk).pkg in
    let F2 = (D.files e).pkg in
    record {
      moved = λ told.
          let so_far = l.invariant.moved told in
          let more = c.in_ok-move_blocks.ensures.moved told in
          record {
            keeps = λ value all keeps.
                let can = can_move value slots moves k all.some all.same all.are lt in
                subst (KeepsStore F2) (sym (then_after value slots moves k all.some all.same all.are lt))
                (more.stands (current value slots moves k all.some all.same all.are lt) can (so_far.keeps value all keeps)).keeps;
            blobs_are = λ value all keeps.
                let u = current value slots moves k all.some all.same all.are lt in
                let m = next value slots moves k all.some all.same all.are lt in
                let o = old value slots moves k all.some all.same all.are lt in
                let can = can_move value slots moves k all.some all.same all.are lt in
                let keeps1 : KeepsStore F1 u = so_far.keeps value all keeps in
                ap (blobs F2) (then_after value slots moves k all.some all.same all.are lt)
                ∙ moved_map u m.place o m.to can F1 keeps1 F2 (more.stands u can keeps1)
                ∙ so_far.blobs_are value all keeps;
            others = λ value all keeps n.
                let u = current value slots moves k all.some all.same all.are lt in
                let m = next value slots moves k all.some all.same all.are lt in
                let o = old value slots moves k all.some all.same all.are lt in
                let can = can_move value slots moves k all.some all.same all.are lt in
                let keeps1 : KeepsStore F1 u = so_far.keeps value all keeps in
                ap (λ (v : Store). blocks_with n v F2) (then_after value slots moves k all.some all.same all.are lt)
                ∙ moved_stay u m.place o m.to can F1 keeps1 F2 (more.stands u can keeps1) n ∙ so_far.others value all keeps n;
            zeros = λ value all keeps from_is.
                freed_then value slots moves k all.some all.same all.are lt c.args.zeros_from from_is F0 F1 F2 keeps
                (so_far.zeros value all keeps from_is) more.zeros more.blanks;
            quiet = λ value all quiet.
                let u = current value slots moves k all.some all.same all.are lt in
                let can = can_move value slots moves k all.some all.same all.are lt in
                let keeps : KeepsStore F0 value = (quiet (D.files d) (g.met.D.Disk.as_read d told)).keeps in
                subst (Quiet D e) (sym (then_after value slots moves k all.some all.same all.are lt))
                (more.quiet u can (so_far.keeps value all keeps));
            reach = λ limit each short. let m = each k lt in more.reach limit m.place m.from m.to (so_far.reach limit each short);
          };
      images = λ told value all quiet.
          let keeps : KeepsStore F0 value = (quiet (D.files d) (g.met.D.Disk.as_read d told)).keeps in
          crashes D d l.disk e slots moves k c.args.zeros_from lt told l.invariant.writes (l.invariant.moved told) value all keeps quiet
          (l.invariant.images told value all quiet) (c.move_blocks.ensures.images told);
      writes =
          writes_then D g.met.D.Disk.follows_trans l.invariant.writes c.in_ok-move_blocks.ensures.writes (omega (arith, cost_more slots moves k lt))
          (λ x y r. r) (λ x y z r q. omega (arith, r, q));
    }

pub returns-clause-moved : goal.returns-clause-moved
returns-clause-moved g c = λ told.
    let l = c.loop-k in
    let moves = c.args.moves.now in
    let all : take l.k moves ≡ moves = take_all l.k moves (omega arith) in
    subst (λ (ms : List Move). AreMoved g.D.Disk c.args.disk.now l.disk c.args.slots.now moves ms c.args.zeros_from) all (l.invariant.moved told)

pub returns-clause-writes : goal.returns-clause-writes
returns-clause-writes g c =
    let l = c.loop-k in
    writes_weaker g.D.Disk l.invariant.writes (cost_few c.args.slots.now c.args.moves.now l.k) (λ x y r. r)

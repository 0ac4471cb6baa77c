use Rattle.std.proofs.Common.{◌≡◌, ◌+◌, ◌-◌, ◌*◌, ◌/◌, ◌%◌, ◌≤◌, length, take, drop, arith}
use Rattle.std.proofs.lemmas.List.{length-take, length-drop}
use Rattle.rpm_group.proofs.Tables.{unit_in_part, inside_more, outside_more}
use Rattle.rpm_group.proofs.table.hold.Goals as goal

pub loop-done-preserved : goal.loop-done-preserved
loop-done-preserved c =
    let inv = c.loop-done.invariant in
    let bytes = c.args.bytes.now in
    let done = c.loop-done.done in
    let n = c.min-n.result in
    let size = 16 * (done + n) - 16 * done in
    let part = take size (drop (16 * done) bytes) in
    let is_size : size ≡ 16 * n = omega arith in
    let within : done + n ≤ length bytes / 16 = omega (arith, c.min-n.ensures) in
    let long : length part / 16 ≡ n = omega (arith, length-take size (drop (16 * done) bytes), length-drop (16 * done) bytes) in
    let place : 256 * ((c.args.unit + done) / 256) + (c.args.unit + done) % 256 ≡ c.args.unit + done = omega arith in
    record {
      place = within;
      inside = inside_more c.args.unit done n bytes part c.args.table.now.items c.loop-done.table.items c.hold_in.new.table.items long
          (λ k below. unit_in_part bytes done n size k is_size below) (256 * ((c.args.unit + done) / 256) + (c.args.unit + done) % 256) place
          c.hold_in.ensures.holds inv.inside;
      outside = outside_more c.args.unit done n bytes part c.args.table.now.items c.loop-done.table.items c.hold_in.new.table.items long
          (λ k below. unit_in_part bytes done n size k is_size below) (256 * ((c.args.unit + done) / 256) + (c.args.unit + done) % 256) place
          c.hold_in.ensures.holds inv.outside;
      pages = λ q there. c.hold_in.ensures.pages q (inv.pages q there);
    }

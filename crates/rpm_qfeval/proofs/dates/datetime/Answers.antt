use Rattle.std.proofs.Common.{◌≡◌, ◌/◌, ◌%◌, pos, ◌+ℤ◌, ◌*ℤ◌, arith, to_z, w64}
use Rattle.std.proofs.lemmas.Int.{to_z_pos}
use Rattle.rpm_qfeval.proofs.Vocabulary.{civil_nanos, epoch_day, time_nanos, time_seconds}
use Rattle.jiff_core.proofs.SignedLemmas.{signed_arith}
use Rattle.rpm_qfeval.proofs.Moments.{day_and_time}
use Rattle.rpm_qfeval.proofs.dates.datetime.Goals as goal

both : (c : goal.After-to_datetime) → (epoch_day c.to_datetime.result.date ≡ pos (c.args.second / 86400)) × (time_seconds c.to_datetime.result.time
    ≡ c.args.second % 86400)
unfolding civil_nanos
both c =
    let small : to_z w64 c.args.second ≡ pos c.args.second = to_z_pos w64 c.args.second (omega (arith, c.ranges.second.fits)) in
    let e : epoch_day c.to_datetime.result.date *ℤ pos 86_400_000_000_000 +ℤ pos (time_nanos c.to_datetime.result.time) ≡ pos c.args.second *ℤ pos
    1_000_000_000 = omega (arith, signed_arith, c.to_datetime.ensures, rw small at c.in-Ok.ensures.value) in
    let t = c.to_datetime.result.time in
    day_and_time (epoch_day c.to_datetime.result.date) (time_seconds t) t.subsec_nanosecond c.args.second
    (omega (arith, t.hour_in, t.minute_in, t.second_in)) t.subsec_in e

pub returns-clause-day : goal.returns-clause-day
returns-clause-day c = (both c).0

pub returns-clause-time : goal.returns-clause-time
returns-clause-time c = (both c).1

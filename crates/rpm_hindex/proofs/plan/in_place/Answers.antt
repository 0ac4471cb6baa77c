use Rattle.std.proofs.Common.{arith}
use Rattle.rpm_hindex.proofs.Going.{patches_behind}
use Rattle.rpm_hindex.proofs.plan.in_place.Goals as goal

pub returns-clause-can : goal.returns-clause-can
returns-clause-can c = λ units fits.
    let s = c.args.change in
    let go = c.requires.go in record {
      each = patches_behind s.extent.used s.units c.patches_of.ensures.ordered go.units c.in-Ok.units.items c.in-Ok.ensures.units;
      whole = go.whole;
      from = omega (arith, go.front);
      room = go.room;
      fits = fits;
    }

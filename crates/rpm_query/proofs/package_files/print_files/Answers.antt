use Rattle.std.proofs.Common.{refl, ◌∙◌, arith}
use Rattle.rpm_query.proofs.Vocabulary.{inner}
use Rattle.rpm_query.proofs.Filed.{file_here}
use Rattle.rpm_query.proofs.Turns.{few_more, turned_none, turned_more, turned_stop}
use Rattle.rpm_query.proofs.package_files.print_files.Goals as goal

pub loop-k-init : goal.loop-k-init
loop-k-init g c = record {
  paths = λ told. refl;
  shelf = omega arith;
  out = omega arith;
  err = omega arith;
  out_rest = g.met.O.Sink.follows_refl (inner c.args.out.now);
  err_rest = g.met.E.Sink.follows_refl (inner c.args.err.now);
  few = omega arith;
  turned = λ told. turned_none;
}

pub loop-k-preserved : goal.loop-k-preserved
loop-k-preserved g c =
    let k = c.loop-k.k in
    let inv = c.loop-k.invariant in
    let done = c.in-Ok.ensures in
    record {
      paths = λ told. done.paths told ∙ inv.paths told;
      shelf = omega (arith, inv.shelf, done.shelf.later);
      out = omega (arith, inv.out, done.hands.out.cause.later);
      err = omega (arith, inv.err, done.hands.err.cause.later);
      out_rest = g.met.O.Sink.follows_trans (inner c.args.out.now) (inner c.loop-k.out) (inner c.print_file.new.out) inv.out_rest done.hands.out.goes_on;
      err_rest = g.met.E.Sink.follows_trans (inner c.args.err.now) (inner c.loop-k.err) (inner c.print_file.new.err) inv.err_rest done.hands.err.goes_on;
      few = rw c.count-failed.ensures (few_more c.in-Ok.fails c.loop-k.failed k inv.few);
      turned = λ told. rw c.count-failed.ensures (turned_more (inv.turned told) c.argument.ensures
          (file_here c.args.format.now k (inv.paths told) c.text_at-path.ensures (done.went told k)));
    }

pub returns-in-Err-clause-went : goal.returns-in-Err-clause-went
returns-in-Err-clause-went g c = λ told.
    let inv = c.loop-k.invariant in
    rw c.from.ensures (turned_stop (inv.turned told) c.argument.ensures _ (λ b any. any)
    (file_here c.args.format.now c.loop-k.k (inv.paths told) c.text_at-path.ensures (c.in-Err.ensures.went told c.loop-k.k)))

use Rattle.std.proofs.Common.{◌++◌, List, ℕ, arith, sym, ap}
use Rattle.rpm_filecheck.proofs.Vocabulary.{concat}
use Rattle.rpm_filecheck.proofs.Placed.{within, concat_more, concat_end}
use Rattle.rpm_filecheck.proofs.paths.bytes_of.Goals as goal

pub loop-part-init : goal.loop-part-init
loop-part-init c = ap (λ (bs : List ℕ). bs ++ concat c.args.text.now) c.in_ok-bytes.ensures.items

pub overflow_add-k : goal.overflow_add-k
overflow_add-k c = omega (arith, within c.args.text.now c.loop-part.k _ (sym c.in-Some.ensures.value), c.in-Some.ensures.few)

pub loop-part-smaller : goal.loop-part-smaller
loop-part-smaller c = omega (arith, within c.args.text.now c.loop-part.k _ (sym c.in-Some.ensures.value))

pub loop-part-preserved : goal.loop-part-preserved
loop-part-preserved c =
    concat_more c.args.text.now c.loop-part.k c.in-Some.part.now _ c.loop-part.bytes.items (sym c.in-Some.ensures.value) c.loop-part.invariant
    c.extend_from_slice.new.self.items c.in_ok-extend_from_slice.ensures.items

pub returns : goal.returns
returns c = concat_end c.args.text.now c.loop-part.k _ c.loop-part.bytes.items (sym c.in_default.ensures.value) c.loop-part.invariant

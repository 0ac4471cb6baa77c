use Rattle.std.proofs.Common.{◌≡◌, ◌≤◌, length, ap, sym, arith}
use Rattle.rpm_words.proofs.Vocabulary.{arguments, said_tokens}
use Rattle.rpm_words.proofs.Counts.{few_arguments}
use Rattle.rpm_words.proofs.Memory.{not_memory}
use Rattle.rpm_words.proofs.ask.read_options.Goals as goal

pub returns-in-Some-clause-memory : goal.returns-in-Some-clause-memory
returns-in-Some-clause-memory c = λ e.
    absurd (not_memory c.args.words.now c.deref-3.result.now c.seen_in-seen.result c.deref-4.result.now c.in-Some.fault (sym c.in-Some.ensures) e)

pub invariant_of-result : goal.invariant_of-result
invariant_of-result c =
    let e : c.in-Ok-arguments_of.arguments.items ≡ arguments (said_tokens c.args.program c.args.words.now) =
    cc (c.in-Ok-arguments_of.ensures, c.deref.ensures.value, c.in-Ok.ensures.tokens)
    in
    let few : length (arguments (said_tokens c.args.program c.args.words.now)) ≤ length c.args.words.now = few_arguments _ _ in
    let same : length c.in-Ok-arguments_of.arguments.items ≡ length (arguments (said_tokens c.args.program c.args.words.now)) = ap length e in
    omega (arith, few, same, c.in-Ok.ensures.few)

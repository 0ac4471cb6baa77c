use Rattle.std.proofs.Common.{◌≡◌, ◌++◌, drop}
use Rattle.rpm_words.proofs.Vocabulary.{argument_in, filter_map}
use Rattle.rpm_words.proofs.ask.arguments_of.Given as goal

abbrev pub invariant-loop-token : goal.invariant-loop-token
invariant-loop-token l = l.places.items ++ filter_map argument_in (drop l.token-index l.tokens) ≡ filter_map argument_in l.tokens

use Rattle.std.proofs.Common.{◌≡◌, ◌++◌, drop}
use Rattle.rpm_words.proofs.Vocabulary.{earliest, early_word_fault, filter_map, option_to_list, token_fault}
use Rattle.rpm_words.proofs.broken.early_fault.Given as goal

abbrev pub invariant-loop-token : goal.invariant-loop-token
invariant-loop-token l =
    earliest (option_to_list l.first ++ filter_map (token_fault l.words l.command l.chosen) (drop l.token-index l.tokens))
    ≡ early_word_fault l.words l.command l.chosen l.tokens

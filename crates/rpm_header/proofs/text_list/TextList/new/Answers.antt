use Rattle.std.proofs.Common.{[], refl}
use Rattle.rpm_header.proofs.TextsAgain.{joined_again}
use Rattle.rpm_header.proofs.text_list.TextList.new.Goals as goal

pub invariant_of-result : goal.invariant_of-result
invariant_of-result c = (joined_again [] 0 c.new.result.items tt refl c.new.ensures.items).1

pub returns : goal.returns
returns c = (joined_again [] 0 c.new.result.items tt refl c.new.ensures.items).0

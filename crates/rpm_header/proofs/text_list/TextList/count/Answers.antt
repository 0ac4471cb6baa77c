use Rattle.std.proofs.Common.{sym, ap, length, List, ℕ, ◌∙◌}
use Rattle.rpm_header.proofs.Whole.{length-texts}
use Rattle.rpm_header.proofs.text_list.TextList.count.Goals as goal

pub returns : goal.returns
returns c = sym (length-texts c.self.inside.count c.self.inside.bytes.items) ∙ ap (λ (ts : List (List ℕ)). length ts) c.self.view_is

use Rattle.std.proofs.Common.{◌++◌, ◌∷◌, [], List, ℕ, set, sym, ap, ◌∙◌}
use Rattle.std.proofs.lemmas.List.{map-set, get_or-map}
use Rattle.rpm_graph.proofs.Vocabulary.{row_lists}
use Rattle.rpm_graph.proofs.rows.push_link.Goals as goal

pub returns : goal.returns
returns c =
    map-set (λ r. r.items) c.args.rows.now c.args.from c.push.new.self
    ∙ ap (λ (l : List ℕ). set (row_lists c.args.rows.now) c.args.from l) (c.in_ok-push.ensures.items
    ∙ ap (λ (l : List ℕ). l ++ c.args.to ∷ []) (sym (get_or-map (λ r. r.items) c.args.rows.now c.args.from c.index-rows-from.result [] c.requires)))

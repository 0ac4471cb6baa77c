use Rattle.std.proofs.Common.{List, Vec, ℕ, set, refl, ap, ◌∙◌}
use Rattle.std.proofs.lemmas.List.{map-set}
use Rattle.rpm_graph.proofs.Vocabulary.{row_lists}
use Rattle.rpm_graph.proofs.listing.Listing.mark.Goals as goal

pub returns-clause-listed : goal.returns-clause-listed
returns-clause-listed c =
    let rows = c.args.self.now.waiting.items in
    let empty = ap (λ (v : Vec ℕ _). v.items) c.replace.ensures.after ∙ c.new.ensures.items in
    record {
      checked = refl;
      waiting = map-set (λ r. r.items) rows c.args.class c.replace.new.dest ∙ ap (λ (l : List ℕ). set (row_lists rows) c.args.class l) empty;
      listed = refl;
      ready = refl;
    }

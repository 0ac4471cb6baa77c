use Rattle.std.proofs.Common.{◌≡◌, List, ℕ, length, take, Ok, sym, ap, ◌∙◌}
use Rattle.rpm_db.proofs.Vocabulary.{Good, header, read_as}
use Rattle.rpm_db.proofs.reading.cut_header.Goals as goal

pub returns : goal.returns
returns c =
    let is : header c.args.blob.items ≡ Ok c.in-Ok.view = cc in
    let own : take (length c.in-Ok.view.blob) c.args.blob.items ≡ c.in-Ok.view.blob =
    ap (λ (bytes : List ℕ). take (length c.in-Ok.view.blob) bytes) (sym c.deref.ensures.value) ∙ c.in-Ok.ensures.own in
    let cut : c.truncate.new.self.items ≡ take (length c.in-Ok.view.blob) c.args.blob.items =
    c.truncate.ensures.items ∙ ap (λ (bytes : List ℕ). take (length bytes) c.args.blob.items) c.blob.ensures.value in
    ap read_as is ∙ ap Good (sym (cut ∙ own))

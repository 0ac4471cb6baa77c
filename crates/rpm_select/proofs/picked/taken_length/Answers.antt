use Rattle.std.proofs.Common.{◌≡◌, ℕ, List, true, false, length, take, Ok, sym, ap, subst, ◌∙◌}
use Rattle.rpm_select.proofs.Vocabulary.{Good, header, is_picked, Package, read_as, takes_header, takes_read}
use Rattle.rpm_select.proofs.picked.taken_length.Goals as goal

pub returns-in-Ok-true-clause-told : goal.returns-in-Ok-true-clause-told
returns-in-Ok-true-clause-told c =
    let is : header c.args.blob.now ≡ Ok c.in-Ok.view = cc in
    let found : read_as (header c.args.blob.now) ≡ Good c.in-Ok.view.blob = ap read_as is in
    let again : header c.in-Ok.view.blob ≡ Ok c.in-Ok.view = ap header (sym c.blob-length.ensures.value) ∙ c.blob-length.ensures.again in
    let answer : true ≡ takes_header c.args.selection.now c.args.number c.in-Ok.view = rw c.in-Ok-true.field-0-test at c.in-Ok-true.ensures in
    let cut : c.in-Ok.view.blob ≡ take (length c.blob-length.result.now) c.args.blob.now =
    sym (ap (λ (xs : List ℕ). take (length xs) c.args.blob.now) c.blob-length.ensures.value ∙ c.in-Ok.ensures.own) in (
      subst (λ (p : Package). is_picked c.args.selection.now (c.args.number, p) ≡ true) (sym found)
          (ap (takes_read c.args.selection.now c.args.number) again ∙ sym answer),
      found ∙ ap Good cut,
      (c.in-Ok.view, ap header (sym cut) ∙ again, cut),
    )

pub returns-in-Ok-false-clause-told : goal.returns-in-Ok-false-clause-told
returns-in-Ok-false-clause-told c =
    let is : header c.args.blob.now ≡ Ok c.in-Ok.view = cc in
    let found : read_as (header c.args.blob.now) ≡ Good c.in-Ok.view.blob = ap read_as is in
    let again : header c.in-Ok.view.blob ≡ Ok c.in-Ok.view = ap header (sym c.blob-length.ensures.value) ∙ c.blob-length.ensures.again in
    let answer : false ≡ takes_header c.args.selection.now c.args.number c.in-Ok.view = rw c.in-Ok-false.field-0-test at c.in-Ok-false.ensures in
    subst (λ (p : Package). is_picked c.args.selection.now (c.args.number, p) ≡ false) (sym found) (ap (takes_read c.args.selection.now c.args.number) again
    ∙ sym answer)

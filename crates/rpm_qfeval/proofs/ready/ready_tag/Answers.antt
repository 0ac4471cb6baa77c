use Rattle.std.proofs.Common.{◌≡◌, Some, sym, ap, ◌∙◌, rules}
use Rattle.std.proofs.lemmas.Bool.{not-false}
use denote.Enum.Bare.{same_true}
use Rattle.rpm_qfparse.specs.contracts.tree.Role as role_row
use Rattle.rpm_qfparse.specs.contracts.tree.Show as show_row
use Rattle.rpm_qfeval.proofs.Plain.{plain_texts, plain_numbers, stored_texts, stored_numbers}
use Rattle.rpm_qfparse.specs.declared.tree.Role.TheVariants as role
use Rattle.rpm_qfparse.specs.declared.tree.Show.TheVariants as show
use Rattle.rpm_qfeval.proofs.ready.ready_tag.Goals as goal

pub returns-in-Some : goal.returns-in-Some
returns-in-Some c =
    let element : c.args.tag.now.role ≡ role.Element = same_true role_row.the_type (search rules) _ _ (not-false _ (sym c.ne.ensures ∙ c.if-ne.false)) in
    let plain : c.args.tag.now.show ≡ show.Plain = same_true show_row.the_type (search rules) _ _ (not-false _ (sym c.ne-else-ne.ensures ∙ c.if-ne-2.false)) in
    plain_texts c.args.view.now c.args.number c.args.tag.now c.if-tag-ne0.false element plain c.new.result
    (stored_texts c.args.view.now c.args.number c.in-Stored.stored c.args.tag.now.tag c.new.result c.in-Stored.is
    (ap Some c.new.ensures ∙ c.in-Some.ensures))

pub returns-in-Some-numbers_in : goal.returns-in-Some-numbers_in
returns-in-Some-numbers_in c =
    let element : c.args.tag.now.role ≡ role.Element = same_true role_row.the_type (search rules) _ _ (not-false _ (sym c.ne.ensures ∙ c.if-ne.false)) in
    let plain : c.args.tag.now.show ≡ show.Plain = same_true show_row.the_type (search rules) _ _ (not-false _ (sym c.ne-else-ne.ensures ∙ c.if-ne-2.false)) in
    plain_numbers c.args.view.now c.args.number c.args.tag.now c.if-tag-ne0.false element plain c.in-Some-numbers_in.numbers
    (stored_numbers c.args.view.now c.args.number c.in-Stored.stored c.args.tag.now.tag c.in-Some-numbers_in.numbers c.in-Stored.is
    c.in-Some-numbers_in.ensures)

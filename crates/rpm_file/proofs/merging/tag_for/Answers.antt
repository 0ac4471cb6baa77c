use Rattle.std.proofs.Common.{◌≡◌, ◌∙◌, sym, ap, subst, false, None, Some}
use Rattle.rpm_file.proofs.Vocabulary.{is_null, joins_as, JoinsUnder}
use Rattle.rpm_file.proofs.Merged.{none_null, none_joins, none_twice, joins, not_null}
use Rattle.rpm_file.proofs.merging.tag_for.Goals as goal

pub returns-then-is_null : goal.returns-then-is_null
returns-then-is_null c = λ main told. none_null main c.args.entry.now (ap is_null (sym c.form.ensures.value) ∙ sym c.is_null.ensures ∙ c.if-is_null.true)

pub returns-in_err-tag : goal.returns-in_err-tag
returns-in_err-tag c = λ main told.
    let other : is_null c.args.entry.now.form ≡ false = ap is_null (sym c.form.ensures.value) ∙ sym c.is_null.ensures ∙ c.if-is_null.false in
    let nowhere : joins_as c.args.entry.now.tag ≡ None = ap joins_as (sym c.tag.ensures) ∙ sym c.in_err-tag.ensures.value in
    subst (JoinsUnder main c.args.entry.now) (sym c.from_residual.ensures) (none_joins main c.args.entry.now other nowhere)

pub returns-then-has-tag : goal.returns-then-has-tag
returns-then-has-tag c = λ main told.
    let other : is_null c.args.entry.now.form ≡ false = ap is_null (sym c.form.ensures.value) ∙ sym c.is_null.ensures ∙ c.if-is_null.false in
    let under : joins_as c.args.entry.now.tag ≡ Some c.in_ok-tag.tag = ap joins_as (sym c.tag.ensures) ∙ sym c.in_ok-tag.ensures.value in
    none_twice main c.args.entry.now c.in_ok-tag.tag other under (sym (told.told c.in_ok-tag.tag c.in_ok-tag.ensures.small) ∙ c.if-has-tag.true)

pub returns : goal.returns
returns c = λ main told.
    let other : is_null c.args.entry.now.form ≡ false = ap is_null (sym c.form.ensures.value) ∙ sym c.is_null.ensures ∙ c.if-is_null.false in
    let under : joins_as c.args.entry.now.tag ≡ Some c.in_ok-tag.tag = ap joins_as (sym c.tag.ensures) ∙ sym c.in_ok-tag.ensures.value in
    let has = sym (told.told c.in_ok-tag.tag c.in_ok-tag.ensures.small) ∙ c.if-has-tag.false in
    (joins main c.args.entry.now c.in_ok-tag.tag other under has, c.in_ok-tag.ensures.own, not_null c.args.entry.now.form other)

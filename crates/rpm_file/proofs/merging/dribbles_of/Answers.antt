use Rattle.std.proofs.Common.{◌∙◌, ◌++◌, ◌∷◌, [], sym, subst, ap, List}
use Rattle.rpm_file.proofs.Vocabulary.{dribble, HasTags, Item, with_tag}
use Rattle.rpm_file.proofs.Merged.{next_joins, next_passed}
use Rattle.rpm_file.proofs.merging.dribbles_of.Goals as goal
use Rattle.rpm_file.proofs.merging.dribbles_of.Goals.{in-Some+in_ok-push_entry, in_default}

pub loop-i-preserved : goal.loop-i-preserved
loop-i-preserved c =
    let main = c.args.main.now.entries in
    let signature = c.args.signature.now.entries in
    let i = c.loop-i.i in
    let e = c.entry-entry.result in
    let told = subst (HasTags main) (sym c.deref.ensures.value) c.in_ok-has.ensures in
    elim c.match-tag_for.branch [
      | in-Some+in_ok-push_entry w ↦
          w.builder-is ∙ w.in_ok-push_entry.ensures.ok
          ∙ ap (λ (es : List Item). es ++ with_tag w.in-Some.tag e ∷ []) c.loop-i.invariant
          ∙ sym (next_joins (dribble main) signature i e (with_tag w.in-Some.tag e) c.entry-entry.ensures (w.in-Some.ensures main told).0)
      | in_default w ↦ w.builder-is ∙ c.loop-i.invariant ∙ sym (next_passed (dribble main) signature i e c.entry-entry.ensures (w.in_default.ensures main told))
    ]

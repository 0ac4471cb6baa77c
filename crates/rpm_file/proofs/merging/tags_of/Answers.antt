use Rattle.std.proofs.Common.{◌+◌, sym, subst, take, arith, Bool, Vec, Global}
use Rattle.rpm_file.proofs.Vocabulary.{HasTags}
use Rattle.rpm_file.proofs.Tagged.{tags_begun, tags_noted, tags_kept}
use Rattle.rpm_file.proofs.merging.tags_of.Goals as goal
use Rattle.rpm_file.proofs.merging.tags_of.Goals.{then-tag-lt-TAGS, else-tag-lt-TAGS}

pub loop-i-init : goal.loop-i-init
loop-i-init c = tags_begun c.new-has.result.items c.resize.new.self.items _ c.new-has.ensures.items c.new-has.ensures.len c.in_ok-resize.ensures.items

pub loop-i-preserved : goal.loop-i-preserved
loop-i-preserved c =
    let entries = c.args.main.now.entries in
    let i = c.loop-i.i in
    let after = λ (v : Vec Bool Global). HasTags (take (i + 1) entries) v.items in
    elim c.if-tag-lt-TAGS.branch [
      | then-tag-lt-TAGS w ↦ (subst after (sym w.has-is) (tags_noted entries i c.tag-tag.result c.entry.result c.loop-i.has.items c.entry.ensures
          c.tag-tag.ensures w.if-tag-lt-TAGS.true c.loop-i.invariant))
      | else-tag-lt-TAGS w ↦ (subst after (sym w.has-is) (tags_kept entries i c.entry.result c.loop-i.has.items c.entry.ensures
          (omega (arith, c.tag-tag.ensures, w.if-tag-lt-TAGS.false)) c.loop-i.invariant))
    ]

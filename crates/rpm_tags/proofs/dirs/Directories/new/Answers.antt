use Rattle.std.proofs.Common.{refl, arith}
use Rattle.std.proofs.lemmas.List.Elements.{All-replicate}
use Rattle.rpm_tags.proofs.Vocabulary.{IsDirectoryRead}
use Rattle.rpm_tags.proofs.dirs.Directories.new.Goals as goal

pub invariant_of-result : goal.invariant_of-result
invariant_of-result c = record {
  left = c.iter.ensures.value;
  within = omega arith;
  few = omega arith;
  all_short = c.iter.ensures.short;
  kept = refl;
  seen = All-replicate (IsDirectoryRead c.args.all.now) 16 _ (c.text.ensures.value, c.text.ensures.short);
  placed = tt;
}

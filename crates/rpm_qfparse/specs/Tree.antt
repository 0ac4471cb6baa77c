-- The tree of a format: its parts, one after the other.
use Rattle.std.specs.Prelude.{ℕ, ◌+◌, List}
use Rattle.rpm_tags.specs.declared.tag.Tag.{Tag}
use Rattle.rpm_qfparse.specs.declared.tree.TagPart.{TagPart}

-- The first part, with the parts after it: literal bytes, a tag, a bracket with the parts in it, or a condition with
-- the parts of its two branches.
pub data Tree : Type 0 where
  End : Tree
  Text : List ℕ → Tree → Tree
  Tagged : TagPart → Tree → Tree
  Bracket : Tree → Tree → Tree
  Condition : Tag → Tree → Tree → Tree → Tree

-- how many parts there are, those in parts and the ends counted too
abbrev pub weight : Tree → ℕ
weight End = 1
weight (Text b rest) = 1 + weight rest
weight (Tagged t rest) = 1 + weight rest
weight (Bracket inner rest) = 1 + weight inner + weight rest
weight (Condition t first second rest) = 1 + weight first + weight second + weight rest

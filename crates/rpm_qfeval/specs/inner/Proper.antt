-- Parts of a format that was read, in a bracket or not, within some number of conditions.
use Rattle.std.specs.Prelude.{◌≡◌, ℕ, Bool, true, false}
use Rattle.rpm_qfparse.specs.Tree.{Tree}
use Rattle.rpm_qfparse.specs.Law.{IsProper}
use Rattle.rpm_qfparse.specs.declared.tree.Part.{Part}
use Rattle.rpm_qfparse.specs.declared.tree.Part.TheVariants as part

abbrev pub AreProper : Bool → Tree → Type 0
AreProper in_bracket tree = (depth : ℕ) × IsProper in_bracket depth tree

-- a part is proper where no bracket is in a bracket
abbrev pub PartIsProper : Bool → Part → Type 0
PartIsProper in_bracket (part.Text text) = Unit {0}
PartIsProper in_bracket (part.Tag p) = Unit {0}
PartIsProper in_bracket (part.Bracket inner) = (in_bracket ≡ false) × AreProper true inner
PartIsProper in_bracket (part.Condition tag first second) = AreProper in_bracket first × AreProper in_bracket second

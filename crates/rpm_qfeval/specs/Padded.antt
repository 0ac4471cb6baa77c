-- A text in a width.
use Rattle.std.specs.Prelude.{ℕ, ◌-◌, Bool, true, false, List, ◌++◌, length, replicate}
use Rattle.rpm_qfparse.specs.declared.tree.TagPart.{TagPart}

-- a text is padded with spaces after it where it stands at the left, else before it; a longer text isn't cut
abbrev pub padded_text : Bool → ℕ → List ℕ → List ℕ
padded_text true width text = text ++ replicate (width - length text) 32
padded_text false width text = replicate (width - length text) 32 ++ text

-- a text stands in the width of its tag
abbrev pub in_width : TagPart → List ℕ → List ℕ
in_width p text = padded_text p.left p.width text

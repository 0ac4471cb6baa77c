-- What a format means for a header and a number: bytes, or two counts that differ.
use Rattle.std.specs.Prelude.{ℕ, List, [], ◌∷◌, ◌++◌, codes, map, find, filter_map, Bool}
use Rattle.std.specs.Prelude.{not, ◌==◌, if◌then◌else◌, is_some, Option, Some, None, Result, Ok, Err}
use Rattle.std.specs.List.{concat, range_with_len}
use Rattle.std.specs.Option.{option_map, option_or}
use Rattle.rpm_header.specs.Header.{Header}
use Rattle.rpm_tags.specs.declared.tag.Tag.{Tag}
use Rattle.rpm_tags.specs.Value.{Elements, value, count_of}
use Rattle.rpm_qfparse.specs.declared.tree.TagPart.{TagPart}
use Rattle.rpm_qfparse.specs.declared.tree.Role.{Role}
use Rattle.rpm_qfparse.specs.declared.tree.Role.TheVariants as role
use Rattle.rpm_qfparse.specs.declared.tree.Show.{Show}
use Rattle.rpm_qfparse.specs.declared.tree.Part.{Part}
use Rattle.rpm_qfparse.specs.declared.tree.Part.TheVariants as part
use Rattle.rpm_qfparse.specs.Tree.{Tree, End, Text, Tagged, Bracket, Condition}
use Rattle.rpm_qfparse.specs.Shape.{parts_of_tree}
use Rattle.rpm_qfeval.specs.Formatters.{number_text, shown_element, or_none}
use Rattle.rpm_qfeval.specs.Padded.{in_width}

-- ---- a tag

-- a value has this text in a round: the element of that round, the first one, or how many there are, which is shown
-- as a number
abbrev pub value_text : Role → Show → ℕ → Elements → List ℕ
value_text role.Element f round v = or_none (shown_element f v round)
value_text role.First f round v = or_none (shown_element f v 0)
value_text role.Count f round v = number_text f (count_of v) (count_of v)

-- a value that may be missing has this text in a round
abbrev pub text_or_none : Role → Show → ℕ → Option Elements → List ℕ
text_or_none r f round None = or_none None
text_or_none r f round (Some v) = value_text r f round v

-- a value that may be missing has this text in a round, in the width of its tag
abbrev pub found_text : TagPart → ℕ → Option Elements → List ℕ
found_text p round v = in_width p (text_or_none p.role p.show round v)

abbrev pub element_text : TagPart → Elements → ℕ → List ℕ
element_text p v place = in_width p (or_none (shown_element p.show v place))

-- ---- a bracket

-- a tag that prints its elements counts them, where it is present
abbrev pub count_in : Role → Option Elements → Option ℕ
count_in role.Element v = option_map count_of v
count_in _ v = None

-- the first count, and the first other one
abbrev pub different : List ℕ → Option (ℕ × ℕ)
different [] = None
different (n ∷ rest) = option_map (λ m. (n, m)) (find (λ m. not (m == n)) rest)

-- a round for each element
abbrev pub rounds : List ℕ → (ℕ → List ℕ) → List ℕ
rounds [] round = codes "(none)\n"
rounds (n ∷ rest) round = concat (map round (range_with_len 0 n))

-- ---- the whole

module _ (h : Header) (number : ℕ) where
  -- the header has the tag
  abbrev pub is_present : Tag → Bool
  is_present tag = is_some (value h number tag)

  -- a tag in a round
  abbrev pub tag_text : ℕ → TagPart → List ℕ
  tag_text round p = found_text p round (value h number p.tag)

  -- how many elements a part asks for in a bracket, where it is such a tag
  abbrev pub direct : Part → Option ℕ
  direct (part.Tag p) = count_in p.role (value h number p.tag)
  direct _ = None

  -- a bracket's counts are those of its tags, but for tags in conditions
  abbrev pub counts : Tree → List ℕ
  counts inner = filter_map direct (parts_of_tree inner)

  -- the counts that differ of the first such bracket that would be printed
  unfoldable pub sizes : Tree → Option (ℕ × ℕ)
  sizes End = None
  sizes (Text text rest) = sizes rest
  sizes (Tagged p rest) = sizes rest
  sizes (Bracket inner rest) = option_or (different (counts inner)) (sizes rest)
  sizes (Condition tag first second rest) =
      option_or (if is_present tag then sizes first else sizes second) (sizes rest)

  -- what is printed in a round; outside of brackets that is round 0
  unfoldable pub bytes : ℕ → Tree → List ℕ
  bytes round End = []
  bytes round (Text text rest) = text ++ bytes round rest
  bytes round (Tagged p rest) = tag_text round p ++ bytes round rest
  bytes round (Bracket inner rest) = rounds (counts inner) (λ i. bytes i inner) ++ bytes round rest
  bytes round (Condition tag first second rest) =
      (if is_present tag then bytes round first else bytes round second) ++ bytes round rest

  -- what a bracket prints
  abbrev pub bracket_bytes : Tree → List ℕ
  bracket_bytes inner = rounds (counts inner) (λ i. bytes i inner)

  -- two counts that differ, or else the bytes
  abbrev pub bytes_or : Option (ℕ × ℕ) → Tree → Result (List ℕ) (ℕ × ℕ)
  bytes_or None tree = Ok (bytes 0 tree)
  bytes_or (Some s) tree = Err s

  -- what the whole format means: its bytes, or the first two counts that differ
  abbrev pub meaning : Tree → Result (List ℕ) (ℕ × ℕ)
  meaning tree = bytes_or (sizes tree) tree

  -- ---- the same of one part

  -- the counts that differ in a part
  abbrev pub part_sizes : Part → Option (ℕ × ℕ)
  part_sizes (part.Text text) = None
  part_sizes (part.Tag p) = None
  part_sizes (part.Bracket inner) = different (counts inner)
  part_sizes (part.Condition tag first second) = if is_present tag then sizes first else sizes second

  -- what a part prints in a round
  abbrev pub part_bytes : ℕ → Part → List ℕ
  part_bytes round (part.Text text) = text
  part_bytes round (part.Tag p) = tag_text round p
  part_bytes round (part.Bracket inner) = bracket_bytes inner
  part_bytes round (part.Condition tag first second) = if is_present tag then bytes round first else bytes round second

-- The definition of a format, computed on small texts: what it says doesn't come from the code.
use Rattle.std.specs.Prelude.{◌≡◌, ℕ, [], ◌∷◌, codes, Result, Ok, Err, true, false, refl}
use Rattle.rpm_qfparse.proofs.Vocabulary.{after_number, BarExpected, BraceExpected, Bracket, Condition, Element, EmptyTag, End, First, format, FormatFault}
use Rattle.rpm_qfparse.proofs.Vocabulary.{FormatKind, Hex, MissingClose, MissingOpen, move_of, NestedBracket, number_of, Plain, reading, Stored}
use Rattle.rpm_qfparse.proofs.Vocabulary.{formatter_table, tag_part, Tagged, TagPart, Text, Tree, UnknownFormatter, UnknownTag, WidthTooLarge}
use Rattle.rpm_tags.specs.Table as names
use Rattle.rpm_qfparse.specs.Moves.{condition}

abbrev fault : FormatKind → ℕ → Result Tree FormatFault
fault kind place = Err (record { kind = kind; at = place })

abbrev name : TagPart
name = record { tag = Stored 1000; role = Element; left = false; width = 0; show = Plain }

-- ---- trees

one_text : format (codes "a\\n%%") ≡ Ok (Text (97 ∷ 10 ∷ 37 ∷ []) End)
unfolding format reading move_of
one_text = refl

all_of_a_tag : format (codes "%-06{=NAME:hex}") ≡ Ok (Tagged (record name { role = First; left = true; width = 6; show = Hex }) End)
unfolding format reading move_of number_of after_number tag_part formatter_table names.table names.tag_in
all_of_a_tag = refl

in_a_bracket : format (codes "[%{NAME}]x") ≡ Ok (Bracket (Tagged name End) (Text (codes "x") End))
unfolding format reading move_of number_of after_number tag_part names.table names.tag_in
in_a_bracket = refl

one_branch : format (codes "%|EPOCH?{x}|") ≡ Ok (Condition (Stored 1003) (Text (codes "x") End) End End)
unfolding format reading move_of condition names.table names.tag_in
one_branch = refl

two_branches : format (codes "%|EPOCH?{}:{y}|") ≡ Ok (Condition (Stored 1003) End (Text (codes "y") End) End)
unfolding format reading move_of condition names.table names.tag_in
two_branches = refl

-- ---- faults

no_open : format (codes "%x") ≡ fault MissingOpen 1
unfolding format reading move_of number_of after_number tag_part
no_open = refl

no_close : format (codes "%{NAME") ≡ fault MissingClose 6
unfolding format reading move_of number_of after_number tag_part
no_close = refl

no_name : format (codes "%{}") ≡ fault EmptyTag 2
unfolding format reading move_of number_of after_number tag_part
no_name = refl

no_tag : format (codes "%{NOPE}") ≡ fault UnknownTag 2
unfolding format reading move_of number_of after_number tag_part names.table names.tag_in
no_tag = refl

no_formatter : format (codes "%{NAME:x}") ≡ fault UnknownFormatter 7
unfolding format reading move_of number_of after_number tag_part formatter_table names.table names.tag_in
no_formatter = refl

too_wide : format (codes "%5000{NAME}") ≡ fault WidthTooLarge 1
unfolding format reading move_of number_of after_number tag_part
too_wide = refl

nested : format (codes "[%|EPOCH?{[") ≡ fault NestedBracket 10
unfolding format reading move_of condition names.table names.tag_in
nested = refl

no_brace : format (codes "%|EPOCH?x") ≡ fault BraceExpected 8
unfolding format reading move_of condition names.table names.tag_in
no_brace = refl

no_bar : format (codes "%|EPOCH?{x}") ≡ fault BarExpected 11
unfolding format reading move_of condition names.table names.tag_in
no_bar = refl

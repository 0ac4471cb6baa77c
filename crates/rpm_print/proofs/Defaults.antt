-- The formats that are taken where none is given, and for `-l`: what they are read as, and what they mean for a small package;
-- and a format that means two counts for one. All is computed, without the code.
use Rattle.std.specs.Prelude.{◌≡◌, [], ◌∷◌, codes, false, Ok, Err, refl}
use Rattle.rpm_print.proofs.Vocabulary.{after_number, are_ended, bearer, Bracket, bytes, Condition, condition, Element, End, entry_fault, entry_of, fault_at}
use Rattle.rpm_print.proofs.Vocabulary.{Filenames, first_text, format, Good, Header, header, header_of, label_format, list_format, meaning, move_of, number_at}
use Rattle.rpm_print.proofs.Vocabulary.{number_of, numbers, numbers_in, Nvra, Plain, printed_step, reading, sizes, sizes_line, step_of, Stored, stored_value}
use Rattle.rpm_print.proofs.Vocabulary.{formatter_table, Tag, tag_part, Tagged, TagPart, Text, Texts, texts, texts_in, ToErr, ToOut, Tree}
use Rattle.rpm_header.specs.Header.{entries}
use Rattle.rpm_header.specs.declared.form.Form.TheVariants as form
use Rattle.rpm_tags.specs.Table as name
use Rattle.rpm_print.proofs.Fixtures.{small}

-- a tag, as it is
whole : Tag → TagPart
whole tag = record { tag = tag; role = Element; left = false; width = 0; show = Plain }

-- and a line's end after it
line_of : Tag → Tree
line_of tag = Tagged (whole tag) (Text (codes "\n") End)

label : format label_format ≡ Ok (line_of Nvra)
unfolding whole line_of label_format format reading move_of condition tag_part number_of after_number formatter_table name.table name.tag_in
label = refl

list_tree : Tree
list_tree = Condition Filenames (Bracket (line_of Filenames) End) (Text (codes "(contains no files)\n") End) End

list : format list_format ≡ Ok list_tree
unfolding whole line_of list_tree list_format format reading move_of condition tag_part number_of after_number formatter_table name.table name.tag_in
list = refl

its_line : step_of (line_of Nvra) 1 (2, Good (small 6)) ≡ ToOut (bearer 1 2) (codes "a-1-2.x\n")
unfolding whole line_of small header header_of entries entry_of entry_fault fault_at number_at numbers texts are_ended sizes bytes stored_value texts_in
    first_text
its_line = refl

-- a name that isn't a text counts for nothing
no_name : step_of (line_of Nvra) 1 (2, Good (small 4)) ≡ ToOut (bearer 1 2) (codes "(none)\n")
unfolding whole line_of small header header_of entries entry_of entry_fault fault_at number_at numbers texts are_ended sizes bytes stored_value texts_in
    first_text
no_name = refl

no_files : step_of list_tree 1 (2, Good (small 6)) ≡ ToOut (bearer 1 2) (codes "(contains no files)\n")
unfolding whole line_of list_tree small header header_of entries entry_of entry_fault fault_at number_at numbers texts are_ended sizes bytes stored_value
    texts_in numbers_in
no_files = refl

-- one name and two requirements
needy : Header
needy = record {
  blob = [];
  entries = record { tag = 1000; form = form.Text; count = 1; values = Texts (codes "a" ∷ []) }
      ∷ record { tag = 1049; form = form.Texts; count = 2; values = Texts (codes "b" ∷ codes "c" ∷ []) } ∷ [];
}

both : Tree
both = Bracket (Tagged (whole (Stored 1000)) (Tagged (whole (Stored 1049)) End)) End

differs : (meaning needy 2 both ≡ Err (1, 2))
    × (printed_step (bearer 1 2) (meaning needy 2 both) ≡ ToErr (bearer 1 2)
    (codes "error: incorrect format: array iterator used with different sized arrays\n"))
unfolding needy both whole sizes bytes stored_value sizes_line
differs = (refl, refl)

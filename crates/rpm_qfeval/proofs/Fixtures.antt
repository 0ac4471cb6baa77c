-- The definitions, computed on a small header and by the table of formatters: what they say doesn't come from the code.
use Rattle.std.specs.Prelude.{◌≡◌, ℕ, List, [], ◌∷◌, codes, Bool, true, false, Result, Ok, Err, refl}
use Rattle.rpm_qfeval.proofs.Vocabulary.{blob_text, Bracket, bytes, Condition, day_count, day_of, days_from_civil, days_of_months, days_of_years, Dbinstance}
use Rattle.rpm_qfeval.proofs.Vocabulary.{digits, encode_symbols, encode_with, End, Header, meaning, month_of, number_text, Numbers, Role, sizes, Stored}
use Rattle.rpm_qfeval.proofs.Vocabulary.{stored_value, Tag, Tagged, Text, text_text, Texts, Tree, weekday_number, year_of}
use Rattle.rpm_header.specs.declared.form.Form.TheVariants as form
use Rattle.rpm_qfparse.specs.declared.tree.Role.TheVariants as role
use Rattle.rpm_qfparse.specs.declared.tree.Show.TheVariants as show

-- a name, two requirements and a mode
small : Header
small = record {
  blob = [];
  entries =
      record { tag = 1000; form = form.Text; count = 1; values = Texts (codes "b" ∷ []) }
      ∷ record { tag = 1049; form = form.Texts; count = 2; values = Texts (codes "c" ∷ codes "d" ∷ []) }
      ∷ record { tag = 1030; form = form.Int16; count = 1; values = Numbers (33261 ∷ []) } ∷ [];
}

name : Tag
name = Stored 1000

requires : Tag
requires = Stored 1049

epoch : Tag
epoch = Stored 1003

tag : Role → Tag → Tree → Tree
tag r t rest = Tagged (record { tag = t; role = r; left = false; width = 0; show = show.Plain }) rest

wide : Bool → Tag → Tree → Tree
wide left t rest = Tagged (record { tag = t; role = role.Element; left = left; width = 3; show = show.Plain }) rest

means : Tree → Result (List ℕ) (ℕ × ℕ)
means tree = meaning small 7 tree

a_round_for_each_element : means (Bracket (tag role.First name (tag role.Element requires (Text (codes "\n") End))) End) ≡ Ok (codes "bc\nbd\n")
unfolding means small name requires tag stored_value sizes bytes
a_round_for_each_element = refl

counts_differ : means (Text (codes "x") (Bracket (tag role.Element epoch (tag role.Element name (tag role.Element requires End))) End)) ≡ Err (1, 2)
unfolding means small name requires epoch tag stored_value sizes bytes
counts_differ = refl

none_is_present : means (Bracket (tag role.Element epoch (tag role.First name End)) (tag role.Element epoch End)) ≡ Ok (codes "(none)\n(none)")
unfolding means small name epoch tag stored_value sizes bytes
none_is_present = refl

in_a_condition : means (Condition epoch (Bracket (tag role.Element name (tag role.Element requires End)) End) (tag role.Count requires End)
    (Condition name (tag role.Element Dbinstance End) End End)) ≡ Ok (codes "27")
unfolding means small name requires epoch tag stored_value sizes bytes digits
in_a_condition = refl

widths : means (wide true name (wide false name (wide false epoch End))) ≡ Ok (codes "b    b(none)")
unfolding means small name epoch wide stored_value sizes bytes
widths = refl

numbers :
    (number_text show.Hex 1 255 ≡ codes "ff") × (number_text show.Octal 1 8 ≡ codes "10") × (number_text show.Perms 1 33261 ≡ codes "-rwxr-xr-x")
    × (number_text show.Perms 1 35309 ≡ codes "-rwsr-xr-x") × (number_text show.Depflags 1 12 ≡ codes ">=")
    × (number_text show.Fflags 1 4177 ≡ codes "cnga") × (number_text show.Fstate 1 3 ≡ codes "net shared")
    × (number_text show.Arraysize 5 8 ≡ codes "5") × (number_text show.Date 1 4294967296 ≡ codes "(not a date)")
unfolding digits
numbers = (refl, refl, refl, refl, refl, refl, refl, refl, refl)

others :
    (text_text show.Shescape 1 (codes "it's") ≡ codes "'it'\\''s'") × (text_text show.Perms 1 (codes "a") ≡ codes "(not a number)")
    × (blob_text show.Plain (1 ∷ 2 ∷ 171 ∷ []) ≡ codes "0102ab") × (blob_text show.Base64 (1 ∷ 2 ∷ 3 ∷ []) ≡ codes "AQID")
unfolding encode_with encode_symbols
others = (refl, refl, refl, refl)

-- the last second of 32 bits
dates : (number_text show.Date 1 4294967295 ≡ codes "Sun Feb  7 06:28:15 2106") × (number_text show.Day 1 4294967295 ≡ codes "Sun Feb 07 2106")
unfolding year_of month_of day_of days_from_civil weekday_number day_count days_of_years days_of_months
dates = (refl, refl)

-- What is pushed into a header that is being built.
use Rattle.std.specs.Prelude.{◌≡◌, ℕ, ◌*◌, ◌^◌, List, [], ◌∷◌, length, Bool, true, false, nat_lt}
use Rattle.std.specs.List.{list_any, list_all}
use Rattle.std.specs.Int.{byte_len}
use Rattle.rpm_header.specs.declared.form.Form.{Form}
use Rattle.rpm_header.specs.declared.form.Form.TheVariants as form
use Rattle.rpm_header.specs.Bytes.{is_zero}
use Rattle.rpm_header.specs.Header.{Item, Numbers, Texts, Bytes, width}

-- a text has no zero byte
abbrev pub IsText : List ℕ → Type 0
IsText text = list_any is_zero text ≡ false

-- each number has room in the width of its form
abbrev pub AllFit : Form → List ℕ → Type 0
AllFit f ns = list_all (λ n. nat_lt n (2 ^ (8 * byte_len (width f)))) ns ≡ true

-- the forms that have any number of texts
abbrev pub is_text_list : Form → Bool
is_text_list form.Texts = true
is_text_list form.I18n = true
is_text_list _ = false

-- the entries that the four pushes add
abbrev pub numbers_item : ℕ → Form → List ℕ → Item
numbers_item tag f ns = record { tag = tag; form = f; count = length ns; values = Numbers ns }

-- one text under a tag
abbrev pub text_item : ℕ → List ℕ → Item
text_item tag text = record { tag = tag; form = form.Text; count = 1; values = Texts (text ∷ []) }

-- texts under a tag, in a form of many texts
abbrev pub texts_item : ℕ → Form → List (List ℕ) → Item
texts_item tag f ts = record { tag = tag; form = f; count = length ts; values = Texts ts }

-- bytes under a tag, which are one value
abbrev pub bin_item : ℕ → List ℕ → Item
bin_item tag bytes = record { tag = tag; form = form.Bin; count = length bytes; values = Bytes bytes }

-- an entry under another tag
abbrev pub with_tag : ℕ → Item → Item
with_tag tag e = record { tag = tag; form = e.form; count = e.count; values = e.values }

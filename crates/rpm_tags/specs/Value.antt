-- What a tag's value is in a header.
use Rattle.std.specs.Prelude.{ℕ, List, [], ◌∷◌, ◌++◌, codes, decimal, Option, Some, None, length, take, slice_get}
use Rattle.std.specs.Prelude.{map, ◌==◌, ◌&&◌, nat_lt, if◌then◌else◌, unwrap_or}
use Rattle.std.specs.Option.{option_and_then, option_map, option_map_or}
use Rattle.std.specs.List.{concat, list_all, zip}
use Rattle.rpm_header.specs.declared.form.Form.{Form}
use Rattle.rpm_header.specs.declared.form.Form.TheVariants as form
use Rattle.rpm_header.specs.Header.{Header, Values, last_of, numbers_of, texts_of, bin_bytes}
use Rattle.rpm_tags.specs.Numbers.{NAME, VERSION, RELEASE, EPOCH, ARCH, DIRINDEXES, BASENAMES, DIRNAMES}
use Rattle.rpm_tags.specs.declared.tag.Tag.{Tag}
use Rattle.rpm_tags.specs.declared.tag.Tag.TheVariants.{Stored, Nvra, Nevra, Evr, Nvr, Epochnum, Filenames, Dbinstance}
use Rattle.rpm_tags.specs.declared.values.Class.{Class}
use Rattle.rpm_tags.specs.declared.values.Class.TheVariants as class

-- ---- values

-- the elements of a value, by its class
pub data Elements : Type 0 where
  NumberList OneBlob : List ℕ → Elements
  TextList : List (List ℕ) → Elements

-- what the elements are: numbers, texts or a blob
abbrev pub class_of : Elements → Class
class_of (NumberList ns) = class.Number
class_of (TextList ts) = class.Text
class_of (OneBlob bs) = class.Blob

-- how many elements there are; a blob is one
abbrev pub count_of : Elements → ℕ
count_of (NumberList ns) = length ns
count_of (TextList ts) = length ts
count_of (OneBlob bs) = 1

-- an entry's elements have these numbers, and none where they are of another class
abbrev pub number_list : Elements → List ℕ
number_list (NumberList ns) = ns
number_list _ = []

-- the texts, and none of another class
abbrev pub text_list : Elements → List (List ℕ)
text_list (TextList ts) = ts
text_list _ = []

-- the bytes of a blob, and none of another class
abbrev pub blob_elements : Elements → List ℕ
blob_elements (OneBlob bs) = bs
blob_elements _ = []

-- ---- stored tags

-- an entry's values have these elements by its form: a Null has none, and an I18n its first text alone
abbrev pub elements_by : Form → Values → Option Elements
elements_by form.Null v = None
elements_by form.Bin v = Some (OneBlob (bin_bytes v))
elements_by form.Text v = Some (TextList (texts_of v))
elements_by form.Texts v = Some (TextList (texts_of v))
elements_by form.I18n v = Some (TextList (take 1 (texts_of v)))
elements_by _ v = Some (NumberList (numbers_of v))

-- a header has this under a tag: what the last of several entries of the tag has
unfoldable pub stored_value : Header → ℕ → Option Elements
stored_value h tag = option_and_then (λ e. elements_by e.form e.values) (last_of tag h.entries)

-- ---- the elements of a tag, where it is of that class

-- the texts of a tag in a header
unfoldable pub texts_in : Header → ℕ → Option (List (List ℕ))
texts_in h tag = elim (stored_value h tag) [ Some (TextList ts) ↦ Some ts | _ ↦ None ]

-- the numbers of a tag in a header
unfoldable pub numbers_in : Header → ℕ → Option (List ℕ)
numbers_in h tag = elim (stored_value h tag) [ Some (NumberList ns) ↦ Some ns | _ ↦ None ]

-- the first text of a tag in a header
unfoldable pub first_text : Header → ℕ → Option (List ℕ)
first_text h tag = option_and_then (λ ts. slice_get ts 0) (texts_in h tag)

-- the first number of a tag in a header
unfoldable pub first_number : Header → ℕ → Option ℕ
first_number h tag = option_and_then (λ ns. slice_get ns 0) (numbers_in h tag)

-- ---- NVR, NVRA, EVR and NEVRA, as the parts that are joined

-- the epoch and a colon, where there is one
abbrev pub epoch_parts : Option ℕ → List (List ℕ)
epoch_parts e = option_map_or (λ epoch. decimal epoch ∷ codes ":" ∷ []) e []

-- a dot and the architecture, where there is one
abbrev pub arch_parts : Option (List ℕ) → List (List ℕ)
arch_parts a = option_map_or (λ arch. codes "." ∷ arch ∷ []) a []

-- epoch, version and release, with a hyphen between the latter two, where these are there
abbrev pub evr_text : Option ℕ → Option (List ℕ) → Option (List ℕ) → Option (List (List ℕ))
evr_text e (Some v) (Some r) = Some (epoch_parts e ++ v ∷ codes "-" ∷ r ∷ [])
evr_text e _ _ = None

-- a package's label is its name, version and release with hyphens between them, and an epoch and an architecture where
-- these are given
abbrev pub label : Option (List ℕ) → Option ℕ → Option (List ℕ) → Option (List ℕ) → Option (List ℕ)
    → Option (List (List ℕ))
label (Some n) e (Some v) (Some r) a =
    Some (n ∷ codes "-" ∷ epoch_parts e ++ v ∷ codes "-" ∷ r ∷ arch_parts a)
label _ e _ _ a = None

-- a text that is made of parts
abbrev pub as_text : Option (List (List ℕ)) → Option Elements
as_text parts = option_map (λ ps. TextList (concat ps ∷ [])) parts

-- ---- FILENAMES

-- the path of each file, from its index and its name: the directory of that index, and the name after it
unfoldable pub file_names : List (List ℕ) → List ℕ → List (List ℕ) → List (List ℕ)
file_names dirs indexes bases = map (λ file. unwrap_or (slice_get dirs file.0) [] ++ file.1) (zip indexes bases)

-- the paths of the files, where the three tags are there, each file has an index and each index a directory
abbrev pub filenames : Option (List (List ℕ)) → Option (List ℕ) → Option (List (List ℕ)) → Option (List (List ℕ))
filenames (Some dirs) (Some indexes) (Some bases) =
    if length bases == length indexes && list_all (λ index. nat_lt index (length dirs)) indexes
    then Some (file_names dirs indexes bases) else None
filenames _ _ _ = None

-- ---- all tags

-- the value of a tag in the header of the package with this number
abbrev pub value : Header → ℕ → Tag → Option Elements
value h number (Stored tag) = stored_value h tag
value h number Nvr = as_text (label (first_text h NAME) None (first_text h VERSION) (first_text h RELEASE) None)
value h number Nvra =
    as_text (label (first_text h NAME) None (first_text h VERSION) (first_text h RELEASE) (first_text h ARCH))
value h number Evr = as_text (evr_text (first_number h EPOCH) (first_text h VERSION) (first_text h RELEASE))
value h number Nevra =
    as_text (label (first_text h NAME) (first_number h EPOCH) (first_text h VERSION) (first_text h RELEASE)
    (first_text h ARCH))
value h number Epochnum = Some (NumberList (unwrap_or (first_number h EPOCH) 0 ∷ []))
value h number Filenames =
    option_map TextList (filenames (texts_in h DIRNAMES) (numbers_in h DIRINDEXES) (texts_in h BASENAMES))
value h number Dbinstance = Some (NumberList (number ∷ []))

-- The headers that the exercise makes: each package is named after its number.
use Rattle.std.specs.Prelude.{ℕ, ◌+◌, ◌%◌, List, [], ◌∷◌, ◌++◌, codes, decimal}
use Rattle.rpm_header.specs.declared.form.Form.TheVariants as form
use Rattle.rpm_header.specs.Header.{Item}
use Rattle.rpm_header.specs.Build.{numbers_item, text_item, texts_item}

-- a word and a number
abbrev pub numbered_word : List ℕ → ℕ → List ℕ
numbered_word word n = word ++ decimal n

-- package i of the exercise has this version, with the leading number m
abbrev pub version : ℕ → ℕ → List ℕ
version i m = decimal m ++ codes "." ++ decimal (i % 10)

-- a package of the exercise has this name and version, in release 1, for any machine
abbrev pub identity_items : List ℕ → List ℕ → List Item
identity_items name version =
    text_item 1000 name ∷ text_item 1001 version ∷ text_item 1002 (codes "1") ∷ text_item 1022 (codes "noarch") ∷ []

-- what it provides: itself in its version and release, and a capability in version 1
abbrev pub provided_items : List ℕ → List ℕ → List ℕ → List Item
provided_items name capability version =
    texts_item 1047 form.Texts (name ∷ capability ∷ [])
    ∷ numbers_item 1112 form.Int32 (8 ∷ 8 ∷ [])
    ∷ texts_item 1113 form.Texts ((version ++ codes "-1") ∷ codes "1" ∷ [])
    ∷ []

-- what it requires: a capability, in any version
abbrev pub required_items : List ℕ → List Item
required_items capability =
    texts_item 1049 form.Texts (capability ∷ [])
    ∷ numbers_item 1048 form.Int32 (0 ∷ [])
    ∷ texts_item 1050 form.Texts ([] ∷ [])
    ∷ []

-- a package of the exercise has this one file
abbrev pub file_items : List ℕ → List Item
file_items name =
    texts_item 1117 form.Texts (name ∷ []) ∷ numbers_item 1116 form.Int32 (0 ∷ [])
    ∷ texts_item 1118 form.Texts (codes "/opt/" ∷ []) ∷ []

-- a package of the exercise has these entries: its name, its version, the capability that it provides, the one that
-- it requires, its file
abbrev pub package_items : List ℕ → List ℕ → List ℕ → List ℕ → List ℕ → List Item
package_items name version provided required file =
    identity_items name version ++ provided_items name provided version ++ required_items required ++ file_items file

-- the header i of the exercise with the leading number m; there are seven capabilities
abbrev pub generated_items : ℕ → ℕ → List Item
generated_items i m =
    package_items (numbered_word (codes "pkg") i) (version i m) (numbered_word (codes "cap") (i % 7))
    (numbered_word (codes "cap") ((i + 1) % 7))
    (numbered_word (codes "f") i)

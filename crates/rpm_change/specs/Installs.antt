-- A package's header as it is installed: with the time and the transaction of its installation.
use Rattle.std.specs.Prelude.{ℕ, List, [], ◌∷◌}
use Rattle.rpm_header.specs.declared.form.Form.TheVariants as form
use Rattle.rpm_header.specs.Header.{Item}
use Rattle.rpm_header.specs.Build.{numbers_item}

-- an installed package has these two times after its own entries, both of the moment of the call
abbrev pub install_items : ℕ → List Item
install_items now = numbers_item 1008 form.Int32 (now ∷ []) ∷ numbers_item 1128 form.Int32 (now ∷ []) ∷ []

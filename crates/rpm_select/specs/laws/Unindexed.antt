-- A database that keeps no index.
use Rattle.std.proofs.Common.{◌≡◌, ◌&&◌, Bool, true, false, refl, sym, ap, ◌∙◌}
use Rattle.rpm_outside.specs.Files.{Units}
use Rattle.rpm_db.specs.Database.{Database, is_indexed}
use Rattle.rpm_select.specs.declared.selection.Selection.{Selection}
use Rattle.rpm_select.specs.declared.selection.Selection.TheVariants.{Number}
use Rattle.std.specs.Prelude.{[], ◌∷◌}
use Rattle.rpm_select.specs.Candidates.{has_keys}
use Rattle.rpm_select.specs.Reach.{Everything, HasIndexRows, Reach, These, asks_index}

-- A question goes over its number, or all, where no index is asked.
abbrev pub unindexed_reach : Selection → Reach
unindexed_reach (Number m) = These (m ∷ [])
unindexed_reach others = Everything

and_false : (a : Bool) → (a && false) ≡ false
and_false true = refl
and_false false = refl

-- it is not asked
pub not_asked : (db : Database) (sel : Selection) → is_indexed db ≡ false → asks_index db sel ≡ false
not_asked db sel none = ap (λ (b : Bool). has_keys sel && b) none ∙ and_false (has_keys sel)

pub no_index_rows : (db : Database) (pkg idx : Units) → is_indexed db ≡ false → HasIndexRows db pkg idx
no_index_rows db pkg idx none = λ some. (let both : true ≡ false = sym some ∙ none in absurd cc)

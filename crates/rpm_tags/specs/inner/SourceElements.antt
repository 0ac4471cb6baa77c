-- What a value that is read from a header shows.
use Rattle.std.specs.Prelude.{[], ◌∷◌}
use Rattle.std.specs.List.{concat}
use Rattle.rpm_tags.specs.declared.values.Source.{Source}
use Rattle.rpm_tags.specs.declared.values.Source.TheVariants as source
use Rattle.rpm_tags.specs.inner.Source.{stored_elements}
use Rattle.rpm_tags.specs.Value.{Elements, NumberList, TextList}

abbrev pub source_elements : Source → Elements
source_elements (source.Stored elements) = stored_elements elements
source_elements (source.Joined parts) = TextList (concat parts ∷ [])
source_elements (source.Files paths) = TextList paths
source_elements (source.Number n) = NumberList (n ∷ [])

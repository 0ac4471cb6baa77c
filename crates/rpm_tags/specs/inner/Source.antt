-- What a value that is read from a header shows.
use Rattle.rpm_tags.specs.declared.stored.Stored.{Stored}
use Rattle.rpm_tags.specs.declared.stored.Stored.TheVariants as stored
use Rattle.std.specs.Prelude.{Option}
use Rattle.rpm_header.specs.Header.{Item}
use Rattle.rpm_tags.specs.Value.{Elements, NumberList, TextList, OneBlob, elements_by}

abbrev pub stored_elements : Stored → Elements
stored_elements (stored.Numbers ns) = NumberList ns
stored_elements (stored.Texts ts) = TextList ts
stored_elements (stored.Blob bytes) = OneBlob bytes.now

-- the elements of an entry, and none of a Null
abbrev pub elements : Item → Option Elements
elements e = elements_by e.form e.values

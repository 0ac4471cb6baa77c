-- The texts and the numbers of a value, where it is of that class.
use Rattle.std.proofs.Common.{ℕ, List, Option, Some, None}
use Rattle.rpm_qfeval.proofs.Vocabulary.{Elements, NumberList, TextList}

abbrev pub if_texts : Option Elements → Option (List (List ℕ))
if_texts (Some (TextList ts)) = Some ts
if_texts _ = None

abbrev pub if_numbers : Option Elements → Option (List ℕ)
if_numbers (Some (NumberList ns)) = Some ns
if_numbers _ = None

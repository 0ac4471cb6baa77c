-- The parts of a bracket that stand ready for its rounds: each prints a text or a number of a list, as it is.
use Rattle.std.specs.Prelude.{◌≡◌, ℕ, List, length, map, decimal, Option, Some, None, slice_get, IfSome}
use Rattle.std.specs.Option.{option_map, option_and_then}
use Rattle.rpm_header.specs.Header.{Header}
use Rattle.rpm_tags.specs.declared.tag.Tag.TheVariants.{Filenames}
use Rattle.rpm_tags.specs.Value.{TextList, value}
use Rattle.rpm_qfparse.specs.declared.tree.Part.{Part}
use Rattle.rpm_qfparse.specs.Tree.{Tree}
use Rattle.rpm_qfparse.specs.Shape.{parts_of_tree}
use Rattle.rpm_qfeval.specs.declared.ready.Ready.{Ready}
use Rattle.rpm_qfeval.specs.declared.ready.Ready.TheVariants as ready
use Rattle.rpm_qfeval.specs.Meaning.{direct, part_bytes}
use Rattle.rpm_qfeval.specs.Formatters.{or_none}

-- a part has as many elements as there are texts, and prints in each round the text at that place; or its tag is
-- missing
pub record IsPlain (header : Header) (number : ℕ) (part : Part) (texts : Option (List (List ℕ))) : Type 0 where
  pub counted : direct header number part ≡ option_map length texts
  pub each : (round : ℕ) → part_bytes header number round part
      ≡ or_none (option_and_then (λ ts. slice_get ts round) texts)

-- what stands ready is what the part prints
abbrev pub StandsReady : Header → ℕ → Part → Ready → Type 0
StandsReady header number part ready.Other = Unit {0}
StandsReady header number part ready.Missing = IsPlain header number part None
StandsReady header number part (ready.Texts texts) = IsPlain header number part (Some texts)
StandsReady header number part (ready.Numbers numbers) = IsPlain header number part (Some (map decimal numbers))
StandsReady header number part (ready.Paths paths) = IsPlain header number part (Some paths)

-- what stands ready at a place is what the part there prints
abbrev pub StandReady : Header → ℕ → Tree → List Ready → Type 0
StandReady header number inner all = (k : ℕ) (part : Part) (one : Ready) → slice_get (parts_of_tree inner) k ≡ Some part
    → slice_get all k ≡ Some one
    → StandsReady header number part one

-- a header's files have these paths, where they are given
abbrev pub AreFiles : Header → ℕ → Option (List (List ℕ)) → Type 0
AreFiles header number files = IfSome files (λ paths. value header number Filenames ≡ Some (TextList paths))

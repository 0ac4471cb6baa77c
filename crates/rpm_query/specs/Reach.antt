-- What the arguments of a question go over, and the malformed chains that they may meet: the courses and bounds under
-- `plain` and `keyed` of the page (`rpm_tool`, Theorem.antt).
use Rattle.std.specs.Prelude.{◌≡◌, ℕ, List, [], ◌∷◌, map, slice_get, Bool, ◌&&◌, Option, Some}
use Rattle.std.specs.Option.{MatchOption, option_map_or}
use Rattle.std.specs.Ordering.{nat_cmp}
use Rattle.std.specs.FinMap.{FinMap}
use Rattle.rpm_outside.specs.Files.{Units}
use Rattle.rpm_db.specs.State.{Package}
use Rattle.rpm_words.specs.declared.switch.Chosen.{Chosen}
use Rattle.rpm_select.specs.declared.selection.Selection.{Selection}
use Rattle.rpm_select.specs.Candidates.{has_keys, keys_asked}
use Rattle.rpm_select.specs.Reach.{Reach, Everything, These, reach, IsFaultOfOne}
use Rattle.rpm_effects.specs.declared.tally.Halt.{Halt}
use Rattle.rpm_effects.specs.declared.tally.Halt.TheVariants as halt
use Rattle.rpm_effects.specs.declared.answer.Why.{Why}
use Rattle.rpm_effects.specs.declared.answer.Why.TheVariants as why
use Rattle.rpm_query.specs.Queries.{lent, question_of}

-- what of the database an argument makes a question read, with an index or without; one that is no question reads
-- nothing
unfoldable pub argument_reach : Bool → FinMap nat_cmp Package → Chosen → List ℕ → Reach
argument_reach indexed packages chosen text =
    option_map_or (λ sel. reach (has_keys sel && indexed) sel packages) (question_of chosen (lent text)) (These [])

-- a command goes over these packages for each argument; without any, over all
abbrev pub reaches_by : (List ℕ → Reach) → List (List ℕ) → List Reach
reaches_by each texts = elim texts [ [] ↦ Everything ∷ [] | x ∷ xs ↦ map each (x ∷ xs) ]

-- ---- a malformed index

-- a malformed index is told only with the fault of the chain of a key that a question asks
abbrev pub IsOfChain : Option Selection → Units → Halt → Type 0
IsOfChain asked idx (halt.BadIndex unit) = MatchOption asked ⊥ (λ sel. IsFaultOfOne (keys_asked sel) idx unit)
IsOfChain asked idx others = Unit {0}

-- a unit has the fault of the chain of a key that one of a command's arguments asks
abbrev pub IsOfChains : Chosen → List (List ℕ) → Units → Why → Type 0
IsOfChains chosen texts idx (why.BadIndex unit) =
    (j : ℕ) × (text : List ℕ) × (slice_get texts j ≡ Some text)
    × MatchOption (question_of chosen (lent text)) ⊥ (λ sel. IsFaultOfOne (keys_asked sel) idx unit)
IsOfChains chosen texts idx others = Unit {0}

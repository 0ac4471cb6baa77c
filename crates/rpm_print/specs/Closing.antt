-- The status of an ending, and the line that closes it: `status` of `run`, and the line of its `answers`.
use Rattle.std.specs.Prelude.{ℕ, ◌*◌, List, [], ◌∷◌, codes, decimal}
use Rattle.std.specs.List.{concat}
use Rattle.rpm_words.specs.declared.fault.WordsKind.{WordsKind}
use Rattle.rpm_words.specs.declared.fault.WordsKind.TheVariants as kind
use Rattle.rpm_words.specs.declared.fault.WordsFault.{WordsFault}
use Rattle.rpm_words.specs.Words.{word_at}
use Rattle.rpm_qfparse.specs.declared.fault.FormatKind.{FormatKind}
use Rattle.rpm_qfparse.specs.declared.fault.FormatKind.TheVariants as wrong
use Rattle.rpm_pkgdb.specs.declared.slot.Reason.{Reason}
use Rattle.rpm_pkgdb.specs.declared.slot.Reason.TheVariants.{BadMagic, BadVersion, BadPages, BadSlot, BadNumber}
use Rattle.rpm_pkgdb.specs.declared.slot.Reason.TheVariants.{BadRange, SameNumber, Overlap}
use Rattle.rpm_effects.specs.declared.answer.Why.{Why}
use Rattle.rpm_effects.specs.declared.answer.Why.TheVariants as why

-- the words of each reason for which a store is damaged
unfoldable pub reason_text : Reason → List ℕ
reason_text BadMagic = codes "file magic"
reason_text BadVersion = codes "version"
reason_text BadPages = codes "slot pages"
reason_text BadSlot = codes "slot magic"
reason_text BadNumber = codes "package number"
reason_text BadRange = codes "block range"
reason_text SameNumber = codes "number used twice"
reason_text Overlap = codes "blocks overlap"

-- a text and a number, as a line
abbrev pub number_line : List ℕ → ℕ → List ℕ
number_line text n = concat (text ∷ decimal n ∷ codes "\n" ∷ [])

-- what is told of the rule that the words break
unfoldable pub rule_text : WordsKind → List ℕ
rule_text kind.UnknownOption = codes "rpm: unknown option: "
rule_text kind.TwoModes = codes "rpm: more than one command: "
rule_text kind.NoMode = codes "rpm: no command given"
rule_text kind.MissingArgument = codes "rpm: argument missing"
rule_text kind.ExtraArgument = codes "rpm: unexpected argument: "
rule_text kind.Misplaced = codes "rpm: option not valid here: "
rule_text kind.BadNumber = codes "rpm: not a number: "
rule_text kind.BadCapability = codes "rpm: not a capability: "
rule_text kind.NoMemory = codes "rpm: out of memory"

-- the rule, and the word of that place, or none where something is missing
unfoldable pub usage_line : List (List ℕ) → WordsFault → List ℕ
usage_line words fault = concat (rule_text fault.kind ∷ (elim fault.kind
    [ kind.NoMode ↦ [] | kind.MissingArgument ↦ [] | kind.NoMemory ↦ [] | _ ↦ word_at words fault.word ])
    ∷ codes "\n" ∷ [])

-- what is told of a fault of a format
unfoldable pub fault_text : FormatKind → List ℕ
fault_text wrong.TooLong = codes "format too long"
fault_text wrong.MissingOpen = codes "{ expected after %"
fault_text wrong.MissingClose = codes "} expected"
fault_text wrong.EmptyTag = codes "empty tag name"
fault_text wrong.UnknownTag = codes "unknown tag"
fault_text wrong.UnknownFormatter = codes "unknown formatter"
fault_text wrong.WidthTooLarge = codes "width too large"
fault_text wrong.BracketExpected = codes "] expected"
fault_text wrong.UnexpectedBracket = codes "unexpected ]"
fault_text wrong.UnexpectedBrace = codes "unexpected }"
fault_text wrong.NestedBracket = codes "nested ["
fault_text wrong.QuestionExpected = codes "? expected"
fault_text wrong.BraceExpected = codes "{ expected"
fault_text wrong.BarExpected = codes "| expected"
fault_text wrong.TooDeep = codes "conditions too deep"
fault_text wrong.NoMemory = codes "out of memory"

-- the line of an ending of which there is one text alone; done, failed arguments and a fault of err itself have none
unfoldable pub fixed_line : Why → List ℕ
fixed_line why.NumbersSpent = codes "rpm: no package number is left\n"
fixed_line why.GenerationSpent = codes "rpm: no generation is left\n"
fixed_line why.StoreFull = codes "rpm: Packages.db is full\n"
fixed_line (why.IndexFull needed) = codes "rpm: Hindex.db is full\n"
fixed_line (why.LogFull needed) = codes "rpm: Hlog.db is full\n"
fixed_line why.DiskFault = codes "rpm: the database could not be read or written\n"
fixed_line why.ShelfFault = codes "rpm: input could not be read\n"
fixed_line why.OutFault = codes "rpm: output could not be written\n"
fixed_line why.NoMemory = codes "rpm: out of memory\n"
fixed_line others = []

-- the line that closes an ending of these words. Of a format it names the byte at which its fault stands, and of a
-- damaged log or index that at which the unit of its fault begins
unfoldable pub closing : List (List ℕ) → Why → List ℕ
closing words (why.Usage fault) = usage_line words fault
closing words (why.BadFormat fault) =
    concat (codes "error: incorrect format: " ∷ fault_text fault.kind ∷ codes " at byte " ∷ decimal fault.at
    ∷ codes "\n" ∷ [])
closing words (why.BadLog unit) = number_line (codes "rpm: Hlog.db is damaged at byte ") (16 * unit)
closing words (why.Damaged damage) =
    concat (codes "rpm: Packages.db is damaged at byte " ∷ decimal damage.offset ∷ codes ": "
    ∷ reason_text damage.reason ∷ codes "\n" ∷ [])
closing words (why.NotEmpty held) = number_line (codes "rpm: the database is not empty: package ") held
closing words (why.BadIndex unit) = number_line (codes "rpm: Hindex.db is damaged at byte ") (16 * unit)
closing words others = fixed_line others

-- Which fault is told.
use Rattle.std.specs.Prelude.{ℕ, List, [], ◌∷◌, Option, Some, None, Bool, ◌||◌, ◌&&◌, ◌==◌, nat_lt}
use Rattle.std.specs.List.{best_of}
use Rattle.rpm_words.specs.declared.fault.WordsKind.{WordsKind}
use Rattle.rpm_words.specs.declared.fault.WordsKind.TheVariants.{UnknownOption, TwoModes}
use Rattle.rpm_words.specs.declared.fault.WordsFault.{WordsFault}

-- a fault of this kind at this word
abbrev pub fault : WordsKind → ℕ → WordsFault
fault kind word = record { kind = kind; word = word }

-- an unknown option comes first among the faults of one word, then a second mode
abbrev pub fault_rank : WordsKind → ℕ
fault_rank UnknownOption = 0
fault_rank TwoModes = 1
fault_rank others = 2

-- the fault that is told of two: of the earlier word, and of one word by its kind
abbrev pub is_before : WordsFault → WordsFault → Bool
is_before f g = nat_lt f.word g.word || (f.word == g.word && nat_lt (fault_rank f.kind) (fault_rank g.kind))

-- the fault of the least word, and of the faults of that word the one that comes first
abbrev pub earliest : List WordsFault → Option WordsFault
earliest [] = None
earliest (f ∷ others) = Some (best_of is_before f others)

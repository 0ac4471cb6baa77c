-- The sets of endings that contracts name. On them rest `counted` of all answers, `kind`, `complete` and `index` of a
-- question by key, and `changed` of a change, on the page (`rpm_tool`, Theorem.antt).
use Rattle.std.specs.Prelude.{Bool, true, false, not, ◌||◌, IsTrue}
use Rattle.rpm_effects.specs.declared.tally.Halt.{Halt}
use Rattle.rpm_effects.specs.declared.answer.Why.{Why}
use Rattle.rpm_effects.specs.declared.answer.Why.TheVariants as why
use Rattle.rpm_effects.specs.Endings.{why_of_halt}

-- done, with or without arguments that failed
abbrev pub is_done : Why → Bool
is_done given = elim given [ why.Done ↦ true | why.Failed n ↦ true | _ ↦ false ]

-- done, or a fault of the disk
abbrev pub is_done_or_fault : Why → Bool
is_done_or_fault given = elim given [ why.DiskFault ↦ true | other ↦ is_done other ]

-- an ending that nothing in the files makes: done, a fault of the disk or of a sink, or want of memory
abbrev pub is_done_or_outside : Why → Bool
is_done_or_outside given =
    elim given [ why.OutFault ↦ true | why.ErrFault ↦ true | why.NoMemory ↦ true | other ↦ is_done_or_fault other ]

-- an ending that a command which asks has, once its database is in order: done, a fault of the outside, or want of
-- memory
abbrev pub is_of_asking : Why → Bool
is_of_asking given = elim given [ why.ShelfFault ↦ true | other ↦ is_done_or_outside other ]

-- the words or their format have a fault
abbrev pub is_of_words : Why → Bool
is_of_words given = elim given [ why.Usage fault ↦ true | why.BadFormat fault ↦ true | _ ↦ false ]

-- an ending that says what is wrong with the files: neither comes where they can be read
abbrev pub is_refusal : Why → Bool
is_refusal given = elim given [ why.BadLog unit ↦ true | why.Damaged damage ↦ true | _ ↦ false ]

-- an ending that a command which changes has, once its database is opened: of no words, and no refusal
abbrev pub is_of_changing : Why → Bool
is_of_changing given =
    elim given [ why.Usage fault ↦ false | why.BadFormat fault ↦ false | other ↦ not (is_refusal other) ]

-- an ending that a lawful database may have: one of a change, and no malformed index
abbrev pub is_of_lawful : Why → Bool
is_of_lawful given = elim given [ why.BadIndex unit ↦ false | other ↦ is_of_changing other ]

-- packages were found where there were to be none
abbrev pub is_not_empty : Why → Bool
is_not_empty given = elim given [ why.NotEmpty held ↦ true | _ ↦ false ]

-- why a database isn't opened to be asked
abbrev pub is_of_opening : Why → Bool
is_of_opening given = elim given [ why.IndexFull needed ↦ true | other ↦ is_refusal other ]

-- no ending of a command on a database that changes nothing: such a command is done or stopped by what is outside, its
-- database isn't opened, or the index is malformed
abbrev pub is_foreign : Why → Bool
is_foreign given =
    elim given [ why.BadIndex unit ↦ false | other ↦ not (is_done_or_outside other || is_of_opening other) ]

-- an ending that comes before a commit
abbrev pub is_halt : Why → Bool
is_halt given = elim given [ why.LogFull needed ↦ false | other ↦ not (is_done other || is_of_words other) ]

-- a fault of the shelf or of a sink
abbrev pub is_of_streams : Why → Bool
is_of_streams given = elim given [ why.ShelfFault ↦ true | why.OutFault ↦ true | why.ErrFault ↦ true | _ ↦ false ]

-- a fault of the disk, or want of memory
abbrev pub is_outside : Why → Bool
is_outside given = elim given [ why.DiskFault ↦ true | why.NoMemory ↦ true | _ ↦ false ]

-- an ending is one of these two
abbrev pub IsOutside : Why → Type 0
IsOutside given = IsTrue (is_outside given)

-- why a database isn't opened to be changed
abbrev pub IsOfOpening : Why → Type 0
IsOfOpening given =
    IsTrue (elim given [ why.Damaged damage ↦ true | why.IndexFull needed ↦ true | other ↦ is_outside other ])

-- a commit that wasn't made: the disk or a write failed, or the log has no room
abbrev pub IsUncommitted : Why → Type 0
IsUncommitted given = IsTrue (elim given [ why.LogFull needed ↦ true | other ↦ is_outside other ])

-- what halts a command that prints or reports of a database: no limit of a change, and no fault of the shelf
abbrev pub IsOfPrint : Halt → Type 0
IsOfPrint halt = IsTrue (elim (why_of_halt halt)
    [ why.BadIndex unit ↦ true | why.OutFault ↦ true | why.ErrFault ↦ true | other ↦ is_outside other ])

-- a halt is one of a call that only reads
abbrev pub IsOfRead : Halt → Type 0
IsOfRead halt = IsOutside (why_of_halt halt)

-- The parts of definitions under names of their own, by which proofs go through them one by one.
use Rattle.std.specs.Prelude.{ℕ, List, [], map, filter, Bool, true, false, Result, Ok, Err}
use Rattle.std.specs.Ordering.{nat_cmp}
use Rattle.std.specs.FinMap.{FinMap}
use Rattle.rpm_header.specs.declared.form.HeaderFault.{HeaderFault}
use Rattle.rpm_header.specs.Header.{Header, header}
use Rattle.rpm_tags.specs.Wanted.{Need}
use Rattle.rpm_db.specs.State.{Package, Good, Bad}
use Rattle.rpm_graph.specs.declared.graph.Edge.{Edge}
use Rattle.rpm_graph.specs.Networks.{edge}
use Rattle.rpm_select.specs.Providing.{gives}
use Rattle.rpm_check.specs.declared.list.Unmet.{Unmet}
use Rattle.rpm_check.specs.Edges.{good_numbers, is_edge}
use Rattle.rpm_check.specs.Unmet.{requirements, unmet_in}

-- What was read as a header gives what is needed.
abbrev pub read_gives : Need → Result Header HeaderFault → Bool
read_gives need (Ok h) = gives need h
read_gives need (Err fault) = false

-- What was read as a header has its requirements.
abbrev pub needs_read : Result Header HeaderFault → List Need
needs_read (Ok h) = requirements h
needs_read (Err fault) = []

-- A package has the requirements of its header: none where it can't be read.
abbrev pub needs_of : Package → List Need
needs_of (Good bytes) = needs_read (header bytes)
needs_of Bad = []

-- A package isn't bad.
abbrev pub is_good : Package → Bool
is_good (Good bytes) = true
is_good Bad = false

-- A package has edges from it, by rising end.
abbrev pub edges_from : FinMap nat_cmp Package → ℕ → List Edge
edges_from packages n = map (edge n) (filter (is_edge packages n) (good_numbers packages))

-- What was read as a header has these unmet requirements.
abbrev pub unmet_read : (Need → Bool) → ℕ → Result Header HeaderFault → List Unmet
unmet_read is_lacking n (Ok h) = unmet_in is_lacking n (requirements h) 0
unmet_read is_lacking n (Err fault) = []

-- A package has these unmet requirements: none where it can't be read.
abbrev pub unmet_of : (Need → Bool) → ℕ × Package → List Unmet
unmet_of is_lacking (n, Good bytes) = unmet_read is_lacking n (header bytes)
unmet_of is_lacking (n, Bad) = []

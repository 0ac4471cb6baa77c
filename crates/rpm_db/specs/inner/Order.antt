-- The order of rows: by number, kind and place, and then by key. Rows that do not come before each other are one.
use Rattle.std.specs.Prelude.{◌≡◌, ◌-◌, List, Bool}
use Rattle.std.specs.Cmp.Lexicographic.{slice_cmp}
use Rattle.std.specs.List.Sorted.{IsSorted}
use Rattle.std.specs.declared.cmp.Ordering.{Ordering}
use Rattle.std.specs.Ordering.{nat_cmp, ordering_then, is_lt}
use Rattle.rpm_hindex.specs.Rows.{Row, times}
use Rattle.rpm_db.specs.declared.netting.RowChange.{RowChange}
use Rattle.rpm_db.specs.declared.netting.Standing.{Standing}

-- the row of where it stands
abbrev pub row_of : Standing → Row
row_of s = record { kind = s.kind; key = s.key.now; number = s.number; place = s.place }

abbrev pub row_cmp : Row → Row → Ordering
row_cmp a b =
    ordering_then (nat_cmp a.number b.number)
    (ordering_then (nat_cmp a.kind b.kind) (ordering_then (nat_cmp a.place b.place) (slice_cmp nat_cmp a.key b.key)))

-- a row comes before another
abbrev pub is_row_before : Row → Row → Bool
is_row_before a b = is_lt (row_cmp a b)

-- no row comes before the one in front of it
abbrev pub AreInOrder : List Row → Type 0
AreInOrder rows = IsSorted row_cmp rows

-- a list has the rows that another has more often, each by as much
abbrev pub AreWithout : List Row → List Row → List Row → Type 0
AreWithout others rows rest = (row : Row) → times row rest ≡ times row rows - times row others

-- a change has both lists without the rows that both have
abbrev pub AreNetted : List Row → List Row → RowChange → Type 0
AreNetted drops adds net = AreWithout adds drops net.drops × AreWithout drops adds net.adds

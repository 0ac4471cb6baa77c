-- What is held of a file.
use Rattle.std.specs.Prelude.{◌≡◌, ℕ, ◌*◌, ◌/◌, ◌%◌, ◌≤◌, List, [], Vec, take, drop, length, Option, Some, None}
use Rattle.std.specs.Prelude.{slice_index_or, if◌then◌else◌, Bool, false, Box, unwrap_or, map, max, nat_lt}
use Rattle.std.specs.List.{range_with_len}
use Rattle.rpm_outside.specs.Files.{Units, unit_at}
use Rattle.std.specs.declared.alloc.Global.{Global}
use Rattle.rpm_group.specs.declared.page.Page.{Page}

-- unit k of these bytes
abbrev pub unit_in : List ℕ → ℕ → List ℕ
unit_in bytes k = take 16 (drop (16 * k) bytes)

-- whether unit k is held by these marks: each unit of a page without marks is
abbrev pub is_marked : Option (Box (List Bool) Global) → ℕ → Bool
is_marked None k = nat_lt k 256
is_marked (Some marks) k = slice_index_or marks.value k false

-- unit k of these bytes, where it is marked
abbrev pub in_marked : List Bool → List ℕ → ℕ → Option (List ℕ)
in_marked marks bytes k = if slice_index_or marks k false then Some (unit_in bytes k) else None

-- unit k of a page, where it is held
abbrev pub in_page : Page → ℕ → Option (List ℕ)
in_page page k = if is_marked page.marks k then Some (unit_in page.bytes k) else None

-- 256 pages by number, of which some are there
abbrev pub Leaf : Type 0
Leaf = Vec (Option (Box Page Global)) Global

-- page k of these, where it is there
abbrev pub page_in : Leaf → ℕ → Option (Box Page Global)
page_in leaf k = slice_index_or leaf.items k None

-- a file's pages by number, 256 in a leaf
abbrev pub Table : Type 0
Table = List Leaf

-- page q of the file, where it is there
abbrev pub page_at : Table → ℕ → Option (Box Page Global)
page_at table q = slice_index_or (slice_index_or (map (λ (leaf : Leaf). leaf.items) table) (q / 256) []) (q % 256) None

-- a unit of a page, where both are there
abbrev pub in_paged : Option (Box Page Global) → ℕ → Option (List ℕ)
in_paged None k = None
in_paged (Some page) k = in_page page.value k

-- unit i of the file, where it is held
unfoldable pub held_at : Table → ℕ → Option (List ℕ)
held_at table i = in_paged (page_at table (i / 256)) (i % 256)

-- unit i of a file under what is held
abbrev pub unit_over : Table → Units → ℕ → List ℕ
unit_over table file i = unwrap_or (held_at table i) (unit_at file i)

-- a file under what is held of it, as far as this end
unfoldable pub laid_units : Table → ℕ → Units → Units
laid_units table end file = map (unit_over table file) (range_with_len 0 (max (length file) end))

-- past the end nothing is held
abbrev pub IsHeldBelow : Table → ℕ → Type 0
IsHeldBelow table end = (i : ℕ) → end ≤ i → held_at table i ≡ None

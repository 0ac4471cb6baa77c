-- Which packages require which.
use Rattle.std.specs.Prelude.{◌≡◌, ◌↔◌, ℕ, List, [], map, filter, Bool, true, false, not, ◌&&◌, ◌==◌, Option, Some}
use Rattle.std.specs.List.{list_any, flat_map}
use Rattle.std.specs.Ordering.{nat_cmp}
use Rattle.std.specs.FinMap.{FinMap, entries, get}
use Rattle.rpm_tags.specs.Wanted.{Need}
use Rattle.rpm_db.specs.State.{Package, Good, Bad, package_or}
use Rattle.rpm_graph.specs.declared.graph.Edge.{Edge}
use Rattle.rpm_graph.specs.Networks.{Network, HasEdge, edge}
use Rattle.rpm_check.specs.Unmet.{requirements, package_meets}

-- the numbers of the packages that meet a requirement, rising
unfoldable pub givers : FinMap nat_cmp Package → Need → List ℕ
givers packages need = map (λ e. e.0) (filter (package_meets need) (entries packages))

-- ---- one edge

-- A requirement of one package, which has none where it can't be read, is met by another alone.
abbrev pub is_edge_between : ℕ → Option Package → ℕ → Option Package → Bool
is_edge_between n (Some p) m (Some q) =
    not (n == m) && list_any (λ need. package_meets need (m, q)) (package_or requirements p [])
is_edge_between n p m q = false

-- n requires what m gives, and they are different
unfoldable pub is_edge : FinMap nat_cmp Package → ℕ → ℕ → Bool
is_edge packages n m = is_edge_between n (get packages n) m (get packages m)

-- ---- all of them

-- The numbers of the packages that can be read, rising.
unfoldable pub good_numbers : FinMap nat_cmp Package → List ℕ
good_numbers packages = map (λ e. e.0) (filter (λ e. elim e.1 [ Good bytes ↦ true | Bad ↦ false ]) (entries packages))

-- A graph has the edges of all packages, by rising beginning, and then by rising end.
unfoldable pub all_edges : FinMap nat_cmp Package → List Edge
all_edges packages = flat_map (λ e.
    map (edge e.0) (filter (is_edge packages e.0) (good_numbers packages))) (entries packages)

-- the numbers and the edges together
abbrev pub graph_of : FinMap nat_cmp Package → Network
graph_of packages = record { numbers = good_numbers packages; edges = all_edges packages }

-- the graph has an edge from n to m exactly where n requires what m gives
abbrev pub HasEdgesOf : FinMap nat_cmp Package → Network → Type 0
HasEdgesOf packages g = (n m : ℕ) → HasEdge g n m ↔ (is_edge packages n m ≡ true)

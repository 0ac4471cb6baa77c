-- What the calls on pages hold and copy.
use Rattle.std.specs.Prelude.{◌≡◌, ◌⊎◌, ℕ, ◌+◌, ◌/◌, ◌<◌, ◌≤◌, List, length, Some, true, is_some, unwrap_or}
use Rattle.rpm_group.specs.declared.page.Page.{Page}
use Rattle.rpm_group.specs.Held.{unit_in, in_page, Leaf, page_in, in_paged, Table, page_at, held_at}

-- a page in which these units are held from unit `at` on, and the others as before
pub record PageWrote (at : ℕ) (bytes : List ℕ) (old new : Page) : Type 0 where
  pub inside : (k : ℕ) → k < length bytes / 16 → in_page new (at + k) ≡ Some (unit_in bytes k)
  pub outside : (k : ℕ) → (k < at) ⊎ (at + length bytes / 16 ≤ k) → in_page new k ≡ in_page old k

-- a leaf whose pages hold nothing else than before
abbrev pub LeafSame : Leaf → Leaf → Type 0
LeafSame old new = (k m : ℕ) → in_paged (page_in new k) m ≡ in_paged (page_in old k) m

-- each page of a leaf that was there is
abbrev pub LeafKeeps : Leaf → Leaf → Type 0
LeafKeeps old new = (k : ℕ) → is_some (page_in old k) ≡ true → is_some (page_in new k) ≡ true

-- a leaf in whose page k these units are held from unit `at` on, and the others as before
pub record LeafWrote (k at : ℕ) (bytes : List ℕ) (old new : Leaf) : Type 0 where
  pub inside : (m : ℕ) → m < length bytes / 16 → in_paged (page_in new k) (at + m) ≡ Some (unit_in bytes m)
  pub outside : (m : ℕ) → (m < at) ⊎ (at + length bytes / 16 ≤ m)
      → in_paged (page_in new k) m ≡ in_paged (page_in old k) m
  pub other : (j : ℕ) → (j ≡ k → ⊥) → page_in new j ≡ page_in old j

-- two tables have the same pages by number
abbrev pub SamePages : Table → Table → Type 0
SamePages old new = (q : ℕ) → page_at new q ≡ page_at old q

-- nothing else is held than before
abbrev pub SameHeld : Table → Table → Type 0
SameHeld old new = (i : ℕ) → held_at new i ≡ held_at old i

-- a table has each page of a range
abbrev pub AreThere : ℕ → ℕ → Table → Type 0
AreThere first end table = (q : ℕ) → first ≤ q → q < end → is_some (page_at table q) ≡ true

-- each page that was there is
abbrev pub KeepsPages : Table → Table → Type 0
KeepsPages old new = (q : ℕ) → is_some (page_at old q) ≡ true → is_some (page_at new q) ≡ true

-- a table holds these units from this one on, and the others as before
pub record HoldsUnits (unit : ℕ) (bytes : List ℕ) (old new : Table) : Type 0 where
  pub inside : (k : ℕ) → k < length bytes / 16 → held_at new (unit + k) ≡ Some (unit_in bytes k)
  pub outside : (i : ℕ) → (i < unit) ⊎ (unit + length bytes / 16 ≤ i) → held_at new i ≡ held_at old i

-- the held ones of the units from this one on were copied over others
abbrev pub LaysOver : ℕ → Table → List ℕ → List ℕ → Type 0
LaysOver unit table old new = (k : ℕ) → k < length old / 16
    → unit_in new k ≡ unwrap_or (held_at table (unit + k)) (unit_in old k)

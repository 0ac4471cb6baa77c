-- What a memo remembers.
use Rattle.std.specs.Prelude.{◌≡◌, Bool, IsTrue, IfSome}
use Rattle.std.specs.declared.cmp.Ordering.{Ordering}
use Rattle.std.specs.BTreeMap.{get}
use Rattle.std.specs.Cmp.Lexicographic.{slice_cmp}
use Rattle.std.specs.FinMap.{FinMap}
use Rattle.std.specs.Ordering.{nat_cmp, ordering_then}
use Rattle.rpm_outside.specs.declared.disk.Disk as disk
use Rattle.rpm_tags.specs.Wanted.{Need}
use Rattle.rpm_db.specs.Database.{Database}
use Rattle.rpm_db.specs.State.{Package}
use Rattle.rpm_check.specs.declared.memo.Requirement.{Requirement}
use Rattle.rpm_check.specs.declared.memo.Memo.{Memo}
use Rattle.rpm_select.specs.Frame.{HasKeptRows}
use Rattle.rpm_db.specs.Frame.{packages_in}
use Rattle.rpm_check.specs.Unmet.{is_met}
use Rattle.rpm_check.specs.inner.Offers.{KnowsSources}

-- the requirement that a key stands for
abbrev pub need_of : Requirement → Need
need_of key = record { name = key.name.items; flags = key.flags; version = key.version.items }

-- requirements stand in order of their marks, then of their names, then of their flags, then of their versions
abbrev pub requirement_order : Requirement → Requirement → Ordering
requirement_order a b =
    ordering_then (nat_cmp a.mark b.mark) (ordering_then (slice_cmp nat_cmp a.name.items b.name.items)
    (ordering_then (nat_cmp a.flags b.flags) (slice_cmp nat_cmp a.version.items b.version.items)))

-- what is known of a requirement is so
abbrev pub IsRemembered : (Need → Bool) → Memo → Type 0
IsRemembered is_so memo =
    (key : Requirement) → IfSome (get requirement_order memo.answers key) (λ known. known ≡ is_so (need_of key))

-- a memo is right: what it holds of requirements, and what it keeps of packages that were read
pub record Knows (packages : FinMap nat_cmp Package) (memo : Memo) : Type 0 where
  pub answers : IsRemembered (is_met packages) memo
  pub sources : KnowsSources packages memo.sources

-- a memo is right for a database whose index has the rows of its packages
abbrev pub KnowsOn : {D : Type 0} → disk.Ghosts D → D → Database → Memo → Type 0
KnowsOn d at db memo = IsTrue d.tells → HasKeptRows d at db → Knows (packages_in d at db) memo

-- What a memo of packages remembers.
use Rattle.std.specs.Prelude.{◌≡◌, ℕ, List, IsTrue, IfSome}
use Rattle.std.specs.BTreeMap.{get}
use Rattle.std.specs.FinMap.{FinMap}
use Rattle.std.specs.Ordering.{nat_cmp}
use Rattle.rpm_outside.specs.declared.disk.Disk as disk
use Rattle.rpm_tags.specs.Wanted.{Need}
use Rattle.rpm_db.specs.Database.{Database}
use Rattle.rpm_db.specs.State.{Package}
use Rattle.rpm_check.specs.declared.memo.Requirement.{Requirement}
use Rattle.rpm_check.specs.declared.giver_memo.GiverMemo.{GiverMemo}
use Rattle.rpm_check.specs.Edges.{givers}
use Rattle.rpm_select.specs.Frame.{HasKeptRows}
use Rattle.rpm_db.specs.Frame.{packages_in}
use Rattle.rpm_check.specs.inner.Memos.{need_of, requirement_order}
use Rattle.rpm_check.specs.inner.Offers.{KnowsSources}

-- the numbers that are known of a requirement are its own
abbrev pub RemembersGivers : (Need → List ℕ) → GiverMemo → Type 0
RemembersGivers of memo =
    (key : Requirement) → IfSome (get requirement_order memo.numbers key) (λ known. known.items ≡ of (need_of key))

-- a memo of givers is right: what it holds of requirements, and what it keeps of packages that were read
pub record KnowsGivers (packages : FinMap nat_cmp Package) (memo : GiverMemo) : Type 0 where
  pub numbers : RemembersGivers (givers packages) memo
  pub sources : KnowsSources packages memo.sources

-- a memo of givers is right for a database whose index has the rows of its packages
abbrev pub KnowsGiversOn : {D : Type 0} → disk.Ghosts D → D → Database → GiverMemo → Type 0
KnowsGiversOn d at db memo = IsTrue d.tells → HasKeptRows d at db → KnowsGivers (packages_in d at db) memo

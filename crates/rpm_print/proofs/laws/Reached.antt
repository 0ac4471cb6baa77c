-- What is read of the numbers that a picker goes over.
use Rattle.std.proofs.Common.{◌≡◌, ℕ, zero, suc, ◌+◌, ◌-◌, ◌≤◌, List, [], ◌∷◌, take, refl, sym, subst, arith}
use Rattle.rpm_db.specs.Database.{Database}
use Rattle.rpm_db.specs.State.{packages}
use Rattle.rpm_outside.specs.Files.{Files}
use Rattle.rpm_select.specs.Reach.{HasIndexRows, Reach, reach_all, reach_to, Serves}
use Rattle.rpm_select.proofs.laws.Costing.{reach_up}
use Rattle.rpm_print.specs.Reads.{reach_sum}
use Rattle.rpm_pkgdb.specs.Store.{Store}
use Rattle.rpm_select.specs.declared.selection.Selection.{Selection}

-- a question reads this much for the arguments before the argument j
abbrev pub reach_before : List Reach → Database → ℕ → ℕ
reach_before [] db j = 0
reach_before (r ∷ rs) db zero = 0
reach_before (r ∷ rs) db (suc j) = reach_all r db + reach_before rs db j

pub before_is : (rs : List Reach) (db : Database) (j : ℕ) → reach_before rs db j ≡ reach_sum (take j rs) db
before_is [] db zero = refl
before_is [] db (suc j) = refl
before_is (r ∷ rs) db zero = refl
before_is (r ∷ rs) db (suc j) = (let rest = before_is rs db j in omega (arith, rest))

-- one more of them
pub reach_then : (r : Reach) (db : Database) (low before between : ℕ) {n m now : ℕ} → n ≤ m
    → between + reach_to low r db ≤ before + reach_to n r db
    → now ≤ between + (reach_to m r db - reach_to n r db) → now + reach_to low r db ≤ before + reach_to m r db
reach_then r db low before between {n = n} {m = m} le first second = omega (arith, reach_up r db n m le, first, second)

-- what serves the packages that were there serves them where nothing changes
pub served : (sel : Selection) (s : Store) (p q : Reach) (f f' : Files) → p ≡ q → f ≡ f'
    → Serves q (packages f'.pkg s) sel → Serves p (packages f.pkg s) sel
served sel s p q f f' same files serves =
    subst (λ (g : Files). Serves p (packages g.pkg s) sel) (sym files)
    (subst (λ (r : Reach). Serves r (packages f'.pkg s) sel) (sym same) serves)

-- an index that held the rows holds them where nothing changes
pub rows_at : (db : Database) (f f' : Files) → f ≡ f' → HasIndexRows db f'.pkg f'.idx → HasIndexRows db f.pkg f.idx
rows_at db f f' same rows = subst (λ (g : Files). HasIndexRows db g.pkg g.idx) (sym same) rows

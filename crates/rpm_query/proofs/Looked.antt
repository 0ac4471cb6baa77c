-- Calls that look packages up, one after the other.
use Rattle.std.proofs.Common.{ℕ, ◌+◌, ◌-◌, ◌<◌, ◌≤◌, arith}
use Rattle.rpm_outside.specs.declared.disk.Disk as disk
use Rattle.rpm_query.proofs.Vocabulary.{packages_cost, cost_some, packages_cost_to, cost_up, Database, OnlyReads, looks_at_from, looks_more}
use Rattle.rpm_query.proofs.Vocabulary.{looks_then, Pkg, Reach, reach_all, reach_some, reach_to}

module _ {D : Type 0} (d : disk.Ghosts D) (trans : (a b c : D) → d.follows a b → d.follows b c → d.follows a c) {a b c : D} where
  -- one look and then another
  both_look : (first second most : ℕ) → first + second ≤ most → OnlyReads d Pkg first a b → OnlyReads d Pkg second b c → OnlyReads d Pkg most a c
  both_look first second most le =
      looks_then d Pkg trans first second most a b c le

  -- the numbers up to n above another, and then the next ones
  module _ (db : Database) {low n : ℕ} (le : low ≤ n) (first : OnlyReads d Pkg (packages_cost_to n db - packages_cost_to low db) a b) where
    pub looks_next : {m : ℕ} → n < m → OnlyReads d Pkg (packages_cost_to m db - packages_cost_to n db) b c
        → OnlyReads d Pkg (packages_cost_to m db - packages_cost_to low db) a c
    looks_next {m = m} lt = both_look (packages_cost_to n db - packages_cost_to low db) (packages_cost_to m db - packages_cost_to n db)
        (packages_cost_to m db - packages_cost_to low db)
        (omega (arith, cost_up db low n le, cost_up db n m (omega (arith, lt)))) first

    pub looks_within : {m : ℕ} → n < m → OnlyReads d Pkg (packages_cost_to m db - packages_cost_to n db) b c
        → OnlyReads d Pkg (packages_cost db - packages_cost_to low db) a c
    looks_within {m = m} lt = both_look (packages_cost_to n db - packages_cost_to low db) (packages_cost_to m db - packages_cost_to n db)
        (packages_cost db - packages_cost_to low db)
        (omega (arith, cost_up db low n le, cost_up db n m (omega (arith, lt)), cost_some db m)) first

    pub looks_rest : OnlyReads d Pkg (packages_cost db - packages_cost_to n db) b c → OnlyReads d Pkg (packages_cost db - packages_cost_to low db) a c
    looks_rest =
        both_look (packages_cost_to n db - packages_cost_to low db) (packages_cost db - packages_cost_to n db) (packages_cost db - packages_cost_to low db)
        (omega (arith, cost_up db low n le, cost_some db n)) first

-- a look that reads so many bytes is within them, whatever else bounds it
pub look_within : {D : Type 0} (d : disk.Ghosts D) {a b : D} {some most : ℕ} → d.bytes_read b Pkg ≤ d.bytes_read a Pkg + most → OnlyReads d Pkg some a b
    → OnlyReads d Pkg most a b
look_within d {a = a} {b = b} {some = some} {most = most} le looks =
    looks_more d Pkg (d.bytes_read b Pkg - d.bytes_read a Pkg) most a b (omega (arith, le)) (looks_at_from d Pkg some a b looks)

-- the bytes of the numbers that a picker goes over
module _ (q : Reach) (db : Database) (n before between : ℕ) {now : ℕ} where
  pub rest_read : (low : ℕ) → between + reach_to low q db ≤ before + reach_to n q db → now ≤ between + (reach_all q db - reach_to n q db)
      → now + reach_to low q db ≤ before + reach_all q db
  rest_read low first second = omega (arith, reach_some q db n, first, second)

  pub both_read : between + reach_to n q db ≤ before + reach_all q db → now ≤ between + reach_to n q db → now ≤ before + reach_all q db
  both_read first second = omega (arith, reach_some q db n, first, second)

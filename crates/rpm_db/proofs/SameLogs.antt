-- The log stays while a database is made.
use Rattle.std.proofs.Common.{◌∙◌, ℕ}
use Rattle.rpm_db.proofs.Vocabulary.{Changes, Files, Pkg, Remade, Runs, runs_then, SameLog, Units}
use Rattle.rpm_db.proofs.Both.{runs_store}
use Rattle.rpm_outside.specs.declared.disk.Disk as disk

module _ {D : Type 0} (d : disk.Ghosts D) where
  abbrev Run : (Files → Files → Type 0) → D → D → Type 0
  Run = Runs d

  module _ (trans : (a b c : D) → d.follows a b → d.follows b c → d.follows a c) where
    -- where the index is rebuilt, and then the store is made
    pub log_made : (R : Units → Units → Type 0) (m : ℕ) (a b c : D) → Run Remade a b
        → Changes d Pkg R m b c → Run SameLog a c
    log_made R m a b c first second =
        runs_then d trans Remade SameLog SameLog a b c (λ x y made. made.log) (λ x y z p q. q ∙ p.log) first (runs_store d R m b c second)

    -- and the index sealed
    pub log_sealed : (R : Units → Units → Type 0) (m : ℕ) (a b c e : D) → Run Remade a b
        → Changes d Pkg R m b c → Run Remade c e → Run SameLog a e
    log_sealed R m a b c e first second third =
        runs_then d trans SameLog Remade SameLog a c e (λ x y same. same) (λ x y z p q. q.log ∙ p) (log_made R m a b c first second) third

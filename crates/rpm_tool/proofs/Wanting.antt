-- A command on an overlay that wanted memory, told on the disk below.
use Rattle.std.specs.Prelude.{IsTrue, ◌↔◌}
use Rattle.rpm_tool.proofs.Vocabulary.{Damage, RefusalIs, Rose, unless_starved, Why}
use Rattle.std.proofs.Common.{◌≡◌, ℕ, zero, suc, ◌+◌, ◌<◌, ◌≤◌, Bool, true, false, refl, arith}
use Rattle.rpm_effects.specs.declared.answer.Why.TheVariants as why
use Rattle.rpm_commit.proofs.laws.ByEnding.{by_starved}
use Rattle.rpm_commit.proofs.laws.Starved.{starved_fault}

-- want of memory in place of a fault of the disk
pub refused_starved : (starved : Bool) (w : Why) (d : Damage) → RefusalIs d w → RefusalIs d (unless_starved starved w)
refused_starved starved w d = by_starved (λ (was given : Why). RefusalIs d was → RefusalIs d given) (λ was r. r) (λ r. tt) starved w

not_starved : (starved : Bool) (n : ℕ) → starved ≡ false → IsTrue starved ↔ (0 < n) → n ≡ 0
not_starved true n is told = absurd cc
not_starved false zero is told = refl
not_starved false (suc n) is told =
    let both : false ≡ true = told.1 (omega arith) in
    absurd cc

pub fault_below : (start below now before after : ℕ) (starved : Bool) (w : Why) → unless_starved starved w ≡ why.DiskFault → start ≤ below → before ≡ 0
    → IsTrue starved ↔ (0 < after) → (w ≡ why.DiskFault → Rose (below + before) (now + after)) → Rose start now
fault_below start below now before after starved w is le none told rose =
    let both = starved_fault starved w is in
    omega (arith, rose both.1, not_starved starved after both.0 told, none, le)

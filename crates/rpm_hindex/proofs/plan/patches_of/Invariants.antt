use Rattle.std.proofs.Common.{◌≡◌, take, map}
use Rattle.rpm_hindex.proofs.Vocabulary.{patch_of}
use Rattle.rpm_hindex.proofs.plan.patches_of.Given as goal

abbrev pub invariant-loop-k : goal.invariant-loop-k
invariant-loop-k l = record { so_far : l.patches.items ≡ map patch_of (take l.k l.pairs.items) }

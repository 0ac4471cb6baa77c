use Rattle.std.proofs.Common.{ℕ, List, length, ◌∙◌, refl, sym, ap}
use Rattle.std.specs.Prelude.{◌==◌}
use Rattle.rpm_outside.proofs.Vocabulary.{list_any, Read}
use Rattle.rpm_outside.proofs.Named.{named_fails}
use Rattle.rpm_outside.proofs.mem_disk.MemDiskDisk.read_at.Goals as goal

pub returns-then-call_fails-clause-outcome : goal.returns-then-call_fails-clause-outcome
returns-then-call_fails-clause-outcome c =
    named_fails c.args.self.now _ (Read c.args.file c.args.unit (length c.args.into.now)) c.call_fails.ensures.counted refl refl refl
    (ap (λ (xs : List ℕ). list_any (λ call. call == c.call_fails.new.calls) xs) (sym c.deref.ensures.value) ∙ sym c.call_fails.ensures.named
    ∙ c.if-call_fails.true) c.saturating_add-self-then-call_fails.ensures (record { files = refl; none = refl })

use Rattle.std.proofs.Common.{ℕ, List, arith, refl, sym, ◌∙◌, ap}
use Rattle.std.specs.Prelude.{◌==◌}
use Rattle.rpm_outside.proofs.Vocabulary.{after_steps, after_steps-push, file_of, Files, held_files, list_any, Sync, sync_step, Synced}
use Rattle.rpm_outside.proofs.Copying.{sync_held}
use Rattle.rpm_outside.proofs.Named.{named_fails, other_passes}
use Rattle.rpm_outside.proofs.mem_disk.MemDiskDisk.sync.Goals as goal

pub invariant_of-self-2 : goal.invariant_of-self-2
invariant_of-self-2 c =
    let disk = c.args.self.now in
    record {
      replayed = disk.replayed
          ∙ sym (after_steps-push disk.steps.items (Synced c.args.file) (held_files disk.first))
          ∙ ap (λ s. after_steps s (held_files disk.first)) (sym c.in-Ok.ensures.ok);
      copied = sync_held disk.copies c.note_sync.new.self disk.steps.items (held_files disk.first) (held_files disk.held) disk.copied
          c.keep_sync.new.steps.items c.args.file c.len.result disk.replayed c.in-Ok.ensures.ok (omega (arith, c.len.ensures, c.keep_sync.new.steps.ok.0))
          c.note_sync.ensures;
    }

pub returns-clause-durable : goal.returns-clause-durable
returns-clause-durable c = λ told image since.
    let disk = c.args.self.now in
    (sync_step disk.steps.items c.keep_sync.new.steps.items c.args.file (held_files disk.first) image c.in-Ok.ensures.ok since).1
    ∙ ap (λ (f : Files). file_of c.args.file f) (sym disk.replayed)

pub returns-clause-images : goal.returns-clause-images
returns-clause-images c = λ told image since.
    let disk = c.args.self.now in
    (sync_step disk.steps.items c.keep_sync.new.steps.items c.args.file (held_files disk.first) image c.in-Ok.ensures.ok since).0

pub returns-then-call_fails-clause-outcome : goal.returns-then-call_fails-clause-outcome
returns-then-call_fails-clause-outcome c =
    named_fails c.args.self.now _ (Sync c.args.file) c.call_fails.ensures.counted refl refl refl
    (ap (λ (xs : List ℕ). list_any (λ call. call == c.call_fails.new.calls) xs) (sym c.deref.ensures.value) ∙ sym c.call_fails.ensures.named
    ∙ c.if-call_fails.true) c.saturating_add-self.ensures (record { files = refl; none = refl })

pub returns-clause-outcome : goal.returns-clause-outcome
returns-clause-outcome c =
    other_passes c.args.self.now _ (Sync c.args.file) c.call_fails.ensures.counted refl refl refl
    (ap (λ (xs : List ℕ). list_any (λ call. call == c.call_fails.new.calls) xs) (sym c.deref.ensures.value) ∙ sym c.call_fails.ensures.named
    ∙ c.if-call_fails.false) refl (record { files = refl; step = c.in-Ok.ensures.ok })

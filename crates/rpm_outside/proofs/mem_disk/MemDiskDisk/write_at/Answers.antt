use Rattle.std.proofs.Common.{◌/◌, ℕ, Bool, List, length, refl, sym, ◌∙◌, ap, subst, arith}
use Rattle.std.specs.Prelude.{◌==◌}
use Rattle.rpm_outside.proofs.Vocabulary.{Copies, File, Files, held_files, HoldCopies, length-cut_up, list_any, MemDisk, part_of, Step, units_of, Write}
use Rattle.rpm_outside.proofs.Vocabulary.{WroteAny}
use Rattle.rpm_outside.proofs.Copying.{any_held}
use Rattle.rpm_outside.proofs.Loosening.{Loosens}
use Rattle.rpm_outside.proofs.Named.{named_fails, other_passes}
use Rattle.rpm_outside.proofs.Replays.{nothing_left, part_left, whole_rose}
use Rattle.rpm_outside.proofs.mem_disk.MemDiskDisk.write_at.Goals as goal

-- where memory was wanting
pub returns-in_default-clause-torn : goal.returns-in_default-clause-torn
returns-in_default-clause-torn c = λ told. (nothing_left (held_files c.args.self.now.first) (held_files c.args.self.now.held)
    (held_files c.write_units.new.now) c.args.self.now.steps.items c.write_units.new.steps.items c.args.file c.args.unit (units_of c.args.bytes.now)
    c.in_default.ensures.files c.in_default.ensures.steps).torn

pub returns-in_default-clause-images : goal.returns-in_default-clause-images
returns-in_default-clause-images c = λ told. (nothing_left (held_files c.args.self.now.first) (held_files c.args.self.now.held)
    (held_files c.write_units.new.now) c.args.self.now.steps.items c.write_units.new.steps.items c.args.file c.args.unit (units_of c.args.bytes.now)
    c.in_default.ensures.files c.in_default.ensures.steps).images

-- where the call was named
copied : (disk : MemDisk) (new : Copies) (steps : List Step) (now : Files) (file : File) (unit : ℕ) (bytes : List ℕ) (half : Bool)
    → Loosens disk.copies new file → WroteAny (held_files disk.held) now disk.steps.items steps file unit (part_of half (units_of bytes))
    → HoldCopies new steps (held_files disk.first) now
copied disk new steps now file unit bytes half loosens any = any_held disk.copies new disk.steps.items (held_files disk.first) (held_files disk.held)
    disk.copied steps now file unit (part_of half (units_of bytes)) loosens any

pub invariant_of-self-then-fails : goal.invariant_of-self-then-fails
invariant_of-self-then-fails c = record {
  replayed = (part_left (held_files c.args.self.now.first) (held_files c.args.self.now.held)
      (held_files c.write_units.new.now) c.args.self.now.steps.items c.write_units.new.steps.items c.args.file c.args.unit (units_of c.args.bytes.now)
      c.call_fails-fails.result c.in-Ok.ensures.ok).replayed c.args.self.now.replayed;
  copied = copied c.args.self.now c.loosen.new.self c.write_units.new.steps.items (held_files c.write_units.new.now) c.args.file c.args.unit
      c.args.bytes.now c.call_fails-fails.result
      (record { kept = c.loosen.ensures.kept; pkg = c.loosen.ensures.pkg; idx = c.loosen.ensures.idx; log = c.loosen.ensures.log }) c.in-Ok.ensures.ok;
}

pub returns-then-fails-clause-torn : goal.returns-then-fails-clause-torn
returns-then-fails-clause-torn c = λ told. (part_left (held_files c.args.self.now.first) (held_files c.args.self.now.held)
    (held_files c.write_units.new.now) c.args.self.now.steps.items c.write_units.new.steps.items c.args.file c.args.unit (units_of c.args.bytes.now)
    c.call_fails-fails.result c.in-Ok.ensures.ok).torn

pub returns-then-fails-clause-images : goal.returns-then-fails-clause-images
returns-then-fails-clause-images c = λ told. (part_left (held_files c.args.self.now.first) (held_files c.args.self.now.held)
    (held_files c.write_units.new.now) c.args.self.now.steps.items c.write_units.new.steps.items c.args.file c.args.unit (units_of c.args.bytes.now)
    c.call_fails-fails.result c.in-Ok.ensures.ok).images

pub returns-then-fails-clause-time : goal.returns-then-fails-clause-time
returns-then-fails-clause-time c = λ told. (part_left (held_files c.args.self.now.first) (held_files c.args.self.now.held)
    (held_files c.write_units.new.now) c.args.self.now.steps.items c.write_units.new.steps.items c.args.file c.args.unit (units_of c.args.bytes.now)
    c.call_fails-fails.result c.in-Ok.ensures.ok).time

pub returns-then-fails-clause-later : goal.returns-then-fails-clause-later
returns-then-fails-clause-later c = (part_left (held_files c.args.self.now.first) (held_files c.args.self.now.held) (held_files c.write_units.new.now)
    c.args.self.now.steps.items c.write_units.new.steps.items c.args.file c.args.unit (units_of c.args.bytes.now) c.call_fails-fails.result
    c.in-Ok.ensures.ok).time.later

pub returns-then-fails-clause-stays : goal.returns-then-fails-clause-stays
returns-then-fails-clause-stays c = λ told. (part_left (held_files c.args.self.now.first) (held_files c.args.self.now.held)
    (held_files c.write_units.new.now) c.args.self.now.steps.items c.write_units.new.steps.items c.args.file c.args.unit (units_of c.args.bytes.now)
    c.call_fails-fails.result c.in-Ok.ensures.ok).stays

-- where it goes through
pub invariant_of-self-else-fails : goal.invariant_of-self-else-fails
invariant_of-self-else-fails c = record {
  replayed = (part_left (held_files c.args.self.now.first) (held_files c.args.self.now.held)
      (held_files c.write_units.new.now) c.args.self.now.steps.items c.write_units.new.steps.items c.args.file c.args.unit (units_of c.args.bytes.now)
      c.call_fails-fails.result c.in-Ok.ensures.ok).replayed c.args.self.now.replayed;
  copied = copied c.args.self.now c.loosen.new.self c.write_units.new.steps.items (held_files c.write_units.new.now) c.args.file c.args.unit
      c.args.bytes.now c.call_fails-fails.result
      (record { kept = c.loosen.ensures.kept; pkg = c.loosen.ensures.pkg; idx = c.loosen.ensures.idx; log = c.loosen.ensures.log }) c.in-Ok.ensures.ok;
}

pub returns-clause-torn : goal.returns-clause-torn
returns-clause-torn c = λ told. (part_left (held_files c.args.self.now.first) (held_files c.args.self.now.held) (held_files c.write_units.new.now)
    c.args.self.now.steps.items c.write_units.new.steps.items c.args.file c.args.unit (units_of c.args.bytes.now) c.call_fails-fails.result
    c.in-Ok.ensures.ok).torn

pub returns-clause-images : goal.returns-clause-images
returns-clause-images c = λ told. (part_left (held_files c.args.self.now.first) (held_files c.args.self.now.held) (held_files c.write_units.new.now)
    c.args.self.now.steps.items c.write_units.new.steps.items c.args.file c.args.unit (units_of c.args.bytes.now) c.call_fails-fails.result
    c.in-Ok.ensures.ok).images

pub returns-clause-time : goal.returns-clause-time
returns-clause-time c = λ told. (part_left (held_files c.args.self.now.first) (held_files c.args.self.now.held) (held_files c.write_units.new.now)
    c.args.self.now.steps.items c.write_units.new.steps.items c.args.file c.args.unit (units_of c.args.bytes.now) c.call_fails-fails.result
    c.in-Ok.ensures.ok).time

pub returns-clause-later : goal.returns-clause-later
returns-clause-later c = (part_left (held_files c.args.self.now.first) (held_files c.args.self.now.held) (held_files c.write_units.new.now)
    c.args.self.now.steps.items c.write_units.new.steps.items c.args.file c.args.unit (units_of c.args.bytes.now) c.call_fails-fails.result
    c.in-Ok.ensures.ok).time.later

pub returns-then-fails-clause-outcome : goal.returns-then-fails-clause-outcome
returns-then-fails-clause-outcome c =
    named_fails c.args.self.now _ (Write c.args.file c.args.unit c.args.bytes.now) c.call_fails-fails.ensures.counted refl refl refl
    (ap (λ (xs : List ℕ). list_any (λ call. call == c.call_fails-fails.new.calls) xs) (sym c.deref.ensures.value)
    ∙ sym c.call_fails-fails.ensures.named ∙ c.if-fails.true) c.saturating_add-self-then-fails.ensures
    (subst (λ (half : Bool). WroteAny (held_files c.args.self.now.held) (held_files c.write_units.new.now) c.args.self.now.steps.items
    c.write_units.new.steps.items c.args.file c.args.unit (part_of half (units_of c.args.bytes.now))) c.if-fails.true c.in-Ok.ensures.ok)

pub returns-clause-rises : goal.returns-clause-rises
returns-clause-rises c =
    let bytes = c.args.bytes.now in
    whole_rose (held_files c.args.self.now.first) (held_files c.args.self.now.held) (held_files c.write_units.new.now) c.args.self.now.steps.items
    c.write_units.new.steps.items c.args.file c.args.unit (units_of bytes)
    (omega (arith, length-cut_up (length bytes / 16) bytes, c.requires.fits.some, c.requires.fits.whole))
    (subst (λ (half : Bool). WroteAny (held_files c.args.self.now.held) (held_files c.write_units.new.now) c.args.self.now.steps.items
    c.write_units.new.steps.items c.args.file c.args.unit (part_of half (units_of c.args.bytes.now))) c.if-fails.false c.in-Ok.ensures.ok)

pub returns-clause-outcome : goal.returns-clause-outcome
returns-clause-outcome c =
    other_passes c.args.self.now _ (Write c.args.file c.args.unit c.args.bytes.now) c.call_fails-fails.ensures.counted refl refl refl
    (ap (λ (xs : List ℕ). list_any (λ call. call == c.call_fails-fails.new.calls) xs) (sym c.deref.ensures.value)
    ∙ sym c.call_fails-fails.ensures.named ∙ c.if-fails.false) refl
    (subst (λ (half : Bool). WroteAny (held_files c.args.self.now.held) (held_files c.write_units.new.now) c.args.self.now.steps.items
    c.write_units.new.steps.items c.args.file c.args.unit (part_of half (units_of c.args.bytes.now))) c.if-fails.false c.in-Ok.ensures.ok)

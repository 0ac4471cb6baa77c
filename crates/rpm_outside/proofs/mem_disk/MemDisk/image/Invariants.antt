use Rattle.std.proofs.Common.{◌≡◌, take}
use Rattle.rpm_outside.proofs.Vocabulary.{after_steps, held_files, Images, picked_image}
use Rattle.rpm_outside.proofs.mem_disk.MemDisk.image.Given as goal

abbrev pub invariant-loop-k : goal.invariant-loop-k
invariant-loop-k l = record {
  now : held_files l.now ≡ after_steps (take l.k l.self.steps.items) (held_files l.self.first);
  picked : held_files l.image ≡ picked_image l.pick (take l.k l.self.steps.items) (held_files l.self.first) (held_files l.self.first);
  image : Images (take l.k l.self.steps.items) (held_files l.self.first) (held_files l.image);
}

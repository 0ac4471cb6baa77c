-- The calls of a disk.
use Rattle.std.specs.Prelude.{ℕ, List}
use Rattle.rpm_outside.specs.declared.disk.File.{File}

-- a read is of so many bytes from a unit on, and a write of these bytes
pub data Call : Type 0 where
  Len : File → Call
  Read : File → ℕ → ℕ → Call
  Write : File → ℕ → List ℕ → Call
  Sync : File → Call

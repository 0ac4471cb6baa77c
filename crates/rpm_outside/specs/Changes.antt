-- What a run of calls changes that writes one file.
use Rattle.std.specs.Prelude.{IsTrue, ◌≡◌, ℕ}
use Rattle.rpm_outside.specs.declared.disk.Disk as disk
use Rattle.rpm_outside.specs.declared.disk.File.{File}
use Rattle.rpm_outside.specs.declared.disk.File.TheVariants.{Pkg, Idx, Log}
use Rattle.rpm_outside.specs.Files.{Units, Files, file_of}
use Rattle.rpm_outside.specs.Leaves.{CrashLeavesOnly}
use Rattle.rpm_outside.specs.Looks.{ReadAtMost}

-- each of these images has this file as it reads
abbrev pub IsDurable : File → Files → (Files → Type 0) → Type 0
IsDurable file files images = (image : Files) → images image → file_of file image ≡ file_of file files

-- each of these images has all three files as they read
abbrev pub AreDurable : Files → (Files → Type 0) → Type 0
AreDurable files images = (image : Files) → images image → image ≡ files

-- a file is as it was
abbrev pub IsSame : Units → Units → Type 0
IsSame old new = new ≡ old

-- how a file changes where R holds of that one file, before and after, and the other two stay
abbrev pub OnlyIn : File → (Units → Units → Type 0) → File → Units → Units → Type 0
OnlyIn Pkg R Pkg = R
OnlyIn Idx R Idx = R
OnlyIn Log R Log = R
OnlyIn file R other = IsSame

-- an image in which this file was changed so from one of these, and whose other files are that one's
pub record IsImageOfChange (file : File) (R : Units → Units → Type 0) (images : Files → Type 0)
    (image : Files) : Type 0 where
  pub from : Files
  pub was : images from
  pub pkg : OnlyIn file R Pkg from.pkg image.pkg
  pub idx : OnlyIn file R Idx from.idx image.idx
  pub log : OnlyIn file R Log from.log image.log

-- an image whose other files are those of one of these, and whose file has P
abbrev pub IsTornOnly : File → (Units → Type 0) → (Files → Type 0) → Files → Type 0
IsTornOnly file P images = IsImageOfChange file (λ from now. P now) images

-- a run of calls that changes this file alone, and it so, and reads at most so many bytes of it
pub record Changes {D : Type 0} (g : disk.Ghosts D) (file : File) (R : Units → Units → Type 0) (most : ℕ)
    (old new : D) : Type 0 where
  pub pkg : IsTrue g.tells → OnlyIn file R Pkg (g.files old).pkg (g.files new).pkg
  pub idx : IsTrue g.tells → OnlyIn file R Idx (g.files old).idx (g.files new).idx
  pub log : IsTrue g.tells → OnlyIn file R Log (g.files old).log (g.files new).log
  pub now : IsTrue g.tells → (image : Files) → g.left_since new (g.moment new) image
      → IsImageOfChange file R (g.left_since old (g.moment old)) image
  pub any_moment : IsTrue g.tells → CrashLeavesOnly g old new (IsImageOfChange file R (g.left_since old (g.moment old)))
  pub reads : ReadAtMost file most (g.bytes_read old) (g.bytes_read new)
  pub goes_on : g.follows old new

-- Counts of what was read, of the disk below and without it.
use Rattle.std.proofs.Common.{◌≡◌, ℕ, ◌+◌, refl, arith}
use Rattle.rpm_outside.specs.declared.disk.Disk as disk
use Rattle.rpm_group.proofs.Vocabulary.{bytes_for, CountsRead, File, Idx, Log, Pkg, RoseBy, Spared, spared_of}

bytes_sum : (file f : File) (m n most : ℕ) → m + n ≡ most → bytes_for file f m + bytes_for file f n ≡ bytes_for file f most
bytes_sum Pkg Pkg m n most is = is
bytes_sum Pkg Idx m n most is = refl
bytes_sum Pkg Log m n most is = refl
bytes_sum Idx Pkg m n most is = refl
bytes_sum Idx Idx m n most is = is
bytes_sum Idx Log m n most is = refl
bytes_sum Log Pkg m n most is = refl
bytes_sum Log Idx m n most is = refl
bytes_sum Log Log m n most is = is

-- none were read
pub rose_none : (file f : File) (n old new : ℕ) → n ≡ 0 → new ≡ old → RoseBy old (bytes_for file f n) new
rose_none file f n old new none same =
    let zero : bytes_for file f n ≡ 0 = omega (arith, bytes_sum file f n n n (omega arith)) in
    record { later = omega arith; no_less = omega arith; no_more = omega arith }

rose_sum : (a b c d m n most : ℕ) → m + n ≡ most → RoseBy a m b → RoseBy c n d → RoseBy (a + c) most (b + d)
rose_sum a b c d m n most is one two = record {
  later = omega (arith, one.later, two.later);
  no_less = omega (arith, is, one.no_less, two.no_less, one.later, two.later);
  no_more = omega (arith, is, one.no_more, two.no_more);
}

module _ {D : Type 0} (d : disk.Ghosts D) (file : File) where
  -- so many are read of the disk below, and so many without it
  pub counts_both : (m n most : ℕ) (old new : D) (so sn : Spared) → m + n ≡ most
      → ((f : File) → RoseBy (d.bytes_read old f) (bytes_for file f m) (d.bytes_read new f))
      → ((f : File) → RoseBy (spared_of so f) (bytes_for file f n) (spared_of sn f))
      → CountsRead d file most old new so sn
  counts_both m n most old new so sn is below spared = record {
    rose = λ f. rose_sum (d.bytes_read old f) (d.bytes_read new f) (spared_of so f) (spared_of sn f) (bytes_for file f m) (bytes_for file f n)
        (bytes_for file f most) (bytes_sum file f m n most is) (below f) (spared f);
    later = λ f. (spared f).later;
  }

  -- all are read of the disk below
  pub counts_below : (most : ℕ) (old new : D) (so : Spared) → ((f : File) → RoseBy (d.bytes_read old f) (bytes_for file f most) (d.bytes_read new f))
      → CountsRead d file most old new so so
  counts_below most old new so below =
      counts_both most 0 most old new so so (omega arith) below (λ f. rose_none file f 0 (spared_of so f) (spared_of so f) refl refl)

  -- none are
  pub counts_spared : (n most : ℕ) (old new : D) (so sn : Spared) → n ≡ most → ((f : File) → d.bytes_read new f ≡ d.bytes_read old f)
      → ((f : File) → RoseBy (spared_of so f) (bytes_for file f n) (spared_of sn f))
      → CountsRead d file most old new so sn
  counts_spared n most old new so sn is same spared =
      counts_both 0 n most old new so sn (omega arith) (λ f. rose_none file f 0 (d.bytes_read old f) (d.bytes_read new f) refl (same f)) spared

  -- after calls that read nothing
  pub counts_after : (most : ℕ) (first old new : D) (so sn : Spared) → ((f : File) → d.bytes_read old f ≡ d.bytes_read first f)
      → CountsRead d file most old new so sn → CountsRead d file most first new so sn
  counts_after most first old new so sn same counts = record {
    rose = λ f. record {
      later = omega (arith, same f, (counts.rose f).later);
      no_less = omega (arith, same f, (counts.rose f).no_less);
      no_more = omega (arith, same f, (counts.rose f).no_more);
    };
    later = counts.later;
  }

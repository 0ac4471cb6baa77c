-- Blocks that were read by one call are a head and the rest.
use Rattle.std.proofs.Common.{◌≡◌, ℕ, suc, ◌+◌, ◌-◌, ◌*◌, ◌/◌, ◌<◌, ◌≤◌, List, ◌++◌, length, take, drop, sym, ap, ◌∙◌, arith}
use Rattle.std.proofs.Math.Seq.{drop-cons}
use Rattle.std.proofs.lemmas.List.{drop-append-le, drop_all, get_or-take, get_or-drop, length-take}
use Rattle.rpm_pkgdb.proofs.Vocabulary.{blank, blocks_at, bytes_of, Frame, Slot, unit_at, unit_at-cut_up, Units, units_of}

abbrev pub parts : List ℕ → List ℕ → Frame
parts head rest = record { head = head; rest = rest }

module _ (file : Units) (s : Slot) (bytes : List ℕ) (some : 0 < s.count) (within : s.offset + s.count ≤ length file) (long : length bytes ≡ 16 * s.count)
    (units : units_of bytes ≡ take s.count (drop s.offset file)) (all : bytes ≡ bytes_of (take s.count (drop s.offset file))) where
  pub first : take 16 bytes ≡ unit_at file s.offset
  first =
      sym (unit_at-cut_up (length bytes / 16) bytes 0 (omega (arith, long, some)))
      ∙ ap (λ (us : Units). unit_at us 0) units
      ∙ get_or-take s.count (drop s.offset file) 0 blank some
      ∙ get_or-drop s.offset file 0 blank
      ∙ ap (unit_at file) (omega arith)

  others : drop 16 bytes ≡ bytes_of (take (s.count - 1) (drop (s.offset + 1) file))
  others =
      let head = unit_at file s.offset in
      let rest = bytes_of (take (s.count - 1) (drop (suc s.offset) file)) in
      let sixteen : length head ≡ 16 = sym (ap length first) ∙ omega (arith, length-take 16 bytes, long, some) in
      let next : suc s.offset ≡ s.offset + 1 = omega arith in
      let more : s.count ≡ suc (s.count - 1) = omega (arith, some) in
      let parts : bytes ≡ head ++ rest =
      all ∙ ap (λ (k : ℕ). bytes_of (take k (drop s.offset file))) more
      ∙ ap (λ (us : Units). bytes_of (take (suc (s.count - 1)) us)) (drop-cons file s.offset blank (omega (arith, within, some))) in
      ap (drop 16) parts ∙ drop-append-le 16 head rest (omega (arith, sixteen))
      ∙ ap (λ (bs : List ℕ). bs ++ rest) (drop_all 16 head (omega (arith, sixteen)))
      ∙ ap (λ (k : ℕ). bytes_of (take (s.count - 1) (drop k file))) next

  pub are_blocks : (head rest : List ℕ) → head ≡ take 16 bytes → rest ≡ drop 16 bytes → parts head rest ≡ blocks_at s file
  are_blocks head rest h r = ap (λ (b : List ℕ). parts b rest) (h ∙ first) ∙ ap (parts (unit_at file s.offset)) (r ∙ others)

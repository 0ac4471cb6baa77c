-- Units of the log that are copied to a file, a piece at a time.
use Rattle.std.proofs.Common.{◌≡◌, ℕ, ◌+◌, ◌*◌, ◌/◌, ◌<◌, ◌≤◌, List, ◌++◌, length, take, drop, sym, ap, ◌∙◌, arith}
use Rattle.std.proofs.lemmas.List.{length-take, length-drop, drop-drop}
use Rattle.std.proofs.Math.Seq.{take-add}
use Rattle.rpm_group.proofs.Vocabulary.{File, file_of, file_of-with, Files, Log, other_file, with_units, put_some, put_some_append, put_some_is, Units, with_file}
use Rattle.rpm_group.proofs.Vocabulary.{with_file-with_file}

pub page_count : (n : ℕ) (page : List ℕ) → length page ≡ 4096 → n ≤ 256 → length (take (16 * n) page) / 16 ≡ n
page_count n page long le = omega (arith, length-take (16 * n) page)

module _ (file : File) (at from done n : ℕ) (log : Units) (first mid new : Files) (some : 0 < n) (within : from + done + n ≤ length log) where
  abbrev so_far : Units
  so_far = take done (drop from log)

  abbrev piece : Units
  piece = take n (drop (from + done) log)

  parts : take (done + n) (drop from log) ≡ so_far ++ piece
  parts = take-add done n (drop from log) ∙ ap (λ (us : Units). so_far ++ take n us) (drop-drop done from log)

  long_so_far : length so_far ≡ done
  long_so_far = omega (arith, length-take done (drop from log), length-drop from log)

  long_piece : length piece ≡ n
  long_piece = omega (arith, length-take n (drop (from + done) log), length-drop (from + done) log)

  pub copied_more : (k : ℕ) (source : Units) → k ≡ n → mid ≡ with_file file (put_some at so_far (file_of file first)) first → source ≡ log
      → new ≡ with_file file (with_units (at + done) (take k (drop (from + done) source)) (file_of file mid)) mid
      → new ≡ with_file file (put_some at (take (done + n) (drop from log)) (file_of file first)) first
  copied_more k source is_n is same next =
      next
      ∙ ap (λ (j : ℕ). with_file file (with_units (at + done) (take j (drop (from + done) source)) (file_of file mid)) mid) is_n
      ∙ ap (λ (us : Units). with_file file (with_units (at + done) (take n (drop (from + done) us)) (file_of file mid)) mid) same
      ∙ ap (λ (f : Files). with_file file (with_units (at + done) piece (file_of file f)) f) is
      ∙ with_file-with_file file (with_units (at + done) piece (file_of file (with_file file here first))) here first
      ∙ ap (λ (us : Units). with_file file (with_units (at + done) piece us) first) (file_of-with file here first)
      ∙ ap (λ (us : Units). with_file file us first) (put_some_append at (at + done) so_far piece (file_of file first) (omega (arith, long_piece))
      (omega (arith, long_so_far)))
      ∙ ap (λ (us : Units). with_file file (put_some at us (file_of file first)) first) (sym parts)
    where
      here : Units
      here = put_some at so_far (file_of file first)

-- the log isn't the file that was written
pub log_stays : (file : File) (units : Units) (old new : Files) → (file ≡ Log → ⊥) → new ≡ with_file file units old → new.log ≡ old.log
log_stays file units old new differ is = ap (λ (f : Files). f.log) is ∙ other_file Log file units old (λ e. differ (sym e))

pub copied_all : (file : File) (at from done count : ℕ) (log : Units) (first new : Files) → done ≡ count → 0 < count → from + count ≤ length log
    → new ≡ with_file file (put_some at (take done (drop from log)) (file_of file first)) first
    → new ≡ with_file file (with_units at (take count (drop from log)) (file_of file first)) first
copied_all file at from done count log first new is some within so_far =
    so_far
    ∙ ap (λ (k : ℕ). with_file file (put_some at (take k (drop from log)) (file_of file first)) first) is
    ∙ ap (λ (us : Units). with_file file us first)
    (put_some_is at (take count (drop from log)) (file_of file first) (omega (arith, length-take count (drop from log), length-drop from log)))

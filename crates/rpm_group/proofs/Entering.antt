-- A run that is written to the log is an entry there.
use Rattle.std.proofs.Common.{◌≡◌, ℕ, suc, ◌+◌, ◌<◌, ◌≤◌, ◌^◌, List, [], ◌∷◌, ◌++◌, length, max, sym, ap, subst, ◌∙◌, arith}
use Rattle.rpm_group.proofs.Vocabulary.{changed_more, IsChangedInRange, entries_kept, entries_push, EntriesIn, Entry, EntryIn, File, Files, HeadsEndInZeros, Idx}
use Rattle.rpm_group.proofs.Vocabulary.{length-put, Log, number_of_file, Pkg, with_units, put_before, put_inside, torn_changed, torn_file_whole, TornFile, unit_at}
use Rattle.rpm_group.proofs.Vocabulary.{unit_of_words, Units, with_file, word, word_0, word_1, word_2, word_3}
use Rattle.rpm_group.proofs.Orders.{heads_kept, heads_push}

number_small : (file : File) → number_of_file file < 2 ^ 32
number_small Pkg = omega arith
number_small Idx = omega arith
number_small Log = omega arith

-- the head of an entry
abbrev pub head_unit : Entry → List ℕ
head_unit entry = unit_of_words (number_of_file entry.file) entry.first (length entry.units) 0

module _ (entry : Entry) (p : ℕ) (old new : Units) (is : new ≡ with_units p (head_unit entry ∷ entry.units) old)
    (not_log : entry.file ≡ Log → ⊥) (some : 0 < length entry.units) (room : entry.first + length entry.units ≤ 268_435_456) where
  long : length new ≡ max (length old) (p + (1 + length entry.units))
  long = ap length is ∙ length-put p (head_unit entry ∷ entry.units) old ∙ omega arith

  inside : (k : ℕ) → k < 1 + length entry.units → unit_at new (p + k) ≡ unit_at (head_unit entry ∷ entry.units) k
  inside k below = ap (λ (us : Units). unit_at us (p + k)) is ∙ put_inside p (head_unit entry ∷ entry.units) old k (omega arith)

  at_head : unit_at new p ≡ head_unit entry
  at_head =
      let same : p ≡ p + 0 = omega arith in
      ap (λ (i : ℕ). unit_at new i) same ∙ inside 0 (omega arith)

  pub entered : EntryIn entry p new
  entered = record {
    not_log = not_log;
    file = ap (word 0) at_head ∙ word_0 (number_of_file entry.file) entry.first (length entry.units) 0 (number_small entry.file);
    first = ap (word 1) at_head ∙ word_1 (number_of_file entry.file) entry.first (length entry.units) 0 (omega (arith, room));
    count = ap (word 2) at_head ∙ word_2 (number_of_file entry.file) entry.first (length entry.units) 0 (omega (arith, room));
    some = some;
    room = room;
    within = omega (arith, long);
    units = λ k below.
        let place : p + 1 + k ≡ p + suc k = omega arith in
        ap (λ (i : ℕ). unit_at new i) place ∙ inside (suc k) (omega arith);
  }

  pub entered_more : (entries : List Entry) (from next : ℕ) → EntriesIn entries from p old → next ≡ p + 1 + length entry.units
      → EntriesIn (entries ++ entry ∷ []) from next new
  entered_more entries from next so_far is_next =
      entries_push entries from p next entry new
      (entries_kept entries from p old new (λ i low high. ap (λ (us : Units). unit_at us i) is ∙ put_before p (head_unit entry ∷ entry.units) old i high)
      (omega (arith, long)) so_far)
      entered is_next

  pub entered_heads : (entries : List Entry) (from : ℕ) → EntriesIn entries from p old → HeadsEndInZeros entries from old
      → HeadsEndInZeros (entries ++ entry ∷ []) from new
  entered_heads entries from so_far heads =
      let same = λ (i : ℕ) (low : from ≤ i) (high : i < p). ap (λ (us : Units). unit_at us i) is ∙ put_before p (head_unit entry ∷ entry.units) old i high in
      heads_push entries from p entry new (entries_kept entries from p old new same (omega (arith, long)) so_far)
      (heads_kept entries from p old new same so_far heads)
      (ap (word 3) at_head ∙ word_3 (number_of_file entry.file) entry.first (length entry.units) 0 (omega arith))

-- what a write to the log changes
pub put_changed : (at end low high : ℕ) (units : Units) (old new : Files) → at + length units ≡ end → low ≤ at → end ≤ high
    → new ≡ with_file Log (with_units at units old.log) old → IsChangedInRange Log low high old new
put_changed at end low high units old new long below above is =
    changed_more Log at end low high old new below above
    (torn_changed Log at units end old new long (subst (λ (f : Files). TornFile Log at units old f) (sym is) (torn_file_whole Log at units old)))

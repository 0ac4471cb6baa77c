-- Entries that stand in a log, and the log that they make.
use Rattle.std.specs.Prelude.{◌≡◌, ◌⊎◌, ℕ, ◌+◌, ◌<◌, ◌≤◌, List, [], ◌∷◌, ◌++◌, length, take, drop, Bool, true, false}
use Rattle.std.specs.Prelude.{if◌then◌else◌, nat_le, nat_lt}
use Rattle.std.proofs.Common.{inl, inr, ⊎_elim, refl, sym, ap, subst, ◌∙◌, arith, zero, suc, ◌==◌, get_or}
use Rattle.std.proofs.lemmas.List.{length-take, length-drop, get_or-take, get_or-drop, get_or_past}
use Rattle.std.proofs.lemmas.Bool.{cases_lt, cases_Bool, and_parts, eqb-true, and_from, le-leb, lt-ltb, eq-eqb, ne_eqb}
use Rattle.rpm_outside.specs.declared.disk.File.{File}
use Rattle.rpm_outside.specs.declared.disk.File.TheVariants.{Pkg, Idx, Log}
use Rattle.rpm_outside.specs.Files.{Units, Files, with_file, unit_at, with_units, blank}
use Rattle.rpm_outside.specs.Crash.{TornFile}
use Rattle.rpm_outside.specs.laws.Puts.{length-put, put_after}
use Rattle.rpm_outside.proofs.laws.PutLaws.{same_units}
use Rattle.rpm_outside.specs.Logs.{Entry, Closed, Open, is_blank_unit, is_commit_record, is_log_head, entry_at, before}
use Rattle.rpm_outside.specs.Logs.{heads, log_state, with_entries, without_log, reopened_files}
use Rattle.rpm_outside.specs.Words.{word}
use Rattle.rpm_outside.proofs.laws.LogLaws.{reopened_closed, reopened_open, torn_first, first_unit}
use Rattle.rpm_outside.proofs.laws.LogRules.{heads_right, heads_done, commit_record_right}
use Rattle.rpm_outside.specs.LogWrites.{number_of_file, EntryIn, EntriesIn, IsCommitRecord}

pub entries_end : (entries : List Entry) (p end : ℕ) (log : Units) → EntriesIn entries p end log → p ≤ end
entries_end [] p end log is = omega (arith, is)
entries_end (entry ∷ entries) p end log (one, rest) =
    omega (arith, entries_end entries (p + 1 + length entry.units) end log rest)

-- they stay where the log was changed after them alone
pub entries_kept : (entries : List Entry) (p end : ℕ) (old new : Units)
    → ((i : ℕ) → p ≤ i → i < end → unit_at new i ≡ unit_at old i) → length old
    ≤ length new → EntriesIn entries p end old → EntriesIn entries p end new
entries_kept [] p end old new same long is = is
entries_kept (entry ∷ entries) p end old new same long (one, rest) =
    let later : p + 1 + length entry.units ≤ end = entries_end entries (p + 1 + length entry.units) end old rest in
    let head : unit_at new p ≡ unit_at old p = same p (omega arith) (omega arith) in (
      record {
        not_log = one.not_log;
        file = ap (word 0) head ∙ one.file;
        first = ap (word 1) head ∙ one.first;
        count = ap (word 2) head ∙ one.count;
        some = one.some;
        room = one.room;
        within = omega (arith, one.within, long);
        units = λ k below. same (p + 1 + k) (omega arith) (omega (arith, below, later)) ∙ one.units k below;
      },
      entries_kept entries (p + 1 + length entry.units) end old new
          (λ i low high. same i (omega (arith, low)) high) long rest,
    )

-- one more at the end
pub entries_push : (entries : List Entry) (p q end : ℕ) (entry : Entry) (log : Units) → EntriesIn entries p q log
    → EntryIn entry q log → end
    ≡ q + 1 + length entry.units → EntriesIn (entries ++ entry ∷ []) p end log
entries_push [] p q end entry log is one e = (subst (λ (i : ℕ). EntryIn entry i log) (sym is) one, omega (arith, is, e))
entries_push (x ∷ entries) p q end entry log (first, rest) one e =
    (first, entries_push entries (p + 1 + length x.units) q end entry log rest one e)

-- and then others
pub entries_then : (es fs : List Entry) (p q end : ℕ) (log : Units) → EntriesIn es p q log → EntriesIn fs q end log
    → EntriesIn (es ++ fs) p end log
entries_then [] fs p q end log is rest = subst (λ (i : ℕ). EntriesIn fs i end log) (sym is) rest
entries_then (e ∷ es) fs p q end log (one, more) rest =
    (one, entries_then es fs (p + 1 + length e.units) q end log more rest)

-- ---- the heads say them

file_is : (file : File) (n : ℕ) → (file ≡ Log → ⊥) → n ≡ number_of_file file → (if n == 1 then Pkg else Idx) ≡ file
file_is Pkg n differ is = ap (λ (b : Bool). if b then Pkg else Idx) (eq-eqb n 1 is)
file_is Idx n differ is =
    ap (λ (b : Bool). if b then Pkg else Idx) (ne_eqb n 1 (λ one. absurd (omega (arith, one, is))))
file_is Log n differ is = absurd (differ refl)

number_low : (file : File) → (file ≡ Log → ⊥) → 1 ≤ number_of_file file
number_low Pkg differ = omega arith
number_low Idx differ = omega arith
number_low Log differ = absurd (differ refl)

number_high : (file : File) → number_of_file file ≤ 2
number_high Pkg = omega arith
number_high Idx = omega arith
number_high Log = omega arith

module _ (entry : Entry) (p last : ℕ) (log : Units) (is : EntryIn entry p log)
    (below : p + length entry.units ≤ last) where
  abbrev log_head_unit : List ℕ
  log_head_unit = unit_at log p

  pub entry_head : is_log_head last p log_head_unit ≡ true
  unfolding is_log_head
  entry_head =
      and_from (nat_le p last) _ (le-leb p last (omega (arith, below)))
      (and_from (nat_le 1 (word 0 log_head_unit)) _ (le-leb 1 (word 0 log_head_unit)
      (omega (arith, is.file, number_low entry.file is.not_log)))
      (and_from (nat_le (word 0 log_head_unit) 2) _
      (le-leb (word 0 log_head_unit) 2 (omega (arith, is.file, number_high entry.file)))
      (and_from (nat_lt 0 (word 2 log_head_unit)) _ (lt-ltb 0 (word 2 log_head_unit) (omega (arith, is.count, is.some)))
      (and_from (nat_le (word 1 log_head_unit + word 2 log_head_unit) 268_435_456)
      (nat_le (p + word 2 log_head_unit) last)
      (le-leb (word 1 log_head_unit + word 2 log_head_unit) 268_435_456
      (omega (arith, is.first, is.count, is.room)))
      (le-leb (p + word 2 log_head_unit) last (omega (arith, is.count, below)))))))

  units_are : take (word 2 log_head_unit) (drop (p + 1) log) ≡ entry.units
  units_are = same_units (take (word 2 log_head_unit) (drop (p + 1) log)) entry.units
      (omega (
        arith,
        length-take (word 2 log_head_unit) (drop (p + 1) log),
        length-drop (p + 1) log,
        is.count,
        is.within,
      ))
      (λ k. elim (cases_lt k (length entry.units)) [
        | inl inside ↦
            get_or-take (word 2 log_head_unit) (drop (p + 1) log) k blank (omega (arith, is.count, inside))
            ∙ get_or-drop (p + 1) log k blank
            ∙ is.units k inside
        | inr past ↦
            get_or_past (take (word 2 log_head_unit) (drop (p + 1) log)) k blank
            (omega (arith, length-take (word 2 log_head_unit) (drop (p + 1) log), is.count, past))
            ∙ sym (get_or_past entry.units k blank past)
      ])

  pub entry_is : entry_at p log ≡ entry
  unfolding entry_at
  entry_is =
      ap (λ (f : File). record {
        file = f;
        first = word 1 log_head_unit;
        units = take (word 2 log_head_unit)
            (drop (p + 1) log);
      })
      (file_is entry.file (word 0 log_head_unit) is.not_log is.file)
      ∙ ap (λ (n : ℕ). record { file = entry.file; first = n; units = take (word 2 log_head_unit) (drop (p + 1) log) })
      is.first
      ∙ ap (λ (us : Units). record { file = entry.file; first = entry.first; units = us }) units_are

pub heads_are : (entries : List Entry) (p last : ℕ) (log : Units) → EntriesIn entries p (last + 1) log
    → heads (length entries) p last log ≡ Open entries
heads_are [] p last log is = heads_done p last log is
heads_are (entry ∷ entries) p last log (one, rest) =
    let below : p + length entry.units ≤ last = omega
    (arith, entries_end entries (p + 1 + length entry.units) (last + 1) log rest) in
    let next : p + 1 + word 2 (unit_at log p) ≡ p + 1 + length entry.units = ap (λ (n : ℕ). p + 1 + n) one.count in
    heads_right p last log (length entries) (entry_head entry p last log one below)
    ∙ ap (λ (k : ℕ). before (entry_at p log) (heads (length entries) k last log)) next
    ∙ ap (before (entry_at p log)) (heads_are entries (p + 1 + length entry.units) last log rest)
    ∙ ap (λ (e : Entry). Open (e ∷ entries)) (entry_is entry p last log one below)

-- ---- opening a log

pub commit_record_is : (n : ℕ) (commit_record : List ℕ) (entries last : ℕ) → IsCommitRecord commit_record entries last
    → 0 < entries → last < n → is_commit_record n commit_record ≡ true
unfolding is_commit_record
commit_record_is n commit_record entries last g some below =
    and_from (word 0 commit_record == 0x4c6d_7052) _ (eq-eqb (word 0 commit_record) 0x4c6d_7052 g.magic)
    (and_from (word 1 commit_record == 1) _ (eq-eqb (word 1 commit_record) 1 g.version)
    (and_from (nat_lt 0 (word 2 commit_record)) (nat_lt (word 3 commit_record) n)
    (lt-ltb 0 (word 2 commit_record) (omega (arith, g.count, some)))
    (lt-ltb (word 3 commit_record) n (omega (arith, g.end, below)))))

module _ (commit_record : List ℕ) (entries : List Entry) (last : ℕ) (log : Units)
    (g : IsCommitRecord commit_record (length entries) last) (some : 0 < length entries)
    (below : last < length log) (is : EntriesIn entries 1 (last + 1) log) where
  abbrev opened_log : Units
  opened_log = with_units 0 (commit_record ∷ []) log

  long : length opened_log ≡ length log
  long = omega (arith, length-put 0 (commit_record ∷ []) log)

  here : unit_at opened_log 0 ≡ commit_record
  here = first_unit commit_record log

  there : EntriesIn entries 1 (last + 1) opened_log
  there = entries_kept entries 1 (last + 1) log opened_log (λ i low high. put_after 0 (commit_record ∷ []) log i low)
      (omega (arith, long)) is

  -- with the commit record the log is open
  pub opened_is : log_state opened_log ≡ Open entries
  opened_is =
      commit_record_right opened_log (ap is_blank_unit here ∙ g.full)
      (ap (λ (u : List ℕ). is_commit_record (length opened_log) u) here
      ∙ commit_record_is (length opened_log) commit_record
      (length entries) last g some (omega (arith, long, below)))
      ∙ ap (λ (u : List ℕ). heads (word 2 u) 1 (word 3 u) opened_log) here
      ∙ ap (λ (n : ℕ). heads n 1 (word 3 commit_record) opened_log) g.count
      ∙ ap (λ (n : ℕ). heads (length entries) 1 n opened_log) g.end
      ∙ heads_are entries 1 last opened_log there

-- a commit record that was written in part represents the files before or after
pub opening : (commit_record : List ℕ) (entries : List Entry) (last : ℕ) (from image : Files)
    → IsCommitRecord commit_record (length entries) last → 0 < length entries → last
    < length from.log → EntriesIn entries 1 (last + 1) from.log → log_state from.log ≡ Closed
    → TornFile Log 0 (commit_record ∷ []) from image → (reopened_files image ≡ without_log from)
    ⊎ (reopened_files image ≡ with_entries entries (without_log from))
opening commit_record entries last from image g some below is closed torn = ⊎_elim
    (λ (same : image ≡ from). inl (ap reopened_files same ∙ reopened_closed from closed))
    (λ (same : image ≡ with_file Log (with_units 0 (commit_record ∷ []) from.log) from).
    inr (ap reopened_files same ∙ reopened_open (with_file Log (with_units 0 (commit_record ∷ []) from.log) from) entries
    (opened_is commit_record entries last from.log g some below is)))
    (torn_first commit_record from image (omega (arith, below)) torn)

-- where there are entries the log is long enough for them
pub entries_long : (entries : List Entry) (p end : ℕ) (log : Units) → 0 < length entries → EntriesIn entries p end log
    → end ≤ length log
entries_long [] p end log some is = absurd (omega (arith, some))
entries_long (entry ∷ []) p end log some (one, rest) = omega (arith, one.within, rest)
entries_long (entry ∷ (x ∷ entries)) p end log some (one, rest) =
    entries_long (x ∷ entries) (p + 1 + length entry.units) end log (omega arith) rest

blank_bytes : (unit : List ℕ) → is_blank_unit unit ≡ true → (i : ℕ) → get_or unit i 0 ≡ 0
blank_bytes [] blank_unit i = refl
blank_bytes (b ∷ unit) blank_unit zero = eqb-true b 0 (and_parts (b == 0) (is_blank_unit unit) blank_unit).0
blank_bytes (b ∷ unit) blank_unit (suc i) = blank_bytes unit (and_parts (b == 0) (is_blank_unit unit) blank_unit).1 i

-- a unit whose first number isn't 0 isn't blank
pub word_full : (unit : List ℕ) → (word 0 unit ≡ 0 → ⊥) → is_blank_unit unit ≡ false
unfolding word
word_full unit some = elim (cases_Bool (is_blank_unit unit)) [
  | inr full ↦ full
  | inl blank_unit ↦
      let a : get_or unit 0 0 ≡ 0 = blank_bytes unit blank_unit 0 in
      let b : get_or unit 1 0 ≡ 0 = blank_bytes unit blank_unit 1 in
      let c : get_or unit 2 0 ≡ 0 = blank_bytes unit blank_unit 2 in
      let d : get_or unit 3 0 ≡ 0 = blank_bytes unit blank_unit 3 in
      absurd (some (omega (arith, a, b, c, d)))
]

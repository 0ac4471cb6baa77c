-- What a log represents while its entries are written, and when its commit record is.
use Rattle.std.specs.Prelude.{◌≡◌, ◌⊎◌, ℕ, ◌+◌, ◌<◌, ◌≤◌, max, List, [], ◌∷◌, length, Bool, true, false, if◌then◌else◌}
use Rattle.std.proofs.Common.{inl, inr, ⊎_elim, refl, sym, ap, subst, ◌∙◌, arith, zero, suc, ◌==◌}
use Rattle.std.proofs.lemmas.Bool.{cases_Bool}
use Rattle.rpm_outside.specs.declared.disk.File.{File}
use Rattle.rpm_outside.specs.declared.disk.File.TheVariants.{Pkg, Idx, Log}
use Rattle.rpm_outside.specs.Files.{Units, Files, file_of, with_file, unit_at, with_units, cases_file}
use Rattle.rpm_outside.specs.Crash.{TornFile}
use Rattle.rpm_outside.specs.laws.Puts.{length-put, put_inside, put_after}
use Rattle.rpm_outside.proofs.laws.PutLaws.{same_units}
use Rattle.rpm_outside.specs.Logs.{Entry, LogState, Closed, Malformed, Open, is_log_head, is_blank_unit}
use Rattle.rpm_outside.specs.Logs.{is_commit_record, entry_at, before, heads, log_state, with_entry, with_entries}
use Rattle.rpm_outside.specs.Logs.{with_state, without_log, reopened_files}
use Rattle.rpm_outside.specs.Words.{word}
use Rattle.rpm_outside.specs.Entries.{Covers, Within, ends_in, end_in}
use Rattle.rpm_outside.proofs.laws.EntryLaws.{within_same, written_within}

-- no entry is written to the log
abbrev pub NotLog : List Entry → Type 0
NotLog [] = Unit {0}
NotLog (entry ∷ entries) = (entry.file ≡ Log → ⊥) × NotLog entries

entry_not_log : (p : ℕ) (units : Units) → (entry_at p units).file ≡ Log → ⊥
unfolding entry_at
entry_not_log p units is = either (word 0 (unit_at units p) == 1) is
  where
    either : (b : Bool) → (if b then Pkg else Idx) ≡ Log → ⊥
    either true e = cc
    either false e = cc

before_open : (entry : Entry) (rest : LogState) (entries : List Entry) (P : List Entry → Type 0)
    → before entry rest ≡ Open entries
    → ((es : List Entry) → rest ≡ Open es → P (entry ∷ es)) → P entries
before_open entry Closed entries P is next = absurd (let e : Closed ≡ Open entries = is in cc)
before_open entry (Malformed unit) entries P is next = absurd (let e : Malformed unit ≡ Open entries = is in cc)
before_open entry (Open es) entries P is next =
    let e : Open (entry ∷ es) ≡ Open entries = is in
    let same : entry ∷ es ≡ entries = cc in
    subst P same (next es refl)

pub heads_not_log : (n p last : ℕ) (units : Units) (entries : List Entry) → heads n p last units ≡ Open entries
    → NotLog entries
unfolding heads
heads_not_log zero p last units entries is = elim (cases_Bool (p == last + 1)) [
  | inl holds ↦
      let e : Open [] ≡ Open entries = ap (λ (b : Bool). if b then Open [] else Malformed p) (sym holds) ∙ is in
      let same : [] ≡ entries = cc in
      subst NotLog same tt
  | inr fails ↦
      let e : Malformed p ≡ Open entries = ap (λ (b : Bool). if b then Open [] else Malformed p) (sym fails) ∙ is in
      absurd cc
]
heads_not_log (suc n) p last units entries is =
    let rest = heads n (p + 1 + word 2 (unit_at units p)) last units in
    elim (cases_Bool (is_log_head last p (unit_at units p))) [
      | inl holds ↦
          let e : before (entry_at p units) rest ≡ Open entries = ap
          (λ (b : Bool). if b then before (entry_at p units) rest else Malformed p)
          (sym holds) ∙ is in
          before_open (entry_at p units) rest entries NotLog e (λ es more. (
            entry_not_log p units,
            heads_not_log n (p + 1 + word 2 (unit_at units p))
                last units es more,
          ))
      | inr fails ↦
          let e : Malformed p ≡ Open entries = ap (λ (b : Bool). if b then before (entry_at p units) rest
          else Malformed p) (sym fails) ∙ is in
          absurd cc
    ]

pub log_not_log : (units : Units) (entries : List Entry) → log_state units ≡ Open entries → NotLog entries
unfolding log_state
log_not_log units entries is =
    let commit_record = unit_at units 0 in
    let rest = heads (word 2 commit_record) 1 (word 3 commit_record) units in
    let gated : LogState = if is_commit_record (length units) commit_record then rest else Malformed 0 in
    elim (cases_Bool (is_blank_unit commit_record)) [
      | inl holds ↦ let e : Closed ≡ Open entries = ap (λ (b : Bool). if b then Closed else gated) (sym holds) ∙ is in
          absurd cc
      | inr fails ↦
          let e : gated ≡ Open entries = ap (λ (b : Bool). if b then Closed else gated) (sym fails) ∙ is in
          elim (cases_Bool (is_commit_record (length units) commit_record)) [
            | inl right ↦ heads_not_log (word 2 commit_record) 1 (word 3 commit_record) units entries
                (ap (λ (b : Bool). if b then rest else Malformed 0) (sym right) ∙ e)
            | inr wrong ↦ let f : Malformed 0 ≡ Open entries = ap (λ (b : Bool). if b then rest else Malformed 0)
                (sym wrong) ∙ e in absurd cc
          ]
    ]

-- ---- files within the entries of their log

log_uncovered : (entries : List Entry) (i : ℕ) → NotLog entries → Covers entries Log i → ⊥
log_uncovered [] i not covers = covers
log_uncovered (entry ∷ entries) i not (inl w) = not.0 w.there
log_uncovered (entry ∷ entries) i not (inr later) = log_uncovered entries i not.1 later

log_ends : (entries : List Entry) (n : ℕ) → NotLog entries → ends_in Log entries n ≡ n
log_ends [] n not = refl
log_ends (entry ∷ entries) n not = log_ends entries (end_in Log entry n) not.1 ∙ one entry.file not.0
  where
    one : (file : File) → (file ≡ Log → ⊥) → end_in Log
        (record { file = file; first = entry.first; units = entry.units }) n ≡ n
    one file differ =
        elim (cases_file Log file) as (λ c. ⊎_elim (λ (same : Log ≡ file). max n (entry.first + length entry.units))
        (λ (other : Log ≡ file → ⊥). n) c ≡ n) [
          | inl same ↦ absurd (differ (sym same))
          | inr other ↦ refl
        ]

pub within_log : (entries : List Entry) (old new : Files) → NotLog entries → Within entries old new → new.log ≡ old.log
within_log entries old new not within =
    same_units new.log old.log (omega (
      arith,
      within.no_shorter Log,
      within.no_longer Log,
      log_ends entries
          (length old.log) not,
    ))
    (λ i. ⊎_elim (λ same. same) (λ covers. absurd (log_uncovered entries i not covers)) (within.each Log i))

pub within_unlogged : (entries : List Entry) (old new : Files) → NotLog entries → Within entries old new
    → Within entries (without_log old) (without_log new)
within_unlogged entries old new not within = record { each = units; no_shorter = longer; no_longer = shorter }
  where
    units : (file : File) (i : ℕ) → (unit_at (file_of file (without_log new)) i
        ≡ unit_at (file_of file (without_log old)) i) ⊎ Covers entries file i
    units Pkg i = within.each Pkg i
    units Idx i = within.each Idx i
    units Log i = inl refl

    longer : (file : File) → length (file_of file (without_log old)) ≤ length (file_of file (without_log new))
    longer Pkg = within.no_shorter Pkg
    longer Idx = within.no_shorter Idx
    longer Log = omega arith

    shorter : (file : File) → length (file_of file (without_log new))
        ≤ ends_in file entries (length (file_of file (without_log old)))
    shorter Pkg = within.no_longer Pkg
    shorter Idx = within.no_longer Idx
    shorter Log = omega arith

-- ---- what files represent

pub reopened_closed : (files : Files) → log_state files.log ≡ Closed → reopened_files files ≡ without_log files
reopened_closed files is = ap (λ (s : LogState). with_state s (without_log files)) is

pub reopened_open : (files : Files) (entries : List Entry) → log_state files.log ≡ Open entries
    → reopened_files files ≡ with_entries entries (without_log files)
reopened_open files entries is = ap (λ (s : LogState). with_state s (without_log files)) is

-- entries that were written in part change nothing
pub reopened_within : (files image : Files) (entries : List Entry) → log_state files.log ≡ Open entries
    → Within entries files image → reopened_files image
    ≡ reopened_files files
reopened_within files image entries is within =
    let not = log_not_log files.log entries is in
    let same : image.log ≡ files.log = within_log entries files image not within in
    reopened_open image entries (ap log_state same ∙ is)
    ∙ within_same entries (without_log files) (without_log image) (within_unlogged entries files image not within)
    ∙ sym (reopened_open files entries is)

pub blank_closed : (units : Units) → is_blank_unit (unit_at units 0) ≡ true → log_state units ≡ Closed
unfolding log_state
blank_closed units blank =
    ap (λ (b : Bool). if b then Closed else (if is_commit_record (length units) (unit_at units 0) then heads
    (word 2 (unit_at units 0)) 1
    (word 3 (unit_at units 0)) units else Malformed 0)) blank

-- a write of the first unit of the log that was cut short was not done or done
module _ (unit : List ℕ) (from image : Files) (some : 0 < length from.log)
    (torn : TornFile Log 0 (unit ∷ []) from image) where
  abbrev whole_log : Units
  whole_log = with_units 0 (unit ∷ []) from.log

  same_length : length image.log ≡ length from.log
  same_length = omega (arith, torn.torn.no_shorter, torn.torn.no_longer, length-put 0 (unit ∷ []) from.log)

  whole_length : length whole_log ≡ length from.log
  whole_length = omega (arith, length-put 0 (unit ∷ []) from.log)

  rest : (i : ℕ) → 1 ≤ i → unit_at image.log i ≡ unit_at from.log i
  rest i past = ⊎_elim (λ old. old) (λ new. new ∙ put_after 0 (unit ∷ []) from.log i past) (torn.torn.each i)

  pub torn_first : (image ≡ from) ⊎ (image ≡ with_file Log whole_log from)
  torn_first = elim (torn.torn.each 0) [
    | inl old ↦ inl (torn.others ∙ ap (λ (u : Units). with_file Log u from)
        (same_units image.log from.log same_length (first_old old)))
    | inr new ↦ inr (torn.others ∙ ap (λ (u : Units). with_file Log u from)
        (same_units image.log whole_log (omega (arith, same_length, whole_length))
        (first_new new)))
  ]
    where
      first_old : unit_at image.log 0 ≡ unit_at from.log 0 → (i : ℕ) → unit_at image.log i ≡ unit_at from.log i
      first_old old zero = old
      first_old old (suc i) = rest (suc i) (omega arith)

      first_new : unit_at image.log 0 ≡ unit_at whole_log 0 → (i : ℕ) → unit_at image.log i ≡ unit_at whole_log i
      first_new new zero = new
      first_new new (suc i) = rest (suc i) (omega arith) ∙ sym (put_after 0 (unit ∷ []) from.log (suc i) (omega arith))

pub first_unit : (unit : List ℕ) (log : Units) → unit_at (with_units 0 (unit ∷ []) log) 0 ≡ unit
first_unit unit log = put_inside 0 (unit ∷ []) log 0 (omega arith)

-- once the entries are written, the commit record can be made zeros
pub closing : (unit : List ℕ) (from image : Files) (entries : List Entry) → is_blank_unit unit ≡ true
    → 0 < length from.log → log_state from.log
    ≡ Open entries → with_entries entries (without_log from) ≡ without_log from
    → TornFile Log 0 (unit ∷ []) from image → reopened_files image ≡ without_log from
closing unit from image entries blank some is done torn = ⊎_elim
    (λ (same : image ≡ from). ap reopened_files same ∙ reopened_open from entries is ∙ done)
    (λ (same : image ≡ with_file Log (with_units 0 (unit ∷ []) from.log) from).
    let zeros : is_blank_unit (unit_at image.log 0) ≡ true = ap (λ (f : Files). is_blank_unit (unit_at f.log 0)) same
    ∙ ap is_blank_unit (first_unit unit from.log) ∙ blank in
    reopened_closed image (blank_closed image.log zeros) ∙ ap without_log same)
    (torn_first unit from image some torn)

-- ---- all entries written

unlogged_entry : (file : File) (first : ℕ) (units : Units) (files : Files) → (file ≡ Log → ⊥)
    → without_log (with_file file (with_units first units (file_of file files)) files)
    ≡ with_file file (with_units first units (file_of file (without_log files))) (without_log files)
unlogged_entry Pkg first units files differ = refl
unlogged_entry Idx first units files differ = refl
unlogged_entry Log first units files differ = absurd (differ refl)

pub unlogged_entries : (entries : List Entry) (files : Files) → NotLog entries
    → without_log (with_entries entries files) ≡ with_entries entries (without_log files)
unlogged_entries [] files not = refl
unlogged_entries (entry ∷ entries) files not =
    unlogged_entries entries (with_entry entry files) not.1
    ∙ ap (λ (f : Files). with_entries entries f) (unlogged_entry entry.file entry.first entry.units files not.0)

-- writing them again changes nothing
pub entries_twice : (entries : List Entry) (files : Files)
    → with_entries entries (with_entries entries files) ≡ with_entries entries files
entries_twice entries files = within_same entries files (with_entries entries files) (written_within entries files)

pub entries_done : (entries : List Entry) (files : Files) → NotLog entries
    → with_entries entries (without_log (with_entries entries files))
    ≡ without_log (with_entries entries files)
entries_done entries files not =
    ap (λ (f : Files). with_entries entries f) (unlogged_entries entries files not)
    ∙ entries_twice entries (without_log files)
    ∙ sym (unlogged_entries entries files not)

pub entries_log : (entries : List Entry) (files : Files) → NotLog entries → (with_entries entries files).log ≡ files.log
entries_log entries files not = within_log entries files (with_entries entries files) not (written_within entries files)

-- what files represent has no log
pub reopened_log : (files : Files) → (reopened_files files).log ≡ []
reopened_log files = by_state (log_state files.log) refl
  where
    by_state : (state : LogState) → log_state files.log ≡ state → (with_state state (without_log files)).log ≡ []
    by_state Closed is = refl
    by_state (Malformed unit) is = refl
    by_state (Open entries) is = entries_log entries (without_log files) (log_not_log files.log entries is)

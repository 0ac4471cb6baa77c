-- Entries in their order, and a log that keeps them.
use Rattle.std.proofs.Common.{◌≡◌, ℕ, ◌+◌, ◌<◌, ◌≤◌, List, [], ◌∷◌, ◌++◌, length, sym, ap, ◌∙◌, subst, arith}
use Rattle.rpm_group.proofs.Vocabulary.{AreRuns, entries_end, entries_kept, EntriesIn, Entry, File, Files, HeadsEndInZeros, IsTransaction, IsLogged, KeepsBehind}
use Rattle.rpm_group.proofs.Vocabulary.{Layers, length-put, Log, needed_units, with_units, put_after, unit_at, Units, with_file, word}

pub runs_more : (file : File) (from a b : ℕ) (entries : List Entry) → AreRuns file from a entries → a ≤ b → AreRuns file from b entries
runs_more file from a b [] is le = omega (arith, is, le)
runs_more file from a b (e ∷ es) (one, low, rest) le = (one, low, runs_more file (e.first + length e.units) a b es rest le)

pub runs_push : (file : File) (from a b : ℕ) (entries : List Entry) (entry : Entry) → AreRuns file from a entries → entry.file ≡ file → a ≤ entry.first
    → entry.first + length entry.units ≤ b → AreRuns file from b (entries ++ entry ∷ [])
runs_push file from a b [] entry is same low high = (same, omega (arith, is, low), high)
runs_push file from a b (e ∷ es) entry (one, first, rest) same low high =
    (one, first, runs_push file (e.first + length e.units) a b es entry rest same low high)

-- a commit record that is written leaves what is after it
pub commit_record_keeps : (unit : List ℕ) (units : Units) (files mid new : Files) → units ≡ unit ∷ [] → mid ≡ with_file Log (with_units 0 units files.log) files
    → new ≡ mid → KeepsBehind 1 files.log new.log
commit_record_keeps unit units files mid new one written same = record {
  same = λ i low. ap (λ (us : Units). unit_at us i) is ∙ put_after 0 (unit ∷ []) files.log i low;
  no_shorter = omega (arith, ap length is, length-put 0 (unit ∷ []) files.log);
  no_longer = omega (arith, ap length is, length-put 0 (unit ∷ []) files.log);
}
  where
    is : new.log ≡ with_units 0 (unit ∷ []) files.log
    is = ap (λ (f : Files). f.log) (same ∙ written) ∙ ap (λ (us : Units). with_units 0 us files.log) one

pub keeps_then : (end : ℕ) (a b c : Units) → KeepsBehind end a b → KeepsBehind end b c → KeepsBehind end a c
keeps_then end a b c one two = record {
  same = λ i low. two.same i low ∙ one.same i low;
  no_shorter = omega (arith, one.no_shorter, two.no_shorter);
  no_longer = omega (arith, one.no_longer, two.no_longer);
}

-- ---- heads that end in zeros

-- they stay where the log was changed after them alone
pub heads_kept : (entries : List Entry) (p end : ℕ) (old new : Units) → ((i : ℕ) → p ≤ i → i < end → unit_at new i ≡ unit_at old i)
    → EntriesIn entries p end old → HeadsEndInZeros entries p old → HeadsEndInZeros entries p new
heads_kept [] p end old new same are heads = tt
heads_kept (entry ∷ entries) p end old new same (one, rest) (zero_here, more) =
    let later : p + 1 + length entry.units ≤ end = entries_end entries (p + 1 + length entry.units) end old rest in (
      ap (word 3) (same p (omega arith) (omega (arith, later))) ∙ zero_here,
      heads_kept entries (p + 1 + length entry.units) end old new (λ i low high. same i (omega (arith, low)) high) rest more,
    )

-- one more at the end
pub heads_push : (entries : List Entry) (p q : ℕ) (entry : Entry) (log : Units) → EntriesIn entries p q log → HeadsEndInZeros entries p log
    → word 3 (unit_at log q) ≡ 0 → HeadsEndInZeros (entries ++ entry ∷ []) p log
heads_push [] p q entry log is heads here = (ap (λ (i : ℕ). word 3 (unit_at log i)) is ∙ here, tt)
heads_push (x ∷ entries) p q entry log (first, rest) (zero_here, more) here =
    (zero_here, heads_push entries (p + 1 + length x.units) q entry log rest more here)

-- and then others
pub heads_then : (es fs : List Entry) (p q : ℕ) (log : Units) → EntriesIn es p q log → HeadsEndInZeros es p log → HeadsEndInZeros fs q log
    → HeadsEndInZeros (es ++ fs) p log
heads_then [] fs p q log is heads rest = subst (λ (i : ℕ). HeadsEndInZeros fs i log) (sym is) rest
heads_then (e ∷ es) fs p q log (one, more) (zero_here, heads) rest = (zero_here, heads_then es fs (p + 1 + length e.units) q log more heads rest)

-- the entries of a transaction stay after the commit record
pub transaction_logged : (held : Layers) (entries : List Entry) (end : ℕ) (old new : Units) → IsTransaction entries held → EntriesIn entries 1 end old
    → HeadsEndInZeros entries 1 old → end ≡ needed_units held → KeepsBehind 1 old new → IsLogged held new
transaction_logged held entries end old new transaction placed heads is keeps = record {
  entries = entries;
  placed = subst (λ (n : ℕ). EntriesIn entries 1 n new) is
      (entries_kept entries 1 end old new (λ i low high. keeps.same i low) keeps.no_shorter placed);
  heads = heads_kept entries 1 end old new (λ i low high. keeps.same i low) placed heads;
  order = transaction.order;
  whole = λ files. ap (λ (f : Files). record { pkg = f.pkg; idx = f.idx; log = [] }) (transaction.whole files);
}

-- A commit record that opens a log.
use Rattle.std.proofs.Common.{◌≡◌, ℕ, ◌+◌, ◌-◌, ◌<◌, ◌≤◌, ◌^◌, List, [], ◌∷◌, length, sym, ap, subst, ◌∙◌, arith}
use Rattle.rpm_outside.specs.declared.disk.Disk as disk
use Rattle.rpm_group.proofs.Vocabulary.{BeforeOrAfter, Closed, Elapses, entries_long, EntriesIn, Entry, Files, IsCommitRecord, IsTail, CrashLeavesOnly, Log, log_state}
use Rattle.rpm_group.proofs.Vocabulary.{OnlyAfter, Open, opened_is, with_units, Tail, TornFile, unit_of_words, Units, without_log, with_entries, with_file, word}
use Rattle.rpm_group.proofs.Vocabulary.{word_0, word_1, word_2, word_3, word_full}
use Rattle.rpm_group.proofs.Committing.{opening_leaves}

-- a commit record that opens a log
pub record Opens (commit_record : List ℕ) (entries : List Entry) (tail : Tail) (log : Units) : Type 0 where
  pub is_commit_record : IsCommitRecord commit_record (length entries) (tail.at - 1)
  pub some : 0 < length entries
  pub below : tail.at - 1 < length log
  pub placed : EntriesIn entries 1 (tail.at - 1 + 1) log

pub opens : (commit_record : List ℕ) (entries : List Entry) (tail : Tail) (log : Units) → commit_record ≡ unit_of_words 0x4c6d_7052 1 tail.entries (tail.at - 1)
    → IsTail entries tail log → 0 < tail.entries → tail.entries < 2 ^ 32 → 1 < tail.at → tail.at ≤ 2 ^ 28 → Opens commit_record entries tail log
opens commit_record entries tail log unit is some few place small =
    let end = tail.at - 1 in
    let magic : word 0 commit_record ≡ 0x4c6d_7052 = ap (word 0) unit ∙ word_0 0x4c6d_7052 1 tail.entries end (omega arith) in
    let same : tail.at ≡ tail.at - 1 + 1 = omega arith in
    let any : 0 < length entries = omega (arith, is.count) in
    record {
      is_commit_record = record {
        magic = magic;
        version = ap (word 1) unit ∙ word_1 0x4c6d_7052 1 tail.entries end (omega arith);
        count = ap (word 2) unit ∙ word_2 0x4c6d_7052 1 tail.entries end few ∙ sym is.count;
        end = ap (word 3) unit ∙ word_3 0x4c6d_7052 1 tail.entries end (omega arith);
        full =
            word_full commit_record (λ zero. absurd (omega (arith, zero, magic)));
      };
      some = any;
      below = omega (arith, entries_long entries 1 tail.at log any is.placed);
      placed = subst (λ (i : ℕ). EntriesIn entries 1 i log) same is.placed;
    }

module _ {D : Type 0} (g : disk.Ghosts D) where
  pub commit_record_leaves : (old new : D) (files : Files) (commit_record : List ℕ) (units : Units) (entries : List Entry) (tail : Tail)
      → units ≡ commit_record ∷ []
      → Opens commit_record entries tail files.log → log_state files.log ≡ Closed
      → ((image : Files) → g.left_since old (g.moment old) image → image ≡ files)
      → OnlyAfter (TornFile Log 0 units) (g.left_since old (g.moment old)) (g.left_since new (g.moment new))
      → Elapses (g.moment old) (g.moment new) (g.left_since old) (g.left_since new)
      → CrashLeavesOnly g old new (BeforeOrAfter (without_log files) (with_entries entries (without_log files)))
  commit_record_leaves old new files commit_record units entries tail is o closed durable images time =
      opening_leaves g old new files commit_record entries (tail.at - 1) o.is_commit_record o.some o.below o.placed closed durable
      (subst (λ (us : Units). OnlyAfter (TornFile Log 0 us) (g.left_since old (g.moment old)) (g.left_since new (g.moment new))) is images) time

pub commit_record_opened : (files mid new : Files) (commit_record : List ℕ) (units : Units) (entries : List Entry) (tail : Tail) → units ≡ commit_record ∷ []
    → Opens commit_record entries tail files.log → mid ≡ with_file Log (with_units 0 units files.log) files → new ≡ mid → log_state new.log ≡ Open entries
commit_record_opened files mid new commit_record units entries tail is o written same =
    ap (λ (f : Files). log_state f.log) (same ∙ written ∙ ap (λ (us : Units). with_file Log (with_units 0 us files.log) files) is)
    ∙ opened_is commit_record entries (tail.at - 1) files.log o.is_commit_record o.some o.below o.placed

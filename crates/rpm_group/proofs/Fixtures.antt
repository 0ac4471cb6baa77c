-- The definitions of the log, computed on small logs: what they say doesn't come from the code.
use Rattle.std.specs.Prelude.{◌≡◌, ℕ, List, [], ◌∷◌, refl, replicate}
use Rattle.rpm_group.proofs.Vocabulary.{blank, Closed, entry_at, heads, is_commit_record, is_log_head, log_state, Malformed, Open, Pkg, with_units, reopened_files, word}

-- `RpmL`, version 1, so many entries, the last unit
commit_record : ℕ → ℕ → List ℕ
commit_record count last = 0x52 ∷ 0x70 ∷ 0x6d ∷ 0x4c ∷ 1 ∷ 0 ∷ 0 ∷ 0 ∷ count ∷ 0 ∷ 0 ∷ 0 ∷ last ∷ 0 ∷ 0 ∷ 0 ∷ []

head : ℕ → ℕ → ℕ → List ℕ
head file first count = file ∷ 0 ∷ 0 ∷ 0 ∷ first ∷ 0 ∷ 0 ∷ 0 ∷ count ∷ 0 ∷ 0 ∷ 0 ∷ 0 ∷ 0 ∷ 0 ∷ 0 ∷ []

full : ℕ → List ℕ
full byte = replicate 16 byte

-- ---- closed, whatever stands after

zeros_and_rubbish : log_state (full 0 ∷ full 7 ∷ []) ≡ Closed
unfolding full log_state
zeros_and_rubbish = refl

-- ---- the commit record

another_magic : log_state (full 7 ∷ head 3 0 1 ∷ []) ≡ Malformed 0
unfolding full head log_state is_commit_record word
another_magic = refl

no_entries : log_state (commit_record 0 0 ∷ []) ≡ Malformed 0
unfolding commit_record log_state is_commit_record word
no_entries = refl

a_commit_record_alone : log_state (commit_record 1 5 ∷ []) ≡ Malformed 0
unfolding commit_record log_state is_commit_record word
a_commit_record_alone = refl

-- ---- the heads

behind_the_last : log_state (commit_record 2 2 ∷ head 1 0 1 ∷ full 7 ∷ head 1 0 1 ∷ full 7 ∷ []) ≡ Malformed 3
unfolding commit_record head full log_state is_commit_record heads is_log_head entry_at word
behind_the_last = refl

a_third_file : log_state (commit_record 1 2 ∷ head 3 0 1 ∷ full 7 ∷ []) ≡ Malformed 1
unfolding commit_record head full log_state is_commit_record heads is_log_head word
a_third_file = refl

no_file : log_state (commit_record 1 2 ∷ head 0 0 1 ∷ full 7 ∷ []) ≡ Malformed 1
unfolding commit_record head full log_state is_commit_record heads is_log_head word
no_file = refl

no_units : log_state (commit_record 1 2 ∷ head 1 0 0 ∷ full 7 ∷ []) ≡ Malformed 1
unfolding commit_record head full log_state is_commit_record heads is_log_head word
no_units = refl

-- the last unit of a file is 268,435,455
past_a_file : log_state (commit_record 1 2 ∷ (1 ∷ 0 ∷ 0 ∷ 0 ∷ 0 ∷ 0 ∷ 0 ∷ 16 ∷ 1 ∷ 0 ∷ 0 ∷ 0 ∷ 0 ∷ 0 ∷ 0 ∷ 0 ∷ []) ∷ full 7 ∷ []) ≡ Malformed 1
unfolding commit_record full log_state is_commit_record heads is_log_head word
past_a_file = refl

at_its_end : log_state (commit_record 1 2 ∷ (1 ∷ 0 ∷ 0 ∷ 0 ∷ 255 ∷ 255 ∷ 255 ∷ 15 ∷ 1 ∷ 0 ∷ 0 ∷ 0 ∷ 0 ∷ 0 ∷ 0 ∷ 0 ∷ []) ∷ full 7 ∷ [])
    ≡ Open (record { file = Pkg; first = 268_435_455; units = full 7 ∷ [] } ∷ [])
unfolding commit_record full log_state is_commit_record heads is_log_head entry_at word
at_its_end = refl

past_the_log : log_state (commit_record 1 2 ∷ head 1 0 2 ∷ full 7 ∷ []) ≡ Malformed 1
unfolding commit_record head full log_state is_commit_record heads is_log_head word
past_the_log = refl

ends_too_early : log_state (commit_record 1 3 ∷ head 1 0 1 ∷ full 7 ∷ full 8 ∷ []) ≡ Malformed 3
unfolding commit_record head full log_state is_commit_record heads is_log_head entry_at word
ends_too_early = refl

-- ---- what files represent

-- what is after the last unit counts for nothing, and the later of two entries wins
later_wins : reopened_files (record { pkg = []; idx = full 1 ∷ []; log = commit_record 2 4 ∷ head 1 0 1 ∷ full 7 ∷ head 1 0 1 ∷ full 8 ∷ full 9 ∷ [] })
    ≡ record { pkg = full 8 ∷ []; idx = full 1 ∷ []; log = [] }
unfolding commit_record head full log_state is_commit_record heads is_log_head entry_at word with_units
later_wins = refl

-- units between are zeros
behind_the_end : reopened_files (record { pkg = full 1 ∷ []; idx = []; log = commit_record 1 2 ∷ head 2 2 1 ∷ full 7 ∷ [] }) ≡ record {
  pkg = full 1 ∷ [];
  idx =
      blank ∷ blank ∷ full 7 ∷ [];
  log = [];
}
unfolding commit_record head full log_state is_commit_record heads is_log_head entry_at word with_units blank
behind_the_end = refl

malformed_stays : reopened_files (record { pkg = full 1 ∷ []; idx = []; log = commit_record 1 5 ∷ [] }) ≡ record { pkg = full 1 ∷ []; idx = []; log = [] }
unfolding commit_record full log_state is_commit_record word
malformed_stays = refl

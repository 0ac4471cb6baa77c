-- The definitions at a small log.
use Rattle.std.specs.Prelude.{◌≡◌, ℕ, List, [], ◌∷◌, refl, replicate}
use Rattle.rpm_outside.proofs.Vocabulary.{blank, Closed, entry_at, Files, heads, Idx, is_commit_record, is_log_head, log_state, Malformed, Open, Pkg, with_units, reopened_files, Units}
use Rattle.rpm_outside.proofs.Vocabulary.{word}

abbrev commit_record : List ℕ
commit_record = 0x52 ∷ 0x70 ∷ 0x6d ∷ 0x4c ∷ 1 ∷ 0 ∷ 0 ∷ 0 ∷ 2 ∷ 0 ∷ 0 ∷ 0 ∷ 5 ∷ 0 ∷ 0 ∷ 0 ∷ []

abbrev one : List ℕ
one = 1 ∷ 0 ∷ 0 ∷ 0 ∷ 1 ∷ 0 ∷ 0 ∷ 0 ∷ 2 ∷ 0 ∷ 0 ∷ 0 ∷ 0 ∷ 0 ∷ 0 ∷ 0 ∷ []

abbrev two : List ℕ
two = 2 ∷ 0 ∷ 0 ∷ 0 ∷ 0 ∷ 0 ∷ 0 ∷ 0 ∷ 1 ∷ 0 ∷ 0 ∷ 0 ∷ 0 ∷ 0 ∷ 0 ∷ 0 ∷ []

abbrev full : ℕ → List ℕ
full b = replicate 16 b

abbrev log : Units
log = commit_record ∷ one ∷ full 7 ∷ full 8 ∷ two ∷ full 9 ∷ []

abbrev files : Units → Files
files l = record { pkg = full 1 ∷ []; idx = full 2 ∷ full 3 ∷ []; log = l }

open_log : log_state log ≡ Open (record { file = Pkg; first = 1; units = full 7 ∷ full 8 ∷ [] } ∷ record { file = Idx; first = 0; units = full 9 ∷ [] } ∷ [])
unfolding log_state is_commit_record heads is_log_head entry_at word blank
open_log = refl

cut_log : log_state (commit_record ∷ one ∷ full 7 ∷ full 8 ∷ two ∷ []) ≡ Malformed 0
unfolding log_state is_commit_record heads is_log_head entry_at word blank
cut_log = refl

wrong_head : log_state (commit_record ∷ one ∷ full 7 ∷ full 8 ∷ full 2 ∷ full 9 ∷ []) ≡ Malformed 4
unfolding log_state is_commit_record heads is_log_head entry_at word blank
wrong_head = refl

no_log : log_state [] ≡ Closed
unfolding log_state is_commit_record heads is_log_head entry_at word blank
no_log = refl

reopened_is : reopened_files (files log) ≡ record { pkg = full 1 ∷ full 7 ∷ full 8 ∷ []; idx = full 9 ∷ full 3 ∷ []; log = [] }
unfolding log_state is_commit_record heads is_log_head entry_at word blank with_units
reopened_is = refl

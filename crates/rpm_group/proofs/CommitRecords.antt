-- What was read of the commit record and of a head, where the log reads as before.
use Rattle.std.proofs.Common.{◌≡◌, ℕ, suc, ◌+◌, true, false, length, refl, sym, ap, subst, ◌∙◌, arith, List, ◌∷◌, [], ◌++◌, ◌==◌}
use Rattle.std.specs.Prelude.{if◌then◌else◌, Bool}
use Rattle.rpm_group.proofs.Vocabulary.{log_after, after-open, after-push, after-wrong, blank_closed, Closed, Entry, entry_at, Files, commit_record_last, commit_record_right}
use Rattle.rpm_group.proofs.Vocabulary.{commit_record_wrong, CommitRecordSays, Head, head_parts, HeadIs, heads, heads_done, heads_more, heads_right, heads_wrong, HeadSays}
use Rattle.rpm_group.proofs.Vocabulary.{Idx, is_blank_unit, is_commit_record, is_log_head, IsHead, IsOpen, Log, log_state, LogState, Malformed, Open, Opened, Pkg, unit_at}
use Rattle.rpm_group.proofs.Vocabulary.{Units, word}
use Rattle.std.proofs.Common.{Option}

module _ (files mid : Files) (commit_record : List ℕ) (units : ℕ) (same : mid ≡ files) (is : commit_record ≡ unit_at mid.log 0) where
  here : commit_record ≡ unit_at files.log 0
  here = is ∙ ap (λ (f : Files). unit_at f.log 0) same

  pub blank_read : true ≡ is_blank_unit commit_record → log_state files.log ≡ Closed
  blank_read holds = blank_closed files.log (ap is_blank_unit (sym here) ∙ sym holds)

  module _ (full : false ≡ is_blank_unit commit_record) (long : units ≡ length files.log) where
    full_here : is_blank_unit (unit_at files.log 0) ≡ false
    full_here = ap is_blank_unit (sym here) ∙ sym full

    commit_record_here : is_commit_record (length files.log) (unit_at files.log 0) ≡ is_commit_record units commit_record
    commit_record_here = ap (λ (n : ℕ). is_commit_record n (unit_at files.log 0)) (sym long) ∙ ap (is_commit_record units) (sym here)

    pub wrong_read : false ≡ is_commit_record units commit_record → log_state files.log ≡ Malformed 0
    wrong_read wrong = commit_record_wrong files.log full_here (commit_record_here ∙ sym wrong)

    pub right_read : true ≡ is_commit_record units commit_record → (entries last : ℕ) → entries ≡ word 2 commit_record → last ≡ word 3 commit_record
        → CommitRecordSays (Opened (record { entries = entries; last = last })) files.log
    right_read right entries last e l =
        let right_here : is_commit_record (length files.log) (unit_at files.log 0) ≡ true = commit_record_here ∙ sym right in (
          commit_record_right files.log full_here right_here
              ∙ ap (λ (n : ℕ). heads n 1 (word 3 (unit_at files.log 0)) files.log) (ap (word 2) (sym here) ∙ sym e)
              ∙ ap (λ (n : ℕ). heads entries 1 n files.log) (ap (word 3) (sym here) ∙ sym l),
          omega (arith, commit_record_last (length files.log) (unit_at files.log 0) right_here, l ∙ ap (word 3) here),
        )

-- a right head
module _ (last p : ℕ) (unit : List ℕ) (head : Head) (right : is_log_head last p unit ≡ true) (file : head.file ≡ (if word 0 unit == 1 then Pkg else Idx))
    (first : head.first ≡ word 1 unit) (count : head.count ≡ word 2 unit) where
  pub head_read : IsHead last p head
  head_read =
      let parts = head_parts last p unit right in
      record {
        not_log = λ is. never (word 0 unit == 1) (sym file ∙ is);
        some = omega (arith, parts.some, count);
        room = omega (arith, parts.room, first, count);
        within = omega (arith, parts.within, count);
      }
    where
      never : (b : Bool) → (if b then Pkg else Idx) ≡ Log → ⊥
      never true e = cc
      never false e = cc

  pub head_says : (log : Units) → unit ≡ unit_at log p → HeadIs last p log head
  unfolding entry_at
  head_says log is = record {
    right = ap (is_log_head last p) (sym is) ∙ right;
    file = file ∙ ap (λ (u : List ℕ). if word 0 u == 1 then Pkg else Idx) is;
    first = first ∙ ap (word 1) is;
    count = count ∙ ap (word 2) is;
  }

-- ---- going through the heads

module _ (state : LogState) (done : List Entry) (n p last : ℕ) (log : Units) (left : ℕ) (so_far : state ≡ log_after done (heads n p last log))
    (is_left : n ≡ suc left) where
  step : state ≡ log_after done (heads (suc left) p last log)
  step = so_far ∙ ap (λ (k : ℕ). log_after done (heads k p last log)) is_left

  pub next_wrong : is_log_head last p (unit_at log p) ≡ false → state ≡ Malformed p
  next_wrong wrong = step ∙ ap (log_after done) (heads_wrong p last log left wrong) ∙ after-wrong done p

  pub next_right : (m next : ℕ) → m ≡ left → is_log_head last p (unit_at log p) ≡ true → next ≡ p + 1 + word 2 (unit_at log p)
      → (more : List Entry) × (state ≡ log_after more (heads m next last log))
  next_right m next is_m right is_next = (
    done ++ entry_at p log ∷ [],
    step
        ∙ ap (log_after done) (heads_right p last log left right)
        ∙ sym (after-push done (entry_at p log) (heads left (p + 1 + word 2 (unit_at log p)) last log))
        ∙ ap (λ (k : ℕ). log_after (done ++ entry_at p log ∷ []) (heads left k last log)) (sym is_next)
        ∙ ap (λ (k : ℕ). log_after (done ++ entry_at p log ∷ []) (heads k next last log)) (sym is_m),
  )

open_is : (state : LogState) (entries : List Entry) → state ≡ Open entries → IsOpen state
open_is state entries is = subst IsOpen (sym is) refl

module _ (state : LogState) (done : List Entry) (n p last : ℕ) (log : Units) (so_far : state ≡ log_after done (heads n p last log)) (none : n ≡ 0) where
  at_end : state ≡ log_after done (heads 0 p last log)
  at_end = so_far ∙ ap (λ (k : ℕ). log_after done (heads k p last log)) none

  pub end_right : p ≡ last + 1 → IsOpen state
  end_right is = open_is state (done ++ []) (at_end ∙ ap (log_after done) (heads_done p last log is) ∙ after-open done [])

  pub end_wrong : (p ≡ last + 1 → ⊥) → state ≡ Malformed p
  end_wrong other = at_end ∙ ap (log_after done) (heads_more p last log other) ∙ after-wrong done p

-- what was read of a log that reads as before
pub read_as : (last p : ℕ) (files mid : Files) (head found : Option Head) → mid ≡ files → head ≡ found → HeadSays last p mid.log head
    → HeadSays last p files.log found
read_as last p files mid head found same is says =
    subst (λ (h : Option Head). HeadSays last p files.log h) is (subst (λ (f : Files). HeadSays last p f.log head) same says)

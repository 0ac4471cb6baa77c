-- Where nothing in the files keeps a question from being answered, it is answered.
use Rattle.std.proofs.Common.{◌≡◌, ℕ, ◌+◌, ◌^◌, ◌≤◌, Bool, true, false, List, Result, Ok, subst, arith}
use Rattle.rpm_tool.proofs.Vocabulary.{AskParts, Damage, request_of, StoreAnswerBy, KeyedProgress, Files, FullByUnits, IndexFullIs, HasRoom, is_done_or_outside}
use Rattle.rpm_tool.proofs.Vocabulary.{is_foreign, IsSound, IsUsable, IsUsableDatabase, keyed_to, KeyedAnswer, LogAnswer, log_state, LogState, Malformed, OnUsable}
use Rattle.rpm_tool.proofs.Vocabulary.{StoreAnswer, Outputs, reopened_files, Store, store, Tree, UnlessFull, Why}
use Rattle.rpm_effects.specs.declared.answer.Why.TheVariants as why
use Rattle.rpm_tool.proofs.Requests.{does_outside}

module _ (Usable : Type 0) (Do : StoreAnswerBy) (s : Store) (w : Why) (old new : Outputs) where
  loaded_in : (log : LogState) (r : Result Store Damage) → IsSound log → r ≡ Ok s → LogAnswer (OnUsable Usable Do) r log w old new
      → OnUsable Usable Do s w old new
  loaded_in (Malformed unit) r sound is loaded = absurd sound
  loaded_in others r sound is loaded = subst (λ (q : Result Store Damage). StoreAnswer (OnUsable Usable Do) q w old new) is loaded

-- the endings that are left
left : (Do : Why → Outputs → Outputs → Type 0) (making : Bool) (needed : ℕ) (w : Why) (old new : Outputs) → (Do w old new → is_done_or_outside w ≡ true)
    → UnlessFull Do w old new → FullByUnits making needed w → (making ≡ true → needed ≤ 2 ^ 28) → is_done_or_outside w ≡ true
left Do making needed (why.IndexFull u) old new outside went full room = absurd (omega (arith, full.1, room full.0))
left Do making needed others old new outside went full room = outside went

pub completes : (tree : Tree) (words : List (List ℕ)) (a : AskParts) (files : Files) (w : Why) (old new : Outputs) (before now : ℕ) → is_foreign w ≡ false
    → KeyedAnswer tree words a files w old new before now → IndexFullIs (reopened_files files) w → IsUsableDatabase files → HasRoom (reopened_files files)
    → is_done_or_outside w ≡ true
completes tree words a files w old new before now own went full group room =
    let r = reopened_files files in
    let s = group.usable.value in
    let Do = KeyedProgress tree words a r before now in
    let is = loaded_in (IsUsable r.pkg r.idx) Do s w old new (log_state files.log) (store r.pkg) group.sound group.usable.undamaged went in
    left (Do s) _ _ w old new
    (λ does. does_outside tree r.pkg s words a (λ for. now ≤ before + keyed_to r words a s for) old new (request_of a.mode) w own does)
    (is.1 group.usable) full room

-- Commands that were begun, and one that was not.
use Rattle.std.proofs.Common.{◌≡◌, ◌∙◌, ℕ, ◌+◌, ◌≤◌, Bool, true, false, not, List, [], Some, refl, sym, ap}
use Rattle.std.proofs.lemmas.Bool.{and_parts}
use Rattle.rpm_tool.proofs.Vocabulary.{AskParts, by_key, Chosen, asked_task, request_of, PlainProgress, Files, is_foreign, is_of_words, is_package}
use Rattle.rpm_tool.proofs.Vocabulary.{is_query, log_state, Mode, needs_no_index, of_files, opens_index, outputs, PlainAnswer, read_to, reopened_files, store, Through}
use Rattle.rpm_tool.proofs.Vocabulary.{task_in, TaskParts, text_of, Tree, Why}
use Rattle.rpm_words.specs.declared.switch.Chosen.TheVariants as by
use Rattle.rpm_words.specs.declared.ask.Mode.TheVariants as mode
use Rattle.rpm_effects.specs.declared.answer.Why.TheVariants as why
use Rattle.rpm_tool.proofs.Requests.{does_memory}
use Rattle.rpm_tool.proofs.Loading.{loaded_memory}
use Rattle.rpm_effects.proofs.laws.Reaching.{through_none}

-- where memory was wanting before, its database has not been opened
pub not_begun : (tree : Tree) (words : List (List ℕ)) (a : AskParts) (files : Files) (out_tells err_tells : Bool) (o e : List ℕ) (n : ℕ)
    → PlainAnswer tree words a files why.NoMemory (outputs out_tells o err_tells e) (outputs out_tells o err_tells e) n n
not_begun tree words a files ot et o e n =
    let file = (reopened_files files).pkg in
    let x = outputs ot o et e in
    let none : Through [] x x = through_none {ot = ot} {et = et} o e in
    loaded_memory (PlainProgress tree words a file n n) (store file) x none
    (λ s. does_memory tree file s words a (λ for. n ≤ n + read_to file words a s for) x none (request_of a.mode)) (log_state files.log)

-- ---- a text is printed of no other command

text_of_query : (m : Mode) (text : List ℕ) → is_query m ≡ true → text_of m ≡ Some text → ⊥
text_of_query mode.Query text is said = cc
text_of_query others text is said = absurd cc

pub files_untold : (a : AskParts) (text : List ℕ) → of_files a ≡ true → text_of a.mode ≡ Some text → ⊥
files_untold a text files said = text_of_query a.mode text (and_parts (is_query a.mode) (is_package a.chosen) files).0 said

text_of_opening : (m : Mode) (asked : Bool) (text : List ℕ) → opens_index m asked ≡ true → text_of m ≡ Some text → ⊥
text_of_opening mode.Help asked text opens said = cc
text_of_opening mode.Version asked text opens said = cc
text_of_opening others asked text opens said = absurd cc

pub keyed_untold : (a : AskParts) (text : List ℕ) → by_key a ≡ true → text_of a.mode ≡ Some text → ⊥
keyed_untold a text keyed said = text_of_opening a.mode (not (needs_no_index a.chosen a.noindex)) text keyed said

module _ (words : List (List ℕ)) (a : AskParts) (task : TaskParts) where
  text_of_change : (m : Mode) (text : List ℕ) → task_in m words a ≡ Some task → text_of m ≡ Some text → ⊥
  text_of_change mode.Help text changes said = cc
  text_of_change mode.Version text changes said = cc
  text_of_change others text changes said = cc

  pub change_untold : (text : List ℕ) → asked_task words a ≡ Some task → text_of a.mode ≡ Some text → ⊥
  change_untold text changes said = text_of_change a.mode text changes said

-- an ending of a command that was begun is none of words
pub unforeign : (w : Why) → is_foreign w ≡ false → is_of_words w ≡ false
unforeign (why.Usage f) is = is
unforeign (why.BadFormat f) is = is
unforeign others is = refl

-- a query of package files opens no database
package_unindexed : (c : Chosen) (noindex : Bool) → is_package c ≡ true → needs_no_index c noindex ≡ true
package_unindexed by.Package noindex is = refl
package_unindexed others noindex is = absurd cc

query_asks : (m : Mode) (asked : Bool) → is_query m ≡ true → opens_index m asked ≡ true → asked ≡ true
query_asks mode.Query asked is opens = opens
query_asks others asked is opens = absurd cc

pub files_unkeyed : (a : AskParts) → of_files a ≡ true → by_key a ≡ true → ⊥
files_unkeyed a files keyed =
    let parts = and_parts (is_query a.mode) (is_package a.chosen) files in
    let none = package_unindexed a.chosen a.noindex parts.1 in
    let some : not true ≡ true = ap not (sym none) ∙ query_asks a.mode (not (needs_no_index a.chosen a.noindex)) parts.0 keyed in
    absurd cc

-- ---- a query changes nothing

module _ (words : List (List ℕ)) (a : AskParts) (task : TaskParts) where
  query_changes : (m : Mode) → is_query m ≡ true → task_in m words a ≡ Some task → ⊥
  query_changes mode.Query is changes = cc
  query_changes others is changes = absurd cc

  pub files_unchanging : of_files a ≡ true → asked_task words a ≡ Some task → ⊥
  files_unchanging files changes = query_changes a.mode (and_parts (is_query a.mode) (is_package a.chosen) files).0 changes

  opening_changes : (m : Mode) (asked : Bool) → opens_index m asked ≡ true → task_in m words a ≡ Some task → ⊥
  opening_changes mode.Query asked opens changes = cc
  opening_changes mode.Verify asked opens changes = cc
  opening_changes mode.Order asked opens changes = cc
  opening_changes others asked opens changes = absurd cc

  pub keyed_unchanging : by_key a ≡ true → asked_task words a ≡ Some task → ⊥
  keyed_unchanging keyed changes = opening_changes a.mode (not (needs_no_index a.chosen a.noindex)) keyed changes

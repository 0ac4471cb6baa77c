-- The records of the theorem's page, from what each kind of command says.
use Rattle.std.proofs.Common.{◌≡◌, ◌∙◌, ℕ, List, Bool, true, false, Option, Some, None, is_some, Ok, refl, sym, ap, subst, inl, inr, arith}
use Rattle.std.specs.Prelude.{◌⊎◌, IsTrue}
use Rattle.rpm_outside.specs.declared.disk.Disk as disk
use Rattle.rpm_outside.specs.declared.shelf.Shelf as shelf
use Rattle.rpm_outside.specs.declared.sink.Sink as sink
use Rattle.rpm_tool.proofs.Vocabulary.{Answers, AnswersChange, AnswersKeyed, AnswersOfFiles, AnswersPlain, AnswersText, ask, asked_task}
use Rattle.rpm_tool.proofs.Vocabulary.{AskParts, asks_change, asks_format, Buffered, by_key, changes_in, AnswersCommand, EmptyBy, is_done, is_foreign}
use Rattle.rpm_tool.proofs.Vocabulary.{HasCauseAt, inner, is_of_words, OnlyReadsPackages, needs_none, of_files, outputs, Pkg, ran, reads_shelf}
use Rattle.rpm_tool.proofs.Vocabulary.{reopened_files, Run, setting_at, Setting, Streams}
use Rattle.rpm_tool.proofs.Vocabulary.{task_course, TaskParts, text_of, Tree, Why}
use Rattle.std.specs.Option.{option_map_or}
use Rattle.rpm_effects.specs.Hands.{Hand, EndHands}
use Rattle.rpm_effects.specs.declared.answer.Why.TheVariants as why
use Rattle.rpm_tool.proofs.Begun.{change_untold, files_unchanging, files_unkeyed, files_untold, keyed_unchanging, keyed_untold, not_begun, unforeign}
use Rattle.rpm_commit.proofs.laws.Emptied.{memory_empty}
use Rattle.rpm_print.proofs.laws.Peeking.{leaves_none}
use Rattle.rpm_effects.proofs.laws.Reaching.{not_begun as no_step, through_none}
use Rattle.rpm_tool.proofs.Faults.{never_cause}
use Rattle.rpm_tool.proofs.Recovered.{unbegun}
use Rattle.rpm_tool.proofs.Undone.{asked_is, asked_some, same_asked}
use Rattle.rpm_commit.proofs.laws.Unmade.{idle_run, unmade_one}
use Rattle.rpm_group.proofs.laws.KeptLogs.{same_kept}

clash : {P : Type 0} {b : _} → b ≡ true → b ≡ false → P
clash is not = let both : true ≡ false = sym is ∙ not in absurd cc

none_said : {P : Type 0} {X : Type 0} {o : _} {x : X} → o ≡ None → o ≡ Some x → P
none_said {x = x} none some = let both : None ≡ Some x = sym none ∙ some in absurd cc

same_some : {X : Type 0} {o : _} {x y : X} → o ≡ Some x → o ≡ Some y → x ≡ y
same_some {x = x} {y = y} one other = let both : Some x ≡ Some y = sym one ∙ other in cc

module _ {D S : Type 0} {d : disk.Ghosts D} {s : shelf.Ghosts S} {r : Run d} {at : Setting s} {a : AskParts} {tree : Tree} where
  pub does_plain : of_files a ≡ false → by_key a ≡ false → asked_task r.words a ≡ None → text_of a.mode ≡ None
      → (IsTrue d.tells → AnswersPlain r a tree) → OnlyReadsPackages d r.found r.left → at.shelf_left ≡ at.shelf → AnswersCommand r at a tree
  does_plain files keyed changing untold went looks shelf = record {
    plain = λ _f _k _c _t told. went told;
    files = λ is. clash is files;
    text = λ text said. none_said untold said;
    keyed = λ is told. clash is keyed;
    changes = λ task is told reads. none_said changing is;
    empty = λ task is told. none_said changing is;
    looks = λ _k _c. looks;
    shelf_unread = λ _f _r. shelf;
  }

  pub does_files : of_files a ≡ true → AnswersOfFiles r at a tree → OnlyReadsPackages d r.found r.left → AnswersCommand r at a tree
  does_files files went looks = record {
    plain = λ other _k _c _t told. clash files other;
    files = λ is. went;
    text = λ text said. absurd (files_untold a text files said);
    keyed = λ is told. absurd (files_unkeyed a files is);
    changes = λ task is told reads. absurd (files_unchanging r.words a task files is);
    empty = λ task is told. absurd (files_unchanging r.words a task files is);
    looks = λ _k _c. looks;
    shelf_unread = λ other _r. clash files other;
  }

  pub does_keyed : by_key a ≡ true
      → (IsTrue d.tells → AnswersKeyed r a tree)
      → at.shelf_left ≡ at.shelf → AnswersCommand r at a tree
  does_keyed keyed went shelf = record {
    plain = λ _f other _c _t told. clash keyed other;
    files = λ is. absurd (files_unkeyed a is keyed);
    text = λ text said. absurd (keyed_untold a text keyed said);
    keyed = λ is told. went told;
    changes = λ task is told reads. absurd (keyed_unchanging r.words a task keyed is);
    empty = λ task is told. absurd (keyed_unchanging r.words a task keyed is);
    looks = λ other _c. clash keyed other;
    shelf_unread = λ _f _r. shelf;
  }

  pub does_change : {task : TaskParts} → asked_task r.words a ≡ Some task
      → (IsTrue d.tells → (reads_shelf task ≡ true → IsTrue s.tells) → AnswersChange r task (task_course (s.paths at.shelf) at.moment task))
      → (IsTrue d.tells → EmptyBy (needs_none task) (reopened_files (d.files r.found)) r.why)
      → (reads_shelf task ≡ false → at.shelf_left ≡ at.shelf) → AnswersCommand r at a tree
  does_change {task = task} changing went empty shelf = record {
    plain = λ _f _k other _t told. none_said other changing;
    files = λ is. absurd (files_unchanging r.words a task is changing);
    text = λ text said. absurd (change_untold r.words a task text changing said);
    keyed = λ is told. absurd (keyed_unchanging r.words a task is changing);
    changes = λ other is. subst (λ (t : TaskParts). IsTrue d.tells → (reads_shelf t ≡ true → IsTrue s.tells)
        → AnswersChange r t (task_course (s.paths at.shelf) at.moment t)) (same_some changing is) went;
    empty = λ other is. subst (λ (t : TaskParts). IsTrue d.tells → EmptyBy (needs_none t) (reopened_files (d.files r.found)) r.why)
        (same_some changing is) empty;
    looks = λ _k other. none_said other changing;
    shelf_unread = λ _f reads. shelf (sym (ap (λ (o : Option TaskParts). option_map_or reads_shelf o false) changing) ∙ reads);
  }

  pub does_text : {text : List ℕ} → text_of a.mode ≡ Some text → AnswersText r at text → OnlyReadsPackages d r.found r.left → AnswersCommand r at a tree
  does_text {text = text} said went looks = record {
    plain = λ _f _k _c none told. none_said none said;
    files = λ is. absurd (files_untold a text is said);
    text = λ other is. subst (λ (t : List ℕ). AnswersText r at t) (same_some said is) went;
    keyed = λ is told. absurd (keyed_untold a text is said);
    changes = λ task is told reads. absurd (change_untold r.words a task text is said);
    empty = λ task is told. absurd (change_untold r.words a task text is said);
    looks = λ _k _c. looks;
    shelf_unread = λ _f _r. went.unread.1;
  }

  -- a command that was read is the one that the words ask for
  pub answered : (ask r.words ≡ Ok a) × (asks_format r.words ≡ Some (Ok tree)) → (is_some (asked_task r.words a) ≡ false → r.changes ≡ 0)
      → (is_done r.why ≡ false → r.changes ≡ 0) → (IsTrue s.tells → s.paths at.shelf_left ≡ s.paths at.shelf) → d.follows r.found r.left
      → AnswersCommand r at a tree → Answers r at
  unfolding asks_change
  answered read still counted paths goes_on does = record {
    asked = λ b other asked. same_asked (λ x t. AnswersCommand r at x t) r.words (asked_is r.words read) asked does;
    unasked = λ none. asked_some r.words read none;
    idle = λ no. still (sym (ap (changes_in r.words) read.0) ∙ no);
    counted = counted;
    paths = paths;
    goes_on = goes_on;
  }

-- one that makes no call on the shelf, and doesn't end by it
pub asked_streams : {S O E : Type 0} {s : shelf.Ghosts S} {o : sink.Ghosts O} {e : sink.Ghosts E} {w : Why} {x : S}
    {out out' : Buffered O} {err err' : Buffered E}
    → is_foreign w ≡ false → EndHands o e w out err out' err' → Streams s o e true (λ y. w ≡ y) (x, out, err) (x, out', err')
asked_streams own hands = record {
  unread = λ is. absurd cc;
  paths = λ told. refl;
  shelf = record { later = omega arith; rose = λ is. let both : true ≡ false = sym (ap is_foreign is) ∙ own in absurd cc };
  hands = hands;
}

-- a text was printed, or standard output failed
said_unforeign : {w : Why} → (w ≡ why.Done) ⊎ (w ≡ why.OutFault) → is_foreign w ≡ false
said_unforeign (inl is) = ap is_foreign is
said_unforeign (inr is) = ap is_foreign is

said_undisked : {w : Why} → (w ≡ why.Done) ⊎ (w ≡ why.OutFault) → w ≡ why.DiskFault → ⊥
said_undisked (inl is) fault = let both : why.Done ≡ why.DiskFault = sym is ∙ fault in cc
said_undisked (inr is) fault = let both : why.OutFault ≡ why.DiskFault = sym is ∙ fault in cc

said_unerred : {w : Why} → (w ≡ why.Done) ⊎ (w ≡ why.OutFault) → w ≡ why.ErrFault → ⊥
said_unerred (inl is) fault = let both : why.Done ≡ why.ErrFault = sym is ∙ fault in cc
said_unerred (inr is) fault = let both : why.OutFault ≡ why.ErrFault = sym is ∙ fault in cc

module _ {w : Why} (ends : (w ≡ why.Done) ⊎ (w ≡ why.OutFault)) where
  pub said_words : is_of_words w ≡ false
  said_words = unforeign w (said_unforeign ends)

  pub said_disk : (n : ℕ) → HasCauseAt (w ≡ why.DiskFault) n n
  said_disk n = never_cause n (said_undisked ends)

  pub said_streams : {S O E : Type 0} {s : shelf.Ghosts S} {o : sink.Ghosts O} {e : sink.Ghosts E} {x : S} {out out' : Buffered O} {err : Buffered E}
      → ((y : E) → e.follows y y) → Hand o (w ≡ why.OutFault) out out' → Streams s o e true (λ y. w ≡ y) (x, out, err) (x, out', err)
  said_streams {e = e} {err = err} stays hand = asked_streams (said_unforeign ends) (record {
    out = hand;
    err = record { cause = never_cause (e.faults (inner err)) (said_unerred ends); goes_on = stays (inner err) };
  })

-- a command for which memory is wanting does nothing, whatever is asked
module _ {D S : Type 0} {d : disk.Ghosts D} {s : shelf.Ghosts S} (words : List (List ℕ)) (now : ℕ) (it : D) (at : S) (ot et : Bool) (o e : List ℕ)
    (stays : (x : D) → d.follows x x) where
  pub does_nothing : (a : AskParts) (tree : Tree) → AnswersCommand (ran d words why.NoMemory 0 (it, it) (outputs ot o et e, outputs ot o et e))
      (setting_at s now (at, at)) a tree
  does_nothing a tree = record {
    plain = λ _f _k _c _t told. record {
      went = not_begun tree words a (d.files it) ot et o e (d.bytes_read it Pkg);
      reads = omega arith;
    };
    files = λ is. record {
      went = λ told. no_step (through_none {ot = ot} {et = et} o e);
      disk_unread = refl;
    };
    text = λ text said. record {
      went = no_step (through_none {ot = ot} {et = et} o e);
      unread = (refl, refl);
    };
    keyed = λ is told. unbegun d tree words a ot et o e it;
    changes = λ task is told reads. unmade_one d words task (task_course (s.paths at) now task) it it refl
        (same_kept (d.files it)) (idle_run d it) (outputs ot o et e) why.NoMemory tt;
    empty = λ task is told. memory_empty (needs_none task) (reopened_files (d.files it));
    looks = λ _k _c. leaves_none d stays;
    shelf_unread = λ _f _r. refl;
  }

use Rattle.std.proofs.Common.{◌≡◌, true, false, Some, is_some, refl, subst, sym, ap, ◌∙◌}
use Rattle.rpm_tool.proofs.Vocabulary.{ask, asked_task, asks_format, inner, task_parts, Undone}
use Rattle.rpm_command.specs.Asked.{KindIs}
use Rattle.rpm_command.specs.declared.reading.Kind.{Kind}
use Rattle.rpm_tool.proofs.Begun.{unforeign}
use Rattle.rpm_tool.proofs.Faults.{never_cause}
use Rattle.rpm_tool.proofs.Page.{answered, asked_streams, does_plain, does_files, does_text, does_keyed, does_change, does_nothing, said_disk, said_streams, said_words}
use Rattle.rpm_print.proofs.laws.Peeking.{leaves_none}
use Rattle.rpm_tool.proofs.Undone.{asked_some, done_words, starved, undone_words}
use Rattle.rpm_tool.proofs.command.command.Goals as goal

-- ---- a change

pub returns-in-Change-clause-words : goal.returns-in-Change-clause-words
returns-in-Change-clause-words g c =
    done_words c.args.words.now c.in-Ok.ensures.ok c.change_asked.result.0.why c.change_asked.ensures.keeps.of_words

pub returns-in-Change-clause-disk : goal.returns-in-Change-clause-disk
returns-in-Change-clause-disk g c = c.change_asked.ensures.keeps.disk

pub returns-in-Change-clause-streams : goal.returns-in-Change-clause-streams
returns-in-Change-clause-streams g c =
    let said = c.change_asked.ensures.streams in
    record { unread = λ is. absurd cc; paths = said.paths; shelf = said.shelf; hands = said.hands }

pub returns-in-Change-clause-unread : goal.returns-in-Change-clause-unread
returns-in-Change-clause-unread g c = λ none. asked_some c.args.words.now c.in-Ok.ensures.ok none

pub returns-in-Change-clause-answers : goal.returns-in-Change-clause-answers
returns-in-Change-clause-answers g c =
    let said = c.change_asked.ensures in
    let is : asked_task c.args.words.now c.in-Ok.command.ask ≡ Some (task_parts c.in-Change.task) =
    (subst (λ (k : Kind). KindIs k c.args.words.now c.in-Ok.command.ask) c.in-Change.is c.in-Ok.ensures.kind).0 in
    answered c.in-Ok.ensures.ok (λ still. let both : true ≡ false = sym (ap is_some is) ∙ still in absurd cc) said.keeps.counted
    said.streams.paths said.keeps.goes_on
    (does_change is (said.answers c.args.words.now) said.empty said.streams.unread)

-- ---- package files

pub returns-in-Files-clause-words : goal.returns-in-Files-clause-words
returns-in-Files-clause-words g c = done_words c.args.words.now c.in-Ok.ensures.ok c.print_files-why.result c.print_files-why.ensures.done

pub returns-in-Files-clause-disk : goal.returns-in-Files-clause-disk
returns-in-Files-clause-disk g c = never_cause (g.D.Disk.faults c.args.disk) c.print_files-why.ensures.no_disk

pub returns-in-Files-clause-streams : goal.returns-in-Files-clause-streams
returns-in-Files-clause-streams g c =
    let said = c.print_files-why.ensures in
    record { unread = λ is. absurd cc; paths = said.paths; shelf = said.shelf; hands = said.hands }

pub returns-in-Files-clause-unread : goal.returns-in-Files-clause-unread
returns-in-Files-clause-unread g c = λ none. asked_some c.args.words.now c.in-Ok.ensures.ok none

pub returns-in-Files-clause-answers : goal.returns-in-Files-clause-answers
returns-in-Files-clause-answers g c =
    let said = c.print_files-why.ensures in
    let kind = subst (λ (k : Kind). KindIs k c.args.words.now c.in-Ok.command.ask) c.in-Files.is c.in-Ok.ensures.kind in
    answered c.in-Ok.ensures.ok (λ still. refl) (λ not. refl) said.paths (g.met.D.Disk.follows_refl c.args.disk)
    (does_files kind.1 (record { went = said.went; disk_unread = refl })
    (leaves_none g.D.Disk g.met.D.Disk.follows_refl))

-- ---- a text

pub returns-in-Text-clause-words : goal.returns-in-Text-clause-words
returns-in-Text-clause-words g c = done_words c.args.words.now c.in-Ok.ensures.ok c.print_text-why.result (said_words c.print_text-why.ensures.ends)

pub returns-in-Text-clause-disk : goal.returns-in-Text-clause-disk
returns-in-Text-clause-disk g c = said_disk c.print_text-why.ensures.ends (g.D.Disk.faults c.args.disk)

pub returns-in-Text-clause-streams : goal.returns-in-Text-clause-streams
returns-in-Text-clause-streams g c = said_streams c.print_text-why.ensures.ends g.met.E.Sink.follows_refl c.print_text-why.ensures.out

pub returns-in-Text-clause-unread : goal.returns-in-Text-clause-unread
returns-in-Text-clause-unread g c = λ none. asked_some c.args.words.now c.in-Ok.ensures.ok none

pub returns-in-Text-clause-answers : goal.returns-in-Text-clause-answers
returns-in-Text-clause-answers g c =
    let kind = subst (λ (k : Kind). KindIs k c.args.words.now c.in-Ok.command.ask) c.in-Text.is c.in-Ok.ensures.kind in
    answered c.in-Ok.ensures.ok (λ still. refl) (λ not. refl) (λ told. refl) (g.met.D.Disk.follows_refl c.args.disk)
    (does_text kind.3 (record {
      went = c.print_text-why.ensures.went g.E.Sink.tells (g.E.Sink.taken (inner c.args.err.now));
      unread = (refl, refl);
    }) (leaves_none g.D.Disk g.met.D.Disk.follows_refl))

-- ---- by key

pub returns-in-Keyed-clause-words : goal.returns-in-Keyed-clause-words
returns-in-Keyed-clause-words g c =
    done_words c.args.words.now c.in-Ok.ensures.ok c.answer_keyed-why.result.0 (unforeign c.answer_keyed-why.result.0 c.answer_keyed-why.ensures.done)

pub returns-in-Keyed-clause-disk : goal.returns-in-Keyed-clause-disk
returns-in-Keyed-clause-disk g c = c.answer_keyed-why.ensures.disk

pub returns-in-Keyed-clause-streams : goal.returns-in-Keyed-clause-streams
returns-in-Keyed-clause-streams g c = asked_streams c.answer_keyed-why.ensures.done c.answer_keyed-why.ensures.hands

pub returns-in-Keyed-clause-unread : goal.returns-in-Keyed-clause-unread
returns-in-Keyed-clause-unread g c = λ none. asked_some c.args.words.now c.in-Ok.ensures.ok none

pub returns-in-Keyed-clause-answers : goal.returns-in-Keyed-clause-answers
returns-in-Keyed-clause-answers g c =
    let said = c.answer_keyed-why.ensures in
    let kind = subst (λ (k : Kind). KindIs k c.args.words.now c.in-Ok.command.ask) c.in-Keyed.is c.in-Ok.ensures.kind in
    answered c.in-Ok.ensures.ok (λ still. refl) (λ not. refl) (λ told. refl) said.goes_on
    (does_keyed kind.2 said.keyed refl)

-- ---- without the index

pub returns-clause-words : goal.returns-clause-words
returns-clause-words g c =
    done_words c.args.words.now c.in-Ok.ensures.ok c.answer_loaded-why.result.0 (unforeign c.answer_loaded-why.result.0 c.answer_loaded-why.ensures.done)

pub returns-clause-disk : goal.returns-clause-disk
returns-clause-disk g c = c.answer_loaded-why.ensures.disk

pub returns-clause-streams : goal.returns-clause-streams
returns-clause-streams g c = asked_streams c.answer_loaded-why.ensures.done c.answer_loaded-why.ensures.hands

pub returns-clause-unread : goal.returns-clause-unread
returns-clause-unread g c = λ none. asked_some c.args.words.now c.in-Ok.ensures.ok none

pub returns-clause-answers : goal.returns-clause-answers
returns-clause-answers g c =
    let said = c.answer_loaded-why.ensures in
    let kind = subst (λ (k : Kind). KindIs k c.args.words.now c.in-Ok.command.ask) c.in-Plain.is c.in-Ok.ensures.kind in
    answered c.in-Ok.ensures.ok (λ still. refl) (λ not. refl) (λ told. refl) said.looks.goes_on
    (does_plain kind.1 kind.2 kind.0 kind.4
    (λ told. record { went = said.went told; reads = said.reads told }) said.looks refl)

-- ---- nothing that could be read

pub returns-in-Err-clause-unread : goal.returns-in-Err-clause-unread
returns-in-Err-clause-unread g c = λ none. (refl, refl, refl, refl)

pub returns-in-Err-clause-disk : goal.returns-in-Err-clause-disk
returns-in-Err-clause-disk g c = never_cause (g.D.Disk.faults c.args.disk)
    (λ is. subst (Undone (ask c.args.words.now) (asks_format c.args.words.now)) is c.in-Err.ensures.undone)

pub returns-in-Err-clause-words : goal.returns-in-Err-clause-words
returns-in-Err-clause-words g c = undone_words c.args.words.now c.in-Err.why c.in-Err.ensures.undone

pub returns-in-Err-clause-answers : goal.returns-in-Err-clause-answers
returns-in-Err-clause-answers g c = record {
  asked = λ a tree asked.
      rw (starved c.args.words.now c.in-Err.why c.in-Err.ensures.undone a tree asked)
      (does_nothing c.args.words.now c.args.now c.args.disk c.args.shelf.now g.O.Sink.tells g.E.Sink.tells (g.O.Sink.taken (inner c.args.out.now))
      (g.E.Sink.taken (inner c.args.err.now)) g.met.D.Disk.follows_refl a tree);
  unasked = λ none. refl;
  idle = λ still. refl;
  counted = λ not. refl;
  paths = λ told. refl;
  goes_on = g.met.D.Disk.follows_refl c.args.disk;
}

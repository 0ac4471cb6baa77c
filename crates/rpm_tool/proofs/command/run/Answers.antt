use Rattle.std.proofs.Common.{◌∙◌, ap, map, refl, rules}
use Rattle.rpm_tool.proofs.Vocabulary.{Answers, closing, inner, outs, ran, setting_at, word_at}
use Rattle.rpm_tool.proofs.Arguments.{questions}
use Rattle.rpm_tool.proofs.Closed.{ended, handed, counted_fault}
use Rattle.rpm_tool.proofs.Faults.{le_self}
use Rattle.rpm_tool.proofs.Numbered.{argument_numbers, picked_rises, query_above, whole_numbers, all_rise}
use Rattle.rpm_print.proofs.laws.Printing.{inner_same}
use Rattle.rpm_tool.proofs.command.run.Goals as goal

pub returns-clause-unread : goal.returns-clause-unread
returns-clause-unread g c = λ none.
    let same = c.command-disk.ensures.unread none in
    (same.0, same.1, handed (ap (λ (lent : _). lent.now) (inner_same same.2 ∙ c.new-out.ensures.inner)) (search rules))

pub returns-clause-answers : goal.returns-clause-answers
returns-clause-answers g c =
    let out = ap (λ (lent : _). lent.now) c.new-out.ensures.inner in
    let err = ap (λ (lent : _). lent.now) c.new-err.ensures.inner in
    let line = c.put_closing.ensures in
    let ending = c.command-disk.result.0 in
    ended g.O.Sink g.E.Sink (closing c.args.words.now ending.why) c.put_closing.result (inner c.command-disk.new.out).now _
    (inner c.new-err.result).now (inner c.command-disk.new.err).now (inner c.put_closing.new.err).now c.args.err.now _ err
    c.command-disk.ensures.streams.hands.err.cause.later
    (record { ok = line.ok; err = line.err; cause = line.cause; goes_on = line.goes_on.1 }) (search rules) (search rules)
    (λ mid. Answers (ran g.D.Disk c.args.words.now ending.why ending.changes (c.args.disk, c.command-disk.result.1)
    (outs g.O.Sink g.E.Sink c.args.out.now c.args.err.now, mid)) (setting_at g.S.Shelf c.args.now (c.args.shelf.now, c.command-disk.new.shelf)))
    (rw (out, err) at c.command-disk.ensures.answers)

pub returns-clause-causes : goal.returns-clause-causes
returns-clause-causes g c =
    let hands = c.command-disk.ensures.streams.hands in
    record {
      disk = c.command-disk.ensures.disk;
      shelf = c.command-disk.ensures.streams.shelf;
      out = counted_fault g.O.Sink (inner c.command-disk.new.out).now {mid = (inner c.command-disk.new.out).now}
          (ap (λ (lent : _). lent.now) c.new-out.ensures.inner) hands.out.cause
          (le_self (g.O.Sink.faults (inner c.command-disk.new.out).now)) (search rules);
      err = counted_fault g.E.Sink (inner c.put_closing.new.err).now {mid = (inner c.command-disk.new.err).now}
          (ap (λ (lent : _). lent.now) c.new-err.ensures.inner) hands.err.cause
          c.put_closing.ensures.cause.later (search rules);
    }

pub returns-clause-laws : goal.returns-clause-laws
returns-clause-laws g c = record {
  after = λ tree packages a. query_above tree a.after packages a.chosen (map (word_at c.args.words.now) a.arguments);
  files_after = λ tree paths n a. refl;
  numbers = λ tree packages chosen after j text. (argument_numbers tree packages chosen after j text, picked_rises packages chosen text after);
  all_numbers = λ tree packages chosen after. (whole_numbers tree packages chosen after, all_rise packages after);
  questions = λ a asked query other. questions c.args.words.now a asked query other;
}

use Rattle.rpm_select.specs.Reach.{Everything}
use Rattle.rpm_tool.proofs.Vocabulary.{Anywhere, argument_reach, check_files, inner, is_indexed, order_part, outputs, packages_in, pkg_read, reach_sum}
use Rattle.rpm_tool.proofs.Vocabulary.{reached_by, store_of, shown_outputs, word_at}
use Rattle.rpm_tool.proofs.Vocabulary.{unsatisfied_part}
use Rattle.rpm_tool.proofs.Vocabulary.{verify}
use Rattle.std.proofs.Common.{◌≡◌, ◌+◌, ◌≤◌, [], ◌∷◌, length, map, sym, ◌∙◌, arith}
use Rattle.rpm_query.proofs.laws.Answering.{query_none, query_some, reaches_none, reaches_some}
use Rattle.rpm_report.proofs.laws.Reporting.{went_report}
use Rattle.rpm_report.proofs.laws.Checked.{report_some, report_done}
use Rattle.rpm_print.proofs.laws.Peeking.{peeks_packages}
use Rattle.rpm_query.proofs.laws.Unbroken.{chains_none}
use Rattle.rpm_report.proofs.laws.Reporting.{some_none, some_went}
use Rattle.rpm_tool.proofs.dispatch.answer_opened.Goals as goal

-- ---- a query, without arguments and with some

pub returns-then-count-eq0-clause-does : goal.returns-then-count-eq0-clause-does
returns-then-count-eq0-clause-does g c =
    let a = c.args.ask.now in
    let f = word_at c.args.words.now in
    let all = packages_in g.D.Disk c.args.disk.now c.args.db.now in
    let none : length a.arguments ≡ 0 = sym c.arguments-count.ensures ∙ c.if-count-eq0.true in
    let reaches = reaches_none (argument_reach (is_indexed c.args.db.now) all a.chosen) f a.arguments none in
    let said = c.query_all.ensures in
    rw (← c.requires.request, c.in-Print.is) (record {
      went = λ told rows. rw (query_none c.args.format.now all a.chosen a.after f a.arguments none, reaches) (rw c.after.ensures at (said.went told rows));
      reads = λ keyed told rows. rw reaches (omega (arith, said.looks.reads.pkg));
      bad = λ told. chains_none a.chosen (map f a.arguments) (g.D.Disk.files c.args.disk.now).idx c.query_all.result said.unbroken;
      looks = peeks_packages g.D.Disk said.looks;
    })

pub returns-else-count-eq0-clause-does : goal.returns-else-count-eq0-clause-does
returns-else-count-eq0-clause-does g c =
    let a = c.args.ask.now in
    let f = word_at c.args.words.now in
    let all = packages_in g.D.Disk c.args.disk.now c.args.db.now in
    let some = λ (none : length a.arguments ≡ 0). c.if-count-eq0.false (c.arguments-count.ensures ∙ none) in
    let reaches = reaches_some (argument_reach (is_indexed c.args.db.now) all a.chosen) f a.arguments some in
    let said = c.query_each.ensures in
    rw (← c.requires.request, c.in-Print.is) (record {
      went = λ told rows. rw (query_some c.args.format.now all a.chosen a.after f a.arguments some, reaches) (said.went told rows);
      reads = λ keyed told rows. rw reaches (said.reads told rows);
      bad = said.bad_index;
      looks = said.looks;
    })

-- ---- what goes over all packages

pub returns-in-Export-clause-does : goal.returns-in-Export-clause-does
returns-in-Export-clause-does g c =
    let said = c.query_all-in-Export.ensures in
    rw (← c.requires.request, c.in-Export.is) (record {
      went = said.went;
      reads = λ keyed told rows. omega (arith, said.looks.reads.pkg);
      bad = λ told. some_none (g.D.Disk.files c.args.disk.now).idx c.query_all-in-Export.result said.unbroken;
      looks = peeks_packages g.D.Disk said.looks;
    })

pub returns-in-Verify-clause-does : goal.returns-in-Verify-clause-does
returns-in-Verify-clause-does g c =
    let said = c.report.ensures in
    let e = g.E.Sink.taken (inner c.args.err.now) in
    let files = g.D.Disk.files c.args.disk.now in
    rw (← c.requires.request, c.in-Verify.is) (record {
      went = λ told rows. said.went told g.E.Sink.tells e;
      reads = λ keyed told rows. omega (arith, said.looks.reads.pkg);
      bad = λ told. some_went (verify files.pkg (store_of c.args.db.now)) (outputs g.O.Sink.tells (g.O.Sink.taken (inner c.args.out.now)) g.E.Sink.tells e)
          (outputs g.O.Sink.tells (g.O.Sink.taken (inner c.report.new.out)) g.E.Sink.tells e)
          (λ for. pkg_read g.D.Disk c.report.new.disk ≤ pkg_read g.D.Disk c.args.disk.now + reached_by (Everything ∷ []) c.args.db.now for)
          files.idx c.report.result (said.went told g.E.Sink.tells e);
      looks = peeks_packages g.D.Disk said.looks;
    })

pub returns-in-CheckFiles-clause-does : goal.returns-in-CheckFiles-clause-does
returns-in-CheckFiles-clause-does g c =
    let said = c.check_files.ensures in
    rw (← c.requires.request, c.in-CheckFiles.is) (record {
      went = λ told rows. said.went told;
      reads = λ keyed told rows. omega (arith, said.looks.reads.pkg);
      bad = λ told. some_went (check_files (packages_in g.D.Disk c.args.disk.now c.args.db.now))
          (shown_outputs g.O.Sink g.E.Sink c.args.out.now c.args.err.now) (shown_outputs g.O.Sink g.E.Sink c.check_files.new.out c.check_files.new.err)
          (λ for. pkg_read g.D.Disk c.check_files.new.disk ≤ pkg_read g.D.Disk c.args.disk.now + reached_by (Everything ∷ []) c.args.db.now for)
          (g.D.Disk.files c.args.disk.now).idx c.check_files.result (said.went told);
      looks = peeks_packages g.D.Disk said.looks;
    })

-- ---- the reports on requirements

pub returns-in-Unmet-clause-does : goal.returns-in-Unmet-clause-does
returns-in-Unmet-clause-does g c =
    let told' = c.report_unmet.result in
    let said = c.report_unmet.ensures in
    let old = shown_outputs g.O.Sink g.E.Sink c.args.out.now c.args.err.now in
    let new = shown_outputs g.O.Sink g.E.Sink c.report_unmet.new.out c.report_unmet.new.err in
    rw (← c.requires.request, c.in-Unmet.is, c.why_of_report.ensures.value) (record {
      went = λ told rows. went_report (unsatisfied_part (packages_in g.D.Disk c.args.disk.now c.args.db.now)) told' old new Anywhere (said.went told rows);
      reads = λ keyed told rows. absurd {A = pkg_read g.D.Disk c.report_unmet.new.disk ≤ pkg_read g.D.Disk c.args.disk.now
          + reach_sum (Everything ∷ []) c.args.db.now} cc;
      bad = λ told. report_some (g.D.Disk.files c.args.disk.now).idx told' (said.broken told);
      looks = said.looks;
    })

pub returns-in-Order-clause-does : goal.returns-in-Order-clause-does
returns-in-Order-clause-does g c =
    let told' = c.report_order.result in
    let said = c.report_order.ensures in
    let all = packages_in g.D.Disk c.args.disk.now c.args.db.now in
    let old = shown_outputs g.O.Sink g.E.Sink c.args.out.now c.args.err.now in
    let new = shown_outputs g.O.Sink g.E.Sink c.report_order.new.out c.report_order.new.err in
    rw (← c.requires.request, c.in-Order.is, c.why_of_report-in-Order.ensures.value) (record {
      went = λ told rows.
          let part = said.went told rows in (
            part.0,
            record { each = part.1.each; all = λ done. part.1.all (report_done told' done) },
            went_report (order_part all part.0) told' old new Anywhere part.2,
          );
      reads = λ keyed told rows. absurd {A = pkg_read g.D.Disk c.report_order.new.disk ≤ pkg_read g.D.Disk c.args.disk.now
          + reach_sum (Everything ∷ []) c.args.db.now} cc;
      bad = λ told. report_some (g.D.Disk.files c.args.disk.now).idx told' (said.broken told);
      looks = said.looks;
    })

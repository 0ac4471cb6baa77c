use Rattle.std.proofs.Common.{◌≡◌, ℕ, List, [], ◌∷◌, ◌++◌, length, length-append, ◌+◌, ◌<◌, get_or, refl, sym, ap, ◌∙◌, subst, arith}
use Rattle.std.specs.Prelude.{IsTrue}
use Rattle.rpm_history.proofs.Vocabulary.{AreLawfulDatabases, asks, Between, between, calls_of, course_of, given_on, images, InTurn, Line, LineIs, RunCall}
use Rattle.rpm_history.proofs.Vocabulary.{TellsLines}
use Rattle.rpm_history.proofs.Chained.{in_turn_more, lines_rise, lines_stand, lines_stay, lines_lead}
use Rattle.rpm_history.proofs.Lined.{tells_calls, call_of, calls_more}
use Rattle.rpm_history.proofs.several.run_each.Goals as goal

pub loop-line-init : goal.loop-line-init
loop-line-init g c =
    let none = c.in-Ok.ensures.items in
    record {
      count = rw none refl;
      as_many = c.in-Ok.ensures.len;
      room = c.in-Ok.ensures.exact;
      paths = λ told. refl;
      ran = ([], rw none refl);
    }

pub push_reserved-requires : goal.push_reserved-requires
push_reserved-requires g c = omega (arith, c.loop-line.invariant.as_many, c.loop-line.invariant.room)

pub loop-line-preserved : goal.loop-line-preserved
loop-line-preserved g c =
    let inv = c.loop-line.invariant in
    let did = c.run-left.ensures in
    let lines = c.args.lines.now in
    let paths = g.S.Shelf.paths c.args.shelf.now in
    let i = c.loop-line.line-index in
    let line : Line = c.line-item.result in
    let item : line ≡ get_or lines i line = c.line-item.is in
    let before : List RunCall = calls_of lines c.loop-line.outcomes.items in
    let call : RunCall = call_of line c.run-left.result.0 in
    let behind : List RunCall = before ++ call ∷ [] in
    let here : i < length lines = omega (arith, inv.count) in
    let more : calls_of lines (c.loop-line.outcomes.items ++ c.run-left.result.0 ∷ []) ≡ behind =
    calls_more lines c.loop-line.outcomes.items c.run-left.result.0 line (omega (arith, inv.count))
    ∙ ap (λ (l : Line). before ++ call_of l c.run-left.result.0 ∷ []) (ap (λ (k : ℕ). get_or lines k line) inv.count ∙ sym item) in
    let then_is : calls_of lines c.push_reserved.new.self.items ≡ behind = ap (calls_of lines) c.push_reserved.ensures.items ∙ more in
    let given = inv.ran.0 ++ given_on (course_of paths call.moment call.words (asks call.words)) (g.D.Disk.files c.loop-line.disk) call.outcome.why in
    let start : Between _ _ _ _ = between c.args.disk c.args.shelf.now c.args.out.now c.args.err.now [] in
    let before_it : Between _ _ _ _ = between c.loop-line.disk c.loop-line.shelf c.loop-line.out c.loop-line.err inv.ran.0 in
    let behind_it : Between _ _ _ _ = between c.run-left.result.1 c.run-left.new.shelf c.run-left.new.out c.run-left.new.err given in
    let said : LineIs g.D.Disk g.S.Shelf g.O.Sink g.E.Sink paths call before_it behind_it = record {
      status = did.status;
      words = did.words;
      unread = did.unread;
      answers = did.answers;
      causes = did.causes;
      shelf = inv.paths;
      gives = refl;
    } in
    record {
      count = ap length c.push_reserved.ensures.items ∙ length-append c.loop-line.outcomes.items (c.run-left.result.0 ∷ []) ∙ ap (λ (n : ℕ). n + 1) inv.count;
      as_many = c.push_reserved.ensures.len ∙ ap (λ (n : ℕ). n + 1) inv.as_many;
      room = c.push_reserved.ensures.capacity ∙ inv.room;
      paths = λ shelf. did.answers.did.paths shelf ∙ inv.paths shelf;
      ran = (
        given,
        subst (λ (calls : List RunCall). InTurn (LineIs g.D.Disk g.S.Shelf g.O.Sink g.E.Sink paths) calls start behind_it) (sym then_is)
            (in_turn_more (LineIs g.D.Disk g.S.Shelf g.O.Sink g.E.Sink paths) before call start before_it behind_it inv.ran.1 said),
      );
    }

pub returns : goal.returns
returns g c =
    let D = g.D.Disk in
    let S = g.S.Shelf in
    let O = g.O.Sink in
    let E = g.E.Sink in
    let ran = c.loop-line.invariant.ran in
    let lines = c.args.lines.now in
    let outcomes = c.loop-line.outcomes.items in
    let paths = S.paths c.args.shelf.now in
    let calls = calls_of lines outcomes in
    let tells = tells_calls S.tells lines outcomes in
    let stand = λ (told : IsTrue D.tells) (shelf : TellsLines S.tells lines) (lawful : AreLawfulDatabases (images D c.args.disk)).
    lines_stand D told S O E paths (λ it. g.met.D.Disk.as_read it told) (λ it a b image le lt left. g.met.D.Disk.earlier it a b image told le lt left)
    calls _ _ (tells shelf) ran.1 lawful in
    record {
      all = omega (arith, c.loop-line.invariant.count);
      none = tt;
      leads = λ told shelf lawful. (stand told shelf lawful).0;
      cuts = λ told shelf lawful. (stand told shelf lawful).1;
      fits = λ told shelf lawful. (stand told shelf lawful).2;
      ran = ran;
      kept = λ told shelf lawful. (
        ran.0,
        lines_stay D told S O E paths (λ it. g.met.D.Disk.as_read it told)
            (λ it a b image le lt left. g.met.D.Disk.earlier it a b image told le lt left) calls _ _ (tells shelf) ran.1 lawful,
      );
      states = λ told shelf. lines_lead D told S O E paths calls _ _ (tells shelf) ran.1;
      numbers = λ told shelf from start given went.
          lines_rise D told S O E paths (λ it. g.met.D.Disk.as_read it told)
          (λ it a b image le lt left. g.met.D.Disk.earlier it a b image told le lt left) calls _ _ from (tells shelf) went start;
    }

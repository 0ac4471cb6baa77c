use Rattle.rpm_query.proofs.Vocabulary.{above, from_one, is_some_of, packages, picks, picks_from_one, store_of}
use Rattle.std.proofs.Common.{ℕ, ap, sym, ◌∙◌}
use Rattle.rpm_query.proofs.laws.Rising.{any_passed}
use Rattle.rpm_query.proofs.answering.is_any_picked.Goals as goal

pub returns-then-after-eq0-clause-told : goal.returns-then-after-eq0-clause-told
returns-then-after-eq0-clause-told g c = λ told serves known.
    let file = (g.D.Disk.files c.args.disk.now).pkg in
    let es = picks (packages file (store_of c.args.db.now)) c.args.selection.now in
    sym c.if-some.false ∙ known ∙ ap (λ (k : ℕ). is_some_of (above k es)) c.if-after-eq0.true
    ∙ ap is_some_of (picks_from_one file c.args.db.now c.args.selection.now (from_one file c.args.db.now (c.requires.asked.keeps told)))

pub returns-in-Ok-clause-told : goal.returns-in-Ok-clause-told
returns-in-Ok-clause-told g c = λ told serves known.
    let file = (g.D.Disk.files c.args.disk.now).pkg in
    c.in-Ok.ensures.told told serves ∙ any_passed c.args.after (picks (packages file (store_of c.args.db.now)) c.args.selection.now)
    (sym known ∙ c.if-some.false)
    (picks_from_one file c.args.db.now c.args.selection.now (from_one file c.args.db.now (c.requires.asked.keeps told)))

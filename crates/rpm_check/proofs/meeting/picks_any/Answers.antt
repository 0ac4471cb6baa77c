use Rattle.rpm_check.proofs.Vocabulary.{above, Files, from_one, is_some_of, keys_asked, NextNumberIs, packages, picks, picks_from_one, Recalls, store_of, Serves}
use Rattle.std.proofs.Common.{Ok, ap, ◌∙◌, subst}
use Rattle.std.proofs.lemmas.Result.{err_from_is_err_and}
use Rattle.rpm_check.proofs.Picking.{is_some_next}
use Rattle.rpm_check.proofs.meeting.picks_any.Goals as goal
use Rattle.rpm_check.proofs.Asking.{asking_next, asking_picker, asks_ended, asks_next, asks_picker}

pub returns-in_err-picker-clause-asks : goal.returns-in_err-picker-clause-asks
returns-in_err-picker-clause-asks g c =
    let p = err_from_is_err_and c.from_residual.result c.from_residual.ensures.1 in
    rw (p.1, p.2) (asks_picker g.D.Disk _ _ (keys_asked c.args.selection.now) c.in_err-picker.field-0.0 c.args.disk.now c.new.new.disk c.args.db.now
    c.requires.asked c.in_err-picker.ensures.asks)

pub returns-clause-told : goal.returns-clause-told
returns-clause-told g c = λ told has holds.
    let db = c.args.db.now in
    let sel = c.args.selection.now in
    let picker = c.in_ok-picker.picker in
    let picked = c.in_ok-picked.picked in
    let pkg = (g.D.Disk.files c.args.disk.now).pkg in
    let next = subst (λ (f : Files). Serves picker (packages f.pkg (store_of db)) sel
    → Recalls (packages f.pkg (store_of db)) c.args.recent.now → NextNumberIs (above 0 (picks (packages f.pkg (store_of db)) sel)) (Ok picked))
    (c.in_ok-picker.ensures.asks.looks.untouched told).same
    (c.in_ok-picked.ensures.told told) in
    c.is_some.ensures ∙ is_some_next (above 0 (picks (packages pkg (store_of db)) sel)) picked (next (c.in_ok-picker.ensures.serves told has) holds)
    ∙ ap is_some_of (picks_from_one pkg db sel (from_one pkg db (c.requires.asked.keeps told)))

pub returns-clause-recalls : goal.returns-clause-recalls
returns-clause-recalls g c = λ told holds.
    let db = c.args.db.now in
    subst (λ (f : Files). Recalls (packages f.pkg (store_of db)) c.args.recent.now → Recalls (packages f.pkg (store_of db)) c.next_number_after.new.recent)
    (c.in_ok-picker.ensures.asks.looks.untouched told).same (c.in_ok-picked.ensures.recalls told) holds

pub returns-in_err-picked-clause-asks : goal.returns-in_err-picked-clause-asks
returns-in_err-picked-clause-asks g c =
    asks_next g.D.Disk g.met.D.Disk.follows_trans (asking_picker g.D.Disk c.requires.asked c.in_ok-picker.ensures.asks) c.in_err-picked.ensures.asks
    c.from_residual-in_err-picked.ensures.1

pub returns-clause-asks : goal.returns-clause-asks
returns-clause-asks g c =
    asks_ended g.D.Disk (Ok _) (asking_next g.D.Disk g.met.D.Disk.follows_trans (asking_picker g.D.Disk c.requires.asked c.in_ok-picker.ensures.asks)
    c.in_ok-picked.ensures.asks) tt

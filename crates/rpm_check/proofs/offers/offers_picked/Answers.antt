use Rattle.rpm_check.proofs.Vocabulary.{above, Files, keys_asked, NextIs, offer_in, packages, picks, Reach, store_of, Serves}
use Rattle.std.proofs.Common.{◌≡◌, ◌++◌, map, Some, None, Ok, ap, sym, ◌∙◌, subst}
use Rattle.std.proofs.lemmas.Result.{err_from_is_err_and}
use Rattle.rpm_check.proofs.Offering.{offers_above, offers_all, offers_gained}
use Rattle.rpm_check.proofs.offers.offers_picked.Goals as goal
use Rattle.rpm_check.proofs.Asking.{asking_next, asking_picker, asks_ended, asks_memory, asks_next, asks_picker}

pub returns-in_err-picker-clause-asks : goal.returns-in_err-picker-clause-asks
returns-in_err-picker-clause-asks g c =
    let p = err_from_is_err_and c.from_residual.result c.from_residual.ensures.1 in
    rw (p.1, p.2) (asks_picker g.D.Disk _ _ (keys_asked c.args.selection.now) c.in_err-picker.field-0.0 c.args.disk.now c.new.new.disk c.args.db.now
    c.requires.asked c.in_err-picker.ensures.asks)

pub loop-found-init : goal.loop-found-init
loop-found-init g c =
    let all = packages (g.D.Disk.files c.args.disk.now).pkg (store_of c.args.db.now) in
    record {
      asking = asking_picker g.D.Disk c.requires.asked c.in_ok-picker.ensures.asks;
      serves = c.in_ok-picker.ensures.serves;
      told = λ told has. ap (λ os. map offer_in os ++ offers_above all c.args.selection.now c.args.name.now 0) c.new-found.ensures.items;
    }

pub loop-found-preserved : goal.loop-found-preserved
loop-found-preserved g c =
    let db = c.args.db.now in
    let sel = c.args.selection.now in
    let name = c.args.name.now in
    let inv = c.loop-found.invariant in
    let done = c.in_ok-next.ensures in
    let n = c.loop-found.passed in
    let is : c.in_ok-next.field-0 ≡ Some c.in-Some.next = c.in-Some.is in
    let same : c.take_back.new.self ≡ c.loop-found.picker = c.take_back.ensures ∙ done.same in
    record {
      asking = asking_next g.D.Disk g.met.D.Disk.follows_trans inv.asking done.asks;
      serves = λ told has.
          subst (λ (r : Reach). Serves r (packages (g.D.Disk.files c.args.disk.now).pkg (store_of db)) sel) (sym same) (inv.serves told has);
      told = λ told has.
          let all = packages (g.D.Disk.files c.args.disk.now).pkg (store_of db) in
          let next = subst (λ (f : Files). Serves c.loop-found.picker (packages f.pkg (store_of db)) sel
          → NextIs (above n (picks (packages f.pkg (store_of db)) sel)) (Ok c.in_ok-next.field-0)) (inv.asking.looks.untouched told).same (done.told told)
          (inv.serves told has) in
          let os = c.loop-found.found.items in
          offers_gained all sel name n _ c.in-Some.next (map offer_in os) (map offer_in c.push_picked.new.offers.items) (offers_above all sel name 0)
          (subst (λ o. NextIs (above n (picks all sel)) (Ok o)) is next) c.number-passed.ensures c.in_ok-push_picked.ensures (inv.told told has);
    }

pub returns-clause-told : goal.returns-clause-told
returns-clause-told g c = λ told has.
    let db = c.args.db.now in
    let sel = c.args.selection.now in
    let inv = c.loop-found.invariant in
    let n = c.loop-found.passed in
    let pkg = (g.D.Disk.files c.args.disk.now).pkg in
    let is : c.in_ok-next.field-0 ≡ None = cc in
    let none = subst (λ (f : Files). Serves c.loop-found.picker (packages f.pkg (store_of db)) sel
    → NextIs (above n (picks (packages f.pkg (store_of db)) sel)) (Ok c.in_ok-next.field-0)) (inv.asking.looks.untouched told).same
    (c.in_ok-next.ensures.told told) (inv.serves told has) in
    offers_all pkg db sel c.args.name.now n (map offer_in c.loop-found.found.items) (c.requires.asked.keeps told)
    (subst (λ o. NextIs (above n (picks (packages pkg (store_of db)) sel)) (Ok o)) is none) (inv.told told has)

pub returns-in_err-next-clause-asks : goal.returns-in_err-next-clause-asks
returns-in_err-next-clause-asks g c =
    asks_next g.D.Disk g.met.D.Disk.follows_trans c.loop-found.invariant.asking c.in_err-next.ensures.asks c.from_residual-in_err-next.ensures.1

pub returns-in_err-push_picked-clause-asks : goal.returns-in_err-push_picked-clause-asks
returns-in_err-push_picked-clause-asks g c =
    asks_memory g.D.Disk (asking_next g.D.Disk g.met.D.Disk.follows_trans c.loop-found.invariant.asking c.in_ok-next.ensures.asks)
    c.from_residual-in_err-push_picked.ensures.1

pub returns-clause-asks : goal.returns-clause-asks
returns-clause-asks g c =
    asks_ended g.D.Disk (Ok _) (asking_next g.D.Disk g.met.D.Disk.follows_trans c.loop-found.invariant.asking c.in_ok-next.ensures.asks) tt

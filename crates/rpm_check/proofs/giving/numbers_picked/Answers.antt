use Rattle.rpm_check.proofs.Vocabulary.{above, Files, keys_asked, NextNumberIs, packages, picks, Recalls, store_of, Serves}
use Rattle.std.proofs.Common.{◌≡◌, ℕ, List, ◌++◌, Option, Some, None, Ok, ap, subst}
use Rattle.std.proofs.lemmas.Result.{err_from_is_err_and}
use Rattle.rpm_check.proofs.Above.{numbers_above}
use Rattle.rpm_check.proofs.Gaining.{gained, all_picked}
use Rattle.rpm_check.proofs.giving.numbers_picked.Goals as goal
use Rattle.rpm_check.proofs.Asking.{asking_next, asking_picker, asks_ended, asks_memory, asks_next, asks_picker, told_back}

pub returns-in_err-picker-clause-asks : goal.returns-in_err-picker-clause-asks
returns-in_err-picker-clause-asks g c =
    let p = err_from_is_err_and c.from_residual.result c.from_residual.ensures.1 in
    rw (p.1, p.2) (asks_picker g.D.Disk _ _ (keys_asked c.args.selection.now) c.in_err-picker.field-0.0 c.args.disk.now c.new.new.disk c.args.db.now
    c.requires.asked c.in_err-picker.ensures.asks)

pub loop-numbers-init : goal.loop-numbers-init
loop-numbers-init g c =
    let db = c.args.db.now in
    record {
      asking = asking_picker g.D.Disk c.requires.asked c.in_ok-picker.ensures.asks;
      recalls = λ told holds. holds;
      told = λ told has holds.
          ap (λ (ns : List ℕ). ns ++ numbers_above (packages (g.D.Disk.files c.args.disk.now).pkg (store_of db)) c.args.selection.now 0)
          c.new-numbers.ensures.items;
    }

pub loop-numbers-preserved : goal.loop-numbers-preserved
loop-numbers-preserved g c =
    let db = c.args.db.now in
    let sel = c.args.selection.now in
    let inv = c.loop-numbers.invariant in
    let done = c.in_ok-next.ensures in
    let n = c.loop-numbers.passed in
    let picker = c.in_ok-picker.picker in
    let is : c.in_ok-next.field-0 ≡ Some c.in-Some.next = c.in-Some.is in
    record {
      asking = asking_next g.D.Disk g.met.D.Disk.follows_trans inv.asking done.asks;
      recalls = λ told holds.
          told_back g.D.Disk (λ all. Recalls all c.loop-numbers.recent → Recalls all c.next_number_after.new.recent) inv.asking done.recalls told
          (inv.recalls told holds);
      told = λ told has holds.
          let all = packages (g.D.Disk.files c.args.disk.now).pkg (store_of db) in
          let next = subst (λ (f : Files). Serves picker (packages f.pkg (store_of db)) sel → Recalls (packages f.pkg (store_of db)) c.loop-numbers.recent
          → NextNumberIs (above n (picks (packages f.pkg (store_of db)) sel)) (Ok c.in_ok-next.field-0)) (inv.asking.looks.untouched told).same (done.told told)
          (c.in_ok-picker.ensures.serves told has) (inv.recalls told holds) in
          gained all sel n c.in-Some.next c.loop-numbers.numbers.items c.push.new.self.items (numbers_above all sel 0)
          (subst (λ (o : Option ℕ). NextNumberIs (above n (picks all sel)) (Ok o)) is next) c.in_ok-push.ensures.items (inv.told told has holds);
    }

pub returns-clause-told : goal.returns-clause-told
returns-clause-told g c = λ told has holds.
    let db = c.args.db.now in
    let sel = c.args.selection.now in
    let inv = c.loop-numbers.invariant in
    let n = c.loop-numbers.passed in
    let picker = c.in_ok-picker.picker in
    let pkg = (g.D.Disk.files c.args.disk.now).pkg in
    let is : c.in_ok-next.field-0 ≡ None = cc in
    let none = subst (λ (f : Files). Serves picker (packages f.pkg (store_of db)) sel → Recalls (packages f.pkg (store_of db)) c.loop-numbers.recent
    → NextNumberIs (above n (picks (packages f.pkg (store_of db)) sel)) (Ok c.in_ok-next.field-0)) (inv.asking.looks.untouched told).same
    (c.in_ok-next.ensures.told told) (c.in_ok-picker.ensures.serves told has) (inv.recalls told holds) in
    all_picked pkg db sel n c.loop-numbers.numbers.items (c.requires.asked.keeps told)
    (subst (λ (o : Option ℕ). NextNumberIs (above n (picks (packages pkg (store_of db)) sel)) (Ok o)) is none) (inv.told told has holds)

pub returns-clause-recalls : goal.returns-clause-recalls
returns-clause-recalls g c = λ told holds.
    let inv = c.loop-numbers.invariant in
    told_back g.D.Disk (λ all. Recalls all c.loop-numbers.recent → Recalls all c.next_number_after.new.recent) inv.asking c.in_ok-next.ensures.recalls told
    (inv.recalls told holds)

pub returns-in_err-next-clause-recalls : goal.returns-in_err-next-clause-recalls
returns-in_err-next-clause-recalls g c = λ told holds.
    let inv = c.loop-numbers.invariant in
    told_back g.D.Disk (λ all. Recalls all c.loop-numbers.recent → Recalls all c.next_number_after.new.recent) inv.asking c.in_err-next.ensures.recalls told
    (inv.recalls told holds)

pub returns-in_err-push-clause-recalls : goal.returns-in_err-push-clause-recalls
returns-in_err-push-clause-recalls g c = λ told holds.
    let inv = c.loop-numbers.invariant in
    told_back g.D.Disk (λ all. Recalls all c.loop-numbers.recent → Recalls all c.next_number_after.new.recent) inv.asking c.in_ok-next.ensures.recalls told
    (inv.recalls told holds)

pub returns-in_err-next-clause-asks : goal.returns-in_err-next-clause-asks
returns-in_err-next-clause-asks g c =
    asks_next g.D.Disk g.met.D.Disk.follows_trans c.loop-numbers.invariant.asking c.in_err-next.ensures.asks c.from_residual-in_err-next.ensures.1

pub returns-in_err-push-clause-asks : goal.returns-in_err-push-clause-asks
returns-in_err-push-clause-asks g c =
    asks_memory g.D.Disk (asking_next g.D.Disk g.met.D.Disk.follows_trans c.loop-numbers.invariant.asking c.in_ok-next.ensures.asks)
    c.from_residual-in_err-push.ensures.1

pub returns-clause-asks : goal.returns-clause-asks
returns-clause-asks g c =
    asks_ended g.D.Disk (Ok _) (asking_next g.D.Disk g.met.D.Disk.follows_trans c.loop-numbers.invariant.asking c.in_ok-next.ensures.asks) tt

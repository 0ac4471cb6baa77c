use Rattle.rpm_select.proofs.Vocabulary.{AreWith, asks_index, FinMap, has_keys, is_indexed, IsStrictlyIncreasing, keys_asked, nat_cmp, Package, packages, Reach}
use Rattle.rpm_select.proofs.Vocabulary.{reach, store_of, rows, Selection, Serves, These}
use Rattle.std.proofs.Common.{◌≡◌, Bool, true, sym, ap, ◌∙◌, subst}
use Rattle.std.proofs.lemmas.Bool.{and_parts}
use Rattle.std.proofs.Common.{List, ℕ}
use Rattle.rpm_select.proofs.Having.{with_candidates}
use Rattle.rpm_select.proofs.Rising.{are_candidates}
use Rattle.rpm_select.proofs.Serving.{served, unasked_serves}
use Rattle.rpm_select.proofs.picker.Picker.new.Goals as goal

-- the numbers that an index gave are those that a picker over it goes over
gone_over : (asked : Bool) (all : FinMap nat_cmp Package) (sel : Selection) (ns : List ℕ) (r : Reach) → asked ≡ true → IsStrictlyIncreasing ns
    → AreWith (rows all) (keys_asked sel) ns → r ≡ These ns → r ≡ reach asked sel all
gone_over asked all sel ns r is_asked rising are is =
    is ∙ ap These (are_candidates all sel ns rising (with_candidates all sel ns are)) ∙ sym (ap (λ (b : Bool). reach b sel all) is_asked)

pub returns-then-not-asks-clause-serves : goal.returns-then-not-asks-clause-serves
returns-then-not-asks-clause-serves g c = λ told has.
    let all = packages (g.D.Disk.files c.args.disk.now).pkg (store_of c.args.db.now) in
    subst (λ (r : Reach). Serves r all c.args.selection.now) (sym c.unasked.ensures) (unasked_serves all c.args.selection.now)

pub returns-clause-reach : goal.returns-clause-reach
returns-clause-reach g c = λ told has.
    let db = c.args.db.now in
    let sel = c.args.selection.now in
    let all = packages (g.D.Disk.files c.args.disk.now).pkg (store_of db) in
    let asked : asks_index db sel ≡ true = sym c.if-not-asks.ensures in
    gone_over (asks_index db sel) all sel c.in_ok-numbers.numbers.items c.over.result asked c.in_ok-numbers.ensures.rising
    (c.in_ok-numbers.ensures.with told (has (and_parts (has_keys sel) (is_indexed db) asked).1)) c.over.ensures

pub returns-clause-serves : goal.returns-clause-serves
returns-clause-serves g c = λ told has.
    let db = c.args.db.now in
    let sel = c.args.selection.now in
    let all = packages (g.D.Disk.files c.args.disk.now).pkg (store_of db) in
    let asked : asks_index db sel ≡ true = sym c.if-not-asks.ensures in
    subst (λ (r : Reach). Serves r all sel)
    (sym (gone_over (asks_index db sel) all sel c.in_ok-numbers.numbers.items c.over.result asked c.in_ok-numbers.ensures.rising
    (c.in_ok-numbers.ensures.with told (has (and_parts (has_keys sel) (is_indexed db) asked).1)) c.over.ensures))
    (served (asks_index db sel) sel all (λ is_asked. (and_parts (has_keys sel) (is_indexed db) is_asked).0))

use Rattle.rpm_select.proofs.Vocabulary.{AreHits, code_of, key_chain, Kind, packages, store_of, rows}
use Rattle.std.proofs.Common.{◌≡◌, List, ℕ, Ok, Err, Result, inl, subst}
use Rattle.std.specs.Prelude.{OnOk}
use Rattle.rpm_select.proofs.Numbering.{hits_add}
use Rattle.rpm_select.proofs.asking.push_found.Goals as goal

on_ok : {A E : Type 0} (r : Result A E) (P Q : Type 0) → (P → Q) → OnOk r P → OnOk r Q
on_ok (Ok a) P Q f p = f p
on_ok (Err e) P Q f p = tt

pub returns-in-Ok-clause-adds : goal.returns-in-Ok-clause-adds
returns-in-Ok-clause-adds g c =
    let key = c.args.key.now in
    let all = rows (packages (g.D.Disk.files c.args.disk.now).pkg (store_of c.args.db.now)) in
    let hits = c.in-Ok.hits in
    on_ok c.push_hits.result _ _ (λ is told has.
    hits_add key.0 key.1 all hits c.args.numbers.now.items c.push_hits.new.numbers.items is
    (subst (λ (k : Kind). AreHits (code_of k) key.1 all hits) c.kind.ensures
    (subst (λ (bytes : List ℕ). AreHits (code_of c.kind.result) bytes all hits) c.bytes.ensures (c.in-Ok.ensures.rows told has)))) c.push_hits.ensures.adds

pub returns-in-Err-BadIndex-clause-broken : goal.returns-in-Err-BadIndex-clause-broken
returns-in-Err-BadIndex-clause-broken g c = λ told.
    let key = c.args.key.now in
    let idx = (g.D.Disk.files c.args.disk.now).idx in
    let said : key_chain (code_of c.kind.result) c.bytes.result.now idx ≡ Err c.in-Err-BadIndex.unit =
    rw c.in-Err-BadIndex.field-0-is at (c.in-Err-BadIndex.ensures.told told) in
    inl (subst (λ (k : Kind). key_chain (code_of k) key.1 idx ≡ Err c.in-Err-BadIndex.unit) c.kind.ensures
    (subst (λ (bytes : List ℕ). key_chain (code_of c.kind.result) bytes idx ≡ Err c.in-Err-BadIndex.unit) c.bytes.ensures said))

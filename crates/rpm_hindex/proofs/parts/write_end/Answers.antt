use Rattle.std.proofs.Common.{◌≡◌, ℕ, ◌+◌, ◌-◌, ◌/◌, List, take, drop, length, ap, ◌∙◌, arith, rules, length-drop}
use Rattle.std.proofs.lemmas.List.{take_all}
use Rattle.rpm_hindex.proofs.Vocabulary.{changes_weaker, Idx, SameSeal, Units, units_of, with_units}
use Rattle.rpm_hindex.proofs.TornWrites.{torn_behind}
use Rattle.rpm_hindex.proofs.Ends.{end_first}
use Rattle.rpm_hindex.proofs.parts.write_end.Goals as goal

-- the bytes from this one on
end_bytes : (bytes d : List ℕ) (keep : ℕ) → d ≡ bytes → take (length d - keep) (drop keep d) ≡ drop keep bytes
end_bytes bytes d keep is = take_all (length d - keep) (drop keep d) (omega (arith, length-drop keep d)) ∙ ap (λ (bs : List ℕ). drop keep bs) is

pub returns-clause-written : goal.returns-clause-written
returns-clause-written g c = λ told.
    let bytes = c.args.bytes.now.items in
    let keep = c.args.keep in
    let old = (g.D.Disk.files c.args.disk.now).idx in
    let front = c.shrink_to_fit.ensures.items ∙ c.truncate.ensures.items in
    ap (λ (bs : List ℕ). with_units 1 (units_of bs) (g.D.Disk.files c.write_units.new.disk).idx) front
    ∙ ap (λ (f : Units). with_units 1 (units_of (take keep bytes)) f) (c.in_ok-write_units.ensures.written told)
    ∙ ap (λ (bs : List ℕ). with_units 1 (units_of (take keep bytes)) (with_units (1 + keep / 16) (units_of bs) old))
    (end_bytes bytes c.deref.result.now keep c.deref.ensures.value)
    ∙ end_first keep (1 + keep / 16) bytes old (omega (arith, c.requires.some)) c.requires.aligned c.requires.whole (omega arith)

pub returns-clause-writes : goal.returns-clause-writes
returns-clause-writes g c = record {
  changes =
      changes_weaker _ Idx _ SameSeal 0 0 _ _ (omega arith) (λ a b t. torn_behind _ _ a b (omega arith) t) c.write_units.ensures.writes.changes;
  cause = search rules;
}

pub returns-in_err-write_units-clause-writes : goal.returns-in_err-write_units-clause-writes
returns-in_err-write_units-clause-writes g c = record {
  changes =
      changes_weaker _ Idx _ SameSeal 0 0 _ _ (omega arith) (λ a b t. torn_behind _ _ a b (omega arith) t) c.write_units.ensures.writes.changes;
  cause = search rules;
}

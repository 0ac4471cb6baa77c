use Rattle.std.proofs.Common.{arith, ap, sym, ◌∙◌, refl, subst, ℕ, max, rules}
use Rattle.rpm_hindex.proofs.Vocabulary.{blank, changes_weaker, Idx, KeepsIndexValue, IndexState, VoidOrSame}
use Rattle.rpm_hindex.proofs.TornWrites.{torn_void}
use Rattle.rpm_hindex.proofs.Seals.{front_kept, same_state}
use Rattle.rpm_hindex.proofs.index.Hindex.void.Goals as goal

pub returns-in_err-write_synced-clause-writes : goal.returns-in_err-write_synced-clause-writes
unfolding blank
returns-in_err-write_synced-clause-writes g c = record {
  changes =
      changes_weaker _ Idx _ VoidOrSame 0 0 _ _ (omega arith) (λ a b t. torn_void blank a b t refl)
      c.in_err-write_synced.ensures.writes.changes;
  cause = search rules;
}

pub returns-clause-writes : goal.returns-clause-writes
unfolding blank
returns-clause-writes g c = record {
  changes =
      changes_weaker _ Idx _ VoidOrSame 0 0 _ _ (omega arith) (λ a b t. torn_void blank a b t refl) c.in_ok-write_synced.ensures.writes.changes;
  cause = search rules;
}

pub returns-clause-state : goal.returns-clause-state
unfolding blank
returns-clause-state g c = rw (c.max-self-inside.ensures, ← c.self.view_is) refl

pub returns-clause-left : goal.returns-clause-left
unfolding blank
returns-clause-left g c = record {
  written = c.in_ok-write_synced.ensures.written;
  durable = c.in_ok-write_synced.ensures.durable;
  kept = λ told.
      let second = ap (λ (s : IndexState). s.second) c.self.view_is in
      let units = ap (λ (s : IndexState). s.units) c.self.view_is in
      subst (KeepsIndexValue (g.D.Disk.files c.write_synced.new.disk).idx)
      (sym (same_state _ blank _ c.args.self.now.second _ (max c.args.self.now.units 1) refl
      second (c.max-self-inside.ensures ∙ ap (λ (n : ℕ). max n 1) units)))
      (front_kept blank (g.D.Disk.files c.args.disk.now).idx (g.D.Disk.files c.write_synced.new.disk).idx (c.in_ok-write_synced.ensures.written told)
      c.args.self.now
      (max c.args.self.now.units 1) (c.requires.keeps told) refl);
}

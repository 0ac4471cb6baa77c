use Rattle.std.proofs.Common.{◌≡◌, ℕ, ◌≤◌, ◌∷◌, [], List, ap, sym, ◌∙◌, arith, subst, rules}
use Rattle.std.specs.Prelude.{IsTrue}
use Rattle.rpm_hindex.proofs.Vocabulary.{changes_weaker, cut_up_one, Idx, is_current, KeepsIndexValue, length-unit, index_magic, with_units, seal_unit, SealedOrSame, IndexState, Torn}
use Rattle.rpm_hindex.proofs.Vocabulary.{unit_at, Units, units_of}
use Rattle.rpm_hindex.proofs.UnitWords.{current}
use Rattle.rpm_hindex.proofs.TornWrites.{torn_seal}
use Rattle.rpm_hindex.proofs.Seals.{front_kept, front_behind, whole_behind, records_behind, padded_behind, state, same_state}
use Rattle.rpm_hindex.proofs.Sealed.{sealed_file}
use Rattle.rpm_hindex.proofs.index.Hindex.seal.Given.{Over}
use Rattle.rpm_hindex.proofs.index.Hindex.seal.Goals as goal

-- what is written is the one unit
one : (g buckets : ℕ) (unit : List ℕ) → unit ≡ seal_unit g buckets → units_of unit ≡ seal_unit g buckets ∷ []
one g buckets unit is = ap units_of is ∙ cut_up_one (seal_unit g buckets) (length-unit index_magic 2 g buckets)

weaker : (g buckets : ℕ) (unit : List ℕ) → unit ≡ seal_unit g buckets → (a b : Units) → Torn 0 (units_of unit) a b → SealedOrSame (seal_unit g buckets) a b
weaker g buckets unit is a b t = torn_seal (seal_unit g buckets) a b (subst (λ (us : Units). Torn 0 us a b) (one g buckets unit is) t)

pub returns-in_err-write_synced-clause-writes : goal.returns-in_err-write_synced-clause-writes
returns-in_err-write_synced-clause-writes g c = record {
  changes =
      let pending = ap (λ (s : IndexState). s.pending) c.self.view_is in
      let is = c.unit_of_words-first.ensures ∙ ap (seal_unit c.args.generation) pending in
      changes_weaker _ Idx _ (SealedOrSame (seal_unit c.args.generation c.args.self.now.pending)) 0 0 _ _ (omega arith)
      (weaker c.args.generation c.args.self.now.pending c.unit_of_words-first.result is) c.in_err-write_synced.ensures.writes.changes;
  cause = search rules;
}

pub returns-clause-writes : goal.returns-clause-writes
returns-clause-writes g c = record {
  changes =
      let pending = ap (λ (s : IndexState). s.pending) c.self.view_is in
      let is = c.unit_of_words-first.ensures ∙ ap (seal_unit c.args.generation) pending in
      changes_weaker _ Idx _ (SealedOrSame (seal_unit c.args.generation c.args.self.now.pending)) 0 0 _ _ (omega arith)
      (weaker c.args.generation c.args.self.now.pending c.unit_of_words-first.result is) c.in_ok-write_synced.ensures.writes.changes;
  cause = search rules;
}

-- the first unit that was written, and the new file
module _ (g : Over) (c : goal.After-self-2-1 g) where
  abbrev unit : List ℕ
  unit = seal_unit c.args.generation c.args.self.now.pending

  first_is : c.unit_of_words-first.result ≡ unit
  first_is = c.unit_of_words-first.ensures ∙ ap (λ (s : IndexState). seal_unit c.args.generation s.pending) c.self.view_is

  state_is : state c.unit_of_words-first.result c.self.inside.second c.self.inside.units ≡ state unit c.args.self.now.second c.args.self.now.units
  state_is = same_state _ _ _ _ _ _ first_is (ap (λ (s : IndexState). s.second) c.self.view_is) (ap (λ (s : IndexState). s.units) c.self.view_is)

  file_is : IsTrue g.D.Disk.tells → (g.D.Disk.files c.write_synced.new.disk).idx ≡ with_units 0 (unit ∷ []) (g.D.Disk.files c.args.disk.now).idx
  file_is told = c.in_ok-write_synced.ensures.written told ∙ ap (λ (us : Units). with_units 0 us (g.D.Disk.files c.args.disk.now).idx)
      (one c.args.generation c.args.self.now.pending c.unit_of_words-first.result first_is)

  behind : (told : IsTrue g.D.Disk.tells) (i : ℕ) → 1 ≤ i → unit_at (g.D.Disk.files c.write_synced.new.disk).idx i
      ≡ unit_at (g.D.Disk.files c.args.disk.now).idx i
  behind told = front_behind unit (g.D.Disk.files c.args.disk.now).idx (g.D.Disk.files c.write_synced.new.disk).idx (file_is told)

pub returns-clause-left : goal.returns-clause-left
returns-clause-left g c = record {
  written = file_is g c;
  durable = c.in_ok-write_synced.ensures.durable;
  kept = λ told.
      let units = ap (λ (s : IndexState). s.units) c.self.view_is in
      let pending = ap (λ (s : IndexState). s.pending) c.self.view_is in
      let some = c.self.invariant (omega (arith, pending, c.requires.written)) in
      subst (KeepsIndexValue (g.D.Disk.files c.write_synced.new.disk).idx) (sym (state_is g c))
      (front_kept (unit g c) (g.D.Disk.files c.args.disk.now).idx (g.D.Disk.files c.write_synced.new.disk).idx (file_is g c told) c.args.self.now
      c.args.self.now.units (c.requires.keeps told) (omega (arith, units, some)));
}

pub returns-clause-current : goal.returns-clause-current
returns-clause-current g c ordered =
    ap (is_current c.args.generation) (state_is g c)
    ∙ current c.args.generation c.args.self.now.pending c.args.self.now.units c.args.self.now.second (omega arith)
    (omega (arith, ap (λ (s : IndexState). s.pending) c.self.view_is)) ordered

pub returns-clause-whole : goal.returns-clause-whole
returns-clause-whole g c = λ told whole. whole_behind c.args.self.now.pending _ _ (behind g c told) whole

pub returns-clause-records : goal.returns-clause-records
returns-clause-records g c = λ told whole. records_behind c.args.self.now.pending _ _ (behind g c told) whole

pub returns-clause-padded : goal.returns-clause-padded
returns-clause-padded g c = λ told whole. padded_behind c.args.self.now.pending _ _ (behind g c told) whole

pub returns-in_err-write_synced-clause-whichever : goal.returns-in_err-write_synced-clause-whichever
returns-in_err-write_synced-clause-whichever g c = λ told whole. sealed_file c.args.generation c.args.self.now.pending (g.D.Disk.files c.args.disk.now).idx
    (omega arith) (omega (arith, ap (λ (s : IndexState). s.pending) c.self.view_is)) whole

pub returns-clause-whichever : goal.returns-clause-whichever
returns-clause-whichever g c = λ told whole. sealed_file c.args.generation c.args.self.now.pending (g.D.Disk.files c.args.disk.now).idx
    (omega arith) (omega (arith, ap (λ (s : IndexState). s.pending) c.self.view_is)) whole

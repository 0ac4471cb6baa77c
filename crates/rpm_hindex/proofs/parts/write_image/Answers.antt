use Rattle.std.proofs.Common.{◌≡◌, ℕ, ◌%◌, List, length, ap, ◌∙◌, refl, arith, rules}
use Rattle.rpm_hindex.proofs.Vocabulary.{changes_none, Idx, SameSeal, Units, units_of, with_units}
use Rattle.rpm_hindex.proofs.Results.{on_ok}
use Rattle.rpm_hindex.proofs.TornWrites.{seal_then, seal_torn}
use Rattle.rpm_hindex.proofs.parts.write_image.Goals as goal

pub loop-bytes-init : goal.loop-bytes-init
loop-bytes-init g c = record {
  some = c.requires.some;
  whole = c.requires.whole;
  room = c.requires.room;
  written = λ told. refl;
  changes = changes_none _ Idx g.met.D.Disk.follows_refl SameSeal (λ a. refl) c.args.disk.now;
  faults = omega arith;
}

pub loop-bytes-preserved : goal.loop-bytes-preserved
loop-bytes-preserved g c = record {
  some = omega (arith, c.in_ok-write_end.ensures.kept, c.loop-bytes-test.true, c.len.ensures);
  whole = omega (arith, c.in_ok-write_end.ensures.kept, c.loop-bytes.invariant.whole, c.len.ensures);
  room = omega (arith, c.in_ok-write_end.ensures.kept, c.loop-bytes.invariant.room, c.len.ensures);
  written = λ told. c.in_ok-write_end.ensures.written told ∙ c.loop-bytes.invariant.written told;
  changes = seal_then g.D.Disk g.met.D.Disk.follows_trans _ _ _ c.loop-bytes.invariant.changes c.in_ok-write_end.ensures.writes.changes;
  faults = omega (arith, c.loop-bytes.invariant.faults, c.write_end.ensures.writes.cause.later);
}

pub returns-in_err-write_end-clause-writes : goal.returns-in_err-write_end-clause-writes
returns-in_err-write_end-clause-writes g c = record {
  changes = seal_then g.D.Disk g.met.D.Disk.follows_trans _ _ _ c.loop-bytes.invariant.changes c.in_err-write_end.ensures.writes.changes;
  cause = search rules;
}

pub returns-clause-writes : goal.returns-clause-writes
returns-clause-writes g c = record {
  changes = seal_torn g.D.Disk g.met.D.Disk.follows_trans _ _ _ 1 _ (omega arith) c.loop-bytes.invariant.changes c.write_synced.ensures.writes.changes;
  cause = search rules;
}

pub write_end-requires-clause-aligned : goal.write_end-requires-clause-aligned
write_end-requires-clause-aligned g c = omega (arith, c.loop-bytes.invariant.whole, c.len-keep.ensures, c.loop-bytes-test.true, c.len.ensures)

pub write_end-requires-clause-whole : goal.write_end-requires-clause-whole
write_end-requires-clause-whole g c = c.loop-bytes.invariant.whole

pub write_end-requires-clause-room : goal.write_end-requires-clause-room
write_end-requires-clause-room g c = c.loop-bytes.invariant.room

pub write_synced-requires-clause-some : goal.write_synced-requires-clause-some
write_synced-requires-clause-some g c = omega (arith, c.loop-bytes.invariant.some, c.deref.ensures.len)

pub write_synced-requires-clause-whole : goal.write_synced-requires-clause-whole
write_synced-requires-clause-whole g c = ap (λ (bs : List ℕ). length bs % 16) c.deref.ensures.value ∙ c.loop-bytes.invariant.whole

-- what is written last stands before what the loop wrote
all_written : (bytes whole d : List ℕ) (old mid new : Units) → d ≡ bytes → new ≡ with_units 1 (units_of d) mid
    → with_units 1 (units_of bytes) mid ≡ with_units 1 (units_of whole) old → new ≡ with_units 1 (units_of whole) old
all_written bytes whole d old mid new is last before = last ∙ ap (λ (bs : List ℕ). with_units 1 (units_of bs) mid) is ∙ before

pub returns-clause-written : goal.returns-clause-written
returns-clause-written g c = on_ok c.write_synced.result _ _ (λ last told.
    all_written c.loop-bytes.bytes.items c.args.image.items c.deref.result.now (g.D.Disk.files c.args.disk.now).idx (g.D.Disk.files c.loop-bytes.disk).idx
    (g.D.Disk.files c.write_synced.new.disk).idx c.deref.ensures.value (last told) (c.loop-bytes.invariant.written told)) c.write_synced.ensures.written

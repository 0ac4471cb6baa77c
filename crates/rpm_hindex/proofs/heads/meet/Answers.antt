use Rattle.std.proofs.Common.{◌≡◌, ℕ, true, length, sym, ap, ◌∙◌, inl, inr}
use Rattle.std.specs.Prelude.{Option, Some, None}
use Rattle.rpm_hindex.proofs.Vocabulary.{Files, has_key, Hit, index_in, is_sound, is_wanted, length_at, row_at, row_of_hit, unit_at, word}
use Rattle.rpm_hindex.proofs.Steps.{moved, other_row, wanted_by_key, number_at, place_at}
use Rattle.rpm_hindex.proofs.Meets.{placed_still, head_still, fault_from, both_read}
use Rattle.rpm_hindex.proofs.Results.{handed_on}
use Rattle.rpm_hindex.proofs.heads.meet.Goals as goal

pub returns-in_err-next-clause-fault : goal.returns-in_err-next-clause-fault
returns-in_err-next-clause-fault g c =
    handed_on c.from_residual.result c.in_err-next.field-0.0 _ c.from_residual.ensures.1 (λ told. c.in_err-next.ensures.fault told c.args.bucket)

pub returns-then-not-may_be-clause-met : goal.returns-then-not-may_be-clause-met
returns-then-not-may_be-clause-met g c = λ told.
    let a = c.in_ok-next.ensures.ahead told in
    let unit = unit_at (g.D.Disk.files c.args.disk.now).idx in
    let at = c.args.at in
    let here = c.in_ok-next.ensures.here in
    let other = c.may_be.ensures.no c.if-not-may_be.true in
    record {
      next = a.next;
      head = a.head;
      long = λ is. absurd (let wrong : ⊥ = cc in wrong);
      same = sym (ap (λ (o : Option Hit). is_wanted c.args.kind c.args.key.now o (row_at unit at)) other.1
          ∙ other_row (row_of_hit c.args.kind c.args.key.now other.0) (row_at unit at) (λ n p. other.2
          (n ∙ number_at unit at ∙ ap (λ (q : ℕ). word 2 (unit q)) (sym here) ∙ a.head.number)
          (p ∙ place_at unit at ∙ ap (λ (q : ℕ). word 3 (unit q)) (sym here) ∙ a.head.«in»)));
    }

pub meets_key-requires-clause-placed : goal.meets_key-requires-clause-placed
meets_key-requires-clause-placed g c = λ told.
    placed_still c.args.extent.buckets c.args.at (g.D.Disk.files c.args.disk.now) (g.D.Disk.files c.read_head.new.disk) c.in_ok-next.field-0
    ((c.in_ok-next.ensures.reads.looks.untouched told).same) c.in_ok-next.ensures.here (c.in_ok-next.ensures.ahead told)

pub meets_key-requires-clause-head : goal.meets_key-requires-clause-head
meets_key-requires-clause-head g c = λ told.
    head_still c.args.extent.buckets c.args.at (g.D.Disk.files c.args.disk.now) (g.D.Disk.files c.read_head.new.disk) c.in_ok-next.field-0
    ((c.in_ok-next.ensures.reads.looks.untouched told).same) c.in_ok-next.ensures.here (c.in_ok-next.ensures.ahead told)

pub returns-in_err-is_wanted-clause-fault : goal.returns-in_err-is_wanted-clause-fault
returns-in_err-is_wanted-clause-fault g c =
    handed_on c.from_residual-in_err-is_wanted.result c.in_err-is_wanted.field-0.0 _ c.from_residual-in_err-is_wanted.ensures.1 (λ told.
    fault_from c.args.extent.buckets c.args.at (g.D.Disk.files c.args.disk.now) (g.D.Disk.files c.read_head.new.disk) c.in_ok-next.field-0
    ((c.in_ok-next.ensures.reads.looks.untouched told).same) c.in_ok-next.ensures.here c.args.bucket c.in_err-is_wanted.field-0.0
    (c.in_err-is_wanted.ensures.fault told))

pub returns-in_err-is_wanted-clause-cost : goal.returns-in_err-is_wanted-clause-cost
returns-in_err-is_wanted-clause-cost g c = λ told sound.
    both_read c.args.extent.buckets c.args.at (g.D.Disk.files c.args.disk.now) (g.D.Disk.files c.read_head.new.disk) c.in_ok-next.field-0
    ((c.in_ok-next.ensures.reads.looks.untouched told).same) c.in_ok-next.ensures.here _ _ _ (c.in_ok-next.ensures.ahead told)
    c.in_ok-next.ensures.reads.looks.reads.idx
    c.in_err-is_wanted.ensures.reads.looks.reads.idx

pub returns-clause-cost : goal.returns-clause-cost
returns-clause-cost g c = λ told sound.
    both_read c.args.extent.buckets c.args.at (g.D.Disk.files c.args.disk.now) (g.D.Disk.files c.read_head.new.disk) c.in_ok-next.field-0
    ((c.in_ok-next.ensures.reads.looks.untouched told).same) c.in_ok-next.ensures.here _ _ _ (c.in_ok-next.ensures.ahead told)
    c.in_ok-next.ensures.reads.looks.reads.idx
    c.in_ok-is_wanted.ensures.reads.looks.reads.idx

pub returns-clause-met : goal.returns-clause-met
returns-clause-met g c = λ told.
    let a = c.in_ok-next.ensures.ahead told in
    let file : Files = g.D.Disk.files c.args.disk.now in
    let later : Files = g.D.Disk.files c.read_head.new.disk in
    let unit = unit_at file.idx in
    let at = c.args.at in
    let here = c.in_ok-next.ensures.here in
    let same = (c.in_ok-next.ensures.reads.looks.untouched told).same in
    record {
      next = a.next;
      head = a.head;
      long = λ is. moved (λ (f : Files) (p : ℕ). length (row_at (unit_at f.idx) p).key ≡ length_at (unit_at f.idx) p) later file
          c.in_ok-next.field-0.head.at at same here (c.in_ok-is_wanted.ensures.long told);
      same = moved (λ (f : Files) (p : ℕ). c.in_ok-is_wanted.is_wanted ≡ has_key c.args.kind c.args.key.now (row_at (unit_at f.idx) p)) later file
          c.in_ok-next.field-0.head.at at same here (c.in_ok-is_wanted.ensures.same told)
          ∙ wanted_by_key c.args.kind c.args.key.now c.args.only (row_at unit at) (λ hit is. let yes = c.may_be.ensures.yes c.if-not-may_be.false hit is in (
            yes.0 ∙ sym a.head.number ∙ ap (λ (q : ℕ). word 2 (unit q)) here ∙ sym (number_at unit at),
            yes.1 ∙ sym a.head.«in» ∙ ap (λ (q : ℕ). word 3 (unit q)) here ∙ sym (place_at unit at),
          ));
    }

pub returns-then-not-may_be-clause-sound : goal.returns-then-not-may_be-clause-sound
returns-then-not-may_be-clause-sound g c = λ told is.
    let other = c.may_be.ensures.no c.if-not-may_be.true in
    elim is [
      | inl all ↦ let none : Some other.0 ≡ None = sym other.1 ∙ all in absurd (let wrong : ⊥ = cc in wrong)
      | inr wanted ↦ absurd (let wrong : ⊥ = cc in wrong)
    ]

pub returns-clause-sound : goal.returns-clause-sound
returns-clause-sound g c = λ told is.
    moved (λ (f : Files) (p : ℕ). is_sound (index_in c.args.extent.buckets f.idx) c.args.bucket p ≡ true) (g.D.Disk.files c.read_head.new.disk)
    (g.D.Disk.files c.args.disk.now) c.in_ok-next.field-0.head.at c.args.at ((c.in_ok-next.ensures.reads.looks.untouched told).same) c.in_ok-next.ensures.here
    (c.in_ok-is_wanted.ensures.sound told)

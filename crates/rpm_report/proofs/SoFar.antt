-- What a run of calls keeps so far that read the database and write to one sink.
use Rattle.std.proofs.Common.{◌≡◌, ℕ, ◌≤◌, true, Result, Ok, Err, ap, arith}
use Rattle.rpm_outside.specs.declared.disk.Disk as disk
use Rattle.rpm_outside.specs.declared.sink.Sink as sink
use Rattle.rpm_report.proofs.Vocabulary.{Buffered, DiskFault, OnlyReadsBoth, Halt, Hand, inner, Rose, OnlyReadsIndexed}
use Rattle.rpm_effects.specs.declared.tally.Halt.TheVariants as halt
use Rattle.rpm_print.specs.Frame.{OnlyReadsIndexed, TellsTo}
use Rattle.rpm_print.proofs.laws.Peeking.{peeks_none, peeks_then}

abbrev failed : (T : Type 0) → Halt → Result T Halt
failed T what = Err what

abbrev done : (T : Type 0) → T → Result T Halt
done T u = Ok u

stopped : (T : Type 0) (what other : Halt) → failed T what ≡ failed T other → what ≡ other
stopped T what other is = cc

again : (T U : Type 0) (what other : Halt) → failed U what ≡ failed U other → failed T what ≡ failed T other
again T U what other is = ap (failed T) (stopped U what other is)

higher : (a b c : ℕ) → a ≤ b → Rose b c → Rose a c
higher a b c le rose = omega (arith, le, rose)

module _ {D : Type 0} (d : disk.Ghosts D) where
  -- where it isn't said how much of an index is read
  pub glances : {old new : D} → OnlyReadsBoth d old new → OnlyReadsIndexed d true old new
  glances looks = record {
    untouched = looks.untouched;
    moment_stays = looks.moment_stays;
    no_less = looks.no_less;
    idx = λ none. absurd cc;
    log = looks.log;
    goes_on = looks.goes_on;
  }

  pub peeks_more : ((x y z : D) → d.follows x y → d.follows y z → d.follows x z) → {a b c : D} → OnlyReadsIndexed d true a b
      → OnlyReadsIndexed d true b c → OnlyReadsIndexed d true a c
  peeks_more goes first second = peeks_then d goes first second

module _ {D S : Type 0} (d : disk.Ghosts D) (s : sink.Ghosts S) where
  pub record SoFar (old new : D) (from to : Buffered S) : Type 0 where
    pub looks : OnlyReadsIndexed d true old new
    pub disk : d.faults old ≤ d.faults new
    pub taken : s.faults (inner from) ≤ s.faults (inner to)
    pub rest : s.follows (inner from) (inner to)

  pub so_far_none : ((x : D) → d.follows x x) → ((x : S) → s.follows x x) → (at : D) (to : Buffered S) → SoFar at at to to
  so_far_none stays keeps at to = record {
    looks = peeks_none d stays;
    disk = omega arith;
    taken = omega arith;
    rest = keeps (inner to);
  }

  hand_on : ((x y z : S) → s.follows x y → s.follows y z → s.follows x z) → {x y z : Buffered S} {What Was : Type 0} → s.faults (inner x) ≤ s.faults (inner y)
      → s.follows (inner x) (inner y) → (What → Was) → Hand s Was y z → Hand s What x z
  hand_on joins {x = x} {y = y} {z = z} taken rest was more = record {
    cause = record {
      later = omega (arith, taken, more.cause.later);
      rose = λ is. higher (s.faults (inner x)) (s.faults (inner y)) (s.faults (inner z)) taken (more.cause.rose (was is));
    };
    goes_on = joins (inner x) (inner y) (inner z) rest more.goes_on;
  }

  fault_on : {a b c : D} {What Was : Type 0} → d.faults a ≤ d.faults b → (What → Was) → DiskFault d Was b c → DiskFault d What a c
  fault_on {a = a} {b = b} {c = c} less was more = record {
    later = omega (arith, less, more.later);
    rose = λ is. higher (d.faults a) (d.faults b) (d.faults c) less (more.rose (was is));
  }

  module _ (goes : (x y z : D) → d.follows x y → d.follows y z → d.follows x z) (joins : (x y z : S) → s.follows x y → s.follows y z → s.follows x z)
      {a b c : D} {x y z : Buffered S} (far : SoFar a b x y) {own other : Halt} where
    -- one call more
    pub so_far_more : {T : Type 0} {r : Result T Halt} → TellsTo d s own other r b c y z → SoFar a c x z
    so_far_more more = record {
      looks = peeks_more d goes far.looks more.looks;
      disk = omega (arith, far.disk, more.disk.later);
      taken = omega (arith, far.taken, more.hand.cause.later);
      rest = joins (inner x) (inner y) (inner z) far.rest more.hand.goes_on;
    }

    -- it stops them
    pub so_far_stops : {T U : Type 0} {what : Halt} → TellsTo d s own other (failed T what) b c y z → TellsTo d s own other (failed U what) a c x z
    so_far_stops {T = T} {U = U} {what = what} more = record {
      looks = peeks_more d goes far.looks more.looks;
      class = more.class;
      no_other = λ is. more.no_other (again T U what other is);
      disk = fault_on {a = a} {b = b} {c = c} far.disk (again T U what halt.DiskFault) more.disk;
      hand = hand_on joins far.taken far.rest (again T U what own) more.hand;
    }

  -- all were made
  pub so_far_ends : {T : Type 0} {u : T} {old new : D} {from to : Buffered S} {own other : Halt} → SoFar old new from to
      → TellsTo d s own other (done T u) old new from to
  so_far_ends far = record {
    looks = far.looks;
    class = tt;
    no_other = λ is. cc;
    disk = record { later = far.disk; rose = λ is. absurd cc };
    hand = record { cause = record { later = far.taken; rose = λ is. absurd cc }; goes_on = far.rest };
  }

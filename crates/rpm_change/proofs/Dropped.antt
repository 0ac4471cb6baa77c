-- The packages that rebuilding drops, by rising number.
use Rattle.std.proofs.Common.{◌≡◌, ℕ, ◌<◌, ◌≤◌, Ok, true, false, List, ◌∷◌, Option, Some, None, is_some, refl, sym, ap, ◌∙◌, arith, nat_eq, Err, Result}
use Rattle.rpm_outside.specs.declared.disk.Disk as disk
use Rattle.rpm_change.proofs.Vocabulary.{above, apply_all, Bad, by_index, Course, Database, drop_each, dropped_course, eq_by_cmp, Good, Halt, HasCauseAt, idle}
use Rattle.rpm_change.proofs.Vocabulary.{IsGathering, IsNext, IsOwing, joined_courses, EndStateBy, OnlyReads, looks_run, nat_cmp, next_above, none_is, none_made}
use Rattle.rpm_change.proofs.Vocabulary.{nothing_above, OwesOn, Package, Pkg, store_of, RowChange, runs_looks, SameLog, serving_read, State, state_in}
use Rattle.rpm_change.proofs.Vocabulary.{Tally, no_tally, unsigned_tied, ProgressOwing}
use Rattle.rpm_outside.specs.Files.{Files}
use Rattle.std.specs.FinMap as finite
use Rattle.std.proofs.lemmas.Cmp.{nat_cmp_total}
use Rattle.std.proofs.lemmas.List.{append-nil}
use Rattle.std.proofs.lemmas.Bool.Decides.{nat_tests}
use Rattle.std.specs.Prelude.{IsTrue}
use Rattle.rpm_effects.specs.declared.tally.Halt.TheVariants as halt

-- ---- the next number

-- the package that is there
abbrev pub package_or : Option Package → Package
package_or None = Bad
package_or (Some p) = p

pub some_is : (o : Option Package) → is_some o ≡ true → o ≡ Some (package_or o)
some_is None some = absurd cc
some_is (Some p) some = refl

-- above this number both have the same packages
abbrev pub SameAbove : ℕ → finite.FinMap nat_cmp Package → finite.FinMap nat_cmp Package → Type 0
SameAbove n s t = (k : ℕ) → n < k → finite.get t k ≡ finite.get s k

-- the first package of a list is dropped or kept, and then those behind it
drop_first : (m : ℕ) (p : Package) (es : List (ℕ × Package)) → drop_each ((m, p) ∷ es) ≡ joined_courses (dropped_course m p) (drop_each es)
drop_first m (Good bytes) es =
    let rest = drop_each es in
    ap (λ n. record { steps = rest.steps; failed = n; changes = rest.changes }) (omega arith)
drop_first m Bad es = refl

-- the next package of the one is that of the other
pub drop_next : (s t : finite.FinMap nat_cmp Package) (n m : ℕ) → SameAbove n s t → IsNext (λ k. is_some (finite.get t k)) n (Some m)
    → (finite.get t m ≡ Some (package_or (finite.get t m)))
    × (drop_each (above n (finite.entries s)) ≡ joined_courses (dropped_course m (package_or (finite.get t m))) (drop_each (above m (finite.entries s))))
drop_next s t n m same next =
    let there = some_is (finite.get t m) next.1 in
    let here : finite.get s m ≡ Some (package_or (finite.get t m)) = sym (same m next.0) ∙ there in
    let step = next_above s n m (package_or (finite.get t m)) next.0 here (λ k a b. sym (same k a) ∙ none_is (finite.get t k) (next.2 k a b)) in
    (there, ap drop_each step ∙ drop_first m (package_or (finite.get t m)) (above m (finite.entries s)))

pub drop_none : (s t : finite.FinMap nat_cmp Package) (n : ℕ) → SameAbove n s t → IsNext (λ k. is_some (finite.get t k)) n None
    → drop_each (above n (finite.entries s)) ≡ idle
drop_none s t n same none = ap drop_each (nothing_above s n (λ k lt. sym (same k lt) ∙ none_is (finite.get t k) (none k lt)))

-- taking a number out leaves those above it
removed_above : (m k : ℕ) (map : finite.FinMap nat_cmp Package) → m < k → finite.get (finite.remove map m) k ≡ finite.get map k
removed_above m k map lt =
    let other : nat_eq k m ≡ false = grind (arith, nat_tests) in
    let tied : eq_by_cmp nat_cmp k m ≡ false = unsigned_tied k m ∙ other in
    finite.get-remove nat_cmp_total map m k ∙ rw tied refl

pub same_dropped : (p : Package) (n m : ℕ) (s t u : State) → SameAbove n s.packages t.packages → n < m → u ≡ apply_all (dropped_course m p).changes t
    → SameAbove m s.packages u.packages
same_dropped (Good bytes) n m s t u same lt is k over = ap (λ (v : State). finite.get v.packages k) is ∙ same k (omega arith)
same_dropped Bad n m s t u same lt is k over =
    ap (λ (v : State). finite.get v.packages k) is ∙ removed_above m k t.packages over ∙ same k (omega arith)

-- ---- a look

module _ {D : Type 0} (d : disk.Ghosts D) {most : ℕ} {old new : D} {db : Database} {owed : RowChange} (gathering : IsGathering d old db owed)
    (looks : OnlyReads d Pkg most old new) where
  pub gathering_looked : IsGathering d new db owed
  gathering_looked =
      let runs = looks_run d looks in
      record {
        indexed = gathering.indexed;
        suspends = gathering.suspends;
        going = gathering.going;
        ordered = gathering.ordered;
        behind = gathering.behind;
        clear = gathering.clear;
        serving = λ told.
            serving_read (d.files old) (d.files new) (d.left_since old (d.moment old)) (d.left_since new (d.moment new)) db (runs.reads_as told)
            (runs.now told) (gathering.serving told);
      }

  owing_looked : IsOwing d (OwesOn d old db owed) (d.files old).idx new db owed
  owing_looked = record {
    gathering = gathering_looked;
    stays = λ told. ap (λ (f : Files). f.idx) (looks.untouched told).same;
    owes = λ told has. rw (looks.untouched told).same has;
  }

  pub left_looked : (r : Result Tally Halt) → HasCauseAt (r ≡ Err halt.DiskFault) (d.faults old) (d.faults new)
      → EndStateBy d (IsOwing d (OwesOn d old db owed) (d.files old).idx new db owed) old new db r
  left_looked (Ok tally) cause = record {
    carried = owing_looked;
    indexed = gathering.indexed;
    runs = runs_looks d SameLog (λ f. refl) Pkg most old new refl looks;
    disk = cause;
  }
  left_looked (Err h) cause = record {
    carried = tt;
    indexed = gathering.indexed;
    runs = runs_looks d SameLog (λ f. refl) Pkg most old new refl looks;
    disk = cause;
  }

  -- nothing was done but for it
  pub looked_went : {T : Type 0} → d.faults old ≤ d.faults new → (T → IsTrue d.tells) → {E : Course → State → State → Result Tally Halt → Type 0}
      → ((s : State) → E idle s s (Ok no_tally)) → ProgressOwing d T old new db db owed owed (Ok no_tally) E idle
  looked_went later tells {E = E} ends =
      let same = λ (told : IsTrue d.tells). (looks.untouched told).same in
      record {
        ended = λ told. rw (same (tells told)) (ends (state_in d old db));
        limits = λ told. by_index (λ i rows.
            rw (same (tells told)) (none_made i (state_in d old db) (store_of db) (store_of db) no_tally refl));
        whole = λ told was. rw (same told) was;
        bad = λ told. tt;
        given = λ told. record { adds = sym (append-nil owed.adds) };
        left = left_looked (Ok no_tally) (record { later = later; rose = λ is. absurd cc });
      }

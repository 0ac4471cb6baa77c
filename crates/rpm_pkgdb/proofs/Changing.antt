-- Runs of calls that read or change Packages.db, in the form in which the answers join them.
use Rattle.std.proofs.Common.{◌≡◌, ℕ, ◌+◌, ◌≤◌, Result, Ok, Err, OnOk, OnErr, IsErr, IsErrAnd, subst, sym, arith}
use Rattle.std.specs.Prelude.{IsTrue}
use Rattle.rpm_outside.specs.declared.disk.Disk as disk
use Rattle.rpm_pkgdb.proofs.Vocabulary.{Failed, Files, images, CrashLeavesOnly, Pkg, ReadsOnly, ReadsOr, Rose, IsTornOnly, CrashLeavesFile, Units, Writes}
use Rattle.rpm_outside.proofs.laws.Changing as shared
use Rattle.rpm_outside.proofs.laws.Looking as reading

-- the answer so far of a run that goes on
abbrev pub done : Result (Unit {0}) Failed
done = Ok tt

failed_as : {T E X : Type 0} (r : Result T E) → X → OnErr r X
failed_as (Ok t) x = tt
failed_as (Err e) x = x

failed_then : {T E : Type 0} (r : Result T E) (a b c : ℕ) → a ≤ b → OnErr r (Rose b c) → OnErr r (Rose a c)
failed_then (Ok t) a b c le rose = tt
failed_then (Err e) a b c le rose = omega arith

module _ {D : Type 0} (d : disk.Ghosts D) where
  -- a run that says less
  pub writes_weaker : {R S : Units → Units → Type 0} {m n : ℕ} {X E : Type 0} {r : Result X E} {a b : D} → Writes d Pkg R m r a b → m ≤ n
      → ((x y : Units) → R x y → S x y) → Writes d Pkg S n r a b
  writes_weaker run le weaker = record {
    changes = shared.changes_weaker d Pkg _ _ _ _ _ _ le weaker run.changes;
    cause = run.cause;
  }

  -- two runs, one after the other
  pub writes_then : ((a b c : D) → d.follows a b → d.follows b c → d.follows a c) → {R S T : Units → Units → Type 0} {m n most : ℕ}
      {X E Y F : Type 0} {r : Result X E} {q : Result Y F} {a b c : D} → Writes d Pkg R m r a b → Writes d Pkg S n q b c → m + n ≤ most
      → ((x y : Units) → R x y → T x y) → ((x y z : Units) → R x y → S y z → T x z) → Writes d Pkg T most q a c
  writes_then trans first second le weaker joined = record {
    changes =
        shared.changes_then d Pkg trans _ _ _ _ _ _ _ _ _ le weaker joined first.changes
        second.changes;
    cause = record {
      later = omega (arith, first.cause.later, second.cause.later);
      failed = failed_then _ _ _ _ first.cause.later second.cause.failed;
    };
  }

  -- a run that failed, whatever is answered then
  pub writes_failed : {R : Units → Units → Type 0} {most : ℕ} {X E Y F : Type 0} {e : E} {q : Result Y F} {a b : D}
      → (let r : Result X E = Err e in Writes d Pkg R most r a b)
      → Writes d Pkg R most q a b
  writes_failed run = record { changes = run.changes; cause = record { later = run.cause.later; failed = failed_as _ run.cause.failed } }

  -- a run that only reads
  pub writes_reads : {R : Units → Units → Type 0} {most : ℕ} {X E : Type 0} {r : Result X E} {a b : D} → ReadsOnly d Pkg most r a b → ((x : Units) → R x x)
      → Writes d Pkg R most r a b
  writes_reads run same = record {
    changes = shared.changes_looks d Pkg _ same _ _ _ run.looks;
    cause = run.cause;
  }

  -- no run
  pub writes_none : ((x : D) → d.follows x x) → {R : Units → Units → Type 0} (a : D) → ((x : Units) → R x x) → Writes d Pkg R 0 done a a
  writes_none stays a same = record {
    changes = shared.changes_none d Pkg stays _ same a;
    cause = record { later = omega arith; failed = tt };
  }

  -- two runs that read
  pub reads_then : ((a b c : D) → d.follows a b → d.follows b c → d.follows a c) → {m n most : ℕ} {X E Y F : Type 0} {r : Result X E} {q : Result Y F}
      {a b c : D} → ReadsOnly d Pkg m r a b → ReadsOnly d Pkg n q b c → m + n ≤ most → ReadsOnly d Pkg most q a c
  reads_then trans first second le = record {
    looks =
        reading.looks_then d Pkg trans _ _ _ _ _ _ le first.looks second.looks;
    cause = record {
      later = omega (arith, first.cause.later, second.cause.later);
      failed = failed_then _ _ _ _ first.cause.later second.cause.failed;
    };
  }

  -- a run that goes on
  pub reads_on : {most : ℕ} {X E : Type 0} {r : Result X E} {a b : D} → ReadsOnly d Pkg most r a b → ReadsOnly d Pkg most done a b
  reads_on run = record { looks = run.looks; cause = record { later = run.cause.later; failed = tt } }

  -- a run that failed, where the answer has several errors
  pub reads_failed : {m most : ℕ} {X E : Type 0} {e : E} {what : Type 0} {a b : D} → (let r : Result X E = Err e in ReadsOnly d Pkg m r a b) → m ≤ most
      → ReadsOr d Pkg most what a b
  reads_failed run le = record {
    looks = reading.looks_more d Pkg _ _ _ _ le run.looks;
    cause = record { later = run.cause.later; rose = λ is. run.cause.failed };
  }

  -- two runs that read, where the answer has several errors
  pub reads_or_then : ((a b c : D) → d.follows a b → d.follows b c → d.follows a c) → {m n most : ℕ} {X E : Type 0} {r : Result X E} {what why : Type 0}
      {a b c : D} → ReadsOnly d Pkg m r a b → ReadsOr d Pkg n why b c → m + n ≤ most → (what → why) → ReadsOr d Pkg most what a c
  reads_or_then trans first second le only = record {
    looks =
        reading.looks_then d Pkg trans _ _ _ _ _ _ le first.looks second.looks;
    cause = record {
      later = omega (arith, first.cause.later, second.cause.later);
      rose = λ is. (let rose = second.cause.rose (only is) in omega (arith, first.cause.later));
    };
  }

module _ {D : Type 0} (d : disk.Ghosts D) (told : IsTrue d.tells) where
  -- what crashes leave that fall into a run
  pub crashes_while : (P : Units → Type 0) {R : Units → Units → Type 0} {most : ℕ} {X E : Type 0} {r : Result X E} {a b : D} → Writes d Pkg R most r a b
      → ((from image : Files) → images d a from → R from.pkg image.pkg → P image.pkg) → CrashLeavesFile d a b P
  crashes_while P run = shared.crashes_from d Pkg told _ P _ _ _ run.changes

  -- and into two runs, one after the other
  pub crashes_next : (P : Units → Type 0) {R : Units → Units → Type 0} {most : ℕ} {X E : Type 0} {r : Result X E} {a b c : D} → Writes d Pkg R most r a b
      → CrashLeavesFile d a b P → CrashLeavesFile d b c P → CrashLeavesFile d a c P
  crashes_next P run = shared.crashes_then d Pkg told _ P _ _ _ _ run.changes

pub crashes_weaker : {D : Type 0} (g : disk.Ghosts D) (P Q : Units → Type 0) (a b : D) → ((image : Units) → P image → Q image)
    → CrashLeavesOnly g a b (IsTornOnly Pkg P (g.left_since a (g.moment a))) → CrashLeavesOnly g a b (IsTornOnly Pkg Q (g.left_since a (g.moment a)))
crashes_weaker g P Q a b weaker = shared.crashes_weaker g Pkg P Q a b weaker

-- what holds anyhow holds on Ok
pub on_ok : {T E X : Type 0} (r : Result T E) → X → OnOk r X
on_ok (Ok t) x = x
on_ok (Err e) x = tt

pub map_ok : {T E A B : Type 0} (r : Result T E) → (A → B) → OnOk r A → OnOk r B
map_ok (Ok t) f a = f a
map_ok (Err e) f a = tt

pub both_ok : {T E A B C : Type 0} (r : Result T E) → (A → B → C) → OnOk r A → OnOk r B → OnOk r C
both_ok (Ok t) f a b = f a b
both_ok (Err e) f a b = tt

-- what is said of an error that is passed on
pub err_given : {T E : Type 0} (P : Result T E → Type 0) (e : E) (r : Result T E) → IsErr r × IsErrAnd r (λ x. x ≡ e) → P (Err e) → P r
err_given P e (Err x) is given = subst (λ y. P (Err y)) (sym is.1) given
err_given P e (Ok t) is given = absurd is.1

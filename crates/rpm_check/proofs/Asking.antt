-- Runs of calls that ask a database.
use Rattle.std.proofs.Common.{◌≡◌, ℕ, List, ◌≤◌, Ok, Err, ◌∙◌, refl, sym, ap, subst, arith}
use Rattle.std.specs.Prelude.{Result, OnOk, OnErr, IfOk, IfErr, IsTrue, false}
use Rattle.std.specs.Result.{IsErrAnd}
use Rattle.std.proofs.lemmas.Result.{err_from_is_err_and}
use Rattle.rpm_outside.specs.declared.disk.Disk as disk
use Rattle.rpm_check.proofs.Vocabulary.{CheckQuestion, AsksIndex, AsksPackages, CheckFault, Database, DiskFault, check_fault, Files, is_broken_index, is_index_fault, IsAskable, IsBroken, Keeps}
use Rattle.rpm_check.proofs.Vocabulary.{FinMap, HasIndexRows, KeepsIndex, IsStoreKept, IsIndexKept, Kind, nat_cmp, NoMemory, Package, packages, PickFault, store_of, Units}
use Rattle.rpm_select.specs.declared.picked.PickFault.TheVariants as pick
use Rattle.rpm_select.specs.Picks as picks
use Rattle.rpm_check.specs.Frame.{OnlyReadsBoth}
use Rattle.rpm_select.specs.Frame.{HasKeptRows}
use Rattle.rpm_db.specs.Frame.{packages_in}
use Rattle.rpm_check.proofs.Faulting.{broken_from}
use Rattle.rpm_check.proofs.Glancing.{glances_none, glances_then, glances_index, glances_packages}

-- ---- answers

-- what follows of an answer
pub told_more : {X E : Type 0} (r : Result X E) (A B : X → Type 0) → ((x : X) → A x → B x) → IfOk r A → IfOk r B
told_more (Ok x) A B more is = more x is
told_more (Err fault) A B more is = tt

pub done_more : {X E : Type 0} (r : Result X E) (A B : Type 0) → (A → B) → OnOk r A → OnOk r B
done_more (Ok x) A B more is = more is
done_more (Err fault) A B more is = tt

-- ---- faults

memory_unbroken : {X : Type 0} (r : Result X CheckFault) (idx : Units) → OnErr r (r ≡ Err NoMemory) → IfErr r (IsBroken idx)
memory_unbroken (Ok x) idx is = tt
memory_unbroken (Err fault) idx is = (let memory : NoMemory ≡ fault = cc in subst (IsBroken idx) memory tt)

memory_lawful : {X : Type 0} (r : Result X CheckFault) → OnErr r (r ≡ Err NoMemory) → is_broken_index r ≡ false
memory_lawful (Ok x) is = refl
memory_lawful (Err fault) is = ap is_broken_index is

memory_no_fault : {X : Type 0} (r : Result X CheckFault) → OnErr r (r ≡ Err NoMemory) → r ≡ Err DiskFault → ⊥
memory_no_fault (Ok x) is hit = absurd cc
memory_no_fault (Err fault) is hit = absurd cc

of_index_in : (fault : PickFault) → is_index_fault (check_fault fault) ≡ picks.is_of_index fault
of_index_in (pick.BadIndex unit) = refl
of_index_in pick.DiskFault = refl
of_index_in pick.NoMemory = refl

unbroken_in : (fault : PickFault) (idx : Units) → picks.is_of_index fault ≡ false → IsBroken idx (check_fault fault)
unbroken_in (pick.BadIndex unit) idx is = absurd cc
unbroken_in pick.DiskFault idx is = tt
unbroken_in pick.NoMemory idx is = tt

disk_in : (fault : PickFault) → check_fault fault ≡ DiskFault → fault ≡ pick.DiskFault
disk_in (pick.BadIndex unit) is = absurd cc
disk_in pick.DiskFault is = refl
disk_in pick.NoMemory is = absurd cc

-- answers of this type
abbrev failed : (X : Type 0) → CheckFault → Result X CheckFault
failed X fault = Err fault

abbrev unpicked : (X : Type 0) → PickFault → Result X PickFault
unpicked X fault = Err fault

err_in : (X : Type 0) (a b : CheckFault) → failed X a ≡ failed X b → a ≡ b
err_in X a b is = cc

-- ---- calls

module _ {D : Type 0} (d : disk.Ghosts D) where
  -- so far it can be asked further, and nothing but reading happened
  pub record Asking (old new : D) (db : Database) : Type 0 where
    pub keeps : IsStoreKept d new db
    pub keeps_index : IsIndexKept d new db
    pub looks : OnlyReadsBoth d old new
    pub faults : d.faults old ≤ d.faults new

  pub asking_none : ((a : D) → d.follows a a) → (a : D) (db : Database) → IsAskable d a db → Asking a a db
  asking_none same a db asked = record {
    keeps = asked.keeps;
    keeps_index = asked.keeps_index;
    looks = glances_none d same a;
    faults = omega arith;
  }

  pub asking_then : {X : Type 0} {r : Result X CheckFault} → ((a b c : D) → d.follows a b → d.follows b c → d.follows a c) → (a b c : D) (db : Database)
      → Asking a b db → CheckQuestion d b c db r → Asking a c db
  asking_then trans a b c db first second = record {
    keeps = second.kept;
    keeps_index = second.kept_index;
    looks = glances_then d trans a b c first.looks second.looks;
    faults = omega (arith, first.faults, second.cause.later);
  }

  pub asking_of : {X : Type 0} {r : Result X CheckFault} {a b : D} {db : Database} → CheckQuestion d a b db r → Asking a b db
  asking_of asks = record { keeps = asks.kept; keeps_index = asks.kept_index; looks = asks.looks; faults = asks.cause.later }

  -- a picker was made
  pub asking_picker : {X : Type 0} {r : Result X PickFault} {keys : List (Kind × List ℕ)} {a b : D} {db : Database} → IsAskable d a db
      → AsksIndex d keys a b db r → Asking a b db
  asking_picker {a = a} {b = b} {db = db} asked made = record {
    keeps = λ told. subst (λ (f : Files). Keeps f.pkg db) (sym (made.looks.untouched told).same) (asked.keeps told);
    keeps_index = made.kept_index;
    looks = glances_index d a b made.looks;
    faults = made.cause.later;
  }

  -- and then it read packages
  pub asking_next : {X : Type 0} {r : Result X PickFault} {most : ℕ} → ((a b c : D) → d.follows a b → d.follows b c → d.follows a c) → {a b c : D}
      {db : Database} → Asking a b db → AsksPackages d most b c db r → Asking a c db
  asking_next trans {a} {b} {c} {db} first second = record {
    keeps = second.kept;
    keeps_index = λ told. subst (λ (f : Files). KeepsIndex f.idx db) (sym (second.looks.untouched told).same) (first.keeps_index told);
    looks = glances_then d trans a b c first.looks (glances_packages d _ b c second.looks);
    faults = omega (arith, first.faults, second.cause.later);
  }

  -- so far, and it ended: it was answered, or memory was refused
  pub asks_ended : {X : Type 0} (r : Result X CheckFault) {a b : D} {db : Database} → Asking a b db → OnErr r (r ≡ Err NoMemory) → CheckQuestion d a b db r
  asks_ended r {a} asked is = record {
    kept = asked.keeps;
    kept_index = asked.keeps_index;
    broken = λ told. memory_unbroken r (d.files a).idx is;
    lawful = λ told rows. memory_lawful r is;
    looks = asked.looks;
    cause = record { later = asked.faults; rose = λ hit. absurd (memory_no_fault r is hit) };
  }

  pub asks_memory : {X : Type 0} {r : Result X CheckFault} {a b : D} {db : Database} → Asking a b db → IsErrAnd r (λ fault. fault ≡ NoMemory)
      → CheckQuestion d a b db r
  asks_memory {X} {r} asked is = (let p = err_from_is_err_and r is in rw (p.1, p.2) (asks_ended (failed X NoMemory) asked refl))

  -- and then a call answered this
  pub asks_then : {X : Type 0} {r : Result X CheckFault} → ((a b c : D) → d.follows a b → d.follows b c → d.follows a c) → {a b c : D} {db : Database}
      → Asking a b db → CheckQuestion d b c db r → CheckQuestion d a c db r
  asks_then {r = r} trans {a} {b} {c} {db} first second = record {
    kept = second.kept;
    kept_index = second.kept_index;
    broken = λ told. subst (λ (f : Files). IfErr r (IsBroken f.idx)) (first.looks.untouched told).same (second.broken told);
    lawful = λ told rows.
        second.lawful told (subst (λ (f : Files). HasIndexRows db f.pkg f.idx) (sym (first.looks.untouched told).same) rows);
    looks = glances_then d trans a b c first.looks second.looks;
    cause = record {
      later = omega (arith, first.faults, second.cause.later);
      rose = λ hit. (let rose = second.cause.rose hit in omega (arith, first.faults, rose));
    };
  }

  -- its fault, handed on in an answer of another type
  pub asks_failed : {X Y : Type 0} {fault : CheckFault} {r : Result Y CheckFault} {a b : D} {db : Database} → CheckQuestion d a b db (failed X fault)
      → IsErrAnd r (λ e. e ≡ fault) → CheckQuestion d a b db r
  asks_failed {X} {Y} {fault} {r} asks is =
      let p = err_from_is_err_and r is in
      rw (p.1, p.2) (record {
        kept = asks.kept;
        kept_index = asks.kept_index;
        broken = asks.broken;
        lawful = asks.lawful;
        looks = asks.looks;
        cause = record { later = asks.cause.later; rose = λ hit. asks.cause.rose (ap (failed X) (err_in Y _ _ hit)) };
      })

  -- what is known of the packages, while they are asked
  pub known_here : (K : FinMap nat_cmp Package → Type 0) {a b : D} {db : Database} → Asking a b db
      → (IsTrue d.tells → HasKeptRows d a db → K (packages_in d a db)) → IsTrue d.tells → HasKeptRows d b db → K (packages_in d b db)
  known_here K {db = db} asked is told =
      subst (λ (f : Files). HasIndexRows db f.pkg f.idx → K (packages f.pkg (store_of db))) (sym (asked.looks.untouched told).same) (is told)

  pub known_back : (K : FinMap nat_cmp Package → Type 0) {a b : D} {db : Database} → Asking a b db
      → (IsTrue d.tells → HasKeptRows d b db → K (packages_in d b db)) → IsTrue d.tells → HasKeptRows d a db → K (packages_in d a db)
  known_back K {db = db} asked is told =
      subst (λ (f : Files). HasIndexRows db f.pkg f.idx → K (packages f.pkg (store_of db))) (asked.looks.untouched told).same (is told)

  -- what follows of their files alone
  pub told_back : (K : FinMap nat_cmp Package → Type 0) {a b : D} {db : Database} → Asking a b db → (IsTrue d.tells → K (packages_in d b db)) → IsTrue d.tells
      → K (packages_in d a db)
  told_back K {db = db} asked is told = subst (λ (f : Files). K (packages f.pkg (store_of db))) (asked.looks.untouched told).same (is told)

  -- a picker that failed as it was made
  pub asks_picker : (X Y : Type 0) (keys : List (Kind × List ℕ)) (fault : PickFault) (a b : D) (db : Database) → IsAskable d a db
      → AsksIndex d keys a b db (unpicked Y fault) → CheckQuestion d a b db (failed X (check_fault fault))
  asks_picker X Y keys fault a b db asked made = record {
    kept = λ told. subst (λ (f : Files). Keeps f.pkg db) (sym (made.looks.untouched told).same) (asked.keeps told);
    kept_index = made.kept_index;
    broken = λ told. broken_from keys (d.files a).idx fault (made.broken told);
    lawful = λ told rows. of_index_in fault ∙ made.lawful told rows;
    looks = glances_index d a b made.looks;
    cause = record { later = made.cause.later; rose = λ is. made.cause.rose (ap (unpicked Y) (disk_in fault (err_in X _ _ is))) };
  }

  -- or as it read a package
  pub asks_next : {X Y : Type 0} {fault : PickFault} {r : Result Y CheckFault} {most : ℕ} → ((a b c : D) → d.follows a b → d.follows b c → d.follows a c)
      → {a b c : D} {db : Database} → Asking a b db → AsksPackages d most b c db (unpicked X fault) → IsErrAnd r (λ e. e ≡ check_fault fault)
      → CheckQuestion d a c db r
  asks_next {X} {fault = fault} trans {a} {db = db} first second is =
      let asked = asking_next trans first second in
      asks_failed (record {
        kept = asked.keeps;
        kept_index = asked.keeps_index;
        broken = λ told. unbroken_in fault (d.files a).idx second.unbroken;
        lawful = λ told rows. of_index_in fault ∙ second.unbroken;
        looks = asked.looks;
        cause = record {
          later = asked.faults;
          rose = λ hit. (let rose = second.cause.rose (ap (unpicked X) (disk_in fault (err_in X _ _ hit))) in omega (arith, first.faults, rose));
        };
      }) is

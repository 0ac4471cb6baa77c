-- A table that is read piece by piece, and what its reading says of it.
use Rattle.std.proofs.Common.{◌≡◌, ℕ, suc, ◌+◌, ◌-◌, ◌*◌, ◌^◌, ◌<◌, ◌≤◌, List, [], ◌∷◌, ◌++◌, length, take, drop, true, Option, Some, None, is_some, Result, Ok, Err, OnOk, IfOk, IfErr, refl, sym, ap, ◌∙◌, subst, arith, inl, inr, length-append, length-drop, take-append-drop, drop-cons}
use Rattle.rpm_pkgdb.proofs.Vocabulary.{AreBounded, AreNumbered, AreOwn, AreRead, AreSound, blank, Damage, damage_at, Damaged, DiskFault, EndOfUnits, fault_of}
use Rattle.rpm_pkgdb.proofs.Vocabulary.{is_used, IsAll, IsPlaced, AreSlotsRead, first_shared_fault, NoMemory, OpenFault, option_map, option_or, own_reason, Reading, Reason}
use Rattle.rpm_pkgdb.proofs.Vocabulary.{run, run-append, DamageIs, SaysHere, shared_reason, Slot, slot_at, slot_fault, slot_of, slots_in, slot_units, table_fault}
use Rattle.rpm_pkgdb.proofs.Vocabulary.{table_is_run, unit_at, Units}
use Rattle.std.proofs.Math.Seq.{take-add}
use Rattle.std.proofs.lemmas.Bool.{cases_lt}
use Rattle.std.proofs.lemmas.List.{length-take, get_or_append_left, get_or-append_right, get_or-take, get_or-drop, take-take, take_all, drop-take, drop-drop}
use Rattle.rpm_pkgdb.specs.inner.Reading.{SlotsRead}
use Rattle.rpm_pkgdb.proofs.MeetingLaws.{run_meeting}
use Rattle.rpm_pkgdb.proofs.Pairwise.{slot_in, used_below}
use Rattle.rpm_pkgdb.proofs.Sound.{placed}
use Rattle.rpm_pkgdb.proofs.Steps.{length-slots_in, slots_in-append, slots_in-none, or_else_none}
use Rattle.rpm_pkgdb.proofs.TableLaws.{none_limit}

-- ---- piece by piece

pub nothing_read : (Told : Type 0) (pages units : ℕ) (whole : Units) (slots : List Slot) → slots ≡ [] → AreRead Told pages units whole slots
nothing_read Told pages units whole slots none = record {
  us = [];
  slots_are = none ∙ sym slots_in-none;
  own = λ k below. absurd (omega (arith, below));
  numbered = λ k below used. absurd (omega (arith, below, ap length none));
  told = λ t. refl;
}

pub read_of : (Told : Type 0) (pages units : ℕ) (whole other : Units) (slots : List Slot) → (Told → whole ≡ other) → AreRead Told pages units whole slots
    → AreRead Told pages units other slots
read_of Told pages units whole other slots same was = record {
  us = was.us;
  slots_are = was.slots_are;
  own = was.own;
  numbered = was.numbered;
  told = λ t. was.told t ∙ ap (λ (xs : Units). take (length was.us) xs) (same t);
}

pub ends_early : (pages units : ℕ) (us : Units) (count : ℕ) (o : Option Reason) → count < length us → o ≡ own_reason pages units (unit_at us count)
    → is_some o ≡ true → EndOfUnits pages units us count o
ends_early pages units us count None below is some = absurd cc
ends_early pages units us count (Some reason) below is some = (below, sym is)

pub piece_of_table : (pages at n : ℕ) (file : Units) → at + n ≤ 256 * pages - 2 → take n (drop (2 + at) file) ≡ take n (drop at (slot_units pages file))
unfolding slot_units
piece_of_table pages at n file le =
    let rest = 256 * pages - 2 - at in
    let all : at + rest ≡ 256 * pages - 2 = omega (arith, le) in
    sym (ap (λ (k : ℕ). take n (drop at (take k (drop 2 file)))) (sym all)
    ∙ ap (λ (us : Units). take n us) (drop-take at rest (drop 2 file))
    ∙ take-take n rest (drop at (drop 2 file)) (omega (arith, le))
    ∙ ap (λ (us : Units). take n us) (drop-drop at 2 file))

module _ (Told : Type 0) (pages units : ℕ) (whole : Units) (old : List Slot) (was : AreRead Told pages units whole old) (n : ℕ) (us : Units)
    (long : length us ≡ n) (come : Told → us ≡ take n (drop (length old) whole)) (new : Reading) (adds : SlotsRead pages units us old new)
    (numbered : AreNumbered new.rising.slots.items) where
  count_old : length old ≡ length was.us
  count_old = ap length was.slots_are ∙ length-slots_in was.us

  by_end : (o : Option Reason) → EndOfUnits pages units us adds.count o → adds.count ≤ length us
  by_end None e = omega (arith, e)
  by_end (Some reason) e = omega (arith, e.0)

  within : adds.count ≤ length us
  within = by_end new.reason adds.ends

  more : Units
  more = take adds.count us

  count_more : length more ≡ adds.count
  unfolding more
  count_more = omega (arith, length-take adds.count us, within)

  all_own : AreOwn pages units (was.us ++ more) (length (was.us ++ more))
  unfolding more
  all_own k below = elim (cases_lt k (length was.us)) [
    | inl first ↦ ap (own_reason pages units) (get_or_append_left was.us more blank k first) ∙ was.own k first
    | inr later ↦
        (let i = k - length was.us in
        let under : i < adds.count = omega (arith, below, later, length-append was.us more, count_more) in
        ap (own_reason pages units) (get_or-append_right was.us more (length was.us) k blank refl later ∙ get_or-take adds.count us i blank under)
        ∙ adds.own i under)
  ]

  all_told : Told → was.us ++ more ≡ take (length (was.us ++ more)) whole
  unfolding more
  all_told t =
      let next : more ≡ take adds.count (drop (length was.us) whole) =
      ap (λ (xs : Units). take adds.count xs) (come t) ∙ take-take adds.count n (drop (length old) whole) (omega (arith, within, long))
      ∙ ap (λ (k : ℕ). take adds.count (drop k whole)) count_old in
      ap (λ (xs : Units). xs ++ more) (was.told t)
      ∙ ap (λ (xs : Units). take (length was.us) whole ++ xs) next
      ∙ sym (take-add (length was.us) adds.count whole)
      ∙ ap (λ (k : ℕ). take k whole) (omega (arith, length-append was.us more, count_more))

  count_new : length new.rising.slots.items ≡ length old + adds.count
  unfolding more
  count_new = omega (arith, ap length adds.slots_are, length-append old (slots_in more), length-slots_in more, count_more)

  by_reason : (o : Option Reason) → EndOfUnits pages units us adds.count o → IsAll Told pages units whole (length old + n) (length new.rising.slots.items) o
  by_reason None e = omega (arith, count_new, e, long)
  by_reason (Some reason) e = (
    omega (arith, count_new, e.0, long),
    (λ t.
        let fits : length (take n (drop (length old) whole)) ≡ n = ap length (sym (come t)) ∙ long in
        let is : unit_at us adds.count ≡ unit_at whole (length old + adds.count) =
        ap (λ (xs : Units). unit_at xs adds.count) (come t) ∙ get_or-take n (drop (length old) whole) adds.count blank (omega (arith, e.0, long))
        ∙ get_or-drop (length old) whole adds.count blank in (
          omega (arith, count_new, fits, e.0, long, length-take n (drop (length old) whole), length-drop (length old) whole),
          ap (λ (k : ℕ). own_reason pages units (unit_at whole k)) count_new ∙ ap (own_reason pages units) (sym is) ∙ e.1,
        )),
  )

  pub reading_more : AreSlotsRead Told pages units whole (length old + n) new
  unfolding more
  reading_more = record {
    slots = record {
      us = was.us ++ more;
      slots_are =
          adds.slots_are ∙ ap (λ (ss : List Slot). ss ++ slots_in more) was.slots_are ∙ sym (slots_in-append was.us more);
      own = all_own;
      numbered = numbered;
      told = all_told;
    };
    all = by_reason new.reason adds.ends;
  }

-- ---- what was read

module _ (Told : Type 0) (pages units : ℕ) (whole : Units) (slots : List Slot) (read : AreRead Told pages units whole slots) where
  pub read_bounded : AreBounded slots
  read_bounded k used =
      let below : k < length read.us = omega (arith, used_below slots k used, ap length read.slots_are, length-slots_in read.us) in
      let is : slot_at slots k ≡ slot_of (unit_at read.us k) = ap (λ (ss : List Slot). slot_at ss k) read.slots_are ∙ slot_in read.us k below in
      let p = placed pages units (unit_at read.us k) (read.own k below) (ap is_used (sym is) ∙ used) in
      let q = subst (IsPlaced pages units) (sym is) p in
      (q.some, q.below)

  first_run : run pages units [] read.us ≡ first_shared_fault [] slots
  first_run = run_meeting pages units [] read.us read.own ∙ ap (first_shared_fault []) (sym read.slots_are)

  pub read_placed : first_shared_fault [] slots ≡ None → AreSound pages (2 ^ 28) slots
  read_placed none = none_limit pages units read.us slots read.slots_are (table_is_run pages units read.us ∙ first_run ∙ none)

  count : length slots ≡ length read.us
  count = ap length read.slots_are ∙ length-slots_in read.us

  module _ (t : Told) where
    pub read_whole : length slots ≡ length whole → read.us ≡ whole
    read_whole all = read.told t ∙ take_all (length read.us) whole (omega (arith, all, count))

    fault_whole : (o : Option Reason) → IsAll Told pages units whole (length whole) (length slots) o
        → table_fault pages units whole ≡ option_or (first_shared_fault [] slots) (option_map (damage_at (2 + length slots)) o)
    fault_whole None all =
        table_is_run pages units whole ∙ ap (run pages units []) (sym (read_whole all)) ∙ first_run ∙ sym (or_else_none (first_shared_fault [] slots))
    fault_whole (Some reason) at =
        let n = length slots in
        let u = unit_at whole n in
        let front : take n whole ≡ read.us = sym (read.told t ∙ ap (λ (k : ℕ). take k whole) (sym count)) in
        let here : slot_fault pages units slots u ≡ Some (damage_at (2 + n) reason) =
        ap (λ (o : Option Reason). option_map (damage_at (2 + n)) (option_or o (shared_reason slots (slot_of u)))) (at.1 t).1 in
        table_is_run pages units whole
        ∙ ap (run pages units []) (sym (take-append-drop n whole))
        ∙ run-append pages units [] (take n whole) (drop n whole)
        ∙ ap (λ (xs : Units). option_or (run pages units [] xs) (run pages units (slots_in xs) (drop n whole))) front
        ∙ ap (λ (o : Option Damage). option_or o (run pages units (slots_in read.us) (drop n whole))) first_run
        ∙ ap (λ (ss : List Slot). option_or (first_shared_fault [] slots) (run pages units ss (drop n whole))) (sym read.slots_are)
        ∙ ap (λ (xs : Units). option_or (first_shared_fault [] slots) (run pages units slots xs)) (drop-cons whole n blank (at.1 t).0)
        ∙ ap (λ (o : Option Damage). option_or (first_shared_fault [] slots) (option_or o (run pages units (slots ++ slot_of u ∷ []) (drop (suc n) whole))))
        here

pub read_fault : (Told : Type 0) (pages units : ℕ) (whole : Units) (r : Reading) → AreSlotsRead Told pages units whole (length whole) r → Told
    → table_fault pages units whole ≡ fault_of r
read_fault Told pages units whole r is t = fault_whole Told pages units whole r.rising.slots.items is.slots t r.reason is.all

pub says_whole : (Told : Type 0) (fault whole : Option Damage) (e : OpenFault) → (Told → whole ≡ fault) → SaysHere e fault → Told → DamageIs e whole
says_whole Told fault whole (Damaged d) same says = λ t. same t ∙ says
says_whole Told fault whole DiskFault same says = λ t. tt
says_whole Told fault whole NoMemory same says = λ t. tt

-- ---- the answer

pub table_count : (pages : ℕ) (file : Units) → 256 * pages ≤ length file → length (slot_units pages file) ≡ 256 * pages - 2
unfolding slot_units
table_count pages file within = omega (arith, within, length-take (256 * pages - 2) (drop 2 file), length-drop 2 file)

pub read_count : (Told : Type 0) (pages units : ℕ) (whole : Units) (asked : ℕ) (r : Reading) → AreSlotsRead Told pages units whole asked r → r.reason ≡ None
    → length r.rising.slots.items ≡ asked
read_count Told pages units whole asked r is none = subst (IsAll Told pages units whole asked (length r.rising.slots.items)) none is.all

pub read_few : (Told : Type 0) (pages units : ℕ) (whole : Units) (asked : ℕ) (r : Reading) → AreSlotsRead Told pages units whole asked r
    → length r.rising.slots.items ≤ asked
read_few Told pages units whole asked r is = by_reason r.reason is.all
  where
    by_reason : (o : Option Reason) → IsAll Told pages units whole asked (length r.rising.slots.items) o → length r.rising.slots.items ≤ asked
    by_reason None all = omega (arith, all)
    by_reason (Some reason) all = omega (arith, all.0)

pub no_meeting : (r : Reading) → fault_of r ≡ None → first_shared_fault [] r.rising.slots.items ≡ None
no_meeting r none = first_none (first_shared_fault [] r.rising.slots.items) (option_map (damage_at (2 + length r.rising.slots.items)) r.reason) none
  where
    first_none : (a b : Option Damage) → option_or a b ≡ None → a ≡ None
    first_none None b e = refl
    first_none (Some x) b e = absurd cc

pub ok_with : {T E : Type 0} (A B : T → Type 0) (P : Type 0) (r : Result T E) → ((t : T) → A t → P → B t) → IfOk r A → OnOk r P → IfOk r B
ok_with A B P (Ok t) f is also = f t is also
ok_with A B P (Err e) f is also = tt

pub on_ok : {T E : Type 0} (P Q : Type 0) (r : Result T E) → (P → Q) → OnOk r P → OnOk r Q
on_ok P Q (Ok t) f is = f is
on_ok P Q (Err e) f is = tt

pub err_gives : {T E : Type 0} (A B : E → Type 0) (r : Result T E) → ((e : E) → A e → B e) → IfErr r A → IfErr r B
err_gives A B (Ok t) f is = tt
err_gives A B (Err e) f is = f e is

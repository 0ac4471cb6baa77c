-- A file says a store that is made exactly where its units say it pairwise.
use Rattle.std.proofs.Common.{◌≡◌, inl, inr, ℕ, ◌+◌, ◌-◌, ◌*◌, ◌<◌, ◌≤◌, List, length, get_or, drop, true, false, not, Option, Some, None, Result, Ok, refl, sym, ap, ◌∙◌, subst, arith, codes, length-drop}
use Rattle.rpm_pkgdb.proofs.Vocabulary.{AreSound, begins_with_word, blank, blank_store, Damage, free, head_reason, in_file, is_blank, is_nonzero, IsHeadUnit, IsLawfulCount}
use Rattle.rpm_pkgdb.proofs.Vocabulary.{IsMade, KeepsStore, list_any, made_or_damaged, made_store, Reason, slot_at, slot_of, slots_in, Store, store, store_of_pages}
use Rattle.rpm_pkgdb.proofs.Vocabulary.{slot_units, table_fault, unit_at, Units, value_or_fault}
use Rattle.std.proofs.lemmas.List.{get_or-take, get_or-drop, get_or_past, get_or_default, length-take, same_lists}
use Rattle.std.proofs.lemmas.Bool.{cases_lt}
use Rattle.std.proofs.lemmas.Bool.Decides.{nat_tests}
use Rattle.rpm_outside.specs.Words.{word}
use Rattle.rpm_pkgdb.proofs.Facts.{cases_Bool, none_at}
use Rattle.rpm_pkgdb.proofs.Pairwise.{magics, sound_from, none_from, slot_in, count_in}

-- ---- a unit of zeros

zero_byte : (u : List ℕ) (i : ℕ) → list_any is_nonzero u ≡ false → get_or u i 0 ≡ 0
zero_byte u i none = elim (cases_lt i (length u)) [
  | inr past ↦ get_or_past u i 0 past
  | inl below ↦ (let e = none_at is_nonzero u i 0 none below in grind (arith, nat_tests))
]

zero_word : (u : List ℕ) → list_any is_nonzero u ≡ false → word 0 u ≡ 0
unfolding word
zero_word u none =
    let b = λ (i : ℕ). zero_byte u i none in
    rw (b 0, b 1, b 2, b 3) refl

pub not_blank : (u : List ℕ) → begins_with_word (codes "RpmP") u ≡ true → list_any is_nonzero u ≡ true
not_blank u magic = elim (cases_Bool (list_any is_nonzero u)) [
  | inl some ↦ some
  | inr none ↦ absurd (let z = zero_word u none in grind (arith, nat_tests))
]

-- ---- unit 0

pub lawful : (units : ℕ) (head : List ℕ) → head_reason units head ≡ None → IsLawfulCount units (word 3 head)
unfolding head_reason
lawful units head none = record { some = grind (arith, nat_tests); inside = grind (arith, nat_tests); below = grind (arith, nat_tests) }

head_unit : (units : ℕ) (head : List ℕ) → head_reason units head ≡ None → IsHeadUnit head (word 2 head) (word 3 head)
unfolding head_reason
head_unit units head none = record { magic = grind (arith, nat_tests); version = grind (arith, nat_tests); generation_is = refl; pages_are = refl }

head_right : (units generation pages : ℕ) (head : List ℕ) → IsLawfulCount units pages → IsHeadUnit head generation pages → head_reason units head ≡ None
unfolding head_reason
head_right units generation pages head lawful is = grind (arith, nat_tests)

-- ---- the table

pub length-table : (pages : ℕ) (file : Units) → 256 * pages ≤ length file → length (slot_units pages file) ≡ 256 * pages - 2
unfolding slot_units
length-table pages file inside = omega (arith, length-take (256 * pages - 2) (drop 2 file), length-drop 2 file)

pub unit_in_table : (pages : ℕ) (file : Units) (k : ℕ) → k < 256 * pages - 2 → unit_at (slot_units pages file) k ≡ unit_at file (2 + k)
unfolding slot_units
unit_in_table pages file k below =
    get_or-take (256 * pages - 2) (drop 2 file) k blank below ∙ get_or-drop 2 file k blank ∙ ap (λ (i : ℕ). unit_at file i) (omega arith)

module _ (pages : ℕ) (file : Units) (inside : 256 * pages ≤ length file) where
  slot_in_table : (k : ℕ) → k < 256 * pages - 2 → slot_at (slots_in (slot_units pages file)) k ≡ slot_of (unit_at file (2 + k))
  slot_in_table k below =
      let long = length-table pages file inside in
      slot_in (slot_units pages file) k (omega arith) ∙ ap slot_of (unit_in_table pages file k below)

  count_in_table : length (slots_in (slot_units pages file)) ≡ 256 * pages - 2
  count_in_table = count_in (slot_units pages file) ∙ length-table pages file inside

-- ---- the store

ok_same : {X E : Type 0} (x y : X) (r : Result X E) → r ≡ Ok x → r ≡ Ok y → x ≡ y
ok_same x y r e f = cc

made_at : (file : Units) (pages : ℕ) → word 3 (unit_at file 0) ≡ pages → IsLawfulCount (length file) pages
    → IsHeadUnit (unit_at file 0) (word 2 (unit_at file 0)) pages → table_fault pages (length file) (slot_units pages file) ≡ None
    → IsMade file (made_store pages file)
made_at file pages is law head none =
    let long = length-table pages file law.inside in
    record {
      lawful = law;
      head = head;
      field = refl;
      count = count_in_table pages file law.inside;
      each = λ k below.
          let lt : k < 256 * pages - 2 = omega (arith, count_in_table pages file law.inside) in
          record {
            magic =
                subst (λ (u : List ℕ). begins_with_word (codes "Slot") u ≡ true) (unit_in_table pages file k lt)
                (magics pages (length file) (slot_units pages file) none k (omega arith));
            says = sym (slot_in_table pages file law.inside k lt);
          };
      sound = sound_from pages (length file) (slot_units pages file) none;
    }

by_fault : (file : Units) (st : Store) (pages : ℕ) (fault : Option Damage) → table_fault pages (length file) (slot_units pages file) ≡ fault
    → value_or_fault fault (made_store pages file) ≡ Ok st → (table_fault pages (length file) (slot_units pages file) ≡ None) × (made_store pages file ≡ st)
by_fault file st pages None e is = (e, cc)
by_fault file st pages (Some d) e is = absurd cc

by_reason : (file : Units) (st : Store) (reason : Option Reason) → head_reason (length file) (unit_at file 0) ≡ reason → made_or_damaged reason file ≡ Ok st
    → IsMade file st
by_reason file st (Some r) e is = absurd cc
by_reason file st None e is =
    let pages = word 3 (unit_at file 0) in
    let b = by_fault file st pages (table_fault pages (length file) (slot_units pages file)) refl is in
    subst (IsMade file) b.1 (made_at file pages refl (lawful (length file) (unit_at file 0) e) (head_unit (length file) (unit_at file 0) e) b.0)

made_said : (file : Units) (st : Store) → store file ≡ Ok st → 1 ≤ st.pages → IsMade file st
unfolding store
made_said file st is some = elim (cases_Bool (is_blank file)) [
  | inl blank ↦
      absurd (let same : blank_store ≡ st = ok_same blank_store st (Ok blank_store) refl (rw blank at is) in
      let none : 0 ≡ st.pages = ap (λ (s : Store). s.pages) same in omega arith)
  | inr other ↦ by_reason file st (head_reason (length file) (unit_at file 0)) refl (rw other at is)
]

pub made : (file : Units) (st : Store) → KeepsStore file st → 1 ≤ st.pages → IsMade file st
made file st is some =
    let m = made_said file (in_file st) is some in
    record { lawful = m.lawful; head = m.head; field = m.field; count = m.count; each = m.each; sound = m.sound }

module _ (file : Units) (st : Store) (m : IsMade file st) where
  same_slots : slots_in (slot_units st.pages file) ≡ st.slots
  same_slots =
      let n = count_in_table st.pages file m.lawful.inside in
      same_lists (slots_in (slot_units st.pages file)) st.slots (omega (arith, m.count)) (λ k d below.
      let lt : k < length st.slots = omega (arith, m.count) in
      get_or_default (slots_in (slot_units st.pages file)) k d free below ∙ slot_in_table st.pages file m.lawful.inside k (omega arith) ∙ (m.each k lt).says
      ∙ sym (get_or_default st.slots k d free lt))

  same_store : made_store st.pages file ≡ in_file st
  same_store =
      let slots = same_slots in
      rw (m.head.generation_is, m.field, slots) refl

  no_fault : table_fault st.pages (length file) (slot_units st.pages file) ≡ None
  no_fault =
      let long = length-table st.pages file m.lawful.inside in
      none_from st.pages (length file) (slot_units st.pages file) (λ k below.
      subst (λ (u : List ℕ). begins_with_word (codes "Slot") u ≡ true) (sym (unit_in_table st.pages file k (omega arith)))
      (m.each k (omega (arith, m.count))).magic)
      (subst (AreSound st.pages (length file)) (sym same_slots) m.sound)

  pub from_made : KeepsStore file st
  unfolding store
  from_made =
      let some : not (list_any is_nonzero (unit_at file 0)) ≡ false = ap not (not_blank (unit_at file 0) m.head.magic) in
      let right : head_reason (length file) (unit_at file 0) ≡ None = head_right (length file) st.generation st.pages (unit_at file 0) m.lawful m.head in
      rw (some, right) (subst (λ (pages : ℕ). store_of_pages pages file ≡ Ok (in_file st)) (sym m.head.pages_are)
      (rw (store_of_pages, no_fault) (ap Ok same_store)))

reason_pages : (file : Units) (st : Store) (reason : Option Reason) → head_reason (length file) (unit_at file 0) ≡ reason
    → made_or_damaged reason file ≡ Ok st → 1 ≤ st.pages
reason_pages file st reason is said = (by_reason file st reason is said).lawful.some

-- a file that isn't blank has pages
pub made_pages : (file : Units) (st : Store) → is_blank file ≡ false → store file ≡ Ok st → 1 ≤ st.pages
unfolding store
made_pages file st other said = reason_pages file st (head_reason (length file) (unit_at file 0)) refl (rw other at said)

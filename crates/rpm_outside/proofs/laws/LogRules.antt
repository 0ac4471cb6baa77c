-- The cases of a log, one by one.
use Rattle.std.specs.Prelude.{◌≡◌, ◌⊎◌, ℕ, ◌+◌, ◌<◌, ◌≤◌, List, [], ◌∷◌, ◌++◌, length, Bool, true, false, if◌then◌else◌}
use Rattle.std.specs.Prelude.{◌&&◌, nat_lt, nat_le, take, drop}
use Rattle.std.proofs.Common.{zero, inl, inr, refl, sym, ap, ◌∙◌, arith, suc, ◌==◌}
use Rattle.std.proofs.lemmas.Bool.{cases_Bool, and_parts, leb-true, ltb-true, eq-eqb, ne_eqb, and_left, lt-leb}
use Rattle.std.proofs.lemmas.Bool.{eqb-true}
use Rattle.std.proofs.lemmas.List.{get_or_past}
use Rattle.rpm_outside.specs.Files.{Units, unit_at, blank}
use Rattle.rpm_outside.specs.Logs.{Entry, LogState, Closed, Malformed, Open, is_blank_unit, is_commit_record}
use Rattle.rpm_outside.specs.Logs.{is_log_head, entry_at, before, heads, log_state}
use Rattle.rpm_outside.specs.Words.{word}
use Rattle.rpm_outside.proofs.laws.LogLaws.{blank_closed}

pub is_blank-blank : is_blank_unit blank ≡ true
unfolding blank
is_blank-blank = refl

module _ (units : Units) where
  abbrev commit_record : List ℕ
  commit_record = unit_at units 0

  abbrev behind : LogState
  behind = heads (word 2 commit_record) 1 (word 3 commit_record) units

  abbrev log_state_if : Bool → LogState
  log_state_if b = if b then behind else Malformed 0

  pub none_closed : length units ≡ 0 → log_state units ≡ Closed
  none_closed long =
      blank_closed units (ap is_blank_unit (get_or_past units 0 blank (omega (arith, long))) ∙ is_blank-blank)

  pub commit_record_wrong : is_blank_unit commit_record ≡ false → is_commit_record (length units) commit_record ≡ false
      → log_state units ≡ Malformed 0
  unfolding log_state
  commit_record_wrong full wrong = ap (λ (b : Bool). if b then Closed
      else log_state_if (is_commit_record (length units) commit_record)) full ∙ ap log_state_if wrong

  pub commit_record_right : is_blank_unit commit_record ≡ false → is_commit_record (length units) commit_record ≡ true
      → log_state units ≡ heads (word 2 commit_record) 1 (word 3 commit_record) units
  unfolding log_state
  commit_record_right full right = ap (λ (b : Bool). if b then Closed
      else log_state_if (is_commit_record (length units) commit_record)) full ∙ ap log_state_if right

pub commit_record_last : (n : ℕ) (commit_record : List ℕ) → is_commit_record n commit_record ≡ true
    → word 3 commit_record < n
unfolding is_commit_record
commit_record_last n commit_record right =
    let one = and_parts (word 0 commit_record == 0x4c6d_7052)
    ((word 1 commit_record == 1) && (nat_lt 0 (word 2 commit_record) && nat_lt (word 3 commit_record) n)) right in
    let two = and_parts (word 1 commit_record == 1)
    (nat_lt 0 (word 2 commit_record) && nat_lt (word 3 commit_record) n) one.1 in
    let three = and_parts (nat_lt 0 (word 2 commit_record)) (nat_lt (word 3 commit_record) n) two.1 in
    ltb-true (word 3 commit_record) n three.1

-- what a right head says
pub record HeadParts (last p : ℕ) (head : List ℕ) : Type 0 where
  pub place : p ≤ last
  pub file : (word 0 head ≡ 1) ⊎ (word 0 head ≡ 2)
  pub some : 0 < word 2 head
  pub room : word 1 head + word 2 head ≤ 268_435_456
  pub within : p + word 2 head ≤ last

pub head_parts : (last p : ℕ) (head : List ℕ) → is_log_head last p head ≡ true → HeadParts last p head
unfolding is_log_head
head_parts last p head right =
    let w : ℕ → ℕ = λ k. word k head in
    let e = nat_le (p + word 2 head) last in
    let d = nat_le (word 1 head + word 2 head) 268_435_456 && e in
    let c = nat_lt 0 (word 2 head) && d in
    let b = nat_le (word 0 head) 2 && c in
    let a = nat_le 1 (word 0 head) && b in
    let one = and_parts (nat_le p last) a right in
    let two = and_parts (nat_le 1 (word 0 head)) b one.1 in
    let three = and_parts (nat_le (word 0 head) 2) c two.1 in
    let four = and_parts (nat_lt 0 (word 2 head)) d three.1 in
    let five = and_parts (nat_le (word 1 head + word 2 head) 268_435_456) e four.1 in
    let low : 1 ≤ word 0 head = leb-true 1 (word 0 head) two.0 in
    let high : word 0 head ≤ 2 = leb-true (word 0 head) 2 three.0 in
    record {
      place = leb-true p last one.0;
      file = elim (cases_Bool (word 0 head == 1)) [
        | inl is ↦ inl (eqb-true (word 0 head) 1 is)
        | inr not ↦ inr (omega (arith, low, high, not_one (word 0 head) not))
      ];
      some = ltb-true 0 (word 2 head) four.0;
      room = leb-true (word 1 head + word 2 head) 268_435_456 five.0;
      within = leb-true (p + word 2 head) last five.1;
    }
  where
    not_one : (n : ℕ) → (n == 1) ≡ false → n ≡ 1 → ⊥
    not_one n not is = let e : true ≡ false = sym (eq-eqb n 1 is) ∙ not in cc

pub head_past : (last p : ℕ) (head : List ℕ) → last < p → is_log_head last p head ≡ false
unfolding is_log_head
head_past last p head past = and_left (nat_le p last) _ (lt-leb p last past)

pub entry_units : (p : ℕ) (units : Units) → (entry_at p units).units
    ≡ take (word 2 (unit_at units p)) (drop (p + 1) units)
unfolding entry_at
entry_units p units = refl

-- entries before those of a log
abbrev pub log_after : List Entry → LogState → LogState
log_after [] state = state
log_after (entry ∷ entries) state = before entry (log_after entries state)

pub after-wrong : (entries : List Entry) (unit : ℕ) → log_after entries (Malformed unit) ≡ Malformed unit
after-wrong [] unit = refl
after-wrong (entry ∷ entries) unit = ap (before entry) (after-wrong entries unit)

pub after-open : (entries rest : List Entry) → log_after entries (Open rest) ≡ Open (entries ++ rest)
after-open [] rest = refl
after-open (entry ∷ entries) rest = ap (before entry) (after-open entries rest)

pub after-push : (entries : List Entry) (entry : Entry) (state : LogState)
    → log_after (entries ++ entry ∷ []) state ≡ log_after entries (before entry state)
after-push [] entry state = refl
after-push (e ∷ entries) entry state = ap (before e) (after-push entries entry state)

-- the next head, and the end
module _ (p last : ℕ) (units : Units) where
  pub heads_right : (n : ℕ) → is_log_head last p (unit_at units p) ≡ true
      → heads (suc n) p last units ≡ before (entry_at p units)
      (heads n (p + 1 + word 2 (unit_at units p)) last units)
  unfolding heads
  heads_right n right =
      ap (λ (b : Bool). if b then before (entry_at p units) (heads n (p + 1 + word 2 (unit_at units p)) last units)
      else Malformed p) right

  pub heads_wrong : (n : ℕ) → is_log_head last p (unit_at units p) ≡ false → heads (suc n) p last units ≡ Malformed p
  unfolding heads
  heads_wrong n wrong =
      ap (λ (b : Bool). if b then before (entry_at p units) (heads n (p + 1 + word 2 (unit_at units p)) last units)
      else Malformed p) wrong

  pub heads_done : p ≡ last + 1 → heads 0 p last units ≡ Open []
  unfolding heads
  heads_done is = ap (λ (b : Bool). if b then Open [] else Malformed p) (eq-eqb p (last + 1) is)

  pub heads_more : (p ≡ last + 1 → ⊥) → heads 0 p last units ≡ Malformed p
  unfolding heads
  heads_more other = ap (λ (b : Bool). if b then Open [] else Malformed p) (ne_eqb p (last + 1) other)

-- only a blank first unit closes a log
before_closed : (entry : Entry) (rest : LogState) → before entry rest ≡ Closed → rest ≡ Closed
before_closed entry Closed is = refl
before_closed entry (Malformed unit) is = absurd (let e : Malformed unit ≡ Closed = is in cc)
before_closed entry (Open entries) is = absurd (let e : Open (entry ∷ entries) ≡ Closed = is in cc)

heads_not_closed : (n p last : ℕ) (units : Units) → heads n p last units ≡ Closed → ⊥
unfolding heads
heads_not_closed zero p last units is = either (p == last + 1) is
  where
    either : (b : Bool) → (if b then Open [] else Malformed p) ≡ Closed → ⊥
    either true e = cc
    either false e = cc
heads_not_closed (suc n) p last units is = elim (cases_Bool (is_log_head last p (unit_at units p))) [
  | inl right ↦
      heads_not_closed n (p + 1 + word 2 (unit_at units p)) last units
      (before_closed (entry_at p units) (heads n (p + 1 + word 2 (unit_at units p)) last units)
      (ap (λ (b : Bool). if b then before (entry_at p units) (heads n (p + 1 + word 2 (unit_at units p)) last units)
      else Malformed p) (sym right) ∙ is))
  | inr wrong ↦
      let e : Malformed p ≡ Closed = ap (λ (b : Bool). if b then before (entry_at p units)
      (heads n (p + 1 + word 2 (unit_at units p)) last units)
      else Malformed p) (sym wrong) ∙ is in
      cc
]

pub closed_blank : (units : Units) → log_state units ≡ Closed → is_blank_unit (unit_at units 0) ≡ true
unfolding log_state
closed_blank units is = elim (cases_Bool (is_blank_unit (unit_at units 0))) [
  | inl blank_unit ↦ blank_unit
  | inr full ↦
      let e : log_state_if units (is_commit_record (length units) (commit_record units))
      ≡ Closed = ap (λ (b : Bool). if b then Closed else log_state_if units
      (is_commit_record (length units) (commit_record units))) (sym full) ∙ is in
      absurd (elim (cases_Bool (is_commit_record (length units) (commit_record units))) [
        | inl right ↦ heads_not_closed (word 2 (commit_record units)) 1 (word 3 (commit_record units)) units
            (ap (log_state_if units) (sym right) ∙ e)
        | inr wrong ↦ let f : Malformed 0 ≡ Closed = ap (log_state_if units) (sym wrong) ∙ e in cc
      ])
]

-- The rules give one result for each text.
use Rattle.std.proofs.Common.{◌≡◌, ℕ, suc, ◌+◌, ◌-◌, ◌<◌, ◌≤◌, List, [], length, Result, Ok, Err, Bool, true, false, refl, sym, ◌∙◌, ap, arith, inl, inr, nat_lt, cond, ltb-true, ltb-false, subst}
use Rattle.rpm_qfparse.proofs.Vocabulary.{format, FormatFault, Gives, IsFormat, placed_result, Reading, reading, Reads, TooLong, Tree}
use Rattle.rpm_qfparse.specs.declared.moves.Context.TheVariants as context
use Rattle.rpm_qfparse.proofs.Top.{whole}
use Rattle.rpm_qfparse.proofs.Unique.{only, sound, left}

abbrev read_of : List ℕ → Reading Tree
read_of text = reading (suc (length text)) context.Top false 0 text

abbrev by_length : List ℕ → Bool → Result Tree FormatFault
by_length text v = cond v (Err (record { kind = TooLong; at = 65536 })) (placed_result text (read_of text))

-- ---- what the rules give

placed_by : (text : List ℕ) (v : Bool) (a : Reading Tree) → nat_lt 65536 (length text) ≡ v → length text ≤ 65536 → Gives context.Top false 0 text a
    → by_length text v ≡ placed_result text a
placed_by text true a e le g = let lt : 65536 < length text = ltb-true _ _ e in absurd (omega arith)
placed_by text false a e le g = ap (placed_result text) (only g (suc (length text)) (omega arith))

pub format_placed : (text : List ℕ) (a : Reading Tree) → length text ≤ 65536 → Gives context.Top false 0 text a → format text ≡ placed_result text a
unfolding format
format_placed text a le g = placed_by text _ a refl le g

long_by : (text : List ℕ) (v : Bool) → nat_lt 65536 (length text) ≡ v → 65536 < length text → by_length text v ≡ Err (record { kind = TooLong; at = 65536 })
long_by text true e lt = refl
long_by text false e lt = let le : length text ≤ 65536 = ltb-false _ _ e in absurd (omega arith)

pub format_long : (text : List ℕ) → 65536 < length text → format text ≡ Err (record { kind = TooLong; at = 65536 })
unfolding format
format_long text lt = long_by text _ refl lt

-- ---- each text has a result

placed_is : (text : List ℕ) (a : Reading Tree) → length text ≤ 65536 → Gives context.Top false 0 text a → IsFormat text (placed_result text a)
placed_is text (Ok x) le g = (le, subst (λ rest. Gives context.Top false 0 text (Ok (x.0, rest))) (whole g) g)
placed_is text (Err e) le g = let near : length e.1 ≤ length text = left g in inr (le, e.1, g, omega arith)

is_by : (text : List ℕ) (v : Bool) → nat_lt 65536 (length text) ≡ v → IsFormat text (by_length text v)
is_by text true e = inl (ltb-true _ _ e, refl)
is_by text false e = placed_is text (read_of text) (ltb-false _ _ e) (sound (suc (length text)) context.Top false 0 text (omega arith))

pub format_is : (text : List ℕ) → IsFormat text (format text)
unfolding format
format_is text = is_by text _ refl

-- ---- and no other

same_place : (text rest : List ℕ) (fault : FormatFault) → fault.at + length rest ≡ length text → placed_result text (Err (fault.kind, rest)) ≡ Err fault
same_place text rest fault e = let same : length text - length rest ≡ fault.at = omega arith in ap (λ n. Err (record { kind = fault.kind; at = n })) same

pub format_only : (text : List ℕ) (r : Result Tree FormatFault) → IsFormat text r → r ≡ format text
format_only text (Ok tree) h = sym (format_placed text (Ok (tree, [])) h.0 h.1)
format_only text (Err fault) (inl h) = ap Err h.1 ∙ sym (format_long text h.0)
format_only text (Err fault) (inr h) = sym (format_placed text (Err (fault.kind, h.1)) h.0 h.2 ∙ same_place text h.1 fault h.3)

-- ---- and a tree has all of the text in it

pub format_whole : (s rest : List ℕ) (tree : Tree) → Reads context.Top false 0 s tree rest → rest ≡ []
format_whole s rest tree g = whole g

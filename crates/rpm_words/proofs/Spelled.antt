-- Where a value in its option's word begins.
use Rattle.std.proofs.Common.{◌≡◌, ℕ, ◌<◌, List, Option, Some, None, Bool, true, false, not, ◌||◌, cond, length, take, codes, refl, sym, subst}
use borrow.Author.Tests.{ltb-true}
use Rattle.rpm_words.proofs.Vocabulary.{Awaits, before_first, bytes_eq, Cluster, Ends, has_equals, Inline, inline, is_cluster, is_equals, IsSpelled, lone}
use Rattle.rpm_words.proofs.Vocabulary.{long_purpose, long_switch, Name, option_map_or, own_purpose, Plain, position_or_len, Program, Purpose, purpose_behind}
use Rattle.rpm_words.proofs.Vocabulary.{Rest, spelled_purpose, Switch, takes_value, Unknown, Value, Whole}

by_test : (text : List ℕ) (b : Bool) (p q : Purpose) → IsSpelled text p → IsSpelled text q → IsSpelled text (cond b p q)
by_test text true p q h k = h
by_test text false p q h k = k

inline_spelled : (text : List ℕ) (switch : Switch) → position_or_len is_equals text < length text →
    IsSpelled text (inline (position_or_len is_equals text) switch)
inline_spelled text switch h = by_test text (takes_value switch) _ _ (record { within = h; behind = refl }) tt

by_sign : (text : List ℕ) (switch : Switch) (b : Bool) → has_equals text ≡ b →
    IsSpelled text (cond b (inline (position_or_len is_equals text) switch) (lone switch))
by_sign text switch true h = inline_spelled text switch (ltb-true _ _ h)
by_sign text switch false h = by_test text (takes_value switch) _ _ tt tt

option_spelled : (text : List ℕ) (o : Option Switch) → IsSpelled text (option_map_or (spelled_purpose text) o Unknown)
option_spelled text None = tt
option_spelled text (Some switch) = by_sign text switch (has_equals text) refl

long_spelled : (program : Program) (text : List ℕ) → IsSpelled text (long_purpose program text)
unfolding long_purpose
long_spelled program text = option_spelled text (long_switch program (before_first is_equals text))

own_spelled : (program : Program) (text : List ℕ) → IsSpelled text (own_purpose program text)
unfolding own_purpose
own_spelled program text =
    let one_dash = cond (is_cluster program text) Cluster Unknown in
    let plain = bytes_eq text (codes "-") || not (bytes_eq (take 1 text) (codes "-")) in
    let two_dashes = bytes_eq (take 2 text) (codes "--") in
    let long = long_purpose program text in
    let a = by_test text (is_cluster program text) Cluster Unknown tt tt in
    let b = by_test text plain Plain one_dash tt a in
    let c = by_test text two_dashes long (cond plain Plain one_dash) (long_spelled program text) b in
    by_test text (bytes_eq text (codes "--")) Ends (cond two_dashes long (cond plain Plain one_dash)) tt c

pub purpose_spelled : (program : Program) (previous : Purpose) (text : List ℕ) → IsSpelled text (purpose_behind program previous text)
unfolding purpose_behind
purpose_spelled program Name text = own_spelled program text
purpose_spelled program Unknown text = own_spelled program text
purpose_spelled program Cluster text = own_spelled program text
purpose_spelled program (Whole switch) text = own_spelled program text
purpose_spelled program (Inline switch from) text = own_spelled program text
purpose_spelled program (Awaits switch) text = tt
purpose_spelled program (Value switch) text = own_spelled program text
purpose_spelled program Ends text = tt
purpose_spelled program Plain text = own_spelled program text
purpose_spelled program Rest text = tt

pub made_spelled : (program : Program) (previous purpose : Purpose) (text : List ℕ) → purpose ≡ purpose_behind program previous text → IsSpelled text purpose
made_spelled program previous purpose text h =
    subst (λ (p : Purpose). IsSpelled text p) (sym h) (purpose_spelled program previous text)

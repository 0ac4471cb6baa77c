-- A header of a list, read in two pieces.
use Rattle.std.proofs.Common.{◌≡◌, ℕ, ◌+◌, ◌-◌, ◌*◌, ◌≤◌, ◌<◌, List, [], ◌∷◌, ◌++◌, Option, Some, None, Result, Ok, Err, length, take, drop, true, false, Bool, refl, sym, ap, subst, ◌∙◌, arith, length-append, append_assoc, le-ltb, lt-ltb}
use Rattle.std.specs.Prelude.{nat_lt, not, if◌then◌else◌, nat_eq, is_some}
use Rattle.rpm_file.proofs.Vocabulary.{AnswersBehind, AnswersNextIn, Fills, front_header, IsListFault, bytes_left}
use Rattle.std.specs.List.{starts_with}
use Rattle.rpm_file.proofs.Vocabulary.{list_head, ListFault, magic, number_at, number_longer, pointwise, size_in, found_of_size, some_found, Takes, w32}
use Rattle.std.proofs.lemmas.List.{take-append-le, take_all, take_at, drop_at, drop-append-le, drop-drop, length-take, length-drop}
use Rattle.rpm_file.specs.declared.fault.ListFault.TheVariants as fault

-- ---- what the first bytes say, whatever follows them

magic_longer : (xs ys : List ℕ) → 8 ≤ length xs → starts_with nat_eq (xs ++ ys) magic ≡ starts_with nat_eq xs magic
magic_longer xs ys long = ap (pointwise nat_eq magic) (take-append-le 8 xs ys long)

pub size_longer : (intro more : List ℕ) → length intro ≡ 16 → size_in (intro ++ more) ≡ size_in intro
unfolding size_in
size_longer intro more long = rw (
  magic_longer intro more (omega arith),
  number_longer w32 intro more 8 (omega arith) (omega arith),
  number_longer w32 intro more 12 (omega arith) (omega arith),
) refl

-- ---- the two pieces

front_sized : (intro more : List ℕ) (r : Result ℕ ListFault) → length intro ≡ 16 → r ≡ size_in intro
    → front_header (intro ++ more) ≡ found_of_size (intro ++ more) r
unfolding front_header
front_sized intro more r long is =
    let enough : nat_lt (length (intro ++ more)) 16 ≡ false = le-ltb (length (intro ++ more)) 16 (omega (arith, length-append intro more)) in
    rw (enough, size_longer intro more long, is) refl

pub bad_front : (intro more : List ℕ) (e : ListFault) → length intro ≡ 16 → Err e ≡ size_in intro → front_header (intro ++ more) ≡ Err e
bad_front intro more e long is = front_sized intro more (Err e) long is

-- what stands after the magic is the blob and what follows it
behind_magic : (intro bytes blob more rest : List ℕ) → length intro ≡ 16 → bytes ≡ more ++ rest → blob ≡ drop 8 intro ++ more
    → drop 8 (intro ++ bytes) ≡ blob ++ rest
behind_magic intro bytes blob more rest long whole is =
    drop-append-le 8 intro bytes (omega arith)
    ∙ ap (λ (xs : List ℕ). drop 8 intro ++ xs) whole
    ∙ sym (append_assoc (drop 8 intro) more rest)
    ∙ sym (ap (λ (xs : List ℕ). xs ++ rest) is)

pub whole_front : (intro bytes blob more rest : List ℕ) (size : ℕ) → length intro ≡ 16 → Ok size ≡ size_in intro → bytes ≡ more ++ rest
    → blob ≡ drop 8 intro ++ more → length blob ≡ size
    → front_header (intro ++ bytes) ≡ Ok (record { blob = blob; rest = rest })
whole_front intro bytes blob more rest size long is whole blob_is number =
    let behind = behind_magic intro bytes blob more rest long whole blob_is in
    let there : nat_lt (length (intro ++ bytes)) (8 + size) ≡ false =
    le-ltb (length (intro ++ bytes)) (8 + size)
    (omega (
      arith,
      length-append intro bytes,
      ap length whole,
      length-append more rest,
      ap length blob_is,
      length-append (drop 8 intro) more,
      length-drop 8 intro,
    )) in
    let own : take size (drop 8 (intro ++ bytes)) ≡ blob = ap (take size) behind ∙ take_at blob rest size number in
    let left_over : drop (8 + size) (intro ++ bytes) ≡ rest = sym (drop-drop size 8 (intro ++ bytes)) ∙ ap (drop size) behind ∙ drop_at blob rest size number in
    front_sized intro bytes (Ok size) long is ∙ rw (there, own, left_over) refl

pub cut_front : (intro bytes blob more rest : List ℕ) (size : ℕ) → length intro ≡ 16 → Ok size ≡ size_in intro → bytes ≡ more ++ rest
    → blob ≡ drop 8 intro ++ more → length blob < size → rest ≡ []
    → front_header (intro ++ bytes) ≡ Err fault.Short
cut_front intro bytes blob more rest size long is whole blob_is few none =
    let short : nat_lt (length (intro ++ bytes)) (8 + size) ≡ true =
    lt-ltb (length (intro ++ bytes)) (8 + size)
    (omega (
      arith,
      length-append intro bytes,
      ap length whole,
      length-append more rest,
      ap length none,
      ap length blob_is,
      length-append
          (drop 8 intro) more,
      length-drop 8 intro,
    )) in
    front_sized intro bytes (Ok size) long is ∙ rw short refl

-- ---- where a list begins

pub head_some : (bytes : List ℕ) → 0 < length bytes → list_head bytes ≡ some_found (front_header bytes)
head_some [] some = absurd (omega arith)
head_some (b ∷ bytes) some = refl

pub head_short : (bytes : List ℕ) → 0 < length bytes → length bytes < 16 → list_head bytes ≡ Err fault.Short
unfolding front_header
head_short bytes some few =
    let short : nat_lt (length bytes) 16 ≡ true = lt-ltb (length bytes) 16 few in
    head_some bytes some ∙ rw short refl

-- ---- faults

-- a fault that the definition has
pub told_fault : {X : Type 0} (found : Result X ListFault) (e : ListFault) → found ≡ Err e → IsListFault found e
told_fault found fault.ReadFault is = tt
told_fault found fault.NoMemory is = tt
told_fault found fault.Short is = is
told_fault found fault.BadMagic is = is
told_fault found fault.TooManyEntries is = is
told_fault found fault.TooMuchData is = is

-- the two lengths alone never say that a read failed
no_read_fault : (a b c : Bool) (n : ℕ) (r : Result ℕ ListFault)
    → r ≡ (if a then Err fault.BadMagic else if b then Err fault.TooManyEntries else if c then Err fault.TooMuchData else Ok n) → r ≡ Err fault.ReadFault → ⊥
no_read_fault true b c n r is e = absurd cc
no_read_fault false true c n r is e = absurd cc
no_read_fault false false true n r is e = absurd cc
no_read_fault false false false n r is e = absurd cc

pub size_fault : (bytes : List ℕ) (e : ListFault) → Err e ≡ size_in bytes → e ≡ fault.ReadFault → ⊥
unfolding size_in
size_fault bytes e is same =
    let many = number_at w32 bytes 8 in
    let much = number_at w32 bytes 12 in
    no_read_fault (not (starts_with nat_eq bytes magic)) (nat_lt 65535 many) (nat_lt 67108864 much) (8 + 16 * many + much) (Err e) is
    (ap (λ (f : ListFault). Err f) same)

pub no_fault : {X : Type 0} (r : Result X ListFault) (e : ListFault) → r ≡ Err e → r ≡ Err fault.ReadFault → e ≡ fault.ReadFault
no_fault r e is same = cc

-- the row begins with what stands after the magic
pub begun : (intro front : List ℕ) → length intro ≡ 16 → front ≡ take (length intro - 8) (drop 8 intro) → front ≡ drop 8 intro
begun intro front long is = is ∙ take_all (length intro - 8) (drop 8 intro) (omega (arith, length-drop 8 intro))

-- ---- the bytes in front of it

-- fewer than 16 bytes came
pub short_fill : (old new : Option (List ℕ)) (count : ℕ) (into : List ℕ) → Fills old new count into → 0 < count → count < 16 → length into ≡ 16
    → list_head (bytes_left old) ≡ Err fault.Short
short_fill old new count into f some few room =
    let none = f.ended (omega arith) in
    let size : length (bytes_left old) ≡ count =
    omega (arith, ap length f.front.front, length-append (take count into) (bytes_left new), length-take count into, ap length none) in
    head_short (bytes_left old) (omega arith) (omega arith)

none_taken : (old new : Option (List ℕ)) → bytes_left old ≡ bytes_left new → bytes_left new ≡ [] → is_some new ≡ is_some old
    → (list_head (bytes_left old) ≡ Ok None) × (new ≡ old)
none_taken None None same none opened = (refl, refl)
none_taken (Some xs) (Some ys) same none opened = (ap list_head (same ∙ none), ap (λ (zs : List ℕ). Some zs) (sym same))
none_taken None (Some ys) same none opened = absurd cc
none_taken (Some xs) None same none opened = absurd cc

-- no byte came
pub no_fill : (old new : Option (List ℕ)) (count : ℕ) (into : List ℕ) → Fills old new count into → count ≡ 0 → length into ≡ 16
    → (list_head (bytes_left old) ≡ Ok None) × (new ≡ old)
no_fill old new count into f nothing room =
    none_taken old new (f.front.front ∙ ap (λ (n : ℕ). take n into ++ bytes_left new) nothing) (f.ended (omega arith)) f.front.opened

-- all came
pub whole_fill : (old new : Option (List ℕ)) (count : ℕ) (into : List ℕ) → Fills old new count into → count ≤ length into → length into ≡ 16 → 16 ≤ count
    → Takes old new into
whole_fill old new count into f within room all = subst (Takes old new) (take_all count into (omega arith)) f.front

-- and what was answered of those after them is answered of the list
fault_head : (bytes : List ℕ) (e : ListFault) → 0 < length bytes → IsListFault (front_header bytes) e → IsListFault (list_head bytes) e
fault_head bytes fault.ReadFault some h = tt
fault_head bytes fault.NoMemory some h = tt
fault_head bytes fault.Short some h = head_some bytes some ∙ ap some_found h
fault_head bytes fault.BadMagic some h = head_some bytes some ∙ ap some_found h
fault_head bytes fault.TooManyEntries some h = head_some bytes some ∙ ap some_found h
fault_head bytes fault.TooMuchData some h = head_some bytes some ∙ ap some_found h

pub behind_intro : (old mid new : Option (List ℕ)) (intro room : List ℕ) (r : Result (Option ℕ) ListFault) → length intro ≡ 16 → Takes old mid intro
    → AnswersBehind intro mid new room r → AnswersNextIn old new room r
behind_intro old mid new intro room (Ok None) long t h = absurd h
behind_intro old mid new intro room (Ok (Some size)) long t h =
    ap list_head t.front ∙ head_some (intro ++ bytes_left mid) (omega (arith, length-append intro (bytes_left mid))) ∙ ap some_found h
behind_intro old mid new intro room (Err e) long t h = subst (λ (bytes : List ℕ). IsListFault (list_head bytes) e) (sym t.front)
    (fault_head (intro ++ bytes_left mid) e (omega (arith, length-append intro (bytes_left mid))) h)

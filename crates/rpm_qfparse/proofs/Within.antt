-- What is left to read, and where a fault is, within so many bytes of the end.
use Rattle.std.proofs.Common.{◌≡◌, ℕ, ◌+◌, ◌<◌, ◌≤◌, List, [], ◌∷◌, length, take, drop, Bool, true, false, cond, Option, Some, None, Result, Ok, Err, refl, arith, length-drop, length-take, subst, nat_lt, ◌==◌, ltb-true, ap}
use Rattle.rpm_qfparse.proofs.Vocabulary.{begins, Faulty, option_map, ok_or, position_or_len, Reading, split_once, ◌>>=◌}

-- a fault lies within so many bytes of the end
abbrev pub FaultWithin : {X : Type 0} → ℕ → Result X Faulty → Type 0
FaultWithin n (Ok x) = Unit {0}
FaultWithin n (Err e) = length e.1 ≤ n

-- and so does what is left
abbrev pub Within : {X : Type 0} → ℕ → Reading X → Type 0
Within n (Ok x) = length x.1 ≤ n
Within n (Err e) = length e.1 ≤ n

abbrev pub RestWithin : ℕ → Result (List ℕ) Faulty → Type 0
RestWithin n (Ok r) = length r ≤ n
RestWithin n (Err e) = length e.1 ≤ n

pub bind_within : {A B : Type 0} (n : ℕ) (x : Result A Faulty) (f : A → Reading B) → FaultWithin n x → ((a : A) → x ≡ Ok a → Within n (f a))
    → Within n (x >>= f)
bind_within n (Ok a) f h g = g a refl
bind_within n (Err e) f h g = h

pub fault_bind : {A B : Type 0} (n : ℕ) (x : Result A Faulty) (f : A → Result B Faulty) → FaultWithin n x → ((a : A) → FaultWithin n (f a))
    → FaultWithin n (x >>= f)
fault_bind n (Ok a) f h g = g a
fault_bind n (Err e) f h g = h

pub fault_of : {X : Type 0} (n : ℕ) (x : Reading X) → Within n x → FaultWithin n x
fault_of n (Ok a) h = tt
fault_of n (Err e) h = h

pub drop_within : (k : ℕ) (s : List ℕ) → length (drop k s) ≤ length s
drop_within k s = omega (arith, length-drop k s)

pub drop_one : (s : List ℕ) (b : ℕ) → begins b s ≡ true → length (drop 1 s) < length s
drop_one [] b e = absurd (cc)
drop_one (x ∷ s) b e = omega arith

some_cut : (b : ℕ) (s : List ℕ) (i : ℕ) (cut : List ℕ × List ℕ) → i < length s → (take i s, drop (i + 1) s) ≡ cut → length cut.0 + length cut.1 + 1 ≤ length s
some_cut b s i cut lt e =
    let f : length (take i s) ≡ length cut.0 = ap (λ (c : List ℕ × List ℕ). length c.0) e in
    let g : length (drop (i + 1) s) ≡ length cut.1 = ap (λ (c : List ℕ × List ℕ). length c.1) e in
    omega (arith, length-take i s, length-drop (i + 1) s)

split_by : (b : ℕ) (s : List ℕ) (i : ℕ) (cut : List ℕ × List ℕ) (v : Bool) → nat_lt i (length s) ≡ v → option_map (λ i. (take i s, drop (i + 1) s))
    (cond v (Some i) None) ≡ Some cut → length cut.0 + length cut.1 + 1 ≤ length s
split_by b s i cut true lt e = some_cut b s i cut (ltb-true _ _ lt) (cc)
split_by b s i cut false lt e = absurd (cc)

pub split_within : (b : ℕ) (s : List ℕ) (cut : List ℕ × List ℕ) → split_once b s ≡ Some cut → length cut.0 + length cut.1 + 1 ≤ length s
split_within b s cut e = split_by b s (position_or_len (λ x. x == b) s) cut _ refl e

pub within_if : {X : Type 0} (n : ℕ) (v : Bool) (x y : Reading X) → (v ≡ true → Within n x) → Within n y → Within n (cond v x y)
within_if n true x y h g = h refl
within_if n false x y h g = g

pub fault_if : {X : Type 0} (n : ℕ) (v : Bool) (x y : Result X Faulty) → FaultWithin n x → FaultWithin n y → FaultWithin n (cond v x y)
fault_if n true x y h g = h
fault_if n false x y h g = g

pub fault_or : {X : Type 0} (n : ℕ) (o : Option X) (e : Faulty) → length e.1 ≤ n → FaultWithin n (ok_or o e)
fault_or n None e h = h
fault_or n (Some x) e h = tt

pub or_ok : {X : Type 0} (o : Option X) (e : Faulty) (x : X) → ok_or o e ≡ Ok x → o ≡ Some x
or_ok None e x h = absurd (cc)
or_ok (Some y) e x h = cc

pub ok_within : {X : Type 0} (n : ℕ) (x : Reading X) (a : X × List ℕ) → Within n x → x ≡ Ok a → length a.1 ≤ n
ok_within n x a h e = let P : Reading _ → Type 0 = Within n in subst P e h

pub wider : {X : Type 0} (m n : ℕ) (x : Reading X) → m ≤ n → Within m x → Within n x
wider m n (Ok a) le h = omega arith
wider m n (Err e) le h = omega arith

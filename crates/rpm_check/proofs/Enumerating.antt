-- The requirements that no package meets rise by number and place, and the next one is the first above a pair.
use Rattle.rpm_check.proofs.Vocabulary.{above, all_above_zero, AllByRecursion, Bad, below_all, both_true, Database, flat_map, from_one, Good, Header, header}
use Rattle.rpm_check.proofs.Vocabulary.{HeaderFault, is_above_pair, is_below, is_lt, is_there, IsFirst, IsNext, IsNextUnmet, Keeps, lacks, nat_cmp, Need}
use Rattle.rpm_check.proofs.Vocabulary.{none_is, Package, packages, requirements, store_of, Units, Unmet, unmet, unmet_after, unmet_at, unmet_in, unmet_of}
use Rattle.rpm_check.proofs.Vocabulary.{unmet_read}
use Rattle.std.proofs.Common.{◌≡◌, ℕ, ◌+◌, ◌-◌, ◌<◌, ◌≤◌, List, [], ◌∷◌, ◌++◌, length, Bool, true, false, Option, Some, None, is_some, Result, Ok, Err}
use Rattle.std.proofs.Common.{refl, sym, ap, ◌∙◌, subst, inl, inr, arith, nat_lt}
use Rattle.std.specs.Prelude.{T, filter}
use Rattle.std.specs.FinMap as finite
use Rattle.std.proofs.lemmas.Bool.{cases_Bool, cases_lt}
use Rattle.std.proofs.lemmas.Bool.Decides.{nat_tests}
use Rattle.std.proofs.lemmas.List.Elements.{filter-append}
use Rattle.rpm_check.proofs.Turning.{turns_above, one_turn, no_turn}

-- ---- rising lists

abbrev Follows : Unmet → Unmet → Type 0
Follows u v = is_above_pair u.number u.place v ≡ true

abbrev Rises : List Unmet → Type 0
Rises [] = Unit {0}
Rises (u ∷ us) = AllByRecursion (Follows u) us × Rises us

weaker : {X : Type 0} (P Q : X → Type 0) → ((x : X) → P x → Q x) → (xs : List X) → AllByRecursion P xs → AllByRecursion Q xs
weaker P Q step [] all = tt
weaker P Q step (x ∷ xs) all = (step x all.0, weaker P Q step xs all.1)

append_all : {X : Type 0} (P : X → Type 0) (xs ys : List X) → AllByRecursion P xs → AllByRecursion P ys → AllByRecursion P (xs ++ ys)
append_all P [] ys first later = later
append_all P (x ∷ xs) ys first later = (first.0, append_all P xs ys first.1 later)

append_rises : (us vs : List Unmet) → Rises us → Rises vs → AllByRecursion (λ u. AllByRecursion (Follows u) vs) us → Rises (us ++ vs)
append_rises [] vs first later apart = later
append_rises (u ∷ us) vs first later apart =
    (append_all (Follows u) us vs first.0 apart.0, append_rises us vs first.1 later apart.1)

kept_all : {X : Type 0} (p : X → Bool) (xs : List X) → AllByRecursion (λ x. p x ≡ true) xs → filter p xs ≡ xs
kept_all p [] all = refl
kept_all p (x ∷ xs) all = rw all.0 (ap (λ ys. x ∷ ys) (kept_all p xs all.1))

first_kept : {X : Type 0} (p : X → Bool) (xs : List X) (x : X) (rest : List X) → filter p xs ≡ x ∷ rest → p x ≡ true
first_kept p [] x rest is = absurd cc
first_kept p (y ∷ ys) x rest is = elim (cases_Bool (p y)) [
  | inl takes ↦ (let eq : y ∷ filter p ys ≡ x ∷ rest = rw takes at is in let same : y ≡ x = cc in ap p (sym same) ∙ takes)
  | inr other ↦ first_kept p ys x rest (rw other at is)
]

above_then : (n i : ℕ) (u v : Unmet) → is_above_pair n i u ≡ true → is_above_pair u.number u.place v ≡ true → is_above_pair n i v ≡ true
above_then n i u v first second = grind (arith, nat_tests)

not_back : (n i : ℕ) (u v : Unmet) → is_above_pair n i u ≡ true → is_above_pair n i v ≡ false → is_above_pair u.number u.place v ≡ false
not_back n i u v first second = grind (arith, nat_tests)

not_own : (u : Unmet) → is_above_pair u.number u.place u ≡ false
not_own u = grind (arith, nat_tests)

-- after the first above a pair stand those above it
behind_first : (n i : ℕ) (us : List Unmet) → Rises us → (u : Unmet) (rest : List Unmet) → filter (is_above_pair n i) us ≡ u ∷ rest
    → rest ≡ filter (is_above_pair u.number u.place) us
behind_first n i [] rises u rest is = absurd cc
behind_first n i (x ∷ xs) rises u rest is = elim (cases_Bool (is_above_pair n i x)) [
  | inr under ↦
      (let left : filter (is_above_pair n i) xs ≡ u ∷ rest = rw under at is in
      let back : is_above_pair u.number u.place x ≡ false = not_back n i u x (first_kept (is_above_pair n i) xs u rest left) under in
      rw back (behind_first n i xs rises.1 u rest left))
  | inl over ↦
      (let eq : x ∷ filter (is_above_pair n i) xs ≡ u ∷ rest = rw over at is in
      let same : x ≡ u = cc in
      let others : filter (is_above_pair n i) xs ≡ rest = cc in
      let all = kept_all (is_above_pair n i) xs (weaker (Follows x) (λ v. is_above_pair n i v ≡ true) (λ v. above_then n i x v over) xs rises.0) in
      let whole : rest ≡ filter (is_above_pair x.number x.place) (x ∷ xs) =
      rw (not_own x) (sym others ∙ all ∙ sym (kept_all (is_above_pair x.number x.place) xs rises.0)) in
      subst (λ (v : Unmet). rest ≡ filter (is_above_pair v.number v.place) (x ∷ xs)) same whole)
]

-- ---- those of the packages rise

-- of one number, from a place on
abbrev IsFrom : ℕ → ℕ → Unmet → Type 0
IsFrom n place u = (u.number ≡ n) × (place ≤ u.place)

abbrev HasNumber : ℕ → Unmet → Type 0
HasNumber n u = u.number ≡ n

abbrev IsBehind : ℕ → Unmet → Type 0
IsBehind n u = n < u.number

follows_place : (n place : ℕ) (v : Unmet) → IsFrom n (place + 1) v → Follows (record { number = n; place = place }) v
follows_place n place v from = let same = from.0 in let over = from.1 in grind (arith, nat_tests)

follows_number : (n : ℕ) (u v : Unmet) → u.number ≡ n → n < v.number → Follows u v
follows_number n u v same over = grind (arith, nat_tests)

module _ (is_lacking : Need → Bool) where
  in_package : (n : ℕ) (needs : List Need) (place : ℕ)
      → Rises (unmet_in is_lacking n needs place) × AllByRecursion (IsFrom n place) (unmet_in is_lacking n needs place)
  in_package n [] place = (tt, tt)
  in_package n (need ∷ needs) place =
      let rest = in_package n needs (place + 1) in
      let later = weaker (IsFrom n (place + 1)) (IsFrom n place) (λ v from. (from.0, omega (arith, from.1))) (unmet_in is_lacking n needs (place + 1)) rest.1 in
      elim (cases_Bool (is_lacking need)) [
        | inr met ↦ rw met (rest.0, later)
        | inl lacking ↦
            rw lacking (
              (
                weaker (IsFrom n (place + 1)) (Follows (record { number = n; place = place })) (follows_place n place)
                    (unmet_in is_lacking n needs (place + 1)) rest.1,
                rest.0,
              ),
              ((refl, omega arith), later),
            )
      ]

  of_read : (n : ℕ) (r : Result Header HeaderFault) → Rises (unmet_read is_lacking n r) × AllByRecursion (HasNumber n) (unmet_read is_lacking n r)
  of_read n (Ok h) =
      let all = in_package n (requirements h) 0 in
      (all.0, weaker (IsFrom n 0) (HasNumber n) (λ v from. from.0) (unmet_in is_lacking n (requirements h) 0) all.1)
  of_read n (Err fault) = (tt, tt)

  of_package : (e : ℕ × Package) → Rises (unmet_of is_lacking e) × AllByRecursion (HasNumber e.0) (unmet_of is_lacking e)
  of_package (n, Good bytes) = of_read n (header bytes)
  of_package (n, Bad) = (tt, tt)

  all_behind : (n : ℕ) (es : List (ℕ × Package)) → T (below_all nat_cmp n es) → AllByRecursion (IsBehind n) (flat_map (unmet_of is_lacking) es)
  all_behind n [] t = tt
  all_behind n (e ∷ es) t =
      let s = both_true (is_lt (nat_cmp n e.0)) (below_all nat_cmp n es) t in
      let lt : n < e.0 = is_below n e.0 s.0 in
      append_all (IsBehind n) (unmet_of is_lacking e) (flat_map (unmet_of is_lacking) es)
      (weaker (HasNumber e.0) (IsBehind n) (λ v same. omega (arith, lt, same)) (unmet_of is_lacking e) (of_package e).1) (all_behind n es s.1)

  all_rise : (es : List (ℕ × Package)) → T (finite.is_sorted nat_cmp es) → Rises (flat_map (unmet_of is_lacking) es)
  all_rise [] t = tt
  all_rise (e ∷ es) t =
      let s = both_true (below_all nat_cmp e.0 es) (finite.is_sorted nat_cmp es) t in
      let own = of_package e in
      let later = all_behind e.0 es s.0 in
      append_rises (unmet_of is_lacking e) (flat_map (unmet_of is_lacking) es) own.0 (all_rise es s.1)
      (weaker (HasNumber e.0) (λ u. AllByRecursion (Follows u) (flat_map (unmet_of is_lacking) es))
      (λ u same. weaker (IsBehind e.0) (Follows u) (λ v over. follows_number e.0 u v same over) (flat_map (unmet_of is_lacking) es) later)
      (unmet_of is_lacking e) own.1)

-- the first of those above a pair is the next one
pub is_next : (all : finite.FinMap nat_cmp Package) (n i : ℕ) (o : Option Unmet) → IsFirst (unmet_after all n i) o → IsNextUnmet all n i o
unfolding unmet_after unmet
is_next all n i None none = none
is_next all n i (Some u) some =
    let rises = all_rise (lacks all) (finite.entries all) (finite.entries_sorted all) in
    some.1 ∙ ap (λ (us : List Unmet). u ∷ us) (behind_first n i (unmet all) rises u some.0 some.1)

-- ---- package by package

filter_flat_map : {X Y : Type 0} (p : Y → Bool) (f : X → List Y) (xs : List X) → filter p (flat_map f xs) ≡ flat_map (λ x. filter p (f x)) xs
filter_flat_map p f [] = refl
filter_flat_map p f (x ∷ xs) =
    filter-append p (f x) (flat_map f xs) ∙ ap (λ ys. filter p (f x) ++ ys) (filter_flat_map p f xs)

none_kept : {X : Type 0} (p : X → Bool) (xs : List X) → AllByRecursion (λ x. p x ≡ false) xs → filter p xs ≡ []
none_kept p [] all = refl
none_kept p (x ∷ xs) all = rw all.0 (none_kept p xs all.1)

-- what a package has above a pair
abbrev pub after_in : finite.FinMap nat_cmp Package → ℕ → ℕ → ℕ × Package → List Unmet
after_in all n i e = filter (is_above_pair n i) (unmet_of (lacks all) e)

below_number : (n i : ℕ) (u : Unmet) → u.number < n → is_above_pair n i u ≡ false
below_number n i u under = grind (arith, nat_tests)

nothing_below : (all : finite.FinMap nat_cmp Package) (n i : ℕ) (e : ℕ × Package) → e.0 < n → after_in all n i e ≡ []
nothing_below all n i e under =
    none_kept (is_above_pair n i) (unmet_of (lacks all) e) (weaker (HasNumber e.0) (λ u. is_above_pair n i u ≡ false)
    (λ u same. below_number n i u (omega (arith, under, same))) (unmet_of (lacks all) e) (of_package (lacks all) e).1)

passed : (all : finite.FinMap nat_cmp Package) (n i k : ℕ) → k < n → (es : List (ℕ × Package))
    → flat_map (after_in all n i) es ≡ flat_map (after_in all n i) (above k es)
passed all n i k under [] = refl
passed all n i k under (e ∷ es) = elim (cases_Bool (nat_lt k e.0)) [
  | inl over ↦ rw over (ap (λ us. after_in all n i e ++ us) (passed all n i k under es))
  | inr not ↦
      (let below : e.0 < n = grind (arith, nat_tests) in
      rw not (ap (λ us. us ++ flat_map (after_in all n i) es) (nothing_below all n i e below) ∙ passed all n i k under es))
]

-- those above a pair are of the packages from its number on
pub after_from : (file : Units) (db : Database) (n i : ℕ) → Keeps file db
    → unmet_after (packages file (store_of db)) n i ≡ turns_above (packages file (store_of db)) (after_in (packages file (store_of db)) n i) (n - 1)
unfolding unmet_after unmet
after_from file db n i keeps =
    let all = packages file (store_of db) in
    let es = finite.entries all in
    filter_flat_map (is_above_pair n i) (unmet_of (lacks all)) es ∙ (elim (cases_lt 0 n) [
      | inl some ↦ passed all n i (n - 1) (omega (arith, some)) es
      | inr zero ↦
          (let none : n - 1 ≡ 0 = omega (arith, zero) in
          rw none (ap (flat_map (after_in all n i)) (sym (all_above_zero all (none_is (finite.get all 0) (is_there file db 0 ∙ from_one file db keeps))))))
    ])

-- a package in which there is one
first_here : (us vs : List Unmet) (o : Option Unmet) → IsFirst us o → is_some o ≡ true → IsFirst (us ++ vs) o
first_here us vs None first some = absurd cc
first_here us vs (Some u) first some = (first.0 ++ vs, ap (λ ws. ws ++ vs) first.1)

first_none : (us : List Unmet) (o : Option Unmet) → IsFirst us o → is_some o ≡ false → us ≡ []
first_none us None none is = none
first_none us (Some u) some is = absurd cc

module _ (all : finite.FinMap nat_cmp Package) (n i k m : ℕ) (o : Option Unmet) where
  abbrev Here : Type 0
  Here = IsFirst (filter (is_above_pair n i) (unmet_at (lacks all) m (finite.get all m))) o

  at_number : (p : Package) → finite.get all m ≡ Some p → Here → IsFirst (after_in all n i (m, p)) o
  at_number p is here = subst (λ (q : Option Package). IsFirst (filter (is_above_pair n i) (unmet_at (lacks all) m q)) o) is here

  pub found_here : IsNext (λ q. is_some (finite.get all q)) k (Some m) → unmet_after all n i ≡ turns_above all (after_in all n i) k → Here
      → is_some o ≡ true → IsNextUnmet all n i o
  found_here next so_far here some =
      let turn = one_turn all (after_in all n i) k m next in
      is_next all n i o (subst (λ (us : List Unmet). IsFirst us o) (sym (so_far ∙ turn.2))
      (first_here (after_in all n i (m, turn.0)) (turns_above all (after_in all n i) m) o (at_number turn.0 turn.1 here) some))

  pub none_here : IsNext (λ q. is_some (finite.get all q)) k (Some m) → unmet_after all n i ≡ turns_above all (after_in all n i) k → Here
      → is_some o ≡ false → unmet_after all n i ≡ turns_above all (after_in all n i) m
  none_here next so_far here none =
      let turn = one_turn all (after_in all n i) k m next in
      so_far ∙ turn.2 ∙ ap (λ (us : List Unmet). us ++ turns_above all (after_in all n i) m)
      (first_none (after_in all n i (m, turn.0)) o (at_number turn.0 turn.1 here) none)

pub none_later : (all : finite.FinMap nat_cmp Package) (n i k : ℕ) → IsNext (λ q. is_some (finite.get all q)) k None
    → unmet_after all n i ≡ turns_above all (after_in all n i) k → IsNextUnmet all n i None
none_later all n i k next so_far = so_far ∙ no_turn all (after_in all n i) k next

-- ---- requirement by requirement

module _ (is_lacking : Need → Bool) (n i number place : ℕ) (need : Need) (needs : List Need) where
  abbrev pair : Unmet
  pair = record { number = number; place = place }

  abbrev from_here : List Unmet
  from_here = filter (is_above_pair n i) (unmet_in is_lacking number (need ∷ needs) place)

  pub not_lacking : is_lacking need ≡ false → from_here ≡ filter (is_above_pair n i) (unmet_in is_lacking number needs (place + 1))
  not_lacking met = rw met refl

  pub not_above : is_above_pair n i pair ≡ false → from_here ≡ filter (is_above_pair n i) (unmet_in is_lacking number needs (place + 1))
  not_above under = elim (cases_Bool (is_lacking need)) [
    | inl lacking ↦ rw lacking (rw under refl)
    | inr met ↦ not_lacking met
  ]

  pub first_lacking : is_above_pair n i pair ≡ true → is_lacking need ≡ true → IsFirst from_here (Some pair)
  first_lacking over lacking = (filter (is_above_pair n i) (unmet_in is_lacking number needs (place + 1)), rw lacking (rw over refl))

pub none_left : (is_lacking : Need → Bool) (number place : ℕ) (needs : List Need) → length needs ≡ 0 → unmet_in is_lacking number needs place ≡ []
none_left is_lacking number place [] none = refl
none_left is_lacking number place (need ∷ needs) none = absurd (omega (arith, none))

-- ---- a search begins at (0, 0)

above_zero : (u : Unmet) → IsBehind 0 u → is_above_pair 0 0 u ≡ true
above_zero u some = grind (arith, nat_tests)

behind_zero : (is_lacking : Need → Bool) (es : List (ℕ × Package)) → AllByRecursion (IsBehind 0) (flat_map (unmet_of is_lacking) (above 0 es))
behind_zero is_lacking [] = tt
behind_zero is_lacking (e ∷ es) = elim (cases_Bool (nat_lt 0 e.0)) [
  | inr zero ↦ rw zero (behind_zero is_lacking es)
  | inl some ↦
      (let lt : 0 < e.0 = grind (arith, nat_tests) in
      rw some (append_all (IsBehind 0) (unmet_of is_lacking e) (flat_map (unmet_of is_lacking) (above 0 es))
      (weaker (HasNumber e.0) (IsBehind 0) (λ v same. omega (arith, lt, same)) (unmet_of is_lacking e) (of_package is_lacking e).1)
      (behind_zero is_lacking es)))
]

pub begins : (file : Units) (db : Database) → Keeps file db → unmet_after (packages file (store_of db)) 0 0 ≡ unmet (packages file (store_of db))
unfolding unmet_after unmet
begins file db keeps =
    let all = packages file (store_of db) in
    let whole = all_above_zero all (none_is (finite.get all 0) (is_there file db 0 ∙ from_one file db keeps)) in
    let f = unmet_of (lacks all) in
    kept_all (is_above_pair 0 0) (flat_map f (finite.entries all))
    (weaker (IsBehind 0) (λ u. is_above_pair 0 0 u ≡ true) above_zero (flat_map f (finite.entries all))
    (subst (λ (es : List (ℕ × Package)). AllByRecursion (IsBehind 0) (flat_map f es)) whole (behind_zero (lacks all) (finite.entries all))))

-- Where all say the same of a path or all are directories, no two of them conflict.
use Rattle.std.proofs.Common.{◌≡◌, ℕ, ◌/◌, ◌%◌, ◌==◌, List, [], ◌∷◌, Bool, true, false, not, ◌||◌, ◌⊎◌, inl, inr, refl, sym, ap, ◌∙◌}
use Rattle.std.specs.Prelude.{◌&&◌}
use Rattle.rpm_filecheck.proofs.Vocabulary.{agrees, bytes_eq, conflicts_on, conflicts_with, is_alike, is_conflict, is_directory, is_ghost, list_all}
use Rattle.rpm_filecheck.proofs.Vocabulary.{may_share, Owner}
use Rattle.std.proofs.lemmas.Bool.{and_parts, eqb-true, eq-eqb}
use Rattle.std.proofs.lemmas.Slice.Eq.{bytes_eq-Decides}

and_false : (x : Bool) → (x && false) ≡ false
and_false true = refl
and_false false = refl

both : (x y z : Bool) → x ≡ true → y ≡ true → z ≡ true → (x && (y && z)) ≡ true
both x y z first second third = rw (first, second, third) refl

alike_itself : (a : Owner) → is_alike a a ≡ true
alike_itself a =
    both (a.facts.mode == a.facts.mode) (bytes_eq a.facts.digest a.facts.digest) (bytes_eq a.facts.link a.facts.link)
    (eq-eqb a.facts.mode a.facts.mode refl) ((bytes_eq-Decides a.facts.digest a.facts.digest).1 refl)
    ((bytes_eq-Decides a.facts.link a.facts.link).1 refl)

record SaysSame (a b : Owner) : Type 0 where
  mode : a.facts.mode ≡ b.facts.mode
  digest : a.facts.digest ≡ b.facts.digest
  link : a.facts.link ≡ b.facts.link

says_same : (a b : Owner) → is_alike a b ≡ true → SaysSame a b
says_same a b alike =
    let first = and_parts (a.facts.mode == b.facts.mode) (bytes_eq a.facts.digest b.facts.digest && bytes_eq a.facts.link b.facts.link) alike in
    let second = and_parts (bytes_eq a.facts.digest b.facts.digest) (bytes_eq a.facts.link b.facts.link) first.1 in
    record {
      mode = eqb-true a.facts.mode b.facts.mode first.0;
      digest = (bytes_eq-Decides a.facts.digest b.facts.digest).0 second.0;
      link = (bytes_eq-Decides a.facts.link b.facts.link).0 second.1;
    }

none_differs : (shared d m l : Bool) → d ≡ true → m ≡ true → l ≡ true → (shared && (not d || (not m || not l))) ≡ false
none_differs shared d m l digest mode link = rw (digest, mode, link) (and_false shared)

-- ---- one of these facts holds of an owner beside the first

or_cases : (x y : Bool) → (x || y) ≡ true → (x ≡ true) ⊎ (y ≡ true)
or_cases true y is = inl refl
or_cases false y is = inr is

record AreDirectories (a b : Owner) : Type 0 where
  first : is_directory a.facts ≡ true
  second : is_directory b.facts ≡ true

agrees_by : (a b : Owner) → agrees a b ≡ true → SaysSame a b ⊎ AreDirectories a b
agrees_by a b agree = elim (or_cases (is_alike a b) (is_directory a.facts && is_directory b.facts) agree) [
  | inl alike ↦ inl (says_same a b alike)
  | inr directories ↦
      let parts = and_parts (is_directory a.facts) (is_directory b.facts) directories in
      inr (record { first = parts.0; second = parts.1 })
]

agrees_itself : (a : Owner) → agrees a a ≡ true
agrees_itself a = rw (alike_itself a) refl

-- what says the same as a directory is one
directory_too : (a b : Owner) → SaysSame a b → is_directory a.facts ≡ true → is_directory b.facts ≡ true
directory_too a b same directory = ap (λ m. (m / 4096) % 16 == 4) (sym same.mode) ∙ directory

shared : (first second ghost other : Bool) → first ≡ true → second ≡ true → (not ((first && second) || ghost) && other) ≡ false
shared first second ghost other is then = rw (is, then) refl

module _ (path : List ℕ) where
  directories_share : (b c : Owner) → is_directory b.facts ≡ true → is_directory c.facts ≡ true → is_conflict path b c ≡ false
  directories_share b c first second =
      shared (is_directory b.facts) (is_directory c.facts) (is_ghost b.facts || is_ghost c.facts) _ first second

module _ (path : List ℕ) (a : Owner) where
  same_share : (b c : Owner) → SaysSame a b → SaysSame a c → is_conflict path b c ≡ false
  same_share b c of_b of_c =
      none_differs (not (may_share b.facts c.facts)) (bytes_eq b.facts.digest c.facts.digest) (b.facts.mode == c.facts.mode)
      (bytes_eq b.facts.link c.facts.link) ((bytes_eq-Decides b.facts.digest c.facts.digest).1 (sym of_b.digest ∙ of_c.digest))
      (eq-eqb b.facts.mode c.facts.mode (sym of_b.mode ∙ of_c.mode)) ((bytes_eq-Decides b.facts.link c.facts.link).1 (sym of_b.link ∙ of_c.link))

  no_conflict : (b c : Owner) → agrees a b ≡ true → agrees a c ≡ true → is_conflict path b c ≡ false
  no_conflict b c first second = elim (agrees_by a b first) [
    | inl of_b ↦ elim (agrees_by a c second) [
      | inl of_c ↦ same_share b c of_b of_c
      | inr of_c ↦ directories_share path b c (directory_too a b of_b of_c.first) of_c.second
    ]
    | inr of_b ↦ elim (agrees_by a c second) [
      | inl of_c ↦ directories_share path b c of_b.second (directory_too a c of_c of_b.first)
      | inr of_c ↦ directories_share path b c of_b.second of_c.second
    ]
  ]

  none_with : (b : Owner) → agrees a b ≡ true → (os : List Owner) → list_all (agrees a) os ≡ true → conflicts_with path b os ≡ []
  none_with b agree [] all = refl
  none_with b agree (c ∷ os) all =
      let parts = and_parts (agrees a c) (list_all (agrees a) os) all in
      rw (no_conflict b c agree parts.0) (none_with b agree os parts.1)

  none_among : (os : List Owner) → list_all (agrees a) os ≡ true → conflicts_on path os ≡ []
  none_among [] all = refl
  none_among (b ∷ os) all =
      let parts = and_parts (agrees a b) (list_all (agrees a) os) all in
      rw (none_with b parts.0 os parts.1) (none_among os parts.1)

  pub none_on : (os : List Owner) → list_all (agrees a) os ≡ true → conflicts_on path (a ∷ os) ≡ []
  none_on os all = rw (none_with a (agrees_itself a) os all) (none_among os all)

-- The rows of packages, one after the other.
use Rattle.std.proofs.Common.{◌≡◌, ℕ, ◌+◌, ◌<◌, List, [], ◌++◌, take, true, false, Option, Some, None, Ok, Err, Result, is_some, refl, sym, ap, ◌∙◌, append_assoc}
use Rattle.rpm_db.proofs.Vocabulary.{above, all_above_zero, blob_in, blobs, flat_map, frame_of, get-blobs, get-packages, Header, header, header-own}
use Rattle.rpm_db.proofs.Vocabulary.{HeaderFault, is_there, IsNext, Kind, kinds, nat_cmp, next_above, nothing_above, option_map, Package, package_of}
use Rattle.rpm_db.proofs.Vocabulary.{package_rows, packages, read_as, Row, rows, rows_at, rows_in, rows_read, slot_with, Store, without_index, Units}
use Rattle.std.specs.FinMap as finite
use Rattle.std.proofs.lemmas.List.{take_more, flat_map_more, append-nil}
use Rattle.std.proofs.Math.ListN.{get_or}
use Rattle.rpm_pkgdb.specs.Pairs as pairs
use Rattle.rpm_db.proofs.Answers.{next_is, next_of_slots}

-- one kind more
pub kinds_more : (f : Kind → List Row) (before old new : List Row) (i : ℕ) (d : Kind) → i < 11 → old ≡ before ++ flat_map f (take i kinds)
    → new ≡ old ++ f (get_or kinds i d) → new ≡ before ++ flat_map f (take (i + 1) kinds)
kinds_more f before old new i d below was is =
    is ∙ ap (λ (rs : List Row). rs ++ f (get_or kinds i d)) was ∙ flat_map_more f before (take i kinds) (get_or kinds i d)
    ∙ ap (λ (ks : List Kind). before ++ flat_map f ks) (sym (take_more kinds i d below))

-- what a blob says of its rows is what its package does
rows_of_read : (n : ℕ) (bytes : List ℕ) (r : Result Header HeaderFault) → header bytes ≡ r → package_rows n (read_as r) ≡ rows_read n r
rows_of_read n bytes (Ok h) is = ap (rows_read n) (header-own bytes h is)
rows_of_read n bytes (Err fault) is = refl

pub package_rows-blob : (n : ℕ) (blob : List ℕ) → package_rows n (package_of (Some blob)) ≡ rows_read n (header blob)
package_rows-blob n blob = rows_of_read n blob (header blob) refl

pub rows_at-blob : (file : Units) (store : Store) (n : ℕ) (o : Option (Option (List ℕ))) → finite.get (blobs file store) n ≡ o
    → rows_at n (finite.get (packages file store) n) ≡ rows_at n (option_map package_of o)
rows_at-blob file store n o is = ap (rows_at n) (get-packages file store n ∙ ap (option_map package_of) is)

-- a number that no slot has
pub none_at : (file : Units) (store : Store) (n : ℕ) → slot_with n store.slots ≡ None → finite.get (packages file store) n ≡ None
none_at file store n none =
    get-packages file store n ∙ ap (option_map package_of) (get-blobs file store n ∙ ap (option_map (λ s. option_map blob_in (frame_of n s file))) none)

-- the next number of a store is that of its packages
pub next_package : (file : Units) (store : Store) (n : ℕ) (r : Option ℕ) → pairs.IsNextFound (λ m. slot_with m store.slots) n r
    → IsNext (λ m. is_some (finite.get (packages file store) m)) n r
next_package file store n r next =
    next_is (λ m. is_some (finite.get (packages file store) m)) (λ m. is_some (slot_with m store.slots)) n r
    (λ k. is_there file (without_index store) k) (next_of_slots store.slots n r next)

-- ---- going through the numbers

module _ (map : finite.FinMap nat_cmp Package) where
  -- a number and its package
  pub record Next (k m : ℕ) : Type 0 where
    pub later : k < m
    pub found : Package
    pub there : finite.get map m ≡ Some found
    pub between : (q : ℕ) → k < q → q < m → finite.get map q ≡ None

  some_there : (o : Option Package) → is_some o ≡ true → (p : Package) × (o ≡ Some p)
  some_there None t = absurd cc
  some_there (Some p) t = (p, refl)

  is_none : (o : Option Package) → is_some o ≡ false → o ≡ None
  is_none None t = refl
  is_none (Some p) t = absurd cc

  pub next_of : (k m : ℕ) → IsNext (λ q. is_some (finite.get map q)) k (Some m) → Next k m
  next_of k m next =
      let p = some_there (finite.get map m) next.1 in
      record { later = next.0; found = p.0; there = p.1; between = λ q a b. is_none (finite.get map q) (next.2 q a b) }

  pub rows_more : (k m : ℕ) → IsNext (λ q. is_some (finite.get map q)) k (Some m) → (so_far : List Row)
      → so_far ++ rows_in (above k (finite.entries map)) ≡ rows map
      → (new : List Row) → new ≡ so_far ++ rows_at m (finite.get map m) → new ++ rows_in (above m (finite.entries map)) ≡ rows map
  rows_more k m next so_far before new is =
      let n = next_of k m next in
      let left = next_above map k m n.found n.later n.there n.between in
      let one : new ≡ so_far ++ package_rows m n.found = is ∙ ap (λ (o : Option Package). so_far ++ rows_at m o) n.there in
      ap (λ (rs : List Row). rs ++ rows_in (above m (finite.entries map))) one
      ∙ append_assoc so_far (package_rows m n.found) (rows_in (above m (finite.entries map)))
      ∙ ap (λ (es : List (ℕ × Package)). so_far ++ rows_in es) (sym left) ∙ before

  pub rows_end : (k : ℕ) → IsNext (λ q. is_some (finite.get map q)) k None → (so_far : List Row)
      → so_far ++ rows_in (above k (finite.entries map)) ≡ rows map → so_far ≡ rows map
  rows_end k none so_far before =
      let left = nothing_above map k (λ q later. is_none (finite.get map q) (none q later)) in
      sym (append-nil so_far) ∙ sym (ap (λ (es : List (ℕ × Package)). so_far ++ rows_in es) left) ∙ before

  pub rows_begin : finite.get map 0 ≡ None → [] ++ rows_in (above 0 (finite.entries map)) ≡ rows map
  unfolding rows
  rows_begin none = ap rows_in (all_above_zero map none)

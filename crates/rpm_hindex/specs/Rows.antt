-- Rows: what an index records, and how often.
use Rattle.std.specs.Prelude.{◌≡◌, ℕ, ◌*◌, ◌%◌, ◌^◌, List, [], ◌∷◌, Bool, ◌&&◌, ◌==◌, bit_xor, slice_index_or}
use Rattle.std.specs.List.{count_by, fold}
use Rattle.std.specs.Str.{bytes_eq}

-- a key of a package, at a place of the package's list of that kind
pub record Row : Type 0 where
  pub kind : ℕ
  pub key : List ℕ
  pub number : ℕ
  pub place : ℕ

-- a row that stands for none
abbrev pub no_row : Row
no_row = record { kind = 0; key = []; number = 0; place = 0 }

-- row i of these
abbrev pub row_nth : List Row → ℕ → Row
row_nth rows i = slice_index_or rows i no_row

-- whether two rows are one
abbrev pub same_row : Row → Row → Bool
same_row a b = (a.kind == b.kind) && (bytes_eq a.key b.key && ((a.number == b.number) && (a.place == b.place)))

-- how often a row is in a list
unfoldable pub times : Row → List Row → ℕ
times row rows = count_by (same_row row) rows

-- two lists have the same rows, each as often
abbrev pub SameRows : List Row → List Row → Type 0
SameRows old new = (row : Row) → times row new ≡ times row old

-- the hash, by 32-bit FNV-1a, of a kind's byte and then the key
unfoldable pub hash_of : ℕ → List ℕ → ℕ
hash_of kind key = fold (λ hash b. bit_xor hash b * 16777619 % 2 ^ 32) 2166136261 (kind ∷ key)

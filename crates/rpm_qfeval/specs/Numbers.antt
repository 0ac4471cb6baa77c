-- What the formatters of numbers show.
use Rattle.std.specs.Prelude.{ℕ, ◌-◌, ◌/◌, ◌%◌, ◌==◌, Bool, not, List, [], ◌∷◌, codes, map, bit_and, if◌then◌else◌}
use Rattle.std.specs.List.{filter}

-- whether a number has a bit, which is told by its value
abbrev pub has : ℕ → ℕ → Bool
has bit n = not (bit_and n bit == 0)

-- ---- flags, a letter each

-- the letters of the bits that a number has, in the order of the rows
abbrev pub bit_letters : List (ℕ × ℕ) → ℕ → List ℕ
bit_letters rows n = map (λ (row : ℕ × ℕ). row.1) (filter (λ (row : ℕ × ℕ). has row.0 n) rows)

-- less, greater, equal
abbrev pub depflags : List (ℕ × ℕ)
depflags = (2, 60) ∷ (4, 62) ∷ (8, 61) ∷ []

-- documentation d, configuration c, specfile s, missing is right m, noreplace n, ghost g, licence l, readme r, artifact
-- a
abbrev pub fflags : List (ℕ × ℕ)
fflags = (2, 100) ∷ (1, 99) ∷ (32, 115) ∷ (8, 109) ∷ (16, 110) ∷ (64, 103) ∷ (128, 108) ∷ (256, 114) ∷ (4096, 97) ∷ []

-- ---- the state of a file

-- what `:fstate` shows of the state of a file
abbrev pub fstate : ℕ → List ℕ
fstate n =
    if n == 0 then codes "normal"
    else if n == 1 then codes "replaced"
    else if n == 2 then codes "not installed"
    else if n == 3 then codes "net shared"
    else if n == 4 then codes "wrong color"
    else codes "(unknown)"

-- ---- the mode of a file, as `ls -l` prints it

-- the kind of the file: -, d, l, p, s, c, b or ?
abbrev pub kind_letter : ℕ → ℕ
kind_letter kind =
    if kind == 8 then 45
    else if kind == 4 then 100
    else if kind == 10 then 108
    else if kind == 1 then 112
    else if kind == 12 then 115
    else if kind == 2 then 99
    else if kind == 6 then 98
    else 63

-- a letter, or -
abbrev pub letter_if : Bool → ℕ → ℕ
letter_if set letter = if set then letter else 45

-- x or -, but where the special bit is set a letter that is small where x is set, and else its capital
abbrev pub third_letter : Bool → Bool → ℕ → ℕ
third_letter special x small = if special then (if x then small else small - 32) else letter_if x 120

-- the ten letters of a mode of sixteen bits
abbrev pub perms_of : ℕ → List ℕ
perms_of mode =
    kind_letter (mode / 4096)
    ∷ letter_if (has 256 mode) 114 ∷ letter_if (has 128 mode) 119 ∷ third_letter (has 2048 mode) (has 64 mode) 115
    ∷ letter_if (has 32 mode) 114 ∷ letter_if (has 16 mode) 119 ∷ third_letter (has 1024 mode) (has 8 mode) 115
    ∷ letter_if (has 4 mode) 114 ∷ letter_if (has 2 mode) 119 ∷ third_letter (has 512 mode) (has 1 mode) 116
    ∷ []

-- the low sixteen bits alone count
abbrev pub perms : ℕ → List ℕ
perms n = perms_of (n % 65536)

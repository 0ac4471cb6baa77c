-- The pieces that the code cuts.
use Rattle.std.specs.Prelude.{ℕ, List, Bool, ◌==◌}
use Rattle.rpm_select.specs.declared.piece.Piece.{Piece}
use Rattle.rpm_select.specs.declared.piece.Piece.TheVariants as piece
use Rattle.rpm_select.specs.declared.piece.Written.{Written}
use Rattle.rpm_select.specs.Glob as glob

-- the piece that one of the code stands for
abbrev pub piece_in : Piece → glob.Piece
piece_in piece.Star = glob.Star
piece_in piece.Question = glob.Question
piece_in (piece.Byte b) = glob.Byte b
piece_in (piece.Set turned members) = glob.Set turned members.now

-- A piece of a pattern as it is written, with its length.
abbrev pub written_in : Written → glob.Piece × ℕ
written_in w = (piece_in w.piece, w.size)

-- The pieces of a whole glob.
abbrev pub pieces : List ℕ → List glob.Piece
pieces pattern = glob.pieces_behind 0 pattern

-- A byte is a ].
abbrev pub is_close : ℕ → Bool
is_close b = b == 93

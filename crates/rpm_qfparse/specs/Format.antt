-- What a format is read as.
use Rattle.std.specs.Prelude.{◌≡◌, ℕ, zero, suc, ◌+◌, ◌-◌, List, [], ◌∷◌, length, Result, Ok, Err, Bool, true, false}
use Rattle.std.specs.Prelude.{nat_lt, if◌then◌else◌}
use Rattle.rpm_tags.specs.declared.tag.Tag.{Tag}
use Rattle.rpm_qfparse.specs.declared.fault.FormatKind.TheVariants.{TooLong}
use Rattle.rpm_qfparse.specs.declared.fault.FormatFault.{FormatFault}
use Rattle.rpm_qfparse.specs.declared.moves.Context.{Context}
use Rattle.rpm_qfparse.specs.declared.moves.Context.TheVariants as context
use Rattle.rpm_qfparse.specs.declared.tree.TagPart.{TagPart}
use Rattle.rpm_qfparse.specs.Tree.{Tree, End, Text, Tagged, Bracket, Condition}
use Rattle.rpm_qfparse.specs.Tag.{Faulty, Reading, ◌>>=◌}
use Rattle.rpm_qfparse.specs.Moves.{Move, Ends, Stops, Literal, Shows, Opens, Asks, move_of, second_follows, close}

-- a literal byte in front: a text is a maximal run of them
abbrev pub with_byte : ℕ → Tree → Tree
with_byte b (Text bytes rest) = Text (b ∷ bytes) rest
with_byte b tree = Text (b ∷ []) tree

-- a part in front of what is read
abbrev pub behind_part : (Tree → Tree) → Reading Tree → Reading Tree
behind_part part (Ok x) = Ok (part x.0, x.1)
behind_part part (Err e) = Err e

-- Gives c in_bracket depth s a: from s on the context c is read up to its end as a, a tree with the bytes after it or
-- the first fault. Branches in_bracket depth s a: so are the branches of a condition, after the first brace. By what s
-- begins with:
mutual
  pub data Gives : Context → Bool → ℕ → List ℕ → Reading Tree → Type 0 where
    -- the context ends here, with no further part
    ends : {c : Context} {ib : Bool} {d : ℕ} {s r : List ℕ}
        → move_of c ib d s ≡ Ends r
        → Gives c ib d s (Ok (End, r))
    stops : {c : Context} {ib : Bool} {d : ℕ} {s : List ℕ} {e : Faulty}
        → move_of c ib d s ≡ Stops e
        → Gives c ib d s (Err e)
    -- a byte or a tag stands in front of what follows it
    literal : {c : Context} {ib : Bool} {d : ℕ} {s : List ℕ} {b : ℕ} {t : List ℕ} {a : Reading Tree}
        → move_of c ib d s ≡ Literal b t → Gives c ib d t a
        → Gives c ib d s (behind_part (with_byte b) a)
    tag : {c : Context} {ib : Bool} {d : ℕ} {s : List ℕ} {p : TagPart} {t : List ℕ} {a : Reading Tree}
        → move_of c ib d s ≡ Shows p t → Gives c ib d t a
        → Gives c ib d s (behind_part (Tagged p) a)
    -- a bracket is read up to its own end, and what follows it in the context
    bracket : {c : Context} {ib : Bool} {d : ℕ} {s t : List ℕ} {inner : Tree} {u : List ℕ} {a : Reading Tree}
        → move_of c ib d s ≡ Opens t → Gives context.Bracket true d t (Ok (inner, u)) → Gives c ib d u a
        → Gives c ib d s (behind_part (Bracket inner) a)
    in_bracket : {c : Context} {ib : Bool} {d : ℕ} {s t : List ℕ} {e : Faulty}
        → move_of c ib d s ≡ Opens t → Gives context.Bracket true d t (Err e)
        → Gives c ib d s (Err e)
    -- and so is a condition
    condition : {c : Context} {ib : Bool} {d : ℕ} {s : List ℕ} {q : Tag} {t : List ℕ} {first second : Tree} {u : List ℕ}
        {a : Reading Tree}
        → move_of c ib d s ≡ Asks q t → Branches ib d t (Ok ((first, second), u)) → Gives c ib d u a
        → Gives c ib d s (behind_part (Condition q first second) a)
    in_condition : {c : Context} {ib : Bool} {d : ℕ} {s : List ℕ} {q : Tag} {t : List ℕ} {e : Faulty}
        → move_of c ib d s ≡ Asks q t → Branches ib d t (Err e)
        → Gives c ib d s (Err e)

  pub data Branches : Bool → ℕ → List ℕ → Reading (Tree × Tree) → Type 0 where
    one : {ib : Bool} {d : ℕ} {s : List ℕ} {first : Tree} {t u : List ℕ}
        → Gives context.Branch ib (d + 1) s (Ok (first, t)) → second_follows t ≡ Ok (false, u)
        → Branches ib d s (Ok ((first, End), u))
    two : {ib : Bool} {d : ℕ} {s : List ℕ} {first second : Tree} {t u v w : List ℕ}
        → Gives context.Branch ib (d + 1) s (Ok (first, t)) → second_follows t ≡ Ok (true, u)
        → Gives context.Branch ib (d + 1) u (Ok (second, v)) → close v ≡ Ok w
        → Branches ib d s (Ok ((first, second), w))
    -- a fault in the first branch, after it, in the second one, or after that
    in_first : {ib : Bool} {d : ℕ} {s : List ℕ} {e : Faulty}
        → Gives context.Branch ib (d + 1) s (Err e)
        → Branches ib d s (Err e)
    between : {ib : Bool} {d : ℕ} {s : List ℕ} {first : Tree} {t : List ℕ} {e : Faulty}
        → Gives context.Branch ib (d + 1) s (Ok (first, t)) → second_follows t ≡ Err e
        → Branches ib d s (Err e)
    in_second : {ib : Bool} {d : ℕ} {s : List ℕ} {first : Tree} {t u : List ℕ} {e : Faulty}
        → Gives context.Branch ib (d + 1) s (Ok (first, t)) → second_follows t ≡ Ok (true, u)
        → Gives context.Branch ib (d + 1) u (Err e)
        → Branches ib d s (Err e)
    behind_second : {ib : Bool} {d : ℕ} {s : List ℕ} {first second : Tree} {t u v : List ℕ} {e : Faulty}
        → Gives context.Branch ib (d + 1) s (Ok (first, t)) → second_follows t ≡ Ok (true, u)
        → Gives context.Branch ib (d + 1) u (Ok (second, v)) → close v ≡ Err e
        → Branches ib d s (Err e)

-- The two branches of a condition, read by a function that reads what stands further on.
abbrev pub branches_by : (Context → Bool → ℕ → List ℕ → Reading Tree) → Bool → ℕ → List ℕ → Reading (Tree × Tree)
branches_by read ib d s = do
  first ← read context.Branch ib (d + 1) s
  more ← second_follows first.1
  if more.0 then (do
    second ← read context.Branch ib (d + 1) more.1
    rest ← close second.1
    Ok ((first.0, second.0), rest))
      else Ok ((first.0, End), more.1)

-- what a context reads by what it begins with
abbrev pub next_step : (Context → Bool → ℕ → List ℕ → Reading Tree) → Context → Bool → ℕ → Move → Reading Tree
next_step read c ib d (Ends r) = Ok (End, r)
next_step read c ib d (Stops e) = Err e
next_step read c ib d (Literal b t) = behind_part (with_byte b) (read c ib d t)
next_step read c ib d (Shows p t) = behind_part (Tagged p) (read c ib d t)
next_step read c ib d (Opens t) = read context.Bracket true d t >>= λ x. behind_part (Bracket x.0) (read c ib d x.1)
next_step read c ib d (Asks q t) =
    branches_by read ib d t >>= λ x. behind_part (Condition q x.0.0 x.0.1) (read c ib d x.1)

-- what is read in at most so many steps: in none, nothing
unfoldable pub reading : ℕ → Context → Bool → ℕ → List ℕ → Reading Tree
reading zero c ib d s = Ok (End, s)
reading (suc n) c ib d s = next_step (reading n) c ib d (move_of c ib d s)

-- the tree of a text, or its first fault with the number of bytes in front of it
unfoldable pub format : List ℕ → Result Tree FormatFault
format text = if nat_lt 65536 (length text) then Err (record { kind = TooLong; at = 65536 })
    else (elim (reading (suc (length text)) context.Top false 0 text) [
      | Ok x ↦ Ok x.0
      | Err e ↦ Err (record { kind = e.0; at = length text - length e.1 })
    ])

-- Parts that are read, with what is read after them.
use Rattle.std.specs.Prelude.{◌≡◌, ℕ, ◌<◌, List, [], ◌∷◌, Result, Ok, Err, Bool, false}
use Rattle.std.specs.Borrow.{Bor}
use Rattle.rpm_qfparse.specs.declared.tree.Part.{Part}
use Rattle.rpm_qfparse.specs.declared.tree.Part.TheVariants as part
use Rattle.rpm_qfparse.specs.declared.fault.Stop.{Stop}
use Rattle.rpm_qfparse.specs.declared.fault.Stop.TheVariants as stop
use Rattle.rpm_qfparse.specs.declared.moves.Move.{Move}
use Rattle.rpm_qfparse.specs.declared.moves.Move.TheVariants as move
use Rattle.rpm_qfparse.specs.declared.draft.Draft.{Draft}
use Rattle.rpm_qfparse.specs.Tree.{Tree}
use Rattle.rpm_qfparse.specs.Shape.{onto}
use Rattle.rpm_qfparse.specs.Tag.{Reading}
use Rattle.rpm_qfparse.specs.inner.Bare.{bare_fault}
use Rattle.rpm_qfparse.specs.Format.{with_byte}
use Rattle.rpm_qfparse.specs.Law.{BeginsApart}

-- literal bytes in front of a tree
abbrev pub with_draft_text : List ℕ → Tree → Tree
with_draft_text [] rest = rest
with_draft_text (b ∷ bytes) rest = with_byte b (with_draft_text bytes rest)

-- a draft in front of a tree
abbrev pub in_front_of : Draft → Tree → Tree
in_front_of draft rest = onto draft.parts.items (with_draft_text draft.text.items rest)

abbrev pub in_front : Part → Tree → Tree
in_front p rest = onto (p ∷ []) rest

abbrev pub IsNoText : Part → Type 0
IsNoText (part.Text b) = ⊥
IsNoText _ = Unit {0}

-- a draft is the same with no literal bytes after its parts
pub record IsFlushed (old new : Draft) : Type 0 where
  pub text : new.text.items ≡ []
  pub same : (rest : Tree) → BeginsApart rest → in_front_of new rest ≡ in_front_of old rest

-- what a move allows
abbrev pub MayOpen : Bool → ℕ → Move → Type 0
MayOpen in_bracket depth (move.Opens t) = in_bracket ≡ false
MayOpen in_bracket depth (move.Asks q t) = depth < 16
MayOpen in_bracket depth _ = Unit {0}

-- what a function answers is as P says, unless memory ran out
abbrev pub FailsAs : {X : Type 0} → (Reading X → Type 0) → Stop → Type 0
FailsAs P stop.Memory = Unit {0}
FailsAs P (stop.Fault f) = P (Err (bare_fault f))

abbrev pub Meets : {X : Type 0} → (Reading X → Type 0) → Result (X × Bor (List ℕ)) Stop → Type 0
Meets P (Ok x) = P (Ok (x.0, x.1.now))
Meets P (Err e) = FailsAs P e

-- What a call keeps of a sink that it writes to, through a buffer, and of a shelf. What the buffer held before is let
-- go.
use Rattle.std.specs.Prelude.{◌≡◌, ◌≢◌, Result, Err, IfErr, IsTrue}
use Rattle.rpm_outside.specs.declared.shelf.Shelf as shelf
use Rattle.rpm_outside.specs.declared.sink.Sink as sink
use Rattle.rpm_outside.specs.declared.buffered.Buffered.{Buffered}
use Rattle.rpm_outside.specs.Buffered.{inner}
use Rattle.rpm_outside.specs.Causes.{HasCauseAt}
use Rattle.rpm_effects.specs.declared.tally.Halt.{Halt}
use Rattle.rpm_effects.specs.declared.tally.Halt.TheVariants as halt
use Rattle.rpm_effects.specs.declared.answer.Why.{Why}
use Rattle.rpm_effects.specs.declared.answer.Why.TheVariants as why
use Rattle.rpm_effects.specs.Classes.{IsOfPrint}

-- the sink goes on, and an answer that tells of a fault comes only where it counted one
pub record Hand {O : Type 0} (o : sink.Ghosts O) (fails : Type 0) (old new : Buffered O) : Type 0 where
  pub cause : HasCauseAt fails (o.faults (inner old)) (o.faults (inner new))
  pub goes_on : o.follows (inner old) (inner new)

-- the shelf has the paths that it had, and an answer that tells of a fault comes only where it counted one
pub record KeepsShelf {S : Type 0} (s : shelf.Ghosts S) (fails : Type 0) (old new : S) : Type 0 where
  pub paths : IsTrue s.tells → s.paths new ≡ s.paths old
  pub cause : HasCauseAt fails (s.faults old) (s.faults new)

-- what an answer blames on the shelf comes only where its count of faults rose
abbrev pub ShelfFault : {S : Type 0} → shelf.Ghosts S → Type 0 → S → S → Type 0
ShelfFault s what old new = HasCauseAt what (s.faults old) (s.faults new)

-- a call only wrote to out: nothing else halts it but want of memory
pub record PutsOut {O T : Type 0} (o : sink.Ghosts O) (result : Result T Halt) (old new : Buffered O) : Type 0 where
  pub class : IfErr result IsOfPrint
  pub no_read : result ≢ Err halt.DiskFault
  pub no_err : result ≢ Err halt.ErrFault
  pub out : Hand o (result ≡ Err halt.OutFault) old new

-- a call told something to err alone
pub record PutsErr {E T : Type 0} (e : sink.Ghosts E) (result : Result T Halt) (old new : Buffered E) : Type 0 where
  pub class : IfErr result IsOfPrint
  pub no_read : result ≢ Err halt.DiskFault
  pub no_out : result ≢ Err halt.OutFault
  pub err : Hand e (result ≡ Err halt.ErrFault) old new

-- what a call keeps of both
pub record Hands {O E : Type 0} (o : sink.Ghosts O) (e : sink.Ghosts E) (out_fails err_fails : Type 0)
    (out_old : Buffered O) (err_old : Buffered E)
    (out_new : Buffered O) (err_new : Buffered E) : Type 0 where
  pub out : Hand o out_fails out_old out_new
  pub err : Hand e err_fails err_old err_new

-- what a call keeps of both that may be halted
abbrev pub HaltHands : {O E T : Type 0} → sink.Ghosts O → sink.Ghosts E → Result T Halt → Buffered O → Buffered E
    → Buffered O → Buffered E → Type 0
HaltHands o e result = Hands o e (result ≡ Err halt.OutFault) (result ≡ Err halt.ErrFault)

-- what a command keeps of both, by its ending
abbrev pub EndHands : {O E : Type 0} → sink.Ghosts O → sink.Ghosts E → Why → Buffered O → Buffered E → Buffered O
    → Buffered E → Type 0
EndHands o e ending = Hands o e (ending ≡ why.OutFault) (ending ≡ why.ErrFault)

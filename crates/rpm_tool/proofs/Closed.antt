-- A run that ends, by the sinks as it hands them back.
use Rattle.std.proofs.Common.{◌≡◌, ◌≤◌, List, ℕ, Result, sym, ◌∙◌, subst}
use Rattle.std.proofs.Math.Nat.{le_trans}
use Rattle.rpm_outside.specs.declared.sink.Sink as sink
use Rattle.rpm_tool.proofs.Vocabulary.{Closes, ClosingEnding, HasCauseAt, Outputs, outs, Writes}
use Rattle.rpm_print.proofs.laws.Printing.{closes_of}

module _ {T F O E : Type 0} (o : sink.Ghosts O) (e : sink.Ghosts E) (line : List ℕ) (result : Result T F) (out out_new : O)
    (start mid late err err_new : E) (first : start ≡ err) (later : e.faults start ≤ e.faults mid) (closing : Writes e mid late line result)
    (out_is : out ≡ out_new) (err_is : late ≡ err_new) where
  -- the line that closes it
  closed : Closes line (outs o e out mid) (outs o e out_new err_new) (e.faults err) (e.faults err_new)
  closed =
      let before = outs o e out mid in
      let risen : e.faults err ≤ e.faults mid = subst (λ (x : E). e.faults x ≤ e.faults mid) first later in
      subst (λ (x : E). Closes line before (outs o e out_new x) (e.faults err) (e.faults x)) err_is
      (subst (λ (x : O). Closes line before (outs o e x late) (e.faults err) (e.faults late)) out_is
      (closes_of e (e.faults err) mid late line result o.tells (o.taken out) risen closing))

  -- where this was done before it
  pub ended : (Did : Outputs → Type 0) → Did (outs o e out mid) → ClosingEnding Did line (outs o e out_new err_new) (e.faults err) (e.faults err_new)
  ended Did did = record { mid = outs o e out mid; did = did; closes = closed }

-- a sink that is handed back as it was
pub handed : {O : Type 0} {out mid new : O} → mid ≡ out → mid ≡ new → new ≡ out
handed same is = sym is ∙ same

-- a fault that a sink counted
pub counted_fault : {O : Type 0} {P : Type 0} (s : sink.Ghosts O) (late : O) {start out mid new : O} → start ≡ out
    → HasCauseAt P (s.faults start) (s.faults mid) → s.faults mid ≤ s.faults late → late ≡ new → HasCauseAt P (s.faults out) (s.faults new)
counted_fault {P = P} s late {start = start} {new = new} first cause later last =
    subst (λ o. HasCauseAt P (s.faults o) (s.faults new)) first (subst (λ o. HasCauseAt P (s.faults start) (s.faults o)) last
    (record { later = le_trans cause.later later; rose = λ e. le_trans (cause.rose e) later }))

-- What is said of the packages that are printed.
use Rattle.std.proofs.Common.{◌≡◌, ℕ, Bool, true, false, not, ◌||◌, List, ◌∷◌, Result, Ok, Err, refl, sym, ap, ◌∙◌}
use Rattle.std.specs.List.{list_any}
use Rattle.rpm_effects.specs.Steps.{Bearer, bearer, is_out, Step, bearer_of}
use Rattle.rpm_db.specs.State.{Bad, Good, Package, header_or}
use Rattle.rpm_header.specs.Header.{Header, header}
use Rattle.rpm_header.specs.declared.form.HeaderFault.{HeaderFault}
use Rattle.rpm_select.specs.Picks.{entry_in, number_in}
use Rattle.rpm_print.specs.Printed.{bad_step, printed_step, step_by, step_of}
use Rattle.rpm_effects.proofs.laws.Parts.{is_bad}
use Rattle.rpm_command.specs.declared.reading.Request.{Request}
use Rattle.rpm_qfeval.specs.Meaning.{meaning}
use Rattle.rpm_qfparse.specs.Tree.{Tree}
use Rattle.rpm_select.specs.declared.picked.Picked.{Picked}
use Rattle.rpm_command.specs.declared.reading.Request.TheVariants as request
use Rattle.rpm_select.specs.declared.picked.Picked.TheVariants as pick

-- a header in the format that was asked, or the line that reports it
abbrev pub header_step : Tree → ℕ → ℕ → Result Header HeaderFault → Step
header_step tree j n r = header_or (λ h. printed_step (bearer j n) (meaning h n tree)) r (bad_step j n)

bearer-printed : (for : Bearer) (what : Result (List ℕ) (ℕ × ℕ)) → bearer_of (printed_step for what) ≡ for
bearer-printed for (Ok bytes) = refl
bearer-printed for (Err counts) = refl

bearer-header_step : (tree : Tree) (j n : ℕ) (r : Result Header HeaderFault)
    → bearer_of (header_step tree j n r) ≡ bearer j n
bearer-header_step tree j n (Ok h) = bearer-printed (bearer j n) (meaning h n tree)
bearer-header_step tree j n (Err fault) = refl

-- a step is for its package
pub bearer-step_of : (tree : Tree) (j : ℕ) (e : ℕ × Package) → bearer_of (step_of tree j e) ≡ bearer j e.0
bearer-step_of tree j (n, Good bytes) = bearer-header_step tree j n (header bytes)
bearer-step_of tree j (n, Bad) = refl

pub bearer-step_by : (d : Request) (tree : Tree) (j : ℕ) (e : ℕ × Package)
    → bearer_of (step_by d tree j e) ≡ bearer j e.0
bearer-step_by request.Export tree j (n, Good bytes) = refl
bearer-step_by request.Export tree j (n, Bad) = refl
bearer-step_by others tree j e = bearer-step_of tree j e

pub number-entry : (p : Picked) → (entry_in p).0 ≡ number_in p
number-entry (pick.Good number blob) = refl
number-entry (pick.Bad number) = refl

-- one more of the packages that an argument fails for
pub fails_more : (fails to_out : Bool) (s : Step) (rest : List Step) (all : Bool) → is_out s ≡ to_out
    → all ≡ (fails || list_any is_bad (s ∷ rest))
    → all ≡ ((fails || not to_out) || list_any is_bad rest)
fails_more true to_out s rest all side is = is
fails_more false to_out s rest all side is = is ∙ ap (λ (b : Bool). not b || list_any is_bad rest) side

pub some_more : (some all : Bool) → all ≡ (some || true) → all ≡ true
some_more true all is = is
some_more false all is = is

pub none_more : (b all : Bool) → all ≡ (b || false) → b ≡ all
none_more true all is = sym is
none_more false all is = sym is

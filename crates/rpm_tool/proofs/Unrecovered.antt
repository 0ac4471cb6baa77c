-- What the log says of a database: it is gone through, or what is said where it can't be recovered.
use Rattle.std.proofs.Common.{◌≡◌, ℕ, Bool, true, false, List, [], Result, Ok, Err, refl, sym, subst}
use Rattle.rpm_tool.proofs.Vocabulary.{AskParts, BadIs, Damage, StoreAnswerBy, Files, IndexFullIs, is_done, is_done_or_outside, is_foreign}
use Rattle.rpm_tool.proofs.Vocabulary.{is_of_streams, IsSound, LogAnswer, LogState}
use Rattle.rpm_tool.proofs.Vocabulary.{StoreAnswer, Outputs, RecoverFault, RecoverSays, Store, Through, Why, why_of_recover}
use Rattle.rpm_group.specs.declared.recovery.RecoverFault.TheVariants as recover
use Rattle.rpm_effects.specs.declared.answer.Why.TheVariants as why
use Rattle.rpm_tool.proofs.Loading.{loaded_fault}

module _ (Do : StoreAnswerBy) (s : Result Store Damage) where
  pub loaded_by : (log : LogState) (finished : Bool) (given : Why) (old new : Outputs) → RecoverSays log (Ok finished) → StoreAnswer Do s given old new
      → LogAnswer Do s log given old new
  loaded_by log true given old new says opened = subst (λ (l : LogState). LogAnswer Do s l given old new) (sym says) opened
  loaded_by log false given old new says opened = subst (λ (l : LogState). LogAnswer Do s l given old new) (sym says) opened

  pub unrecovered : (x : Outputs) → Through [] x x → ((t : Store) → Do t why.DiskFault x x) → (log : LogState) (fault : RecoverFault)
      → RecoverSays log (Err fault) → LogAnswer Do s log (why_of_recover fault) x x
  unrecovered x none does log (recover.BadLog unit) says = subst (λ (l : LogState). LogAnswer Do s l (why.BadLog unit) x x) (sym says) (refl, none)
  unrecovered x none does log recover.DiskFault says = loaded_fault Do s x none does log

-- what else is said where it isn't recovered
pub unrecovered_full : (files : Files) (fault : RecoverFault) → IndexFullIs files (why_of_recover fault)
unrecovered_full files (recover.BadLog unit) = tt
unrecovered_full files recover.DiskFault = tt

pub unrecovered_kind : (fault : RecoverFault) → is_foreign (why_of_recover fault) ≡ false
unrecovered_kind (recover.BadLog unit) = refl
unrecovered_kind recover.DiskFault = refl

pub unrecovered_streams : (fault : RecoverFault) → is_of_streams (why_of_recover fault) ≡ false
unrecovered_streams (recover.BadLog unit) = refl
unrecovered_streams recover.DiskFault = refl

pub unrecovered_bad : (words : List (List ℕ)) (a : AskParts) (files : Files) (fault : RecoverFault) → BadIs words a files (why_of_recover fault)
unrecovered_bad words a files (recover.BadLog unit) = tt
unrecovered_bad words a files recover.DiskFault = tt

pub unrecovered_complete : (log : LogState) (fault : RecoverFault) → RecoverSays log (Err fault) → IsSound log
    → is_done_or_outside (why_of_recover fault) ≡ true
unrecovered_complete log (recover.BadLog unit) says sound = absurd (subst IsSound says sound)
unrecovered_complete log recover.DiskFault says sound = refl

pub unrecovered_undone : (fault : RecoverFault) → is_done (why_of_recover fault) ≡ true → ⊥
unrecovered_undone (recover.BadLog unit) done = absurd cc
unrecovered_undone recover.DiskFault done = absurd cc

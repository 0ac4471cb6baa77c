-- One command line more: what the database represents after it, given what it represented before.
use Rattle.std.proofs.Common.{◌≡◌, ◌⊎◌, ℕ, ◌≤◌, Bool, false, refl, sym, ap, subst, inl, inr, ⊎_elim, arith, true}
use Rattle.rpm_history.proofs.Vocabulary.{after, AllRowsFit, AllStand, apply_all, AreLawfulDatabases, ChangesWith, Course, Files, HasState, idle, images, is_done}
use Rattle.rpm_history.proofs.Vocabulary.{is_done_or_fault, leaves_weaker, CrashLeaves, Moves, reopened_files, RowsFit, Run, Says, RepresentsState, IsLawfulAndSame, IsLawfulAndSameOr}
use Rattle.rpm_history.proofs.Vocabulary.{State, state, store, Units, Why}
use Rattle.rpm_commit.proofs.laws.Brokens.{by_bool}
use Rattle.rpm_commit.proofs.laws.Recovered.{still_fits}
use Rattle.rpm_commit.proofs.laws.Standing.{if_ok_at}
use Rattle.rpm_outside.specs.declared.disk.Disk as disk
use Rattle.rpm_effects.specs.declared.answer.Why.TheVariants as why

-- made, or made where the disk failed; left as it was, unless it was done; and nothing else
pub moves_are : (w : Why) (s made : State) → (is_done w ≡ true → Moves w made s made) × (is_done_or_fault w ≡ true → Moves w made s made)
    × (is_done w ≡ false → Moves w made s s) × ((t : State) → Moves w made s t → (t ≡ s) ⊎ (t ≡ made))
moves_are why.Done s made = (λ is. refl, λ is. refl, λ is. absurd cc, λ t is. inr is)
moves_are (why.Failed n) s made = (λ is. refl, λ is. refl, λ is. absurd cc, λ t is. inr is)
moves_are why.DiskFault s made = (λ is. absurd cc, λ is. inr refl, λ is. inl refl, λ t is. is)
moves_are others s made = (λ is. absurd cc, λ is. absurd cc, λ is. refl, λ t is. inl is)

-- nothing to make
pub moves_idle : (w : Why) (s : State) → Moves w s s s
moves_idle w s = by_bool (is_done w) (moves_are w s s).0 (moves_are w s s).2

-- ---- what images represent

pub says_weaker : (P Q : State → Type 0) (pkg : Units) → ((s : State) → P s → Q s) → Says P pkg → Says Q pkg
says_weaker P Q pkg weaker says = record { value = says.value; undamaged = says.undamaged; is = weaker (state pkg says.value) says.is }

pub stands_weaker : (P Q : State → Type 0) (image : Files) → ((s : State) → P s → Q s) → RepresentsState P image → RepresentsState Q image
stands_weaker P Q image weaker stands = record { lawful = stands.lawful; says = says_weaker P Q (reopened_files image).pkg weaker stands.says }

-- an image that keeps its packages represents a state of before
still_stands : (P : State → Type 0) (images : Files → Type 0) (image : Files) → AllStand P images → IsLawfulAndSame images image → RepresentsState P image
still_stands P images image all still = record {
  lawful = still.lawful;
  says = subst (λ (pkg : Units). Says P pkg) (sym still.pkg) (all still.from still.was).says;
}

-- ---- what a line did

-- nothing: the packages stay, whatever stops it
pub record Stood {D : Type 0} (d : disk.Ghosts D) (course : State → Course) (old new : D) : Type 0 where
  pub nothing : (s : State) → course s ≡ idle
  pub pkg : (reopened_files (d.files new)).pkg ≡ (reopened_files (d.files old)).pkg
  pub crashes : AreLawfulDatabases (images d old) → CrashLeaves d old new (IsLawfulAndSame (images d old))

-- or its course changed them
abbrev pub LineDoes : {D : Type 0} {d : disk.Ghosts D} → Run d → (State → Course) → Type 0
LineDoes {d = d} r course = Stood d course r.found r.left ⊎ ((anew changing : Bool) × ChangesWith r anew changing course)

pub moves_nothing : (course : State → Course) → ((s : State) → course s ≡ idle) → (given : Why) (s : State) → Moves given (after course s) s s
moves_nothing course nothing given s =
    subst (λ (u : State). Moves given u s s) (sym (ap (λ (c : Course). apply_all c.changes s) (nothing s))) (moves_idle given s)

-- the states after it, from one of these
abbrev pub Next : (State → Course) → Why → (State → Type 0) → State → Type 0
Next course given P t = (m : State) × P m × Moves given (after course m) m t

-- and those that a crash within it leaves
abbrev pub Cut : (State → Course) → Why → (State → Type 0) → State → Type 0
Cut course given P t = (m : State) × P m × ((t ≡ m) ⊎ Moves given (after course m) m t)

module _ {D : Type 0} {d : disk.Ghosts D} (r : Run d) (course : State → Course) (P : State → Type 0)
    (all : AllStand P (images d r.found)) (here : images d r.found (d.files r.found)) where
  abbrev given : Why
  given = r.why

  abbrev old : D
  old = r.found

  abbrev new : D
  new = r.left

  abbrev past : Files → Type 0
  past = images d old

  abbrev Behind : Files → Type 0
  Behind = RepresentsState (Next course given P)

  lawful : AreLawfulDatabases past
  lawful image is = (all image is).lawful

  same_next : ((t : State) → Moves given (after course t) t t) → (image : Files) → IsLawfulAndSame past image → Behind image
  same_next moves image still = stands_weaker P (Next course given P) image (λ t p. (t, p, moves t)) (still_stands P past image all still)

  same_cut : (image : Files) → IsLawfulAndSame past image → RepresentsState (Cut course given P) image
  same_cut image still = stands_weaker P (Cut course given P) image (λ t p. (t, p, inl refl)) (still_stands P past image all still)

  -- ---- a command that changes packages

  module _ (anew changing : Bool) (did : ChangesWith r anew changing course) where
    first : Says P (reopened_files (d.files old)).pkg
    first = (all (d.files old) here).says

    abbrev s0 : State
    s0 = state (reopened_files (d.files old)).pkg first.value

    crashes : CrashLeaves d old new (IsLawfulAndSameOr past (after course s0))
    crashes = if_ok_at _ (store (reopened_files (d.files old)).pkg) first.value first.undamaged (did.crashes lawful)

    made_next : (image : Files) → HasState (after course s0) image → Moves given (after course s0) s0 (after course s0)
        → Says (Next course given P) (reopened_files image).pkg
    made_next image has moves = record {
      value = has.value;
      undamaged = has.undamaged;
      is = (s0, first.is, subst (λ (t : State). Moves given (after course s0) s0 t) (sym has.is) moves);
    }

    changed_next : (image : Files) → d.left_since new (d.moment old) image → images d new image → Behind image
    changed_next image since left = by_bool (is_done given)
        (λ done. record {
          lawful = ⊎_elim (λ still. still.lawful) (λ both. both.0) (crashes.each image since);
          says = made_next image (if_ok_at _ (store (reopened_files (d.files old)).pkg) first.value first.undamaged (did.held done) image left)
              ((moves_are given s0 (after course s0)).0 done);
        })
        (λ undone. by_bool (is_done_or_fault given)
        (λ may. ⊎_elim (same_next (λ t. (moves_are given t (after course t)).2 undone) image)
        (λ both. record { lawful = both.0; says = made_next image both.1 ((moves_are given s0 (after course s0)).1 may) })
        (crashes.each image since))
        (λ refused. same_next (λ t. (moves_are given t (after course t)).2 undone) image ((did.unmade refused lawful).each image since)))

    changed_cut : Moves given (after course s0) s0 (after course s0) → (image : Files) → IsLawfulAndSameOr past (after course s0) image
        → RepresentsState (Cut course given P) image
    changed_cut moves image = ⊎_elim (same_cut image) (λ both. record {
      lawful = both.0;
      says = record {
        value = both.1.value;
        undamaged = both.1.undamaged;
        is = (s0, first.is, inr (subst (λ (t : State). Moves given (after course s0) s0 t) (sym both.1.is) moves));
      };
    })

    changed_cuts : CrashLeaves d old new (RepresentsState (Cut course given P))
    changed_cuts = by_bool (is_done_or_fault given)
        (λ may. leaves_weaker d old new (IsLawfulAndSameOr past (after course s0)) (RepresentsState (Cut course given P))
        (changed_cut ((moves_are given s0 (after course s0)).1 may)) crashes)
        (λ refused. leaves_weaker d old new (IsLawfulAndSame past) (RepresentsState (Cut course given P)) same_cut (did.unmade refused lawful))

  -- ---- any

  pub cut_stands : LineDoes r course → CrashLeaves d old new (RepresentsState (Cut course given P))
  cut_stands (inl stood) = leaves_weaker d old new (IsLawfulAndSame past) (RepresentsState (Cut course given P)) same_cut (stood.crashes lawful)
  cut_stands (inr (anew, changing, did)) = changed_cuts anew changing did

  next_stands : LineDoes r course → (image : Files) → d.left_since new (d.moment old) image → images d new image → Behind image
  next_stands (inl stood) image since left = same_next (moves_nothing course stood.nothing given) image ((stood.crashes lawful).each image since)
  next_stands (inr (anew, changing, did)) image since left = changed_next anew changing did image since left

  pub next_all : ((s t : ℕ) (image : Files) → s ≤ t → t ≤ d.moment new → d.left_since new t image → d.left_since new s image)
      → LineDoes r course → AllStand (Next course given P) (images d new)
  next_all earlier does image left =
      next_stands does image (earlier (d.moment old) (d.moment new) image (cut_stands does).later (omega arith) left) left

  -- the rows fit after it, whatever stops it
  pub line_fits : LineDoes r course → AllRowsFit past → CrashLeaves d old new RowsFit
  line_fits (inl stood) fit = leaves_weaker d old new (IsLawfulAndSame past) RowsFit (still_fits past fit) (stood.crashes lawful)
  line_fits (inr (anew, changing, did)) fit = did.fits lawful fit

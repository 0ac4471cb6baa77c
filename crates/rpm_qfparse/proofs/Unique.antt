-- Each text is read as one tree or one fault.
use Rattle.std.proofs.Common.{◌≡◌, ℕ, zero, suc, ◌+◌, ◌<◌, ◌≤◌, List, length, Bool, true, false, Result, Ok, Err, refl, ◌∙◌, ap, arith, subst, if◌then◌else◌}
use Rattle.rpm_qfparse.proofs.Vocabulary.{Asks, behind_part, behind_second, between, Bracket, bracket, Branches, branches_by, close, Condition, condition, Context}
use Rattle.rpm_qfparse.proofs.Vocabulary.{Ends, ends, Faulty, Gives, in_bracket, in_condition, in_first, in_second, Literal, literal, Move, move_of, one}
use Rattle.rpm_qfparse.proofs.Vocabulary.{Opens, Reading, reading, second_follows, Shows, next_step, Stops, stops, tag, Tagged, Tree, two, with_byte, ◌>>=◌}
use Rattle.rpm_qfparse.specs.declared.moves.Context.TheVariants as context
use Rattle.rpm_qfparse.proofs.Shrinks.{second_within, close_within}
use Rattle.rpm_qfparse.proofs.Within.{Within, RestWithin, wider}
use Rattle.rpm_qfparse.proofs.Smaller.{Smaller, move_smaller}

pub moved : (c : Context) (ib : Bool) (d : ℕ) (s : List ℕ) (m : Move) → move_of c ib d s ≡ m → Smaller (length s) m
moved c ib d s m e = let P : Move → Type 0 = Smaller (length s) in subst P e (move_smaller c ib d s)

behind_within : (n : ℕ) (f : Tree → Tree) (a : Reading Tree) → Within n a → Within n (behind_part f a)
behind_within n f (Ok x) h = h
behind_within n f (Err e) h = h

second_ok : (s : List ℕ) (a : Reading Bool) → second_follows s ≡ a → Within (length s) a
second_ok s a e = let P : Reading Bool → Type 0 = Within (length s) in subst P e (second_within s)

close_ok : (s : List ℕ) (a : Result (List ℕ) Faulty) → close s ≡ a → RestWithin (length s) a
close_ok s a e = let P : Result (List ℕ) Faulty → Type 0 = RestWithin (length s) in subst P e (close_within s)

-- what is left is no longer
mutual
  pub left : {c : Context} {ib : Bool} {d : ℕ} {s : List ℕ} {a : Reading Tree} → Gives c ib d s a → Within (length s) a
  left (ends e) = moved _ _ _ _ _ e
  left (stops e) = moved _ _ _ _ _ e
  left (literal {t = t} {a = a} e g) = let h : length t < _ = moved _ _ _ _ _ e in behind_within _ _ a (wider (length t) _ a (omega arith) (left g))
  left (tag {t = t} {a = a} e g) = let h : length t < _ = moved _ _ _ _ _ e in behind_within _ _ a (wider (length t) _ a (omega arith) (left g))
  left (bracket {t = t} {u = u} {a = a} e g h) =
      let k : length t < _ = moved _ _ _ _ _ e in
      let l : length u ≤ length t = left g in
      behind_within _ _ a (wider (length u) _ a (omega arith) (left h))
  left (in_bracket {t = t} {e = x} e g) = let k : length t < _ = moved _ _ _ _ _ e in let l : length x.1 ≤ length t = left g in omega arith
  left (condition {t = t} {u = u} {a = a} e g h) =
      let k : length t < _ = moved _ _ _ _ _ e in
      let l : length u ≤ length t = left_of g in
      behind_within _ _ a (wider (length u) _ a (omega arith) (left h))
  left (in_condition {t = t} {e = x} e g) = let k : length t < _ = moved _ _ _ _ _ e in let l : length x.1 ≤ length t = left_of g in omega arith

  pub left_of : {ib : Bool} {d : ℕ} {s : List ℕ} {a : Reading (Tree × Tree)} → Branches ib d s a → Within (length s) a
  left_of (one {t = t} {u = u} g e) = let k : length t ≤ _ = left g in let l : length u ≤ length t = second_ok t _ e in omega arith
  left_of (two {t = t} {u = u} {v = v} {w = w} g e h f) =
      let k : length t ≤ _ = left g in let l : length u ≤ length t = second_ok t _ e in
      let m : length v ≤ length u = left h in let n : length w ≤ length v = close_ok v _ f in omega arith
  left_of (in_first g) = left g
  left_of (between {t = t} {e = x} g e) = let k : length t ≤ _ = left g in let l : length x.1 ≤ length t = second_ok t _ e in omega arith
  left_of (in_second {t = t} {u = u} {e = x} g e h) =
      let k : length t ≤ _ = left g in let l : length u ≤ length t = second_ok t _ e in let m : length x.1 ≤ length u = left h in omega arith
  left_of (behind_second {t = t} {u = u} {v = v} {e = x} g e h f) =
      let k : length t ≤ _ = left g in let l : length u ≤ length t = second_ok t _ e in
      let m : length v ≤ length u = left h in let n : length x.1 ≤ length v = close_ok v _ f in omega arith

-- what the rules give, the function reads
mutual
  unfolding reading

  pub only : {c : Context} {ib : Bool} {d : ℕ} {s : List ℕ} {a : Reading Tree} → Gives c ib d s a → (n : ℕ) → length s < n → reading n c ib d s ≡ a
  only g zero lt = absurd (omega arith)
  only (ends {c = c} {ib = ib} {d = d} e) (suc n) lt = ap (next_step (reading n) c ib d) e
  only (stops {c = c} {ib = ib} {d = d} e) (suc n) lt = ap (next_step (reading n) c ib d) e
  only (literal {c = c} {ib = ib} {d = d} {b = b} {t = t} e g) (suc n) lt =
      let k : length t < _ = moved _ _ _ _ _ e in
      ap (next_step (reading n) c ib d) e ∙ ap (behind_part (with_byte b)) (only g n (omega arith))
  only (tag {c = c} {ib = ib} {d = d} {p = p} {t = t} e g) (suc n) lt =
      let k : length t < _ = moved _ _ _ _ _ e in
      ap (next_step (reading n) c ib d) e ∙ ap (behind_part (Tagged p)) (only g n (omega arith))
  only (bracket {c = c} {ib = ib} {d = d} {t = t} {inner = inner} {u = u} e g h) (suc n) lt =
      let k : length t < _ = moved _ _ _ _ _ e in
      let l : length u ≤ length t = left g in
      ap (next_step (reading n) c ib d) e ∙ rw (only g n (omega arith)) (ap (behind_part (Bracket inner)) (only h n (omega arith)))
  only (in_bracket {c = c} {ib = ib} {d = d} {t = t} e g) (suc n) lt =
      let k : length t < _ = moved _ _ _ _ _ e in
      ap (next_step (reading n) c ib d) e ∙ rw (only g n (omega arith)) refl
  only (condition {c = c} {ib = ib} {d = d} {q = q} {t = t} {first = first} {second = second} {u = u} e g h) (suc n) lt =
      let k : length t < _ = moved _ _ _ _ _ e in
      let l : length u ≤ length t = left_of g in
      ap (next_step (reading n) c ib d) e ∙ ap (λ x. x >>= λ x. behind_part (Condition q x.0.0 x.0.1) (reading n c ib d x.1)) (only_of g n (omega arith))
      ∙ ap (behind_part (Condition q first second)) (only h n (omega arith))
  only (in_condition {c = c} {ib = ib} {d = d} {q = q} {t = t} e g) (suc n) lt =
      let k : length t < _ = moved _ _ _ _ _ e in
      ap (next_step (reading n) c ib d) e ∙ ap (λ x. x >>= λ x. behind_part (Condition q x.0.0 x.0.1) (reading n c ib d x.1)) (only_of g n (omega arith))

  pub only_of : {ib : Bool} {d : ℕ} {s : List ℕ} {a : Reading (Tree × Tree)} → Branches ib d s a → (n : ℕ) → length s < n → branches_by (reading n) ib d s ≡ a
  only_of (one {t = t} g e) n lt = rw (only g n lt, e) refl
  only_of (two {t = t} {u = u} g e h f) n lt =
      let k : length t ≤ _ = left g in let l : length u ≤ length t = second_ok t _ e in
      rw (only g n lt, e, only h n (omega arith), f) refl
  only_of (in_first g) n lt = rw (only g n lt) refl
  only_of (between g e) n lt = rw (only g n lt, e) refl
  only_of (in_second {t = t} {u = u} g e h) n lt =
      let k : length t ≤ _ = left g in let l : length u ≤ length t = second_ok t _ e in
      rw (only g n lt, e, only h n (omega arith)) refl
  only_of (behind_second {t = t} {u = u} g e h f) n lt =
      let k : length t ≤ _ = left g in let l : length u ≤ length t = second_ok t _ e in
      rw (only g n lt, e, only h n (omega arith), f) refl

bind_cases : {A B : Type 0} (x : Result A Faulty) (f : A → Result B Faulty) (P : Result B Faulty → Type 0) → ((e : Faulty) → x ≡ Err e → P (Err e))
    → ((a : A) → x ≡ Ok a → P (f a)) → P (x >>= f)
bind_cases (Ok a) f P h g = g a refl
bind_cases (Err e) f P h g = h e refl

if_cases : {A : Type 0} (v : Bool) (x y : A) (P : A → Type 0) → (v ≡ true → P x) → (v ≡ false → P y) → P (if v then x else y)
if_cases true x y P h g = h refl
if_cases false x y P h g = g refl

-- what the function reads, the rules give
module _ (n : ℕ) (sound_n : (c : Context) (ib : Bool) (d : ℕ) (s : List ℕ) → length s < n → Gives c ib d s (reading n c ib d s)) where
  same_gives : (c : Context) (ib : Bool) (d : ℕ) (s : List ℕ) (a : Reading Tree) → length s < n → reading n c ib d s ≡ a → Gives c ib d s a
  same_gives c ib d s a lt e = subst (Gives c ib d s) e (sound_n c ib d s lt)

  sound_of : (ib : Bool) (d : ℕ) (s : List ℕ) → length s < n → Branches ib d s (branches_by (reading n) ib d s)
  sound_of ib d s lt =
      bind_cases (reading n context.Branch ib (d + 1) s) _ (Branches ib d s) (λ e h. in_first (same_gives _ _ _ _ _ lt h)) (λ first h.
      let g : Gives context.Branch ib (d + 1) s (Ok (first.0, first.1)) = same_gives _ _ _ _ _ lt h in
      let k : length first.1 ≤ length s = left g in
      bind_cases (second_follows first.1) _ (Branches ib d s) (λ e f. between g f) (λ more f.
      let l : length more.1 ≤ length first.1 = second_ok first.1 (Ok more) f in
      if_cases more.0 _ _ (Branches ib d s)
      (λ v. let f' : second_follows first.1 ≡ Ok (true, more.1) = f ∙ ap (λ w. Ok (w, more.1)) v in
      bind_cases (reading n context.Branch ib (d + 1) more.1) _ (Branches ib d s) (λ e h'. in_second g f' (same_gives _ _ _ _ _ (omega arith) h')) (λ second h'.
      let g' : Gives context.Branch ib (d + 1) more.1 (Ok (second.0, second.1)) = same_gives _ _ _ _ _ (omega arith) h' in
      bind_cases (close second.1) _ (Branches ib d s) (λ e f''. behind_second g f' g' f'') (λ r f''. two g f' g' f'')))
      (λ v. one g (f ∙ ap (λ w. Ok (w, more.1)) v))))

  sound_by : (c : Context) (ib : Bool) (d : ℕ) (s : List ℕ) (m : Move) → length s ≤ n → move_of c ib d s ≡ m → Smaller (length s) m → Gives c ib d s
      (next_step (reading n) c ib d m)
  sound_by c ib d s (Ends r) lt e k = ends e
  sound_by c ib d s (Stops x) lt e k = stops e
  sound_by c ib d s (Literal b t) lt e k = literal e (sound_n c ib d t (omega arith))
  sound_by c ib d s (Shows p t) lt e k = tag e (sound_n c ib d t (omega arith))
  sound_by c ib d s (Opens t) lt e k =
      bind_cases (reading n context.Bracket true d t) _ (Gives c ib d s) (λ x h. in_bracket e (same_gives _ _ _ _ _ (omega arith) h)) (λ x h.
      let g : Gives context.Bracket true d t (Ok (x.0, x.1)) = same_gives _ _ _ _ _ (omega arith) h in
      let l : length x.1 ≤ length t = left g in
      bracket e g (sound_n c ib d x.1 (omega arith)))
  sound_by c ib d s (Asks q t) lt e k =
      bind_cases (branches_by (reading n) ib d t) _ (Gives c ib d s) (λ x h. in_condition e (subst (Branches ib d t) h (sound_of ib d t (omega arith)))) (λ x h.
      let g : Branches ib d t (Ok ((x.0.0, x.0.1), x.1)) = subst (Branches ib d t) h (sound_of ib d t (omega arith)) in
      let l : length x.1 ≤ length t = left_of g in
      condition e g (sound_n c ib d x.1 (omega arith)))

pub sound : (n : ℕ) (c : Context) (ib : Bool) (d : ℕ) (s : List ℕ) → length s < n → Gives c ib d s (reading n c ib d s)
unfolding reading
sound zero c ib d s lt = absurd (omega arith)
sound (suc n) c ib d s lt = sound_by n (sound n) c ib d s (move_of c ib d s) (omega arith) refl (move_smaller c ib d s)

use Rattle.std.proofs.Common.{◌≡◌, ℕ, ◌+◌, ◌/◌, ◌∷◌, [], List, length, take, max, refl, ap, sym, subst, ◌∙◌, arith, inl, rules}
use Rattle.rpm_hindex.proofs.Vocabulary.{blank, changes_between, Idx, KeepsIndexValue, with_units, put_inside, IndexState, SameSeal, unit_at, Units, units_of, VoidOrSame}
use Rattle.rpm_hindex.proofs.Seals.{image_kept}
use Rattle.rpm_hindex.proofs.index.Hindex.replace.Goals as goal

-- a file whose unit 0 was made zeros
zeros : (old new image : Units) → new ≡ with_units 0 (blank ∷ []) old → image ≡ new → unit_at image 0 ≡ blank
zeros old new image is same = ap (λ (u : Units). unit_at u 0) (same ∙ is) ∙ put_inside 0 (blank ∷ []) old 0 (omega arith)

pub returns-in_err-write_image-clause-writes : goal.returns-in_err-write_image-clause-writes
returns-in_err-write_image-clause-writes g c = record {
  changes =
      let left = c.in_ok-void.ensures.left in
      changes_between _ Idx g.met.D.Disk.follows_trans VoidOrSame SameSeal VoidOrSame (λ (u : Units). unit_at u 0 ≡ blank) 0 0 0
      _ _ _ (omega arith) (λ a b p. p) (λ x y z p m q. inl (q ∙ m))
      (λ told. zeros _ _ _ (left.written told) refl) (λ told image lies. zeros _ _ image.idx (left.written told) (left.durable told image lies))
      c.in_ok-void.ensures.writes.changes c.in_err-write_image.ensures.writes.changes;
  cause = search rules;
}

pub returns-clause-writes : goal.returns-clause-writes
returns-clause-writes g c = record {
  changes =
      let left = c.in_ok-void.ensures.left in
      changes_between _ Idx g.met.D.Disk.follows_trans VoidOrSame SameSeal VoidOrSame (λ (u : Units). unit_at u 0 ≡ blank) 0 0 0
      _ _ _ (omega arith) (λ a b p. p) (λ x y z p m q. inl (q ∙ m))
      (λ told. zeros _ _ _ (left.written told) refl) (λ told image lies. zeros _ _ image.idx (left.written told) (left.durable told image lies))
      c.in_ok-void.ensures.writes.changes c.in_ok-write_image.ensures.writes.changes;
  cause = search rules;
}

abbrev made : List ℕ → List ℕ → ℕ → ℕ → IndexState
made first second units pending = record { first = first; second = second; units = units; pending = pending }

same : (f g s t : List ℕ) (u v p : ℕ) → f ≡ g → s ≡ t → u ≡ v → made f s u p ≡ made g t v p
same f g s t u v p a b c = ap (λ (x : List ℕ). made x s u p) a ∙ ap (λ (x : List ℕ). made g x u p) b ∙ ap (λ (x : ℕ). made g t x p) c

pub returns-clause-left : goal.returns-clause-left
returns-clause-left g c =
    let bytes = c.args.image.bytes.items in
    let n = 1 + length bytes / 16 in
    let was = c.void.new.self in
    let left = c.in_ok-void.ensures.left in
    let first = ap (λ (t : IndexState). t.first) c.self.view_is in
    let second = c.first_unit-second.ensures ∙ ap (take 16) c.deref.ensures.value in
    let size : 1 + c.len.result / 16 ≡ n = omega (arith, c.len.ensures, c.args.image.bytes.ok.0) in
    let units = c.max-self-inside.ensures ∙ ap (λ (k : ℕ). max k (1 + c.len.result / 16)) (ap (λ (t : IndexState). t.units) c.self.view_is)
    ∙ ap (max was.units) size in
    let wrote = c.in_ok-write_image.ensures.written in
    record {
      written = λ told. wrote told ∙ ap (λ (f : Units). with_units 1 (units_of bytes) f) (left.written told);
      durable = c.in_ok-write_image.ensures.durable;
      kept = λ told. subst (KeepsIndexValue (g.D.Disk.files c.write_image.new.disk).idx) (sym (same _ was.first _ (take 16 bytes) _ (max was.units n)
          c.args.image.buckets first second units))
          (image_kept bytes (g.D.Disk.files c.void.new.disk).idx (g.D.Disk.files c.write_image.new.disk).idx (wrote told) was
          (max was.units n) c.args.image.buckets c.requires.can.0 (left.kept told) refl);
    }

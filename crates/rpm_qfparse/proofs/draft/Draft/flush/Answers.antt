use Rattle.std.proofs.Common.{◌∙◌, ap, arith, [], ◌∷◌, ◌++◌, length, ◌<◌, ◌≡◌, ℕ, zero, suc, ◌==◌, false}
use Rattle.rpm_qfparse.specs.declared.tree.Part.TheVariants.{Text}
use Rattle.rpm_qfparse.proofs.Drafts.{flushed}
use Rattle.rpm_qfparse.proofs.draft.Draft.flush.Goals as goal

some_length : (n : ℕ) → false ≡ (n == 0) → 0 < n
some_length zero e = absurd (cc)
some_length (suc n) e = omega arith

pub returns-in_ok-push : goal.returns-in_ok-push
returns-in_ok-push c =
    let some : 0 < length c.args.self.now.text.items = some_length (length c.args.self.now.text.items) (c.if-not-is_empty.ensures ∙ ap (λ n. n == 0)
    c.args.self.now.text.ok.0) in
    record {
      text = ap (λ v. v.items) c.replace-bytes.ensures.after ∙ c.new.ensures.items;
      same = λ rest h. flushed c.args.self.now.parts.items c.push.new.self.items c.args.self.now.text.items c.replace-bytes.new.dest.items rest some
          (ap (λ v. v.items) c.replace-bytes.ensures.after ∙ c.new.ensures.items) (c.in_ok-push.ensures.items ∙ ap (λ v. c.args.self.now.parts.items
          ++ Text v.items ∷ []) c.replace-bytes.ensures.value) h;
    }

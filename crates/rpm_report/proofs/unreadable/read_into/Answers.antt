use Rattle.std.proofs.Common.{◌≡◌, ℕ, List, [], sym, ap, ◌∙◌}
use Rattle.std.specs.Prelude.{Vec}
use Rattle.rpm_report.proofs.Vocabulary.{Global, header, package_text, read_text}
use Rattle.rpm_report.proofs.Telling.{package_read, nothing_read}
use Rattle.rpm_report.proofs.unreadable.read_into.Goals as goal

pub returns-in-Ok-clause-told : goal.returns-in-Ok-clause-told
returns-in-Ok-clause-told g c = λ told text. ap (package_text text) (c.in-Ok.ensures.told told) ∙ package_read text c.in-Ok.blob.items

pub returns-in-Err-NoSuch-clause-told : goal.returns-in-Err-NoSuch-clause-told
returns-in-Err-NoSuch-clause-told g c = λ told text.
    let none = rw c.in-Err-NoSuch.field-0-is at (c.in-Err-NoSuch.ensures.told told) in
    let empty : c.replace.new.dest.items ≡ [] = ap (λ (v : Vec ℕ Global). v.items) c.replace.ensures.after ∙ c.new.ensures.items in
    ap (package_text text) none ∙ sym (ap (λ (b : List ℕ). read_text text (header b)) empty ∙ nothing_read text)

pub returns-in-Err-Bad-clause-told : goal.returns-in-Err-Bad-clause-told
returns-in-Err-Bad-clause-told g c = λ told text.
    let bad = rw c.in-Err-Bad.field-0-is at (c.in-Err-Bad.ensures.told told) in
    let empty : c.replace.new.dest.items ≡ [] = ap (λ (v : Vec ℕ Global). v.items) c.replace.ensures.after ∙ c.new.ensures.items in
    ap (package_text text) bad ∙ sym (ap (λ (b : List ℕ). read_text text (header b)) empty ∙ nothing_read text)

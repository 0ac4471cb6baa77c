use Rattle.std.proofs.Common.{◌≡◌, ℕ, ◌-◌, Bool, true, false, List, ◌++◌, length, replicate, sym, ap, ◌∙◌}
use Rattle.rpm_qfeval.proofs.Vocabulary.{both, first_stops, padded_text}
use Rattle.rpm_qfeval.proofs.pieces.put_padded.Goals as goal

at_left : (left : Bool) (width spaces : ℕ) (text : List ℕ) → spaces ≡ width - length text → left ≡ true → text ++ replicate {A = ℕ} spaces 32
    ≡ padded_text left width text
at_left left width spaces text e is = ap (λ n. text ++ replicate {A = ℕ} n 32) e ∙ sym (ap (λ b. padded_text b width text) is)

at_right : (left : Bool) (width spaces : ℕ) (text : List ℕ) → spaces ≡ width - length text → left ≡ false → replicate {A = ℕ} spaces 32 ++ text
    ≡ padded_text left width text
at_right left width spaces text e is = ap (λ n. replicate {A = ℕ} n 32 ++ text) e ∙ sym (ap (λ b. padded_text b width text) is)

pub returns-in_err-put_shown : goal.returns-in_err-put_shown
returns-in_err-put_shown g c = first_stops _ c.from_residual.result c.from_residual.ensures.0 (at_left c.args.left c.args.width c.lack-spaces.result _
    c.lack-spaces.ensures c.if-left.true) c.in_err-put_shown.ensures

pub returns-in_ok-put_shown : goal.returns-in_ok-put_shown
returns-in_ok-put_shown g c = both g.met.O.Sink.follows_trans g.met.O.Sink.follows_refl (at_left c.args.left c.args.width c.lack-spaces.result _
    c.lack-spaces.ensures c.if-left.true) c.in_ok-put_shown.ensures c.put_spaces.ensures

pub returns-in_err-put_spaces : goal.returns-in_err-put_spaces
returns-in_err-put_spaces g c = first_stops _ c.from_residual-in_err-put_spaces.result c.from_residual-in_err-put_spaces.ensures.0
    (at_right c.args.left c.args.width c.lack-spaces.result _ c.lack-spaces.ensures c.if-left.false) c.in_err-put_spaces.ensures

pub returns-in_ok-put_spaces : goal.returns-in_ok-put_spaces
returns-in_ok-put_spaces g c = both g.met.O.Sink.follows_trans g.met.O.Sink.follows_refl (at_right c.args.left c.args.width c.lack-spaces.result _
    c.lack-spaces.ensures c.if-left.false) c.in_ok-put_spaces.ensures c.put_shown-else-left.ensures

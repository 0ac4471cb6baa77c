-- What a few words ask for, and the lines of a rule that they break and of a format's fault: computed, without the code.
use Rattle.std.specs.Prelude.{◌≡◌, ℕ, List, [], ◌∷◌, Some, Err, codes, refl}
use Rattle.rpm_print.proofs.Vocabulary.{after_number, arguments, ask, asked_by, asks_format, bad_argument, digits, early_word_fault, fault, fault_text}
use Rattle.rpm_print.proofs.Vocabulary.{closing, first_broken, format, is_cluster, list_format, long_purpose, long_switch, first_misplaced, MissingClose}
use Rattle.rpm_print.proofs.Vocabulary.{move_of, NoMode, number_of, own_purpose, program_of, purpose_behind, reading, rpm_options, rule_text, said_tokens, said_behind}
use Rattle.rpm_print.proofs.Vocabulary.{seen, short_switch, tag_part, UnknownOption, usage_line}
use Rattle.rpm_effects.specs.declared.answer.Why.TheVariants as why

-- the line names the word that breaks the rule, and none where something is missing
told : (usage_line (codes "rpm" ∷ codes "-qz" ∷ []) (fault UnknownOption 1) ≡ codes "rpm: unknown option: -qz\n")
    × (usage_line (codes "rpmx" ∷ []) (fault NoMode 0) ≡ codes "rpm: no command given\n")
unfolding usage_line rule_text
told = (refl, refl)

words : List ℕ → List (List ℕ)
words options = codes "rpm" ∷ options ∷ []

refused : ask (words (codes "-qz")) ≡ Err (fault UnknownOption 1)
unfolding words ask asked_by program_of said_tokens said_behind purpose_behind own_purpose is_cluster short_switch seen arguments early_word_fault
    first_misplaced
    bad_argument first_broken
refused = refl

-- of `-l` and a format the last one counts, and a fault of the one that counts is told
shown : (asks_format (codes "rpm" ∷ codes "-qa" ∷ codes "--qf" ∷ codes "%{NAME" ∷ []) ≡ Some (Err (record { kind = MissingClose; at = 6 })))
    × (asks_format (codes "rpm" ∷ codes "--qf=%{NAME" ∷ codes "-qal" ∷ []) ≡ Some (format list_format))
unfolding asks_format ask asked_by program_of said_tokens said_behind purpose_behind own_purpose is_cluster long_purpose long_switch rpm_options
    short_switch seen arguments early_word_fault first_misplaced bad_argument first_broken format reading move_of tag_part number_of after_number
shown = (refl, refl)

wrong : closing [] (why.BadFormat (record { kind = MissingClose; at = 6 })) ≡ codes "error: incorrect format: } expected at byte 6\n"
unfolding closing fault_text digits
wrong = refl

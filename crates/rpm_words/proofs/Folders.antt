-- The folder that is named last, one more word at a time.
use Rattle.std.proofs.Common.{◌≡◌, ℕ, ◌+◌, ◌≤◌, List, [], ◌∷◌, ◌++◌, Option, Some, None, unwrap_or, length, drop, refl, ap, sym, ◌∙◌, arith}
use Rattle.rpm_words.proofs.Vocabulary.{After, Awaits, Choose, Cluster, cons_option, Ends, filter_map, Folder, folder, folder_behind, folder_in, Format}
use Rattle.rpm_words.proofs.Vocabulary.{Inline, last_or, letters, Lists, Mode, Name, Nofiles, Noindex, option_at, option_map, own_place, Plain, Program}
use Rattle.rpm_words.proofs.Vocabulary.{Purpose, purpose_behind, Rest, said_tokens, said_behind, says, short_switch, slice_get, Switch, word_at, Token, Unknown}
use Rattle.rpm_words.proofs.Vocabulary.{Value, Whole}
use Rattle.std.proofs.lemmas.List.Elements.{filter_map-append}
use Rattle.std.proofs.lemmas.Grind.{common_steps}
use Rattle.rpm_words.proofs.Tokens.{said_step, said_end}

-- the folder at the end, where it is `before` in front of place i
pub last_folder : List (List ℕ) → Program → Purpose → ℕ → List ℕ → List ℕ
last_folder words program purpose i before =
    unwrap_or (last_or (Some before) (filter_map (folder_in words) (said_behind program purpose i (drop i words)))) own_place

last_or-append : {X : Type 0} (o : Option X) (xs ys : List X) → last_or o (xs ++ ys) ≡ last_or (last_or o xs) ys
last_or-append o [] ys = refl
last_or-append o (x ∷ xs) ys = last_or-append (Some x) xs ys

-- `last_or` tells a value that is there
last_or-some : {X : Type 0} (o : Option X) (d : X) (xs : List X) → unwrap_or (last_or o xs) d ≡ unwrap_or (last_or (Some (unwrap_or o d)) xs) d
last_or-some None d [] = refl
last_or-some (Some x) d [] = refl
last_or-some o d (x ∷ xs) = refl

no_letter_by : (words : List (List ℕ)) (word : ℕ) (o : Option Switch) (rest : List Token) → (o ≡ Some Folder → ⊥) →
    filter_map (folder_in words) (cons_option (option_map (option_at word) o) rest) ≡ filter_map (folder_in words) rest
no_letter_by words word None rest h = refl
no_letter_by words word (Some (Mode m)) rest h = refl
no_letter_by words word (Some (Choose m)) rest h = refl
no_letter_by words word (Some Lists) rest h = refl
no_letter_by words word (Some Format) rest h = refl
no_letter_by words word (Some After) rest h = refl
no_letter_by words word (Some Noindex) rest h = refl
no_letter_by words word (Some Nofiles) rest h = refl
no_letter_by words word (Some Folder) rest h = absurd (h refl)

no_letter : (b : ℕ) → short_switch b ≡ Some Folder → ⊥
unfolding short_switch
no_letter b h = grind (arith, common_steps, h)

-- no short option is `--dbpath`
letters_none : (words : List (List ℕ)) (word : ℕ) (text : List ℕ) → filter_map (folder_in words) (letters word text) ≡ []
letters_none words word [] = refl
letters_none words word (b ∷ rest) = no_letter_by words word (short_switch b) (letters word rest) (no_letter b) ∙ letters_none words word rest

text_there : (words : List (List ℕ)) (i : ℕ) (text : List ℕ) → slice_get words i ≡ Some text → word_at words i ≡ text
text_there words i text h = rw h

one_word : (words : List (List ℕ)) (i : ℕ) (purpose : Purpose) (text before : List ℕ) → word_at words i ≡ text →
    last_or (Some before) (filter_map (folder_in words) (says i purpose text)) ≡ Some (folder_behind purpose text before)
one_word words i Name text before h = refl
one_word words i Unknown text before h = refl
one_word words i Cluster text before h = rw (letters_none words i text)
one_word words i (Whole (Mode m)) text before h = refl
one_word words i (Whole (Choose m)) text before h = refl
one_word words i (Whole Lists) text before h = refl
one_word words i (Whole Format) text before h = refl
one_word words i (Whole After) text before h = refl
one_word words i (Whole Noindex) text before h = refl
one_word words i (Whole Nofiles) text before h = refl
one_word words i (Whole Folder) text before h = refl
one_word words i (Inline (Mode m) from) text before h = refl
one_word words i (Inline (Choose m) from) text before h = refl
one_word words i (Inline Lists from) text before h = refl
one_word words i (Inline Format from) text before h = refl
one_word words i (Inline After from) text before h = refl
one_word words i (Inline Noindex from) text before h = refl
one_word words i (Inline Nofiles from) text before h = refl
one_word words i (Inline Folder from) text before h = ap (λ t. Some (drop from t)) h
one_word words i (Awaits (Mode m)) text before h = refl
one_word words i (Awaits (Choose m)) text before h = refl
one_word words i (Awaits Lists) text before h = refl
one_word words i (Awaits Format) text before h = refl
one_word words i (Awaits After) text before h = refl
one_word words i (Awaits Noindex) text before h = refl
one_word words i (Awaits Nofiles) text before h = refl
one_word words i (Awaits Folder) text before h = refl
one_word words i (Value (Mode m)) text before h = refl
one_word words i (Value (Choose m)) text before h = refl
one_word words i (Value Lists) text before h = refl
one_word words i (Value Format) text before h = refl
one_word words i (Value After) text before h = refl
one_word words i (Value Noindex) text before h = refl
one_word words i (Value Nofiles) text before h = refl
one_word words i (Value Folder) text before h = ap (λ t. Some t) h
one_word words i Ends text before h = refl
one_word words i Plain text before h = refl
one_word words i Rest text before h = refl

pub folder_begin : (words : List (List ℕ)) (program : Program) → last_folder words program Name 1 own_place ≡ folder program words
unfolding last_folder folder said_tokens
folder_begin words program = sym (last_or-some None own_place (filter_map (folder_in words) (said_behind program Name 1 (drop 1 words))))

pub folder_step : (words : List (List ℕ)) (program : Program) (previous purpose : Purpose) (i : ℕ) (text before after all : List ℕ) →
    slice_get words i ≡ Some text → purpose ≡ purpose_behind program previous text → after ≡ folder_behind purpose text before →
    last_folder words program previous i before ≡ all → last_folder words program purpose (i + 1) after ≡ all
unfolding last_folder
folder_step words program previous purpose i text before after all at r f h =
    let there = text_there words i text at in
    let rest = filter_map (folder_in words) (said_behind program purpose (i + 1) (drop (i + 1) words)) in
    let e : last_or (Some before) (filter_map (folder_in words) (said_behind program previous i (drop i words))) ≡ last_or (Some after) rest =
    rw (
      said_step program previous i words text at,
      ← r,
      filter_map-append (folder_in words) (says i purpose text) (said_behind program purpose (i + 1) (drop (i + 1) words)),
      last_or-append (Some before) (filter_map (folder_in words) (says i purpose text)) rest,
      one_word words i purpose text before there,
      ← f,
    ) refl
    in ap (λ o. unwrap_or o own_place) (sym e) ∙ h

pub folder_end : (words : List (List ℕ)) (program : Program) (purpose : Purpose) (i : ℕ) (before all : List ℕ) → length words ≤ i →
    last_folder words program purpose i before ≡ all → before ≡ all
unfolding last_folder
folder_end words program purpose i before all h e =
    let none = said_end program purpose i words h in
    (rw none at e)

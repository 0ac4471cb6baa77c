-- Requirements of one package that stand in a row, whose lines are written in one piece.
use Rattle.std.proofs.Common.{◌≡◌, ℕ, ◌+◌, ◌-◌, ◌<◌, ◌≤◌, ◌==◌, ◌⊎◌, suc, Bool, true, List, [], ◌∷◌, ◌++◌, map, take, length, get_or, Option, Some, None}
use Rattle.std.proofs.Common.{Result, Ok, Err, refl, sym, ap, ◌∙◌, subst, append_assoc, add-one, inl, inr, arith}
use Rattle.rpm_report.proofs.Vocabulary.{All, Anywhere, Bad, Bearer, bearer, err_bytes, FinMap, flat_map, GainIs, get, Good, Header, header, HeaderFault}
use Rattle.rpm_report.proofs.Vocabulary.{nat_cmp, out_bytes, Outputs, Package, package_text, prefix_len, PartProgress, read_text, Step, StepIs, Halt}
use Rattle.rpm_report.proofs.Vocabulary.{StopWithin}
use Rattle.rpm_report.proofs.Vocabulary.{Through, ToOut, Unmet, unmet_lines, unmet_step, unmet_text}
use Rattle.std.specs.Prelude.{slice_get}
use Rattle.std.proofs.Math.Seq.{take-append-add, take-suc}
use Rattle.std.proofs.lemmas.Bool.{cases_lt}
use Rattle.std.proofs.lemmas.Bool.Decides.{nat_tests}
use Rattle.std.proofs.lemmas.Grind.{flat_map-append}
use Rattle.std.proofs.lemmas.List.{append-nil, get_or-take, map-append, take-append-le}
use Rattle.std.proofs.lemmas.List.Folds.{flat_map-map, length-prefix_len}
use Rattle.std.proofs.lemmas.List.Sums.{prefix_len_passes}
use Rattle.rpm_effects.specs.declared.tally.Halt.TheVariants as halt
use Rattle.rpm_effects.proofs.laws.Reaching.{not_begun}

-- ---- lines in one piece

module _ {X : Type 0} (b : Bearer) (line : X → List ℕ) where
  abbrev pub line_step : X → Step
  line_step x = ToOut b (line x)

  out_of : (xs : List X) → flat_map out_bytes (map line_step xs) ≡ flat_map line xs
  out_of = flat_map-map out_bytes line_step

  err_of : (xs : List X) → flat_map err_bytes (map line_step xs) ≡ []
  err_of [] = refl
  err_of (x ∷ xs) = err_of xs

  -- the first bytes of all lines are some lines, and the first bytes of the next one
  record Cut (xs : List X) (k : ℕ) : Type 0 where
    done : List X
    one : X
    rest : List X
    bytes : ℕ
    all_is : xs ≡ done ++ one ∷ rest
    text_is : take k (flat_map line xs) ≡ flat_map line done ++ take bytes (line one)

  cut_later : (x : X) (xs : List X) (k : ℕ) → length (line x) ≤ k → Cut xs (k - length (line x)) → Cut (x ∷ xs) k
  cut_later x xs k le c =
      let size = length (line x) in
      let sum : k ≡ size + (k - size) = omega arith in
      record {
        done = x ∷ c.done;
        one = c.one;
        rest = c.rest;
        bytes = c.bytes;
        all_is = ap (λ (l : List X). x ∷ l) c.all_is;
        text_is = ap (λ (n : ℕ). take n (line x ++ flat_map line xs)) sum ∙ take-append-add (line x) (flat_map line xs) (k - size)
            ∙ ap (λ (t : List ℕ). line x ++ t) c.text_is ∙ sym (append_assoc (line x) (flat_map line c.done) (take c.bytes (line c.one)));
      }

  cut_by : (x : X) (xs : List X) (k : ℕ) → ((m : ℕ) → Cut xs m) → (k < length (line x)) ⊎ (length (line x) ≤ k) → Cut (x ∷ xs) k
  cut_by x xs k later (inl lt) =
      record { done = []; one = x; rest = xs; bytes = k; all_is = refl; text_is = take-append-le k (line x) (flat_map line xs) (omega arith) }
  cut_by x xs k later (inr le) = cut_later x xs k le (later (k - length (line x)))

  cut_at : (x : X) (xs : List X) (k : ℕ) → Cut (x ∷ xs) k
  cut_at x [] k = record { done = []; one = x; rest = []; bytes = k; all_is = refl; text_is = ap (take k) (append-nil (line x)) }
  cut_at x (y ∷ ys) k = cut_by x (y ∷ ys) k (λ m. cut_at y ys m) (cases_lt k (length (line x)))

  module _ (text : List ℕ) (old new : Outputs) where
    piece_through : (xs : List X) → text ≡ flat_map line xs → Through (ToOut b text ∷ []) old new → Through (map line_step xs) old new
    piece_through xs is went = record {
      out = subst (λ (t : List ℕ). GainIs old.out_tells old.out new.out t) (append-nil text ∙ is ∙ sym (out_of xs)) went.out;
      err = subst (λ (t : List ℕ). GainIs old.err_tells old.err new.err t) (sym (err_of xs)) went.err;
    }

    piece_within : (x : X) (xs : List X) → text ≡ flat_map line (x ∷ xs) → (k : ℕ) → Through (ToOut b (take k text) ∷ []) old new
        → StopWithin (map line_step (x ∷ xs)) true old new Anywhere
    piece_within x xs is k went =
        let c : Cut (x ∷ xs) k = cut_at x xs k in
        let last = take c.bytes (line c.one) in
        let end = ToOut b last ∷ [] in
        let out_is : flat_map out_bytes (map line_step c.done ++ end) ≡ flat_map line c.done ++ last =
        flat_map-append out_bytes (map line_step c.done) end ∙ ap (λ (t : List ℕ). t ++ (last ++ [])) (out_of c.done)
        ∙ ap (λ (t : List ℕ). flat_map line c.done ++ t) (append-nil last) in
        let err_is : flat_map err_bytes (map line_step c.done ++ end) ≡ [] =
        flat_map-append err_bytes (map line_step c.done) end ∙ ap (λ (t : List ℕ). t ++ []) (err_of c.done) in
        record {
          done = map line_step c.done;
          step = line_step c.one;
          rest = map line_step c.rest;
          all_is = ap (map line_step) c.all_is ∙ map-append line_step c.done (c.one ∷ c.rest);
          sink = refl;
          bytes = c.bytes;
          through = record {
            out = subst (λ (t : List ℕ). GainIs old.out_tells old.out new.out t)
                (append-nil (take k text) ∙ ap (take k) is ∙ c.text_is ∙ sym out_is) went.out;
            err = subst (λ (t : List ℕ). GainIs old.err_tells old.err new.err t) (sym err_is) went.err;
          };
          reads = tt;
        }

    -- one piece reaches as far as its lines do
    pub piece_reached : (xs : List X) → 0 < length xs → text ≡ flat_map line xs → (r : Result Bool Halt) → StepIs (ToOut b text) r old new
        → PartProgress (map line_step xs) r old new Anywhere
    piece_reached [] some is r step = absurd (omega arith)
    piece_reached (x ∷ xs) some is (Ok to_out) step = piece_through (x ∷ xs) is step.1
    piece_reached (x ∷ xs) some is (Err halt.DiskFault) step = not_begun step
    piece_reached (x ∷ xs) some is (Err halt.ShelfFault) step = not_begun step
    piece_reached (x ∷ xs) some is (Err halt.OutFault) step = piece_within x xs is step.1.0 step.1.1
    piece_reached (x ∷ xs) some is (Err halt.ErrFault) step = absurd (let is = step.0 in cc)
    piece_reached (x ∷ xs) some is (Err halt.NoMemory) step = not_begun step
    piece_reached (x ∷ xs) some is (Err others) step = absurd step

-- ---- the lines of a package

nothing : (us : List Unmet) → flat_map {A = ℕ} (λ (u : Unmet). []) us ≡ []
nothing [] = refl
nothing (u ∷ us) = nothing us

module _ (n : ℕ) (us : List Unmet) where
  of_header : (r : Result Header HeaderFault) → read_text (unmet_lines us n) r ≡ flat_map (λ (u : Unmet). read_text (unmet_text u.place n) r) us
  of_header (Ok h) = refl
  of_header (Err fault) = sym (nothing us)

  pub of_package : (p : Option Package) → package_text (unmet_lines us n) p ≡ flat_map (λ (u : Unmet). package_text (unmet_text u.place n) p) us
  of_package None = sym (nothing us)
  of_package (Some Bad) = sym (nothing us)
  of_package (Some (Good bytes)) = of_header (header bytes)

-- one line more
pub lines_more : (n : ℕ) (us : List Unmet) (i : ℕ) (d : Unmet) (h : Header) (lines line : List ℕ) → i < length us
    → line ≡ unmet_text (get_or us i d).place n h → lines ≡ unmet_lines (take i us) n h → lines ++ line ≡ unmet_lines (take (i + 1) us) n h
lines_more n us i d h lines line lt is far =
    let f = λ (u : Unmet). unmet_text u.place n h in
    let u = get_or us i d in
    let more : unmet_lines (take (i + 1) us) n h ≡ unmet_lines (take i us) n h ++ (f u ++ []) =
    ap (λ (k : ℕ). flat_map f (take k us)) (add-one i) ∙ ap (flat_map f) (take-suc us i d lt) ∙ flat_map-append f (take i us) (u ∷ []) in
    ap (λ (t : List ℕ). t ++ line) far ∙ ap (λ (t : List ℕ). unmet_lines (take i us) n h ++ t) (is ∙ sym (append-nil (f u))) ∙ sym more

module _ (packages : FinMap nat_cmp Package) (n : ℕ) where
  -- of a requirement of this package
  abbrev pub own_line : Unmet → List ℕ
  own_line u = package_text (unmet_text u.place n) (get packages n)

  pub own_steps : (us : List Unmet) → All (λ (u : Unmet). u.number ≡ n) us → map (unmet_step packages) us ≡ map (line_step (bearer 0 n) own_line) us
  own_steps [] own = refl
  own_steps (u ∷ us) own =
      let here : u.number ≡ n = own 0 u (omega arith) in
      let first : unmet_step packages u ≡ line_step (bearer 0 n) own_line u =
      ap (λ (m : ℕ). ToOut (bearer 0 m) (package_text (unmet_text u.place m) (get packages m))) here in
      ap (λ (s : Step). s ∷ map (unmet_step packages) us) first
      ∙ ap (λ (l : List Step). line_step (bearer 0 n) own_line u ∷ l) (own_steps us (λ k d lt. own (suc k) d (omega arith)))

-- ---- how many there are

abbrev is_of : ℕ → Unmet → Bool
is_of n u = u.number == n

module _ (n : ℕ) where
  pub front_own : (us : List Unmet) → All (λ (u : Unmet). u.number ≡ n) (take (prefix_len (is_of n) us) us)
  front_own us = λ k d lt.
      let count = prefix_len (is_of n) us in
      let below : k < count = omega (arith, length-prefix_len (is_of n) us) in
      let passes : (get_or us k d).number == n ≡ true = prefix_len_passes (is_of n) us k d below in
      let own : (get_or us k d).number ≡ n = grind (arith, nat_tests) in
      ap (λ (u : Unmet). u.number) (get_or-take count us k d below) ∙ own

  pub front_some : (us : List Unmet) (u : Unmet) → slice_get us 0 ≡ Some u → u.number ≡ n → 0 < prefix_len (is_of n) us
  front_some [] u first own = absurd cc
  front_some (x ∷ us) u first own =
      let same : x ≡ u = cc in
      let here : x.number ≡ n = ap (λ (v : Unmet). v.number) same ∙ own in
      let test : (x.number == n) ≡ true = grind (arith, nat_tests) in
      rw test (omega arith)

pub front_none : (us : List Unmet) → slice_get us 0 ≡ None → us ≡ []
front_none [] none = refl
front_none (x ∷ us) none = absurd cc

-- What a crash leaves while the generation is raised.
use Rattle.std.proofs.Common.{◌≡◌, inl, inr, ℕ, ◌≤◌, List, [], ◌∷◌, refl, sym, ◌∙◌, subst, arith}
use Rattle.rpm_pkgdb.proofs.Vocabulary.{StoreBeforeOrAfter, blobs, Files, in_file, IsHeadUnit, IsQuiet, KeepsStore, with_units, RaisesTo, RepresentsStore, Store, Torn, Units}
use Rattle.rpm_pkgdb.proofs.Vocabulary.{with_generation}
use Rattle.rpm_pkgdb.proofs.BlobMaps.{same_blobs}
use Rattle.rpm_pkgdb.proofs.Made.{made, from_made}
use Rattle.rpm_pkgdb.proofs.ClearLaws.{torn_one, head_made, page_blocks}
use Rattle.rpm_pkgdb.proofs.Erases.{blocks_then, stands_by}
use Rattle.rpm_pkgdb.proofs.ErasesTo.{stands_for, unfolded}

module _ (st : Store) (some : 1 ≤ st.pages) (unit : List ℕ) (generation : ℕ) (is : IsHeadUnit unit generation st.pages) where
  abbrev after : Store
  after = with_generation generation st

  raised_stands : (file from : Units) → RepresentsStore st file from → RepresentsStore after file (with_units 0 (unit ∷ []) from)
  raised_stands file from stands =
      let m = made from st stands.keeps some in
      record {
        keeps = from_made (with_units 0 (unit ∷ []) from) after (head_made from st m unit generation is);
        blocks =
            blocks_then st.slots file from (with_units 0 (unit ∷ []) from) stands.blocks
            (page_blocks from st m 0 unit st.slots (omega arith) (λ k used. (m.sound.placed k used).behind));
      }

  -- a crash while unit 0 is written
  pub while_raised : (file from image : Units) → RepresentsStore st file from → Torn 0 (unit ∷ []) from image → StoreBeforeOrAfter st after file image
  while_raised file from image stands torn =
      let m = made from st stands.keeps some in
      elim (torn_one 0 unit from image (omega (arith, m.lawful.inside)) torn) [
        | inl same ↦ inl (subst (RepresentsStore st file) (sym same) stands)
        | inr new ↦ inr (subst (RepresentsStore after file) (sym new) (raised_stands file from stands))
      ]

  -- and once it is written
  pub raised : (file next : Units) → KeepsStore file st → next ≡ with_units 0 (unit ∷ []) file → RepresentsStore after file next
  raised file next keeps written =
      subst (RepresentsStore after file) (sym written) (raised_stands file file (record { keeps = keeps; blocks = λ j i used from to. refl }))

  pub raised_map : (file image : Units) → KeepsStore file st → RepresentsStore after file image → blobs image after ≡ blobs file st
  raised_map file image keeps stands =
      let here = made file st keeps some in
      let there = made image after stands.keeps some in
      same_blobs file image st.pages st after refl here.sound there.sound stands.blocks

  pub raises_to : (file image : Units) → KeepsStore file st → StoreBeforeOrAfter st after file image → RaisesTo st generation file image
  raises_to file image keeps (inl before) = inl (stands_for st file image some keeps before)
  raises_to file image keeps (inr later) = inr (record {
    value = in_file after;
    undamaged = later.keeps;
    generation_is = refl;
    field_is = refl;
    blobs_are = unfolded image after ∙ raised_map file image keeps later;
  })

  -- each image is the file as it reads
  pub raised_quiet : (files next : Files) (images : Files → Type 0) → KeepsStore files.pkg st → next.pkg ≡ with_units 0 (unit ∷ []) files.pkg
      → ((image : Files) → images image → image.pkg ≡ next.pkg) → IsQuiet after next images
  raised_quiet files next images keeps written durable image here =
      let stands = raised files.pkg next.pkg keeps written in
      subst (RepresentsStore after next.pkg) (sym (durable image here)) (stands_by after files.pkg next.pkg next.pkg stands stands)

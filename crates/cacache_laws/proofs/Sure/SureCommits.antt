-- A commit in which all steps succeed, once its content is there.
use Rattle.std.proofs.Common.{◌≡◌, ◌==◌, ℕ, List, [], ◌∷◌, ◌++◌, Option, None, Some, Ok, length, drop, refl, sym, ap, ◌∙◌}
use Rattle.hex.specs.Hex.{encode_lower}
use Rattle.cacache_core.specs.{declared.{errors.{Error.TheVariants.{SizeMismatch, IntegrityError}, IntegrityFault.TheVariants.{Check}}, integrity.digest.Hash.{Hash}}, Integrity.{IsHash}, Paths.{Names, names_of, content_names, folder_names}}
use Rattle.cacache_disk.specs.{Tree.{Tree}, LedTo.{place}, Apply.{make_some}}
use Rattle.cacache_calls.specs.{declared.{carried.Commit.{Commit}, reply.Reply.{Reply, TheVariants.{Stored, Refused}}}, Common.{ends_with}, Inserting.{insert}, State.{State}, Steps.{content_path, content_folder}, Storing.{insertion_of, indexed, sized, compared, placed, matches}}
use Rattle.cacache_value.specs.Kinds.{Content, Way}
use Rattle.cacache_laws.specs.Succeeds.{keyed_reply, sized_reply, compared_reply}
use Rattle.cacache_laws.proofs.{Sure.{SureInserts.{Inserted, Spares, inserts_so, one_behind}, SurePlays.{Plays, ends, ends_too}, SureRuns.{both, Ground, Lies, dirs_ground, dirs_stand, place_in}, SureTemps.{content_folder_lies, content_lies}}, trees.Covering.{home_named}}

-- ---- its reply, and something of the tree that an insertion keeps

module _ (c : Commit) (home : Names) (is : names_of c.cache ≡ Ok home) (Kept : Tree → Type 0) (keeps : (old new : Tree) → Spares home old new → Kept old → Kept new) where
  abbrev pub CommitSo : Reply → Tree → Reply → Type 0
  CommitSo wanted t r = (r ≡ wanted) × Kept t

  module _ (t : Tree) (g : Ground home t) (kept : Kept t) where
    -- the state leads to this reply
    abbrev Leads : Reply → State → Type 0
    Leads wanted s = Plays (CommitSo wanted) t s

    by_key : (key : Option (List ℕ)) → Leads (keyed_reply c key) (indexed c key)
    by_key None = ends (CommitSo (Stored c.computed)) t (Stored c.computed) (refl, kept)
    by_key (Some key) =
        let i = insertion_of c key in
        let wanted = keyed_reply c (Some key) in
        ends_too (Inserted i home is t g wanted) (CommitSo wanted) (λ new r h. (h.0, keeps t new h.1 kept)) t (insert i) (inserts_so i home is t g)

    by_size : (size : Option ℕ) → Leads (sized_reply c size) (sized c size)
    by_size None = by_key c.key
    by_size (Some wanted) =
        both Leads (wanted == c.count) (keyed_reply c c.key) (Refused (SizeMismatch wanted c.count)) (indexed c c.key) (ends_with (SizeMismatch wanted c.count))
        (by_key c.key)
        (ends (CommitSo (Refused (SizeMismatch wanted c.count))) t (Refused (SizeMismatch wanted c.count)) (refl, kept))

    by_integrity : (expected : Option (List Hash)) → Leads (compared_reply c expected) (compared c expected)
    by_integrity None = by_size c.options.size
    by_integrity (Some expected) =
        let unmet = Refused (IntegrityError (Check expected c.computed)) in
        both Leads (matches expected c.computed) (sized_reply c c.options.size) unmet (sized c c.options.size) (ends_with (IntegrityError (Check expected c.computed)))
        (by_size c.options.size) (ends (CommitSo unmet) t unmet (refl, kept))

    pub placed_ends : Leads (compared_reply c c.options.integrity) (placed c)
    placed_ends = by_integrity c.options.integrity

-- ---- the folder of its content

module _ (cache : List ℕ) (home : Names) (is : names_of cache ≡ Ok home) (t : Tree) (g : Ground home t) (h : Hash) (hash : IsHash h) where
  abbrev pub front : Names
  front = folder_names (content_names h)

  pub folder_lies : Lies home (content_folder cache (h ∷ [])) front Way
  folder_lies = content_folder_lies cache home is h [] hash

  pub lies : Lies home (content_path cache (h ∷ [])) (content_names h) Content
  lies = content_lies cache home (home_named cache home is) h [] hash

  -- the tree with it
  abbrev pub made : Tree
  made = make_some t [] (home ++ front) (length (home ++ front))

  pub made_ground : Ground home made
  made_ground = dirs_ground home t g (content_folder cache (h ∷ [])) front folder_lies

  -- the last of the content's names
  abbrev pub last : List ℕ
  last = drop 4 (encode_lower h.digest)

  pub led : place made (content_path cache (h ∷ [])) ≡ Ok (home ++ content_names h)
  led =
      place_in made (content_path cache (h ∷ [])) (home ++ front) last made_ground.rooted
      (lies.named ∙ ap Ok (one_behind home front last)) (dirs_stand home t g (content_folder cache (h ∷ [])) front folder_lies)
      ∙ ap Ok (sym (one_behind home front last))

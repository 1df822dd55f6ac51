-- Compactions of trees, one after another, and what is found after them.
-- Lookups, reads by key and listings answer after a compaction what they may answer before it.
use Rattle.std.proofs.{lemmas.Grind.{common_steps}, Common.{rules, ◌≡◌, ◌⊎◌, inl, inr, ℕ, List, [], ◌∷◌, ◌++◌, Bool, Option, None, Some, refl, sym, ap, subst, ◌∙◌, Ok, append_assoc, arith}}
use Rattle.cacache_laws.specs.trees.{Collecting.{ReadsAsBefore, LinksLeadOut}, Compacted.{KeepsFound, IsCompacted, IsTempFolder, IsLeftOver, Compacted, CutShort, FindsFormed}, Compacting.{compact_text}}
use Rattle.cacache_laws.proofs.trees.{Compactions.{CompactTexts.{compact_texts_answer}, CompactTwice.{compact_again}, LeanReads.{Clear, SameOrLean, Sees, clear_area, dir_alike, file_alike, sees_clear}}, Twins.{Agreeing.{said}, Follows.{Alike, ReadsAlike, reads_as_before}, Twice.{address_is}}, Stepping.{read_answer}}
use Rattle.cacache_calls.specs.{State.{Site}, Steps.{content_path}}
use Rattle.sha1.specs.Sha1.{sha1}
use Rattle.cacache_core.specs.{Paths.{Names, names_of, home_of, bucket_names_of, content_names, temp_area, joined, content_area, index_area}, declared.integrity.digest.Hash.{Hash}, Integrity.{IsIntegrity}}
use Rattle.cacache_core.proofs.{JoinedNames.{joined_texts_name}, ProperNames.{names_are_proper}}
use Rattle.cacache_disk.specs.{declared.{node.Node.{Node, TheVariants.{Folder, File}}, luck.Luck.TheVariants.{Plain}}, Tree.{Tree, look}, Apply.{apply}}
use Rattle.cacache_entry.{specs.Bucket.{latest}, proofs.Lookups.{empty_holds_nothing}}
use Rattle.cacache_value.{specs.{Acts.{list_of}, Kinds.{Content, Bucket, Temporary, path_kind, Elsewhere}, Value.{blob_in, bucket_in}}, proofs.PathKinds.{kind-below}}
use Rattle.cacache_store.specs.declared.store.step.Step.TheVariants.{ReadAll, ReadDir}

-- ---- one node

-- what may become of a node
abbrev pub Becomes : Bool → Names → Names → Option Node → Option Node → Type 0
Becomes durable home q old new = (new ≡ old) ⊎ (IsCompacted durable home q old new ⊎ IsTempFolder home q old new)

abbrev pub EndsUp : Bool → Names → Names → Option Node → Option Node → Type 0
EndsUp durable home q old new = (new ≡ old) ⊎ (IsCompacted durable home q old new ⊎ (IsTempFolder home q old new ⊎ IsLeftOver home q old new))

pub ends : (durable : Bool) (home q : Names) (old new : Option Node) → Becomes durable home q old new → EndsUp durable home q old new
ends durable home q old new h = grind (arith, common_steps)

pub same_bytes : (x y : List ℕ) (here : Option Node) → here ≡ Some (File x) → here ≡ Some (File y) → x ≡ y
same_bytes x y here e f = let both : Some (File x) ≡ Some (File y) = sym e ∙ f in cc

-- what was compacted twice is as if it was once
lean_twice : (durable : Bool) (home q : Names) (a b c : Option Node) → IsCompacted durable home q a b → IsCompacted durable home q b c → IsCompacted durable home q a c
lean_twice durable home q a b c (k, x, old, mid) (l, y, again, new) =
    let same : compact_text durable x ≡ y = same_bytes (compact_text durable x) y b mid again in
    (k, x, old, new ∙ ap (λ (z : List ℕ). Some (File z)) (ap (compact_text durable) (sym same) ∙ compact_again durable x))

-- a file is none, and no folder
no_file : (x : List ℕ) (here : Option Node) → here ≡ None → here ≡ Some (File x) → ⊥
no_file x here e f = let wrong : None ≡ Some (File x) = sym e ∙ f in cc

no_folder_file : (x : List ℕ) (here : Option Node) → here ≡ Some Folder → here ≡ Some (File x) → ⊥
no_folder_file x here e f = let wrong : Some Folder ≡ Some (File x) = sym e ∙ f in cc

no_folder : (here : Option Node) → here ≡ None → here ≡ Some Folder → ⊥
no_folder here e f = let wrong : None ≡ Some Folder = sym e ∙ f in cc

pub becomes_after : (durable : Bool) (home q : Names) (a b c : Option Node) → Becomes durable home q a b → Becomes durable home q b c → Becomes durable home q a c
becomes_after durable home q a b c (inl same) next = subst (λ x. Becomes durable home q x c) same next
becomes_after durable home q a b c (inr (inl lean)) (inl same) = inr (inl (lean.0, lean.1, lean.2, same ∙ lean.3))
becomes_after durable home q a b c (inr (inl lean)) (inr (inl again)) = inr (inl (lean_twice durable home q a b c lean again))
becomes_after durable home q a b c (inr (inl lean)) (inr (inr made)) = absurd (no_file (compact_text durable lean.1) b made.1 lean.3)
becomes_after durable home q a b c (inr (inr made)) (inl same) = inr (inr (made.0, made.1, same ∙ made.2))
becomes_after durable home q a b c (inr (inr made)) (inr (inl lean)) = absurd (no_folder_file lean.1 b made.2 lean.2)
becomes_after durable home q a b c (inr (inr made)) (inr (inr again)) = absurd (no_folder b again.1 made.2)

pub ends_after : (durable : Bool) (home q : Names) (a b c : Option Node) → Becomes durable home q a b → EndsUp durable home q b c → EndsUp durable home q a c
ends_after durable home q a b c one (inl same) = ends durable home q a c (becomes_after durable home q a b c one (inl same))
ends_after durable home q a b c one (inr (inl lean)) = ends durable home q a c (becomes_after durable home q a b c one (inr (inl lean)))
ends_after durable home q a b c one (inr (inr (inl made))) = ends durable home q a c (becomes_after durable home q a b c one (inr (inr made)))
ends_after durable home q a b c (inl same) left = subst (λ x. EndsUp durable home q x c) same left
ends_after durable home q a b c (inr (inl lean)) (inr (inr (inr left))) = absurd (no_file (compact_text durable lean.1) b left.3 lean.3)
ends_after durable home q a b c (inr (inr made)) (inr (inr (inr left))) = absurd (no_folder b left.3 made.2)

-- ---- trees

pub compacted_none : (durable : Bool) (home : Names) (t : Tree) → Compacted durable home t t
compacted_none durable home t q = inl refl

pub compacted_more : (durable : Bool) (home : Names) (t mid new : Tree) → Compacted durable home t mid → Compacted durable home mid new → Compacted durable home t new
compacted_more durable home t mid new one two q = becomes_after durable home q (look t q) (look mid q) (look new q) (one q) (two q)

pub cut_short : (durable : Bool) (home : Names) (t new : Tree) → Compacted durable home t new → CutShort durable home t new
cut_short durable home t new all q = ends durable home q (look t q) (look new q) (all q)

pub cut_later : (durable : Bool) (home : Names) (t mid new : Tree) → Compacted durable home t mid → CutShort durable home mid new → CutShort durable home t new
cut_later durable home t mid new one two q = ends_after durable home q (look t q) (look mid q) (look new q) (one q) (two q)

-- ---- what is found

key_at : (durable : Bool) (key : List ℕ) (home q : Names) (old new : Option Node) → EndsUp durable home q old new → latest key (list_of (bucket_in new)) ≡ latest key (list_of (bucket_in old))
key_at durable key home q old new (inl same) = ap (λ o. latest key (list_of (bucket_in o))) same
key_at durable key home q old new (inr (inl lean)) =
    ap (λ o. latest key (list_of (bucket_in o))) lean.3 ∙ (compact_texts_answer durable lean.1).finds key ∙ sym (ap (λ o. latest key (list_of (bucket_in o))) lean.2)
key_at durable key home q old new (inr (inr (inl made))) = search rules
key_at durable key home q old new (inr (inr (inr left))) = search (rules, empty_holds_nothing)

content_at : (durable : Bool) (home q : Names) (old new : Option Node) → path_kind (Some home) q ≡ Content → EndsUp durable home q old new → blob_in new ≡ blob_in old
content_at durable home q old new k h = grind (arith, kind-below)

-- a compaction keeps what is found, also if it is cut short
pub compactions_keep : (durable : Bool) (home : Names) (t new : Tree) → CutShort durable home t new → KeepsFound home t new
compactions_keep durable home t new is = record {
  keys = λ key. let q = home ++ bucket_names_of (sha1 key) in key_at durable key home (home ++ bucket_names_of (sha1 key)) (look t q) (look new q) (is q);
  contents = λ h. let q = home ++ content_names h in content_at durable home (home ++ content_names h) (look t q) (look new q) (kind-below home (content_names h)) (is q);
}

module _ (durable : Bool) (cache : List ℕ) (home : Names) (t new : Tree) (at_home : home_of cache ≡ Some home) (out : LinksLeadOut home t) (formed : FindsFormed cache t) (is : CutShort durable home t new) where
  -- a bucket's bytes became compacted ones
  abbrev IsLean : Names → List ℕ → List ℕ → Type 0
  IsLean q x y = (path_kind (Some home) q ≡ Bucket) × (y ≡ compact_text durable x)

  node_at : (q : Names) (old now : Option Node) → Clear home temp_area q → EndsUp durable home q old now → (now ≡ old) ⊎ ((x : List ℕ) × (y : List ℕ) × IsLean q x y × (old ≡ Some (File x)) × (now ≡ Some (File y)))
  node_at q old now clear (inl same) = inl same
  node_at q old now clear (inr (inl lean)) = inr (lean.1, compact_text durable lean.1, (lean.0, refl), lean.2, lean.3)
  node_at q old now clear (inr (inr (inl made))) = absurd (clear ([], made.0))
  node_at q old now clear (inr (inr (inr left))) = absurd (clear (left.0 ∷ [], left.1))

  -- except for the folder of temporary files
  at_clear : (q : Names) → Clear home temp_area q → SameOrLean IsLean t new q
  at_clear q clear = node_at q (look t q) (look new q) clear (is q)

  sees : Sees home t new IsLean (Clear home temp_area)
  sees = sees_clear home t new IsLean temp_area at_clear (λ q x y lean k. let wrong : Elsewhere ≡ Bucket = sym k ∙ lean.0 in cc) out

  clear : (ns : Names) → Clear home temp_area (home ++ index_area ∷ ns)
  clear ns = clear_area home temp_area ns index_area refl refl

  reads_alike : (path : List ℕ) (ns : Names) → names_of path ≡ Ok (home ++ index_area ∷ ns) → Alike (apply new (ReadAll path) Plain).0 (apply t (ReadAll path) Plain).0
  reads_alike path ns named =
      elim (file_alike home t new IsLean (Clear home temp_area) sees path (home ++ index_area ∷ ns) named (clear ns) (at_clear (home ++ index_area ∷ ns) (clear ns))) [
        | inl same ↦ inl (read_answer new path ∙ ap said same ∙ sym (read_answer t path))
        | inr lean ↦ inr (durable, lean.0, read_answer new path ∙ ap said (lean.4 ∙ ap Ok lean.2.1), read_answer t path ∙ ap said lean.3)
      ]

  folders_alike : (path : List ℕ) (ns : Names) → names_of path ≡ Ok (home ++ index_area ∷ ns) → (apply new (ReadDir path) Plain).0 ≡ (apply t (ReadDir path) Plain).0
  folders_alike path ns named =
      dir_alike home t new IsLean (Clear home temp_area) sees path (home ++ index_area ∷ ns) named (clear ns) (at_clear (home ++ index_area ∷ ns) (clear ns))
      (λ name. subst (SameOrLean IsLean t new) (sym (append_assoc home (index_area ∷ ns) (name ∷ []))) (at_clear (home ++ index_area ∷ (ns ++ name ∷ [])) (clear (ns ++ name ∷ []))))

  content_alike : (i : List Hash) → IsIntegrity i → (apply new (ReadAll (content_path cache i)) Plain).0 ≡ (apply t (ReadAll (content_path cache i)) Plain).0
  unfolding content_path
  content_alike i whole =
      let a = address_is i whole in
      let named : names_of (joined cache (content_names a.0)) ≡ Ok (home ++ content_names a.0) = joined_texts_name cache (content_names a.0) (names_are_proper.contents a.0 a.1) (omega arith) ∙ rw at_home refl in
      let at : names_of (content_path cache i) ≡ Ok (home ++ content_names a.0) = rw a.2 named in
      let free = clear_area home temp_area _ content_area refl refl in
      read_answer new (content_path cache i)
      ∙ elim (file_alike home t new IsLean (Clear home temp_area) sees (content_path cache i) (home ++ content_names a.0) at free (at_clear (home ++ content_names a.0) free)) [
        | inl same ↦ ap said same
        | inr lean ↦ absurd (let wrong : Content ≡ Bucket = sym (kind-below home (content_names a.0)) ∙ lean.2.0 in cc)
      ]
      ∙ sym (read_answer t (content_path cache i))

  alike : ReadsAlike cache home t new
  alike = record { folders = folders_alike; files = reads_alike; contents = λ key f finds. content_alike f.integrity (formed key f finds) }

-- if links lead out of the cache and found entries have integrities, calls answer as before
pub compactions_answer : (durable : Bool) (site : Site) (home : Names) (t new : Tree) → home_of site.cache ≡ Some home → LinksLeadOut home t
    → FindsFormed site.cache t → CutShort durable home t new → ReadsAsBefore site t new
compactions_answer durable site home t new at_home out formed is = reads_as_before site home t new at_home (alike durable site.cache home t new at_home out formed is)

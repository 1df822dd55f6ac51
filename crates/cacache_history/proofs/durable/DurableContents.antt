-- A content that a durable put stored outlasts a loss, once its folders are synced, and so does a link that it found there.
use Rattle.std.{proofs.Common.{rules, ◌≡◌, inl, inr, ℕ, true, List, [], ◌∷◌, ◌++◌, Option, None, Some, Ok, refl, sym, ap, subst, ◌∙◌, arith}, specs.Prelude.{IfOk}}
use Rattle.cacache_core.specs.{declared.integrity.digest.Hash.{Hash}, Integrity.{IsHash}, Paths.{Names, names_below, names_of, content_names, folders_to, joined}}
use Rattle.cacache_core.proofs.{JoinedNames.{joined_texts_name}, ProperNames.{names_are_proper}}
use Rattle.cacache_store.specs.{declared.store.plain.PlainTemp.{PlainTemp}, Plain.{PlainAnswer}}
use Rattle.cacache_store.specs.declared.store.step.Step.TheVariants as steps
use Rattle.cacache_store.specs.declared.store.answer.Answer.TheVariants as answers
use Rattle.cacache_disk.specs.{declared.node.Node.{Node, TheVariants.{Folder, File, Link}}, Tree.{Tree, look}, Apply.{apply}}
use Rattle.cacache_calls.specs.Runs.{Moves}
use Rattle.cacache_value.{specs.{Kinds.{Content, path_kind}, Placed.{MayStand}, Acts.{Move}, Value.{AtLink, blob_in}}, proofs.{Applying.{suits}, PathKinds.{kind-below}}}
use Rattle.cacache_history.specs.{declared.record.Record.{Record}, Setup.{home}, History.{History, Made}, Values.{steps_of, value_at}, durable.Outlasting.{moment_at}}
use Rattle.cacache_history.proofs.{Histories.Values.{contents_are_right}, durable.{DoneSyncs.{QuietPlace, after_own, cache_here, cache_text, calm_later, calm_move, here, leads_to_end, own_move, own_record, split, texts_here, none_synced}, CommitMoves.{HasDirs}, QuietSteps.{calm_at, stood_before}, Traces.{moment_more, of_cache_at, tree_at}}}
use Rattle.cacache_loss.specs.{Moments.{AreCalm, IsCalm, OfBytes, PutWell, PutsMove, PutsStep, Moment, after, lost_then, next}, Fixing.{place_now}, Loss.{Loss}, LossLaws.{GoodNode, HasDigest, IsSafe}, LostTrees.{OfCache}, Syncs.{IsFileSync, IsPut, SyncsFolders}}
use Rattle.cacache_loss.proofs.{SyncedFolders.{five_for_contents}, Commits.{found_stays, put_safe}, Contents.{GoodOrLink, contents_survive}, KeptPaths.{cache_next}, StepCases.{PersistCase, moved, persist_case, refused}}

-- ---- a file that is put

module _ (home : Option Names) (Good : List ℕ → Type 0) (path : Names) (text : List ℕ) (named : names_of text ≡ Ok path) (now : Moment) (m : Move) (f : PlainTemp)
    (step : m.step ≡ steps.Persist f text) (done : m.answer ≡ answers.Done) (calm : IsCalm home now m) (puts : PutsMove Good path now m) where
  puts_well : OfBytes Good f.bytes × IfOk (names_of f.path) (λ from. (now.fixed.files from).whole ≡ true)
  puts_well =
      let all : PutsStep Good path now (steps.Persist f text) m.answer = subst (λ step. PutsStep Good path now step m.answer) step puts in
      all done named

  is_put : IsPut f path m.step m.answer
  is_put = subst (λ step. IsPut f path step m.answer) (sym step) (refl, named, done)

  put_case : PersistCase now.tree f text (apply now.tree (steps.Persist f text) m.luck)
      → IsSafe Good (place_now (next now m).tree (next now m).fixed path)
  put_case (refused fault e) =
      let told : answers.Failed fault ≡ answers.Done
      = ap (λ (o : PlainAnswer × Tree). o.0) (sym e) ∙ ap (λ step. (apply now.tree step m.luck).0) (sym step) ∙ sym calm.2 ∙ done in
      absurd cc
  put_case (moved bytes from to has there at e) =
      put_safe Good now.tree now.fixed f from path bytes there has (subst (OfBytes Good) has puts_well.0)
      (subst (λ r. IfOk r (λ from. (now.fixed.files from).whole ≡ true)) there puts_well.1)
      m.step m.luck m.answer calm.2 is_put

  -- it is there, with good bytes, all of them synced
  pub safe_put : IsSafe Good (place_now (next now m).tree (next now m).fixed path)
  safe_put = put_case (persist_case now.tree f text m.luck)

-- ---- in a history

-- where the content of an address lies
pub content_named : (h : History) (folder : Names) (a : Hash) → IsHash a → home h.setup ≡ Some folder → names_of (joined h.setup.cache (content_names a)) ≡ Ok (folder ++ content_names a)
content_named h folder a is_hash home_is =
    joined_texts_name h.setup.cache (content_names a) (names_are_proper.contents a is_hash) (omega arith) ∙ ap (λ o. names_below o (content_names a)) home_is

module _ {h : History} {folder : Names} {before rest : List Record} {caller : ℕ} {made : Made} {more : Moves} (a : Hash) (is_hash : IsHash a)
    (q : QuietPlace h folder (folder ++ content_names a) before rest caller made more)
    (well : PutWell (HasDigest a) (folder ++ content_names a) (moment_at h (here q)) (own_move q ∷ steps_of q.place.later))
    (dirs : HasDirs (folders_to h.setup.cache (content_names a)) more) (loss : Loss) where
  abbrev path : Names
  path = folder ++ content_names a

  abbrev text : List ℕ
  text = joined h.setup.cache (content_names a)

  abbrev now : Moment
  now = moment_at h (here q)

  named : names_of text ≡ Ok path
  named = content_named h folder a is_hash q.home_is

  at : path_kind (Some folder) path ≡ Content
  at = kind-below folder (content_names a)

  -- the content's folders are synced
  way : SyncsFolders (Some folder) [] path (steps_of q.place.later)
  way =
      (five_for_contents h.setup.cache folder a (cache_text q dirs.0) is_hash).enough (steps_of q.place.later)
      (texts_here q (folders_to h.setup.cache (content_names a)) dirs)

  at_end : (P : Option Node → Type 0) → P (lost_then (Some folder) (after_own q) loss path) → P (lost_then (Some folder) (moment_at h h.records) loss path)
  at_end P = subst (λ w. P (lost_then (Some folder) w loss path)) (sym (leads_to_end q))

  -- a content that was put
  pub put_outlasts : (f : PlainTemp) → made ≡ (steps.Persist f text, answers.Done) → GoodNode (HasDigest a) (lost_then (Some folder) (moment_at h h.records) loss path)
  put_outlasts f e =
      at_end (GoodNode (HasDigest a))
      (contents_survive (Some folder) a path (next now (own_move q)) (steps_of q.place.later) loss at
      (cache_next (Some folder) now (own_move q) (cache_here q) (calm_move q).1)
      (safe_put (Some folder) (HasDigest a) path text named now (own_move q) f (ap (λ (m : Made). m.0) e) (ap (λ (m : Made). m.1) e) (calm_move q) well.0)
      (calm_later q) well.1 way)

  -- ---- a content or a link that was found there

  -- what a place holds at the address is what is at the path
  stands_at : (records : List Record) → (value_at h records).contents a ≡ blob_in (look (moment_at h records).tree path)
  stands_at records = search (rules, tree_at)

  -- a link that is there when the put makes its move was there before
  link_before : (target : List ℕ) → look now.tree path ≡ Some (Link target) → (value_at h before).contents a ≡ Some (AtLink target)
  link_before target linked =
      let calm : AreCalm (Some folder) (moment_at h before) (steps_of rest) = subst (λ home. AreCalm home (moment_at h before) (steps_of rest)) q.home_is (calm_at h q.legal before rest q.is path q.quiet) in
      let of_cache : OfCache (Some folder) (moment_at h before) = subst (λ home. OfCache home (moment_at h before)) q.home_is (of_cache_at h q.legal before rest q.is).0 in
      let moment : moment_at h (here q) ≡ after (moment_at h before) (steps_of q.place.between) = moment_more h before q.place.between in
      let was : look (moment_at h before).tree path ≡ Some (Link target)
      = stood_before (Some folder) path at target (moment_at h before) q.place.between (own_record q ∷ q.place.later) of_cache
      (subst (λ records. AreCalm (Some folder) (moment_at h before) (steps_of records)) q.place.is calm)
      (ap (λ (w : Moment). look w.tree path) (sym moment) ∙ linked) in
      stands_at before ∙ ap blob_in was

  -- a link to this target was there before
  abbrev Was : List ℕ → Type 0
  Was target = (value_at h before).contents a ≡ Some (AtLink target)

  module _ (e : made ≡ (steps.SyncFile text, answers.Done)) where
    sync_done : (apply now.tree (steps.SyncFile text) q.place.luck).0 ≡ answers.Done
    sync_done = let calm = calm_move q in ap (λ step. (apply now.tree step q.place.luck).0) (sym (ap (λ (m : Made). m.0) e)) ∙ sym calm.2 ∙ ap (λ (m : Made). m.1) e

    is_sync : IsFileSync path made.0 made.1
    is_sync = subst (λ (m : Made). IsFileSync path m.0 m.1) (sym e) (named, refl)

    found_here : (node : Option Node) → look now.tree path ≡ node → MayStand (Some folder) node Content → GoodOrLink (HasDigest a) Was node
    found_here None none stands = absurd (none_synced now.tree text path named none q.place.luck sync_done)
    found_here (Some Folder) is stands = absurd stands
    found_here (Some (Link target)) is stands = inr (target, link_before target is, refl)
    found_here (Some (File bytes)) is stands =
        inl (contents_are_right h q.legal (here q) (own_record q ∷ q.place.later) (split q) a is_hash bytes (stands_at (here q) ∙ ap blob_in is))

    -- a right file is left, or the link that was there before
    pub found_left : GoodOrLink (HasDigest a) Was (lost_then (Some folder) (moment_at h h.records) loss path)
    found_left =
        at_end (GoodOrLink (HasDigest a) Was)
        (found_stays (HasDigest a) Was (Some folder) path now (own_move q) (steps_of q.place.later) loss at (cache_here q)
        (found_here (look now.tree path) refl (suits (Some folder) now.tree path Content at (cache_here q).0)) is_sync (calm_later q) well.1 way)

-- Files that are copied.
use Rattle.std.proofs.Common.{◌≡◌, ◌⊎◌, ◌&&◌, ◌||◌, not, ℕ, zero, suc, Bool, true, false, if◌then◌else◌, List, [], ◌∷◌, ◌++◌, length, take, refl, sym, ap, subst, ◌∙◌, ⊎_elim, inl, inr, nat_eq}
use Rattle.std.specs.{Cmp.Lexicographic.{pointwise}, Prelude.{Option, None, Some, Result, Ok, Err, MatchResult}}
use Rattle.std_io.specs.declared.io.kind.ErrorKind.{ErrorKind}
use Rattle.std_io.specs.declared.io.kind.ErrorKind.TheVariants as kind
use Rattle.cacache_core.specs.{Errors.{fault_of}, declared.errors.Fault.{Fault, TheVariants.{NotFound, IsADirectory, InvalidInput, AlreadyExists}}, Paths.{Names, names_of}}
use Rattle.cacache_store.specs.{declared.store.answer.Kind.{Kind}, Plain.{PlainAnswer}}
use Rattle.cacache_store.specs.declared.store.step.Step.TheVariants as steps
use Rattle.cacache_store.specs.declared.store.answer.Answer.TheVariants as answers
use Rattle.cacache_disk.specs.{declared.{luck.Luck.TheVariants.{Plain, Fail}, node.Node.{Node, TheVariants.{Folder, File, Link}}}, Tree.{Tree, look, put, cut, same_path}, LedTo.{or_fault, leads, found, file_at, writable, place, standing, removable, replaceable, where_free, where_no_folder}, Apply.{if_missing, apply, taken, fault_told, made_up}}
use Rattle.cacache_disk.proofs.{Maps.{put_same, same_path-true}, FoundNodes.{place_ok, or_fault_none}}
use Rattle.cacache_system.specs.{declared.call.{FileInfo.{FileInfo}, CallResult.{CallResult}}, CallsOf.{Stage, over, only, taking_memory, asking_source, asking_target, asking_end, making_end, resolving, making_fresh, filling, replacing, scrapping, place_fresh, source_known, target_known, copied, name_taken, already_exists, is_absent, is_link, is_same_node, fresh_name, fresh_number, fresh_beside, after}, AnswersOf.{answer_of, first_number, misses, refuses_memory}}
use Rattle.cacache_system.specs.declared.call.SystemCall.TheVariants as asks
use Rattle.cacache_system.specs.declared.call.CallResult.TheVariants as says
use Rattle.cacache_system_model.specs.{Machine.{Machine, IsRefused, moved, ChangesPlaces, RemovesNode, OpensIf, ShowsEnd, ShowsNode, Describes, found_bytes, CopiesBytes, MovesNode, SpellsEnd, with_empty}, Calls.{LeavesCreated, brought, part_copied, part_opened}, Laws.{answer_on, outcome, Leads, IsDone}, Writing.{HasNoFresh, CanCopy, CopyAgrees}}
use Rattle.cacache_system_model.proofs.{Refusing.{same_outcome, failed, failing_apply, never_missing}, Leading.{Claim, over_leads, call_leads}, Claims.{way_of, claim_of, cases_of, taking_leads, claim_plain, claim_lucky, claim_broken, claim_memory}, Steps.{Opening.{said_leads, of_some}, Looking.{refused_folder, wanted_file}, CopyFacts.{either_true, same_text, apply_copy, whole_file, writable_found, Source, Ready, same_node_numbers, writable_at, Stands, no_way, nothing, a_folder_here, a_file_here, a_link_here, stands_so, not_absent, exists_fine, absent_fault, not_taken_fault, not_taken, fault_absent, no_place, unnamed, fresh_proper}}, Views.{View, nowhere, a_folder, a_file, view}, Fresh.{placed_as, placed_beside, look_new, own_place, own_writable, own_removable, replaceable_still, leads_still, file_still, cut_new, put_new, free_at_place, dangling}}

-- where something is and where nothing is
other_names : (t : Tree) (source fn : Names) (bytes : List ℕ) (c : Bool) → same_path source fn ≡ c → look t source ≡ Some (File bytes) → look t fn ≡ None → same_path source fn ≡ false
other_names t source fn bytes false is there none = is
other_names t source fn bytes true is there none =
    absurd (let wrong : Some (File bytes) ≡ None = sym there ∙ ap (look t) (same_path-true source fn is) ∙ none in cc)

module _ (first_tried : ℕ) (b : Bool) (m : Machine) (from to : List ℕ) (can : CanCopy m to) (done : b ≡ false → IsDone m (steps.Copy from to)) (clear : b ≡ true → HasNoFresh m) where
  abbrev P : Claim
  P = claim_of b m (steps.Copy from to)

  copy_failed : (why : ErrorKind) (k : Machine) (c : Bool) → refuses_memory why ≡ c → answer_on k (answer_of (steps.Copy from to) (says.Failed why)) ≡ failed (fault_of why)
  copy_failed why k true is = ap (λ (x : Bool). answer_on k (if x && false then answers.NoMemory (steps.Copy from to) else answers.Failed (fault_of why))) is
  copy_failed why k false is = ap (λ (x : Bool). answer_on k (if x && false then answers.NoMemory (steps.Copy from to) else answers.Failed (fault_of why))) is

  fails_plain : (fault : Fault) (why : ErrorKind) (k : Machine) → apply m.tree (steps.Copy from to) Plain ≡ outcome (failed fault) m.tree → fault_of why ≡ fault → k.tree ≡ m.tree → P (says.Failed why) k
  fails_plain fault why k is of stays =
      claim_plain b m (steps.Copy from to) done (says.Failed why) k
      (is ∙ sym (same_outcome (answer_on k (answer_of (steps.Copy from to) (says.Failed why))) (failed fault) k.tree m.tree (copy_failed why k (refuses_memory why) refl ∙ ap failed of) stays))

  broke_same : (why : ErrorKind) (k : Machine) → b ≡ false → misses why ≡ false → k.tree ≡ m.tree → P (says.Failed why) k
  broke_same why k broke fine stays = claim_broken b m (steps.Copy from to) done why k broke refl fine stays

  memory_same : P (says.Failed kind.OutOfMemory) m
  memory_same = claim_memory b m (steps.Copy from to) done m refl refl

  the_copy : (bytes : List ℕ) (names : Names) (k : Machine) → file_at m.tree from InvalidInput ≡ Ok bytes → writable m.tree to ≡ Ok names → k.tree ≡ put m.tree names (File bytes) → P (says.Count (length bytes)) k
  the_copy bytes names k source target tree =
      claim_plain b m (steps.Copy from to) done (says.Count (length bytes)) k
      (apply_copy m.tree from to (Ok bytes) (Ok names) source target
      ∙ same_outcome (answers.Took (length bytes)) (answers.Took (length bytes)) (put m.tree names (File (take (length bytes) bytes))) k.tree refl
      (ap (λ (l : List ℕ). put m.tree names (File l)) (whole_file bytes) ∙ sym tree))

  -- the disk's table refuses the copy
  refused_target : (source : List ℕ) (fault : Fault) → file_at m.tree from InvalidInput ≡ Ok source → writable m.tree to ≡ Err fault → apply m.tree (steps.Copy from to) Plain ≡ outcome (failed fault) m.tree
  refused_target source fault is at = apply_copy m.tree from to (Ok source) (Err fault) is at

  -- ---- a fresh file that isn't wanted after all

  fresh_stays : (why : ErrorKind) (k : Machine) (above : Names) (number : ℕ) (bytes : List ℕ) → b ≡ false → misses why ≡ false → look m.tree (above ++ fresh_name number ∷ []) ≡ None
      → k.tree ≡ put m.tree (above ++ fresh_name number ∷ []) (File bytes) → P (says.Failed why) k
  fresh_stays why k above number bytes broke fine free_there tree =
      claim_lucky b m (steps.Copy from to) done (says.Failed why) k broke (λ d. inr (inr (
        Fail (fault_of why) None,
        above,
        number,
        bytes,
        free_there,
        failing_apply m.tree (steps.Copy from to) (fault_of why) None d
            ∙ sym (same_outcome (answer_on k (answer_of (steps.Copy from to) (says.Failed why))) (failed (made_up (fault_of why))) m.tree m.tree
            (copy_failed why k (refuses_memory why) refl ∙ ap failed (sym (never_missing why fine))) refl),
        tree,
      )))

  scrap_leads : (why : ErrorKind) (fresh : List ℕ) (above : Names) (number : ℕ) (bytes : List ℕ) (l : Machine) → b ≡ false → misses why ≡ false → place m.tree fresh ≡ Ok (above ++ fresh_name number ∷ [])
      → look m.tree (above ++ fresh_name number ∷ []) ≡ None → l.tree ≡ put m.tree (above ++ fresh_name number ∷ []) (File bytes) → Leads (way_of b) (scrapping why fresh) l P
  scrap_leads why fresh above number bytes l broke fine placed free_there tree =
      let fn = above ++ fresh_name number ∷ [] in
      call_leads (way_of b) (scrapping why fresh) (asks.RemoveFile fresh) l P refl (λ end never. absurd never) (λ said k happens.
      over_leads (way_of b) (says.Failed why) k P
      (⊎_elim
      (λ (most, all, well).
      let removed : RemovesNode (Ok fn) l said k
      = subst (λ (r : Result Names Fault). RemovesNode r l said k) (ap (λ (t : Tree). removable t fresh) tree ∙ own_removable m.tree fn bytes free_there fresh placed) well in
      broke_same why k broke fine (removed.2.0 ∙ ap (λ (t : Tree). cut t fn) tree ∙ cut_new m.tree fn bytes free_there))
      (λ (broke, other, same, fair, part, left).
      let stays : k ≡ l = left in
      fresh_stays why k above number bytes broke fine free_there (ap (λ (x : Machine). x.tree) stays ∙ tree))
      (cases_of b l (asks.RemoveFile fresh) said k happens)))

  -- ---- a fresh file that takes the place of what is there

  module _ (path bytes : List ℕ) (names : Names) (ready : Ready m from to path bytes names) (fresh : List ℕ) (above : Names) (number : ℕ)
      (placed : place m.tree fresh ≡ Ok (above ++ fresh_name number ∷ [])) (free_there : look m.tree (above ++ fresh_name number ∷ []) ≡ None) where
    abbrev fn : Names
    fn = above ++ fresh_name number ∷ []

    replace_leads : (l : Machine) → l.tree ≡ put m.tree fn (File bytes) → Leads (way_of b) (replacing (length bytes) fresh path) l P
    replace_leads l tree =
        call_leads (way_of b) (replacing (length bytes) fresh path) (asks.Rename fresh path) l P refl (λ end never. absurd never) (λ said k happens.
        ⊎_elim
        (λ (most, all, well).
        let goes : MovesNode fn (look l.tree fn) (replaceable l.tree path) l said k
        = subst (λ (r : Result Names Fault). MatchResult r (λ old. MovesNode old (look l.tree old) (replaceable l.tree path) l said k) (λ fault. IsRefused fault l said k))
        (ap (λ (t : Tree). place t fresh) tree ∙ own_place m.tree fn bytes free_there fresh placed) well in
        let moves : MovesNode fn (Some (File bytes)) (replaceable l.tree path) l said k
        = subst (λ (o : Option Node). MovesNode fn o (replaceable l.tree path) l said k) (ap (λ (t : Tree). look t fn) tree ∙ look_new m.tree fn bytes free_there) goes in
        let ends : ChangesPlaces (Ok names) (λ new. put (cut l.tree fn) new (File bytes)) (λ was. moved was fn) l said k
        = subst (λ (r : Result Names Fault). ChangesPlaces r (λ new. put (cut l.tree fn) new (File bytes)) (λ was. moved was fn) l said k)
        (ap (λ (t : Tree). replaceable t path) tree ∙ replaceable_still m.tree fn bytes free_there path names ready.placed ready.replaced) moves in
        said_leads b (replacing (length bytes) fresh path) said says.Done k P ends.1
        (over_leads (way_of b) (says.Count (length bytes)) k P
        (the_copy bytes names k ready.read ready.target
        (ends.2.0 ∙ ap (λ (t : Tree). put (cut t fn) names (File bytes)) tree ∙ ap (λ (t : Tree). put t names (File bytes)) (cut_new m.tree fn bytes free_there)))))
        (λ (broke, why, same, fine, part, left).
        let stays : k ≡ l = left in
        said_leads b (replacing (length bytes) fresh path) said (says.Failed why) k P same
        (scrap_leads why fresh above number bytes k broke fine placed free_there (ap (λ (x : Machine). x.tree) stays ∙ tree)))
        (cases_of b l (asks.Rename fresh path) said k happens))

    part_tree : (n : Machine) (part : Option ℕ) → n.tree ≡ put m.tree fn (File []) → (more : List ℕ) × (part_copied (Ok bytes) (Ok fn) part n.tree ≡ put m.tree fn (File more))
    part_tree n None tree = ([], tree)
    part_tree n (Some part) tree =
        let more = take (taken (Some part) bytes) bytes in
        (more, ap (λ (t : Tree). put t fn (File more)) tree ∙ put_new m.tree fn [] free_there more)

    fill_leads : (n : Machine) → n.tree ≡ put m.tree fn (File []) → Leads (way_of b) (filling from fresh path) n P
    fill_leads n tree =
        let held : file_at n.tree from InvalidInput ≡ Ok bytes = ap (λ (t : Tree). file_at t from InvalidInput) tree ∙ file_still m.tree fn [] free_there from InvalidInput ready.source bytes ready.led ready.stands in
        let led : leads n.tree from ≡ Ok ready.source = ap (λ (t : Tree). leads t from) tree ∙ leads_still m.tree fn [] free_there from ready.source (File bytes) ready.stands ready.led in
        let target : writable n.tree fresh ≡ Ok fn = ap (λ (t : Tree). writable t fresh) tree ∙ own_writable m.tree fn [] free_there fresh placed in
        let source : brought n.tree from fresh ≡ Ok bytes
        = ap (λ (r : Result Names Fault). found_bytes r (writable n.tree fresh) (file_at n.tree from InvalidInput)) led
        ∙ ap (λ (s : Result Names Fault). found_bytes (Ok ready.source) s (file_at n.tree from InvalidInput)) target
        ∙ ap (found_bytes (Ok ready.source) (Ok fn)) held
        ∙ ap (λ (c : Bool). let r : Result (List ℕ) Fault = Ok (if c then [] else bytes) in r) (other_names m.tree ready.source fn bytes (same_path ready.source fn) refl ready.stands free_there) in
        call_leads (way_of b) (filling from fresh path) (asks.CopyFile from fresh) n P refl (λ end never. absurd never) (λ said l happens.
        ⊎_elim
        (λ (most, all, well).
        let copied : CopiesBytes (Ok bytes) (Ok fn) n said l
        = subst (λ (s : Result Names Fault). CopiesBytes (Ok bytes) s n said l) target (subst (λ (r : Result (List ℕ) Fault). CopiesBytes r (writable n.tree fresh) n said l) source well) in
        said_leads b (filling from fresh path) said (says.Count (length bytes)) l P copied.0
        (replace_leads l (copied.1.0 ∙ ap (λ (t : Tree). put t fn (File bytes)) tree ∙ put_new m.tree fn [] free_there bytes)))
        (λ (broke, why, same, fine, part, left).
        let parted = part_tree n part tree in
        let left_there : l.tree ≡ part_copied (Ok bytes) (Ok fn) part n.tree
        = left.0 ∙ ap (λ (r : Result (List ℕ) Fault). part_copied r (writable n.tree fresh) part n.tree) source ∙ ap (λ (s : Result Names Fault). part_copied (Ok bytes) s part n.tree) target in
        said_leads b (filling from fresh path) said (says.Failed why) l P same
        (scrap_leads why fresh above number parted.0 l broke fine placed free_there (left_there ∙ parted.1)))
        (cases_of b n (asks.CopyFile from fresh) said l happens))

  module _ (path bytes : List ℕ) (names : Names) (ready : Ready m from to path bytes names) (number : ℕ) where
    abbrev Taken : ℕ → Type 0
    Taken left = (why : ErrorKind) → b ≡ false → misses why ≡ false → Leads (way_of b) (name_taken left number why from path) m P

    exists_so : (left : ℕ) (above : Names) (node : Node) (said : CallResult) (n : Machine) (c : Bool) → b ≡ c → Taken left → look m.tree (above ++ fresh_name (fresh_number left number) ∷ []) ≡ Some node
        → IsRefused AlreadyExists m said n → Leads (way_of b) (after (making_fresh left number from path) said) n P
    exists_so left above node said n true well taken at refused =
        let none : look m.tree (above ++ fresh_name (fresh_number left number) ∷ []) ≡ None = clear well above (fresh_number left number) in
        absurd (let wrong : Some node ≡ None = sym at ∙ none in cc)
    exists_so left above node said n false broke taken at (why, same, of, memory, stays) =
        said_leads b (making_fresh left number from path) said (says.Failed why) n P same
        (subst (λ (x : Machine). Leads (way_of b) (name_taken left number why from path) x P) (sym stays) (taken why broke (exists_fine why of)))

    made_so : (left : ℕ) (above : Names) (said : CallResult) (n : Machine) (o : Option Node) → Taken left → place m.tree (fresh_beside path (fresh_number left number)) ≡ Ok (above ++ fresh_name (fresh_number left number) ∷ [])
        → look m.tree (above ++ fresh_name (fresh_number left number) ∷ []) ≡ o
        → OpensIf (where_free o (above ++ fresh_name (fresh_number left number) ∷ [])) (λ x. put m.tree x (File [])) m said n
        → Leads (way_of b) (after (making_fresh left number from path) said) n P
    made_so left above said n None taken placed at (opened, same, fresh, became) =
        said_leads b (making_fresh left number from path) said (says.Opened opened) n P same
        (fill_leads path bytes names ready (fresh_beside path (fresh_number left number)) above (fresh_number left number) placed at n became.0)
    made_so left above said n (Some node) taken placed at refused = exists_so left above node said n b refl taken at refused

    -- a fresh file that wasn't opened, and may be there
    part_made : (left : ℕ) (above : Names) (why : ErrorKind) (part : Option ℕ) (n : Machine) (o : Option Node) → b ≡ false → misses why ≡ false → look m.tree (above ++ fresh_name (fresh_number left number) ∷ []) ≡ o
        → n.tree ≡ part_opened (where_free o (above ++ fresh_name (fresh_number left number) ∷ [])) part m.tree → P (says.Failed why) n
    part_made left above why (Some part) n None broke fine at tree =
        let fn = above ++ fresh_name (fresh_number left number) ∷ [] in
        fresh_stays why n above (fresh_number left number) [] broke fine at (tree ∙ ap (λ (o : Option Node). if_missing o (put m.tree fn (File [])) m.tree) at)
    part_made left above why None n None broke fine at tree = broke_same why n broke fine tree
    part_made left above why part n (Some node) broke fine at tree = broke_same why n broke fine tree

    not_made : (left : ℕ) (above : Names) (why : ErrorKind) (part : Option ℕ) (n : Machine) (c : Bool) → b ≡ false → misses why ≡ false → already_exists why ≡ c → Taken left
        → place m.tree (fresh_beside path (fresh_number left number)) ≡ Ok (above ++ fresh_name (fresh_number left number) ∷ [])
        → LeavesCreated c (fresh_beside path (fresh_number left number)) part m n → Leads (way_of b) (name_taken left number why from path) n P
    not_made left above why part n true broke fine is taken placed same =
        subst (λ (x : Machine). Leads (way_of b) (name_taken left number why from path) x P) (sym same) (taken why broke fine)
    not_made left above why part n false broke fine is taken placed made =
        let fn = above ++ fresh_name (fresh_number left number) ∷ [] in
        subst (λ (s : Stage). Leads (way_of b) s n P) (sym (not_taken left number why from path is))
        (over_leads (way_of b) (says.Failed why) n P
        (part_made left above why part n (look m.tree fn) broke fine refl
        (made.0 ∙ ap (λ (r : Result Names Fault). part_opened r part m.tree) (free_at_place m.tree (fresh_beside path (fresh_number left number)) (Ok fn) placed))))

    fresh_from : (left : ℕ) → Taken left → Leads (way_of b) (making_fresh left number from path) m P
    fresh_from left taken =
        let k = fresh_number left number in
        let named = place_ok m.tree path names ready.placed in
        let side = placed_beside m.tree path (fresh_name k) names named ready.ends (fresh_proper k) in
        let whole : side.fault ≡ None = (or_fault_none side.fault (side.front ++ side.last ∷ []) names (sym side.own ∙ ready.placed)).0 in
        let placed : place m.tree (fresh_beside path k) ≡ Ok (side.front ++ fresh_name k ∷ []) = side.other ∙ ap (λ (o : Option Fault). or_fault o (side.front ++ fresh_name k ∷ [])) whole in
        call_leads (way_of b) (making_fresh left number from path) (asks.CreateNew (fresh_beside path k) 384) m P refl (λ end never. absurd never) (λ said n happens.
        ⊎_elim
        (λ (most, all, well).
        made_so left side.front said n (look m.tree (side.front ++ fresh_name k ∷ [])) taken placed refl
        (subst (λ (r : Result Names Fault). OpensIf r (λ x. put m.tree x (File [])) m said n) (free_at_place m.tree (fresh_beside path k) (Ok (side.front ++ fresh_name k ∷ [])) placed) well))
        (λ (broke, why, same, fine, part, left_there).
        said_leads b (making_fresh left number from path) said (says.Failed why) n P same
        (not_made left side.front why part n (already_exists why) broke fine refl taken placed left_there))
        (cases_of b m (asks.CreateNew (fresh_beside path k) 384) said n happens))

    taken_if : (left : ℕ) (why : ErrorKind) (c : Bool) → Leads (way_of b) (making_fresh left number from path) m P → b ≡ false → misses why ≡ false
        → Leads (way_of b) (if c then taking_memory (making_fresh left number from path) else over (says.Failed why)) m P
    taken_if left why true next broke fine = taking_leads (way_of b) (making_fresh left number from path) m P memory_same next
    taken_if left why false next broke fine = over_leads (way_of b) (says.Failed why) m P (broke_same why m broke fine refl)

    fresh_leads : (left : ℕ) → Leads (way_of b) (making_fresh left number from path) m P
    fresh_leads zero = fresh_from zero (λ why broke fine. over_leads (way_of b) (says.Failed why) m P (broke_same why m broke fine refl))
    fresh_leads (suc left) = fresh_from (suc left) (λ why broke fine. taken_if left why (already_exists why) (fresh_leads left) broke fine)

    place_leads : Leads (way_of b) (place_fresh number from path) m P
    place_leads = taking_leads (way_of b) (making_fresh 255 number from path) m P memory_same (fresh_leads 255)

  -- ---- a file that stays

  -- a file that is copied onto itself
  stays_same : (names : Names) (bytes : List ℕ) (info : FileInfo) → file_at m.tree from InvalidInput ≡ Ok bytes → writable m.tree to ≡ Ok names → look m.tree names ≡ Some (File bytes) → info.size ≡ length bytes
      → Leads (way_of b) (over (says.Count info.size)) m P
  stays_same names bytes info source target stands size =
      over_leads (way_of b) (says.Count info.size) m P
      (subst (λ (n : ℕ). P (says.Count n) m) (sym size) (the_copy bytes names m source target (sym (put_same m.tree names (File bytes) (sym stands)))))

  one_file : (source target : FileInfo) (other : Names) (node : Node) (bytes : List ℕ) (is : Source m from source bytes) → found m.tree to ≡ Ok other → look m.tree other ≡ Some node → Describes node (m.inodes other) target
      → (pointwise nat_eq from to ≡ true) ⊎ (is_same_node source target ≡ true) → Leads (way_of b) (over (says.Count source.size)) m P
  one_file source target other node bytes is at there shown (inl same) =
      let to_names : found m.tree to ≡ Ok is.names = ap (found m.tree) (sym (same_text from to same)) ∙ is.is in
      stays_same is.names bytes source is.read (writable_found m.tree to is.names bytes to_names is.stands) is.stands is.described.size
  one_file source target other node bytes is at there shown (inr same) =
      let numbers = same_node_numbers source target same in
      let pairs : ◌≡◌ {A = ℕ × ℕ} (source.inode, source.device) (target.inode, target.device) = cc in
      let alike : look m.tree is.names ≡ look m.tree other = can.apart is.names other (sym is.described.number ∙ pairs ∙ shown.number) in
      let here : look m.tree other ≡ Some (File bytes) = sym alike ∙ is.stands in
      stays_same other bytes source is.read (writable_found m.tree to other bytes at here) here is.described.size

  -- ---- what is at the target, or where it leads

  -- how the copy goes on over a file
  abbrev next : Bool → Stage
  next through = if through then resolving first_tried from to else place_fresh first_tried from to

  over_file : (through : Bool) (source target : FileInfo) (other : Names) (more bytes : List ℕ) (same regular : Bool) (is : Source m from source bytes) → found m.tree to ≡ Ok other → look m.tree other ≡ Some (File more)
      → Describes (File more) (m.inodes other) target → (pointwise nat_eq from to || is_same_node source target) ≡ same → target.regular ≡ regular → Leads (way_of b) (next through) m P
      → Leads (way_of b) (if same then over (says.Count source.size) else if not regular then only (asks.CopyFile from to) else next through) m P
  over_file through source target other more bytes true regular is at there shown same_is regular_is goes =
      one_file source target other (File more) bytes is at there shown (either_true (pointwise nat_eq from to) (is_same_node source target) same_is)
  over_file through source target other more bytes false true is at there shown same_is regular_is goes = goes
  over_file through source target other more bytes false false is at there shown same_is regular_is goes =
      absurd (let wrong : true ≡ false = sym shown.regular ∙ regular_is in cc)

  abbrev kept_or : Bool → FileInfo → FileInfo → Stage
  kept_or through source target =
      if pointwise nat_eq from to || is_same_node source target then over (says.Count source.size)
      else if not target.regular then only (asks.CopyFile from to) else next through

  copied_over : (through : Bool) (source target : FileInfo) (other : Names) (more bytes : List ℕ) (is : Source m from source bytes) → found m.tree to ≡ Ok other → look m.tree other ≡ Some (File more)
      → Describes (File more) (m.inodes other) target → Leads (way_of b) (next through) m P → Leads (way_of b) (copied first_tried through source target from to) m P
  copied_over through source target other more bytes is at there shown goes =
      wanted_file b target.kind (kept_or through source target) m P shown.kind
      (over_file through source target other more bytes (pointwise nat_eq from to || is_same_node source target) target.regular is at there shown refl refl goes)

  copied_folder : (through : Bool) (source target : FileInfo) (bytes : List ℕ) (inode : ℕ × ℕ) → file_at m.tree from InvalidInput ≡ Ok bytes → writable m.tree to ≡ Err IsADirectory → Describes Folder inode target
      → Leads (way_of b) (copied first_tried through source target from to) m P
  copied_folder through source target bytes inode read refused shown =
      refused_folder b target.kind (kept_or through source target) m P shown.kind (fails_plain IsADirectory kind.IsADirectory m (refused_target bytes IsADirectory read refused) refl refl)

  resolve_leads : (source : FileInfo) (names : Names) (bytes more : List ℕ) (is : Source m from source bytes) → found m.tree to ≡ Ok names → look m.tree names ≡ Some (File more) → writable m.tree to ≡ Ok names
      → Leads (way_of b) (resolving first_tried from to) m P
  resolve_leads source names bytes more is at there target =
      call_leads (way_of b) (resolving first_tried from to) (asks.RealPath to) m P refl (λ end never. absurd never) (λ said n happens.
      ⊎_elim
      (λ (most, all, well).
      let spelt : SpellsEnd (Ok names) m said n = subst (λ (r : Result Names Fault). SpellsEnd r m said n) at well in
      let (text, same, spells, stays) = spelt in
      said_leads b (resolving first_tried from to) said (says.Bytes text) n P same
      (subst (λ (x : Machine). Leads (way_of b) (place_fresh first_tried from text) x P) (sym stays)
      (place_leads text bytes names (record {
        source = is.names;
        led = is.led;
        stands = is.stands;
        read = is.read;
        target = target;
        placed = spells.stands;
        replaced = ap (λ (o : Option Node). where_no_folder o names) there;
        ends = spells.ends;
      }) first_tried)))
      (λ (broke, why, same, fine, part, left).
      said_leads b (resolving first_tried from to) said (says.Failed why) n P same
      (over_leads (way_of b) (says.Failed why) n P (broke_same why n broke fine (ap (λ (x : Machine). x.tree) left))))
      (cases_of b m (asks.RealPath to) said n happens))

  -- a link that leads to nothing
  end_leads : (bytes : List ℕ) (fault : Fault) → file_at m.tree from InvalidInput ≡ Ok bytes → writable m.tree to ≡ Err fault → Leads (way_of b) (making_end first_tried from to) m P
  end_leads bytes fault read refused =
      call_leads (way_of b) (making_end first_tried from to) (asks.OpenToAppend to) m P refl (λ end never. absurd never) (λ said n happens.
      ⊎_elim
      (λ (most, all, well).
      let is : IsRefused fault m said n = subst (λ (r : Result Names Fault). OpensIf r (with_empty m.tree) m said n) refused well in
      said_leads b (making_end first_tried from to) said (says.Failed is.0) n P is.1
      (over_leads (way_of b) (says.Failed is.0) n P (fails_plain fault is.0 n (refused_target bytes fault read refused) is.2 (ap (λ (x : Machine). x.tree) is.4))))
      (λ (broke, why, same, fine, part, left).
      said_leads b (making_end first_tried from to) said (says.Failed why) n P same
      (over_leads (way_of b) (says.Failed why) n P (broke_same why n broke fine (left.0 ∙ ap (λ (r : Result Names Fault). part_opened r part m.tree) refused))))
      (cases_of b m (asks.OpenToAppend to) said n happens))

  end_if : (bytes : List ℕ) (fault : Fault) (why : ErrorKind) (c : Bool) → file_at m.tree from InvalidInput ≡ Ok bytes → writable m.tree to ≡ Err fault → P (says.Failed why) m
      → Leads (way_of b) (if c then making_end first_tried from to else over (says.Failed why)) m P
  end_if bytes fault why true read refused holds = end_leads bytes fault read refused
  end_if bytes fault why false read refused holds = over_leads (way_of b) (says.Failed why) m P holds

  broke_if : (s : Stage) (why : ErrorKind) (n : Machine) (c : Bool) → b ≡ false → misses why ≡ false → is_absent why ≡ c → n.tree ≡ m.tree
      → Leads (way_of b) (if c then s else over (says.Failed why)) n P
  broke_if s why n true broke fine is stays = absurd (let wrong : false ≡ true = sym (not_absent why fine) ∙ is in cc)
  broke_if s why n false broke fine is stays = over_leads (way_of b) (says.Failed why) n P (broke_same why n broke fine stays)

  end_found : (v : View m.tree to) (source : FileInfo) (link : Names) (node : Node) (bytes : List ℕ) (is : Source m from source bytes) → place m.tree to ≡ Ok link → look m.tree link ≡ Some node → (said : CallResult) (n : Machine)
      → ShowsEnd (found m.tree to) m said n → Leads (way_of b) (after (asking_end first_tried source from to) said) n P
  end_found (nowhere fault at file) source link node bytes is placed there said n shows =
      let refused_so : IsRefused fault m said n = subst (λ (r : Result Names Fault). ShowsEnd r m said n) at shows in
      let (why, same, of, memory, stays) = refused_so in
      let refused = dangling m.tree to link node fault placed there at in
      said_leads b (asking_end first_tried source from to) said (says.Failed why) n P same
      (subst (λ (x : Machine). Leads (way_of b) (if is_absent why then making_end first_tried from to else over (says.Failed why)) x P) (sym stays)
      (end_if bytes fault why (is_absent why) is.read refused (fails_plain fault why m (refused_target bytes fault is.read refused) of refl)))
  end_found (a_folder names l at stands file) source link node bytes is placed there said n shows =
      let shown_so : ShowsNode names m said n = subst (λ (r : Result Names Fault). ShowsEnd r m said n) at shows in
      let (info, same, fits, stays) = shown_so in
      said_leads b (asking_end first_tried source from to) said (says.Info info) n P same
      (subst (λ (x : Machine). Leads (way_of b) (copied first_tried true source info from to) x P) (sym stays)
      (copied_folder true source info bytes (m.inodes names) is.read (writable_at m.tree to (Ok names) l ∙ ap (λ (o : Option Node). where_no_folder o names) stands)
      (of_some (look m.tree names) Folder (λ x. Describes x (m.inodes names) info) stands fits)))
  end_found (a_file names more l at stands file) source link node bytes is placed there said n shows =
      let shown_so : ShowsNode names m said n = subst (λ (r : Result Names Fault). ShowsEnd r m said n) at shows in
      let (info, same, fits, stays) = shown_so in
      said_leads b (asking_end first_tried source from to) said (says.Info info) n P same
      (subst (λ (x : Machine). Leads (way_of b) (copied first_tried true source info from to) x P) (sym stays)
      (copied_over true source info names more bytes is at stands (of_some (look m.tree names) (File more) (λ x. Describes x (m.inodes names) info) stands fits)
      (resolve_leads source names bytes more is at stands (writable_found m.tree to names more at stands))))

  asking_leads : (source : FileInfo) (link : Names) (node : Node) (bytes : List ℕ) (is : Source m from source bytes) → place m.tree to ≡ Ok link → look m.tree link ≡ Some node → Leads (way_of b) (asking_end first_tried source from to) m P
  asking_leads source link node bytes is placed there =
      call_leads (way_of b) (asking_end first_tried source from to) (asks.Stat to) m P refl (λ end never. absurd never) (λ said n happens.
      ⊎_elim
      (λ (most, all, well). end_found (view m.tree to) source link node bytes is placed there said n well)
      (λ (broke, why, same, fine, part, left).
      said_leads b (asking_end first_tried source from to) said (says.Failed why) n P same
      (broke_if (making_end first_tried from to) why n (is_absent why) broke fine refl (ap (λ (x : Machine). x.tree) left)))
      (cases_of b m (asks.Stat to) said n happens))

  -- ---- nothing is at the target

  -- its folder is missing: no fresh file can be made there
  missing_leads : (left number : ℕ) (bytes : List ℕ) (ns : Names) → file_at m.tree from InvalidInput ≡ Ok bytes → writable m.tree to ≡ Err NotFound → names_of to ≡ Ok ns → place m.tree to ≡ Err NotFound
      → Leads (way_of b) (making_fresh left number from to) m P
  missing_leads left number bytes ns read refused named at =
      let k = fresh_number left number in
      let side = placed_beside m.tree to (fresh_name k) ns named can.ends (fresh_proper k) in
      let none : place m.tree (fresh_beside to k) ≡ Err NotFound = no_place side.fault (side.front ++ side.last ∷ []) (side.front ++ fresh_name k ∷ []) (place m.tree (fresh_beside to k)) (sym side.own ∙ at) side.other in
      let fails : apply m.tree (steps.Copy from to) Plain ≡ outcome (failed NotFound) m.tree = refused_target bytes NotFound read refused in
      call_leads (way_of b) (making_fresh left number from to) (asks.CreateNew (fresh_beside to k) 384) m P refl (λ end never. absurd never) (λ said n happens.
      ⊎_elim
      (λ (most, all, well).
      let is : IsRefused NotFound m said n
      = subst (λ (r : Result Names Fault). OpensIf r (λ x. put m.tree x (File [])) m said n) (free_at_place m.tree (fresh_beside to k) (Err NotFound) none) well in
      said_leads b (making_fresh left number from to) said (says.Failed is.0) n P is.1
      (subst (λ (s : Stage). Leads (way_of b) s n P) (sym (not_taken left number is.0 from to (not_taken_fault is.0 is.2)))
      (over_leads (way_of b) (says.Failed is.0) n P (fails_plain NotFound is.0 n fails is.2 (ap (λ (x : Machine). x.tree) is.4)))))
      (λ (broke, why, same, fine, part, left_there).
      let told : Some NotFound ≡ None = ap (λ (r : PlainAnswer × Tree). fault_told r.0) (sym fails) ∙ done broke in
      absurd cc)
      (cases_of b m (asks.CreateNew (fresh_beside to k) 384) said n happens))

  no_place_leads : (source : FileInfo) (bytes : List ℕ) (fault : Fault) (why : ErrorKind) (n : Machine) (c : Bool) (r : Result Names Fault) (is : Source m from source bytes) → place m.tree to ≡ Err fault → writable m.tree to ≡ Err fault
      → fault_of why ≡ fault → n ≡ m → is_absent why ≡ c → names_of to ≡ r → Leads (way_of b) (if c then place_fresh first_tried from to else over (says.Failed why)) n P
  no_place_leads source bytes fault why n false r is at refused of stays absent named =
      over_leads (way_of b) (says.Failed why) n P (fails_plain fault why n (refused_target bytes fault is.read refused) of (ap (λ (x : Machine). x.tree) stays))
  no_place_leads source bytes fault why n true (Ok ns) is at refused of stays absent named =
      let missing : fault ≡ NotFound = sym of ∙ absent_fault why absent in
      subst (λ (x : Machine). Leads (way_of b) (place_fresh first_tried from to) x P) (sym stays)
      (taking_leads (way_of b) (making_fresh 255 first_tried from to) m P memory_same
      (missing_leads 255 first_tried bytes ns is.read
      (refused ∙ ap (λ (f : Fault). let r : Result Names Fault = Err f in r) missing) named (at ∙ ap (λ (f : Fault). let r : Result Names Fault = Err f in r) missing)))
  no_place_leads source bytes fault why n true (Err other) is at refused of stays absent named =
      absurd (unnamed to other named can.ends (sym (placed_as m.tree to (Err other) named) ∙ at ∙ ap (λ (f : Fault). let r : Result Names Fault = Err f in r) (sym of ∙ absent_fault why absent)))

  free_leads : (source : FileInfo) (names : Names) (bytes : List ℕ) (why : ErrorKind) (n : Machine) (c : Bool) (is : Source m from source bytes) → place m.tree to ≡ Ok names → look m.tree names ≡ None → writable m.tree to ≡ Ok names
      → fault_of why ≡ NotFound → is_absent why ≡ c → n ≡ m → Leads (way_of b) (if c then place_fresh first_tried from to else over (says.Failed why)) n P
  free_leads source names bytes why n false is at none target of absent stays = absurd (let wrong : true ≡ false = sym (fault_absent why of) ∙ absent in cc)
  free_leads source names bytes why n true is at none target of absent stays =
      subst (λ (x : Machine). Leads (way_of b) (place_fresh first_tried from to) x P) (sym stays)
      (place_leads to bytes names (record {
        source = is.names;
        led = is.led;
        stands = is.stands;
        read = is.read;
        target = target;
        placed = at;
        replaced = ap (λ (o : Option Node). where_no_folder o names) none;
        ends = can.ends;
      }) first_tried)

  -- ---- the target

  link_if : (k : Kind) (source target : FileInfo) (s : Stage) (c : Bool) (n : Machine) → is_link k ≡ c → Leads (way_of b) (if c then asking_end first_tried source from to else s) n P → Leads (way_of b) (if is_link k then asking_end first_tried source from to else s) n P
  link_if k source target s c n is leads = subst (λ (x : Bool). Leads (way_of b) (if x then asking_end first_tried source from to else s) n P) (sym is) leads

  target_stands : (v : Stands m.tree to) (source : FileInfo) (bytes : List ℕ) (is : Source m from source bytes) (said : CallResult) (n : Machine) → ShowsEnd (standing m.tree to) m said n
      → Leads (way_of b) (after (asking_target first_tried source from to) said) n P
  target_stands (no_way fault at shown refused) source bytes is said n shows =
      let refused_so : IsRefused fault m said n = subst (λ (r : Result Names Fault). ShowsEnd r m said n) shown shows in
      let (why, same, of, memory, stays) = refused_so in
      said_leads b (asking_target first_tried source from to) said (says.Failed why) n P same
      (no_place_leads source bytes fault why n (is_absent why) (names_of to) is at refused of stays refl refl)
  target_stands (nothing names at none shown target) source bytes is said n shows =
      let refused_so : IsRefused NotFound m said n = subst (λ (r : Result Names Fault). ShowsEnd r m said n) shown shows in
      let (why, same, of, memory, stays) = refused_so in
      said_leads b (asking_target first_tried source from to) said (says.Failed why) n P same
      (free_leads source names bytes why n (is_absent why) is at none target of refl stays)
  target_stands (a_folder_here names there shown at refused) source bytes is said n shows =
      let shown_so : ShowsNode names m said n = subst (λ (r : Result Names Fault). ShowsEnd r m said n) shown shows in
      let (info, same, fits, stays) = shown_so in
      let described = of_some (look m.tree names) Folder (λ x. Describes x (m.inodes names) info) there fits in
      said_leads b (asking_target first_tried source from to) said (says.Info info) n P same
      (subst (λ (x : Machine). Leads (way_of b) (target_known first_tried source info from to) x P) (sym stays)
      (link_if info.kind source info (copied first_tried false source info from to) false m (ap is_link described.kind)
      (copied_folder false source info bytes (m.inodes names) is.read refused described)))
  target_stands (a_file_here names more placed there shown at target) source bytes is said n shows =
      let shown_so : ShowsNode names m said n = subst (λ (r : Result Names Fault). ShowsEnd r m said n) shown shows in
      let (info, same, fits, stays) = shown_so in
      let described = of_some (look m.tree names) (File more) (λ x. Describes x (m.inodes names) info) there fits in
      said_leads b (asking_target first_tried source from to) said (says.Info info) n P same
      (subst (λ (x : Machine). Leads (way_of b) (target_known first_tried source info from to) x P) (sym stays)
      (link_if info.kind source info (copied first_tried false source info from to) false m (ap is_link described.kind)
      (copied_over false source info names more bytes is at there described
      (place_leads to bytes names (record {
        source = is.names;
        led = is.led;
        stands = is.stands;
        read = is.read;
        target = target;
        placed = placed;
        replaced = ap (λ (o : Option Node). where_no_folder o names) there;
        ends = can.ends;
      }) first_tried))))
  target_stands (a_link_here names leads_to placed there shown) source bytes is said n shows =
      let shown_so : ShowsNode names m said n = subst (λ (r : Result Names Fault). ShowsEnd r m said n) shown shows in
      let (info, same, fits, stays) = shown_so in
      let described = of_some (look m.tree names) (Link leads_to) (λ x. Describes x (m.inodes names) info) there fits in
      said_leads b (asking_target first_tried source from to) said (says.Info info) n P same
      (subst (λ (x : Machine). Leads (way_of b) (target_known first_tried source info from to) x P) (sym stays)
      (link_if info.kind source info (copied first_tried false source info from to) true m (ap is_link described.kind) (asking_leads source names (Link leads_to) bytes is placed there)))

  target_leads : (source : FileInfo) (bytes : List ℕ) → Source m from source bytes → Leads (way_of b) (asking_target first_tried source from to) m P
  target_leads source bytes is =
      call_leads (way_of b) (asking_target first_tried source from to) (asks.StatLink to) m P refl (λ end never. absurd never) (λ said n happens.
      ⊎_elim
      (λ (most, all, well). target_stands (stands_so m.tree to (place m.tree to) refl) source bytes is said n well)
      (λ (broke, why, same, fine, part, left).
      said_leads b (asking_target first_tried source from to) said (says.Failed why) n P same
      (broke_if (place_fresh first_tried from to) why n (is_absent why) broke fine refl (ap (λ (x : Machine). x.tree) left)))
      (cases_of b m (asks.StatLink to) said n happens))

  -- ---- the source

  regular_if : (source : FileInfo) (s : Stage) (c : Bool) (n : Machine) → source.regular ≡ c → Leads (way_of b) (if c then s else over (says.Failed kind.InvalidInput)) n P
      → Leads (way_of b) (if source.regular then s else over (says.Failed kind.InvalidInput)) n P
  regular_if source s c n is leads = subst (λ (x : Bool). Leads (way_of b) (if x then s else over (says.Failed kind.InvalidInput)) n P) (sym is) leads

  source_found : (v : View m.tree from) (said : CallResult) (n : Machine) → ShowsEnd (found m.tree from) m said n → Leads (way_of b) (after (asking_source first_tried from to) said) n P
  source_found (nowhere fault is file) said n shows =
      let refused_so : IsRefused fault m said n = subst (λ (r : Result Names Fault). ShowsEnd r m said n) is shows in
      let (why, same, of, memory, stays) = refused_so in
      said_leads b (asking_source first_tried from to) said (says.Failed why) n P same
      (over_leads (way_of b) (says.Failed why) n P
      (fails_plain fault why n (apply_copy m.tree from to (Err fault) (writable m.tree to) (file InvalidInput) refl) of (ap (λ (x : Machine). x.tree) stays)))
  source_found (a_folder names l is stands file) said n shows =
      let shown_so : ShowsNode names m said n = subst (λ (r : Result Names Fault). ShowsEnd r m said n) is shows in
      let (info, same, fits, stays) = shown_so in
      let described = of_some (look m.tree names) Folder (λ x. Describes x (m.inodes names) info) stands fits in
      said_leads b (asking_source first_tried from to) said (says.Info info) n P same
      (regular_if info (asking_target first_tried info from to) false n described.regular
      (over_leads (way_of b) (says.Failed kind.InvalidInput) n P
      (fails_plain InvalidInput kind.InvalidInput n (apply_copy m.tree from to (Err InvalidInput) (writable m.tree to) (file InvalidInput) refl) refl (ap (λ (x : Machine). x.tree) stays))))
  source_found (a_file names bytes l is stands file) said n shows =
      let shown_so : ShowsNode names m said n = subst (λ (r : Result Names Fault). ShowsEnd r m said n) is shows in
      let (info, same, fits, stays) = shown_so in
      let described = of_some (look m.tree names) (File bytes) (λ x. Describes x (m.inodes names) info) stands fits in
      said_leads b (asking_source first_tried from to) said (says.Info info) n P same
      (subst (λ (x : Machine). Leads (way_of b) (source_known first_tried info from to) x P) (sym stays)
      (regular_if info (asking_target first_tried info from to) true m described.regular
      (target_leads info bytes (record { names = names; led = l; is = is; stands = stands; read = file InvalidInput; described = described }))))

  copy_leads : Leads (way_of b) (asking_source first_tried from to) m P
  copy_leads =
      call_leads (way_of b) (asking_source first_tried from to) (asks.Stat from) m P refl (λ end never. absurd never) (λ said n happens.
      ⊎_elim
      (λ (most, all, well). source_found (view m.tree from) said n well)
      (λ (broke, why, same, fine, part, left).
      said_leads b (asking_source first_tried from to) said (says.Failed why) n P same
      (over_leads (way_of b) (says.Failed why) n P (broke_same why n broke fine (ap (λ (x : Machine). x.tree) left))))
      (cases_of b m (asks.Stat from) said n happens))

pub copy_agrees : CopyAgrees
copy_agrees m hint from to can = record {
  plainly = λ clear. copy_leads (first_number hint) true m from to can (λ e. absurd cc) (λ e. clear);
  breaking = λ done. copy_leads (first_number hint) false m from to can (λ e. done) (λ e. absurd cc);
}

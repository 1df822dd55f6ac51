-- Files that are open stay open at their names through the calls of a step.
use Rattle.std.proofs.Common.{◌≡◌, length, ◌==◌, ◌&&◌, not, ℕ, true, false, List, [], ◌∷◌, ◌++◌, None, Some, Ok, option_map, inl, inr, min, refl, sym, ap, subst, ◌∙◌}
use Rattle.std_io.specs.declared.io.kind.ErrorKind.TheVariants as kind
use Rattle.cacache_core.specs.Paths.{Names, names_of}
use Rattle.cacache_store.specs.declared.store.step.Step.TheVariants as steps
use Rattle.cacache_disk.{specs.{declared.{luck.Luck.TheVariants.{Plain, Fail, Take}, node.Node.TheVariants.{File}}, Tree.{Tree, put}, LedTo.{free}}, proofs.FoundNodes.{free_ok}}
use Rattle.cacache_system.specs.{declared.call.{SystemCall.{SystemCall}, CallItem.{CallItem}, CallResult.{CallResult}}, Seen.{NumberedTemp, NumberedStep, with_slash}, CallsOf.{Stage, opening_folder, following, reading_names, asking_kind, over, only, trying, taking_memory, opening, checking, opening_whole, reading_front, measuring, reading_rest, appending, standing as asking_folder, making, confirming, sizing, asking_source, asking_target, asking_end, making_end, resolving, making_fresh, filling, replacing, scrapping, fresh_beside, fresh_number, wants, after, was_interrupted, keeping, preparing, Runs}, AnswersOf.{Hint, is_missing, rewrites, persist, first}}
use Rattle.cacache_system.specs.declared.call.SystemCall.TheVariants as asks
use Rattle.cacache_system.specs.declared.call.CallResult.TheVariants as says
use Rattle.cacache_system_model.specs.{Machine.{under, Machine, OpensIf}, Calls.{OccursSomehow, EachCall}, StepLaws.{IsOpenAt}, callers.Opened.{KeepsOpen, IsApart, StillStores, RunsKeepOpen}}
use Rattle.cacache_system_model.proofs.{callers.{ListCalls.{can_open, IsListing, folder_left, names_left}, CopyTargets.{spelled_left}, OpenCalls.{Moves, place_at, CanRead, keeps_same, keeps_self, IsOpenNumber, occurs_keep, front_left, rest_left, stat_left, readable_on}, UnchangedCalls.{look_left, link_look_left, readied, opens_number}, SafeStages.{IsSafe, cond_safe, checked_safe, front_safe, measured_safe, rest_safe, folder_safe, making_safe, confirming_safe, SafeLater, kept_safe, prepared_safe, file_safe, whole_safe, line_safe, listed_safe, kind_safe, opened_safe_folder, followed_safe, size_safe, source_safe, target_safe, end_safe, made_end_safe, resolved_safe, fresh_safe, filled_safe, replaced_safe}}, memory.Places.{place_led}}

at_call : (a call : SystemCall) (m n : Machine) (said : CallResult) → Some a ≡ Some call → OccursSomehow m call said n → OccursSomehow m a said n
at_call a call m n said w h = let same : a ≡ call = cc in subst (λ (x : SystemCall). OccursSomehow m x said n) (sym same) h

module _ (q : Names) where
  goes_safe : (s : Stage) (m n : Machine) (call : SystemCall) (said : CallResult) → IsSafe q s m → wants s ≡ Some call → OccursSomehow m call said n → KeepsOpen q m n × IsSafe q (after s said) n
  goes_safe (over r) m n call said safe w h = let no : None ≡ Some call = w in absurd cc
  goes_safe (only c) m n call said safe w h = (occurs_keep c q m n said safe (at_call c call m n said w h), tt)
  goes_safe (trying again (asks.Write number bytes)) m n call said safe w h =
      let happens = at_call (asks.Write number bytes) call m n said w h in
      let still = occurs_keep (asks.Write number bytes) safe.0 m n said safe happens number safe.1 in
      (occurs_keep (asks.Write number bytes) q m n said safe happens, cond_safe q (was_interrupted said) (trying true (asks.Write number bytes)) (over said) n (safe.0, still) tt)
  goes_safe (trying again (asks.Read number size)) m n call said safe w h =
      let left = front_left number size m n said safe (at_call (asks.Read number size) call m n said w h) in
      (left.0 (under q), cond_safe q (was_interrupted said) (trying true (asks.Read number size)) (over said) n (readable_on number m n safe left) tt)
  goes_safe (trying again c) m n call said safe w h = absurd safe
  goes_safe (sizing path) m n call said safe w h = (occurs_keep (asks.Stat path) q m n said tt (at_call (asks.Stat path) call m n said w h), size_safe q path said n)
  goes_safe (asking_source number from to) m n call said safe w h =
      let same = look_left from m n said (at_call (asks.Stat from) call m n said w h) in
      (keeps_self (under q) m n same, source_safe q number from to said n (subst (λ (x : Machine). IsApart q x.tree to) (sym same) safe))
  goes_safe (asking_target number source from to) m n call said safe w h =
      let happens = at_call (asks.StatLink to) call m n said w h in
      let same = link_look_left to m n said happens in
      (keeps_self (under q) m n same, target_safe q number source from to said m n (subst (λ (x : Machine). IsApart q x.tree to) (sym same) safe) same happens)
  goes_safe (asking_end number source from to) m n call said (apart, link) w h =
      let happens = at_call (asks.Stat to) call m n said w h in
      let same = look_left to m n said happens in
      (keeps_self (under q) m n same, end_safe q number source from to said m n (subst (λ (x : Machine). IsApart q x.tree to) (sym same) apart) link same happens)
  goes_safe (making_end number from to) m n call said safe w h =
      let happens = at_call (asks.OpenToAppend to) call m n said w h in (occurs_keep (asks.OpenToAppend to) q m n said tt happens, made_end_safe q number from to said m n safe happens)
  goes_safe (resolving number from to) m n call said safe w h =
      let happens = at_call (asks.RealPath to) call m n said w h in
      let same = spelled_left to m n said happens in (keeps_self (under q) m n same, resolved_safe q number from to said m n safe same happens)
  goes_safe (making_fresh left number from path) m n call said safe w h =
      let fresh = asks.CreateNew (fresh_beside path (fresh_number left number)) 384 in
      let happens = at_call fresh call m n said w h in (occurs_keep fresh q m n said tt happens, fresh_safe q left number from path said m n safe happens)
  goes_safe (filling from fresh path) m n call said safe w h =
      let happens = at_call (asks.CopyFile from fresh) call m n said w h in (occurs_keep (asks.CopyFile from fresh) q m n said tt happens, filled_safe q from fresh path said m n safe happens)
  goes_safe (replacing count fresh path) m n call said safe w h =
      (occurs_keep (asks.Rename fresh path) q m n said safe (at_call (asks.Rename fresh path) call m n said w h), replaced_safe q count fresh path said n safe.1)
  goes_safe (scrapping why fresh) m n call said safe w h = (occurs_keep (asks.RemoveFile fresh) q m n said safe (at_call (asks.RemoveFile fresh) call m n said w h), tt)
  goes_safe (taking_memory s) m n call said safe w h = goes_safe s m n call said safe w h
  goes_safe (opening purpose path) m n call said safe w h =
      let happens = at_call (asks.OpenToRead path) call m n said w h in (occurs_keep (asks.OpenToRead path) q m n said tt happens, file_safe q purpose path said m n happens)
  goes_safe (checking purpose number) m n call said safe w h =
      let same = stat_left number m n said (safe.0, safe.1) (at_call (asks.StatFile number) call m n said w h) in
      (keeps_self (under q) m n same, subst (λ (x : Machine). IsSafe q (after (checking purpose number) said) x) (sym same) (checked_safe q purpose number said m safe))
  goes_safe (opening_whole path) m n call said safe w h =
      let happens = at_call (asks.OpenToRead path) call m n said w h in (occurs_keep (asks.OpenToRead path) q m n said tt happens, whole_safe q path said m n happens)
  goes_safe (measuring front number) m n call said safe w h =
      let same = stat_left number m n said (safe.0, safe.1) (at_call (asks.StatFile number) call m n said w h) in
      (keeps_self (under q) m n same, subst (λ (x : Machine). IsSafe q (after (measuring front number) said) x) (sym same) (measured_safe q front number said m safe))
  goes_safe (reading_front again size number) m n call said safe w h =
      let left = front_left number size m n said safe (at_call (asks.Read number size) call m n said w h) in
      (left.0 (under q), front_safe q again size number said n (readable_on number m n safe left))
  goes_safe (reading_rest front number) m n call said safe w h =
      let left = rest_left number m n said safe (at_call (asks.ReadRest number) call m n said w h) in
      (left.0 (under q), rest_safe q front number said n)
  goes_safe (appending path bytes) m n call said safe w h =
      let happens = at_call (asks.OpenToAppend path) call m n said w h in (occurs_keep (asks.OpenToAppend path) q m n said tt happens, line_safe q path bytes said m n happens)
  goes_safe (asking_folder path) m n call said safe w h = (occurs_keep (asks.Stat path) q m n said tt (at_call (asks.Stat path) call m n said w h), folder_safe q path said n)
  goes_safe (making again path todo) m n call said safe w h = (occurs_keep (asks.MakeFolder path) q m n said tt (at_call (asks.MakeFolder path) call m n said w h), making_safe q again path todo said n)
  goes_safe (confirming why path todo) m n call said safe w h = (occurs_keep (asks.Stat path) q m n said tt (at_call (asks.Stat path) call m n said w h), confirming_safe q why path todo said n)
  goes_safe (keeping number synced path s) m n call said (open_file, later) w h =
      let same = look_left path m n said (at_call (asks.Stat path) call m n said w h) in
      (keeps_self (under q) m n same, subst (λ (x : Machine). IsSafe q (after (keeping number synced path s) said) x) (sym same) (kept_safe q number synced path s said m open_file later))
  goes_safe (preparing c s) m n call said (ready, later) w h =
      let left = readied c m n said ready (at_call c call m n said w h) in (keeps_same (under q) m n left.1, prepared_safe q c s said n (later n left))
  goes_safe (opening_folder path) m n call said safe w h =
      let left = folder_left path m n said safe.0 (at_call (asks.OpenFolder path) call m n said w h) in (left.0 (under q), opened_safe_folder q path said m n safe.1 left)
  goes_safe (following path) m n call said safe w h =
      let left = folder_left (with_slash path) m n said safe (at_call (asks.OpenFolder (with_slash path)) call m n said w h) in (left.0 (under q), followed_safe q path said m n left)
  goes_safe (reading_names again r found) m n call said safe w h =
      let left = names_left r.number 4096 m n said safe (at_call (asks.ReadNames r.number 4096) call m n said w h) in (left.0 (under q), listed_safe q again r found said n left.1)
  goes_safe (asking_kind r name names found) m n call said safe w h =
      let same = link_look_left (r.folder ++ name) m n said (at_call (asks.StatLink (r.folder ++ name)) call m n said w h) in
      (keeps_self (under q) m n same, kind_safe q r name names found said n (subst (λ (x : Machine). IsListing x r.number) (sym same) safe))

  -- ---- runs

  runs_keep : (s : Stage) (items : List CallItem) (end : CallResult) (m n : Machine) → IsSafe q s m → Runs s items end → EachCall OccursSomehow m items n → KeepsOpen q m n
  runs_keep s [] end m n safe runs each = keeps_self (under q) m n (sym each)
  runs_keep s (item ∷ items) end m n safe runs (next, happens, others) =
      let g = goes_safe s m next item.call item.result safe runs.0 happens in
      λ number e. runs_keep (after s item.result) items end next n g.1 runs.1 others number (g.0 number e)

  dirs_safe : (hint : Hint) (p : List ℕ) (m : Machine) → IsSafe q (first hint (steps.MakeDirs p)) m
  dirs_safe is_missing p m = tt
  dirs_safe hint p m = tt

  persist_safe : (hint : Hint) (temp : NumberedTemp) (path : List ℕ) (m : Machine) → IsOpenNumber m temp.number → SafeLater q (only (asks.Rename temp.path path)) m
      → IsSafe q (persist hint temp path) m
  persist_safe (rewrites synced) temp path m open_file later = (open_file, λ n same. later n same)
  persist_safe hint temp path m open_file later = later m (refl, refl)

  first_safe : (hint : Hint) (step : NumberedStep) (m : Machine) → StillStores q m step → IsSafe q (first hint step) m
  first_safe hint (steps.MakeDirs p) m h = dirs_safe hint p m
  first_safe hint (steps.Write t bytes) m (names, old, still) = (names, still.opened)
  first_safe hint (steps.Persist t p) m ((names, old, still), from, to) =
      persist_safe hint t p m (under names, still.opened)
      (λ n same. (subst (λ (x : Tree). Moves x t.path) (sym same.0) (names, old, place_led m.tree t.path names still.named still.way, still.stands), from, to))
  first_safe hint (steps.Append p bytes) m h = tt
  first_safe hint (steps.Read f most) m (found, bytes, stays) =
      cond_safe q (f.left == 0 && not (min most 131072 == 0)) (over (says.Failed kind.FileTooLarge)) (taking_memory (trying false (asks.Read f.number (min (min most 131072) f.left)))) m tt
      (found.place, ap (option_map place_at) stays.known, subst CanRead (sym stays.stands) tt)
  first_safe hint (steps.ReadDir p) m h = cond_safe q (length p == 0) (over (says.Failed kind.NotFound)) (taking_memory (opening_folder p)) m tt (can_open m p h)
  first_safe hint (steps.RemoveFile p) m h = h
  first_safe hint (steps.RemoveDir p) m h = h
  first_safe hint (steps.SyncTemp t) m (names, old, still) = (under names, still.opened)
  first_safe hint (steps.Copy p to) m h = h
  first_safe hint step m h = tt

  stores_keep : (m n : Machine) (hint : Hint) (step : NumberedStep) (items : List CallItem) (end : CallResult) → StillStores q m step → Runs (first hint step) items end → EachCall OccursSomehow m items n
      → KeepsOpen q m n
  stores_keep m n hint step items end still runs each = runs_keep (first hint step) items end m n (first_safe hint step m still) runs each

pub runs_keep_open : RunsKeepOpen
runs_keep_open q m n hint step items end still runs each = stores_keep q m n hint step items end still runs each

-- ---- the file that is made

new_at : (p : List ℕ) (m n : Machine) (number : ℕ) (names : Names) → names_of p ≡ Ok names → OpensIf (free m.tree p) (λ names. put m.tree names (File [])) m (says.Opened number) n → IsOpenAt n number names
new_at p m n number names named h =
    let g = opens_number (free m.tree p) _ m n number h in
    let both : Ok g.0 ≡ Ok names = sym (free_ok m.tree p g.0 g.1).0 ∙ named in
    let same : g.0 ≡ names = cc in
    subst (λ (x : Names). IsOpenAt n number x) same g.2

new_open : (p : List ℕ) (m n : Machine) (number : ℕ) (names : Names) → names_of p ≡ Ok names → OccursSomehow m (asks.CreateNew p 384) (says.Opened number) n → IsOpenAt n number names
new_open p m n number names named (Plain, h) = new_at p m n number names named h
new_open p m n number names named (Take most, h) = new_at p m n number names named h
new_open p m n number names named (Fail fault part, (why, is_said, of, missed, left)) = let no : says.Opened number ≡ says.Failed why = is_said in absurd cc

pub made_open : (m n : Machine) (hint : Hint) (p : List ℕ) (items : List CallItem) (number : ℕ) (names : Names) → names_of p ≡ Ok names
    → Runs (first hint (steps.CreateTemp p)) items (says.Opened number) → EachCall OccursSomehow m items n → IsOpenAt n number names
made_open m n hint p [] number names named (inl ends) each = let no : says.Opened number ≡ says.Failed kind.OutOfMemory = ends in absurd cc
made_open m n hint p [] number names named (inr ends) each = absurd ends
made_open m n hint p (item ∷ []) number names named runs (next, happens, others) =
    let result : item.result ≡ says.Opened number = runs.1 in
    let made = at_call (asks.CreateNew p 384) item.call m next item.result runs.0 happens in
    subst (λ (x : Machine). IsOpenAt x number names) others (new_open p m next number names named (subst (λ (r : CallResult). OccursSomehow m (asks.CreateNew p 384) r next) result made))
made_open m n hint p (item ∷ other ∷ items) number names named runs each = let no : None ≡ Some other.call = runs.1.0 in absurd cc

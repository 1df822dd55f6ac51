-- A step makes only buckets of keys, and at each place each bucket holds entries of its own keys.
use Rattle.std.proofs.{Common.{arith, ◌≡◌, ◌-◌, ℕ, Bool, true, false, cond, List, ◌∷◌, ◌++◌, Option, None, Some, Ok, refl, sym, ap, subst, ◌∙◌, bytes_eq, append_assoc, rules}, lemmas.{Grind.{common_steps}, Slice.Eq.{bytes_eq-Decides}}}
use Rattle.std.specs.Prelude.{[]}
use Rattle.cacache_core.specs.Paths.{Names, names_of, names_below, bucket_names}
use Rattle.cacache_store.specs.{declared.store.step.Step.TheVariants.{Append}, Plain.{PlainStep}}
use Rattle.cacache_disk.specs.{declared.{luck.Luck.{Luck}, node.Node.{Node, TheVariants.{Folder}}}, Tree.{Tree, look, put, same_path, is_folder, Rooted}, Apply.{apply, make_some, if_missing}}
use Rattle.cacache_disk.proofs.{Changes.{Makes, NoChange, PutNode, Puts, TreeChange, at_cut, at_put, at_rest, step_at}, Maps.{same_path-true}, PutNodes.{look-put}, Standing.{upper_folder}}
use Rattle.cacache_value.specs.{Kinds.{Bucket, Way, Stray, Elsewhere, kind_below, kind_beside, path_kind}, Value.{value_of_tree, empty_value}, Placed.{Placed, Proper, IsOpening, LieApart}}
use Rattle.cacache_value.proofs.Temps.{put_for, put_kind, written}
use Rattle.cacache_history.specs.{AddedEntries.{IsOfKey, BucketsHaveKeys, BucketsAreOfKeys, BucketsHoldOwn}, declared.record.Record.{Record}, Setup.{Setup, call_site, home, may_export, is_outside}, History.{Call, Now, History, Turn, Made, initial, moved_tree, now_after, replayed, now_at, MayMove, MayCome, Legal, IsLegal, Reaches}, Turns.{EachTurn, TurnAt}}
use Rattle.cacache_history.proofs.{Histories.{Holding.{AllHold, CallHolds, of_caller, made_proper, next_holds, first_opens, first_holds, legal_before}, ShownTurns.{bucket_below}, Places.{reached_turns}}, Entries.Owned.{AppendsOwn, TreeOwn, step_own, opening_own}, Each.{each_weaker}}
use Rattle.cacache_calls.{specs.declared.reply.Reply.{Reply}, proofs.Sound.{steps_allowed}}
use Rattle.cacache_store.specs.declared.store.step.Step.TheVariants as steps
use Rattle.cacache_calls.specs.Sound as calls

-- ---- what is put

put_at : (home : Option Names) (p q : Names) (new : Node) (old : Option Node) (node : Node) (b : Bool) → same_path q p ≡ b → (path_kind home p ≡ Bucket → IsOfKey home p)
    → (old ≡ Some node → IsOfKey home q) → path_kind home q ≡ Bucket → cond b (Some new) old ≡ Some node → IsOfKey home q
put_at home p q new old node true e own h k is =
    let same = same_path-true q p e in
    subst (IsOfKey home) (sym same) (own (ap (path_kind home) (sym same) ∙ k))
put_at home p q new old node false e own h k is = h is

-- something put at a path that is no bucket's, or the bucket of a key
pub put_keyed : (home : Option Names) (t : Tree) (p : Names) (new : Node) → (path_kind home p ≡ Bucket → IsOfKey home p) → BucketsHaveKeys home t → BucketsHaveKeys home (put t p new)
put_keyed home t p new own h q node k is = put_at home p q new (look t q) node (same_path q p) refl own (h q node k) k (sym (look-put t p new q) ∙ is)

-- ---- folders on the way

pub make_at : (home : Option Names) (above rest : Names) (t : Tree) (here : Option Node) (count : ℕ) (b : Bool) → (path_kind home above ≡ Bucket → ⊥) → BucketsHaveKeys home t
    → ((new : Tree) (count : ℕ) → BucketsHaveKeys home new → BucketsHaveKeys home (make_some new above rest count))
    → BucketsHaveKeys home (make_some (if_missing here (cond b t (put t above Folder)) t) above rest (if_missing here (count - 1) count))
make_at home above rest t here count b other h more = grind (arith, put_keyed)

-- ---- steps

-- an append goes to the bucket of a key
abbrev pub ToKeys : Option Names → PlainStep → Type 0
ToKeys home (Append p bytes) = (key : List ℕ) × (names_of p ≡ names_below home (bucket_names key))
ToKeys home step = Unit {0}

module _ (home : Option Names) (t : Tree) (placed : Placed home t) where
  -- what a step puts at a bucket's path, it appends to the bucket of a key
  put_of : (step : PlainStep) (c : TreeChange) (q : Names) (node : Node) → put_kind step ≡ Bucket → Proper home step → ToKeys home step → Makes t step c → Puts t c q node → IsOfKey home q
  put_of (Append p bytes) (PutNode names new) q node k is to m put = (to.0, sym to.1 ∙ written home t placed p names (names_of p) is.0 refl m ∙ ap Ok (sym put.0))
  put_of (Append p bytes) NoChange q node k is to m put = absurd put
  put_of (Append p bytes) c q node k is to m put = absurd m
  put_of step c q node k is to m put = absurd cc

  pub step_keyed : BucketsHaveKeys home t → (step : PlainStep) (luck : Luck) → Proper home step → ToKeys home step → BucketsHaveKeys home (apply t step luck).1
  step_keyed h step luck is to q node k there =
      let at = step_at t step luck q in
      elim at.2 [
        | at_rest e ↦ h q node k (sym e ∙ there)
        | at_put new put e ↦ put_of step at.0 q new (sym (put_for home t placed step at.0 q new is at.1 put) ∙ k) is to at.1 put
        | at_cut cut e ↦ let no : None ≡ Some node = sym e ∙ there in absurd cc
      ]

-- ---- the beginning

-- no bucket is one name below the cache's folder
one_below : (b c d : Bool) → cond b Way (cond c Way (cond d Way Stray)) ≡ Bucket → ⊥
one_below b c d e = grind (arith, common_steps)

-- two names below it
pub record Deep (home path : Names) : Type 0 where
  pub first : List ℕ
  pub second : List ℕ
  pub rest : Names
  pub is : path ≡ home ++ first ∷ second ∷ rest

below_deep : (path : Names) → kind_below path ≡ Bucket → Deep [] path
below_deep path e = grind (arith, one_below)

beside_deep : (home path : Names) → kind_beside home path ≡ Bucket → Deep home path
beside_deep [] path e = below_deep path e
beside_deep (name ∷ home) [] e = absurd cc
beside_deep (name ∷ home) (first ∷ rest) e = by (bytes_eq name first) refl (beside_deep home rest) e
  where
    by : (b : Bool) → bytes_eq name first ≡ b → (kind_beside home rest ≡ Bucket → Deep home rest) → cond b (kind_beside home rest) Elsewhere ≡ Bucket → Deep (name ∷ home) (first ∷ rest)
    by true same more is =
        let d = more is in
        record { first = d.first; second = d.second; rest = d.rest; is = ap (λ x. x ∷ rest) (sym ((bytes_eq-Decides name first).0 same)) ∙ ap (λ l. name ∷ l) d.is }
    by false same more is = absurd cc

-- if the cache holds nothing, nothing is two names below its folder
nothing_deep : (home : Names) (t : Tree) (path : Names) (node : Node) → Rooted t → value_of_tree (Some home) t ≡ empty_value → Deep home path → look t path ≡ Some node → ⊥
nothing_deep home t path node rooted nothing deep is =
    let here : look t ((home ++ deep.first ∷ []) ++ deep.second ∷ deep.rest) ≡ Some node
    = ap (look t) (append_assoc home (deep.first ∷ []) (deep.second ∷ deep.rest) ∙ sym deep.is) ∙ is in
    let above : look t (home ++ deep.first ∷ []) ≡ Some Folder = upper_folder t (home ++ deep.first ∷ []) deep.rest deep.second node rooted here in
    let none : is_folder (look t (home ++ deep.first ∷ [])) ≡ false = ap (λ v. v.folders (deep.first ∷ [])) nothing in
    let no : true ≡ false = sym (ap is_folder above) ∙ none in
    cc

pub opening_keyed : (home : Option Names) (t : Tree) → IsOpening home t → BucketsHaveKeys home t
opening_keyed None t o path node k is = absurd cc
opening_keyed (Some home) t o path node k is = absurd (nothing_deep home t path node o.rooted o.nothing (beside_deep home path k) is)

-- ---- at each place of a legal history, each bucket is that of a key and holds entries of its own keys

-- a step that a call may make appends to the bucket of a key
to_keys : (s : Setup) (n : ℕ) (step : PlainStep) → calls.Allowed (call_site s n) (may_export s) (is_outside s) step → ToKeys (home s) step
to_keys s n (steps.Append p line) a = (a.0.key, subst (λ q. names_of q ≡ names_below (home s) (bucket_names a.0.key)) (sym a.4) (bucket_below s a.0.key))
to_keys s n other a = tt

-- it appends an entry's line, and the key is that entry's
appends_own : (s : Setup) (n : ℕ) (step : PlainStep) → calls.Allowed (call_site s n) (may_export s) (is_outside s) step → AppendsOwn (home s) step
appends_own s n step a = grind (arith, bucket_below)

pub record Keeps (s : Setup) (t : Tree) : Type 0 where
  pub keyed : BucketsHaveKeys (home s) t
  pub own : TreeOwn (home s) t

module _ (s : Setup) (apart : LieApart (home s) s.outside) where
  pub move_keyed : (w : Now) (luck : Luck) (made : Option Made) (reply : Option Reply) (call : Call) → AllHold s w → CallHolds s call → MayMove w.tree call.state luck made reply
      → Keeps s w.tree → Keeps s (moved_tree w.tree luck made)
  move_keyed w luck None reply call h mine may k = k
  move_keyed w luck (Some made) reply call h mine may k =
      let proper = made_proper s apart w.tree luck made reply call mine may in
      let allowed = steps_allowed (call_site s call.number) (may_export s) (is_outside s) call.state made.0 mine.sound may.0 in
      record {
        keyed = step_keyed (home s) w.tree h.placed k.keyed made.0 luck proper (to_keys s call.number made.0 allowed);
        own = step_own (home s) w.tree made.0 luck h.placed proper (appends_own s call.number made.0 allowed) k.own;
      }

  next_keyed : (w : Now) (r : Record) → MayCome s w r → AllHold s w → Keeps s w.tree → Keeps s (now_after s w r).tree
  next_keyed w r may h k = grind (arith, move_keyed, of_caller)

  all_keyed : (w : Now) (records : List Record) → Legal s w records → AllHold s w → Keeps s w.tree → Keeps s (replayed s w records).tree
  all_keyed w [] legal h k = k
  all_keyed w (r ∷ records) legal h k = all_keyed (now_after s w r) records legal.1 (next_holds s apart w r legal.0 h) (next_keyed w r legal.0 h k)

module _ (h : History) (legal : IsLegal h) where
  kept_at : (before later : List Record) → h.records ≡ before ++ later → Keeps h.setup (now_at h before).tree
  kept_at before later is =
      let opens = first_opens h legal in
      all_keyed h.setup legal.apart (initial h.setup) before (legal_before h legal before later is) (first_holds h legal)
      (record { keyed = opening_keyed (home h.setup) (initial h.setup).tree opens; own = opening_own (home h.setup) (initial h.setup).tree opens })

  pub buckets_are_of_keys : BucketsAreOfKeys h
  buckets_are_of_keys before later is = (kept_at before later is).keyed

  pub buckets_hold_own : BucketsHoldOwn h
  buckets_hold_own before later is = (kept_at before later is).own

-- ---- at the turns of a call

abbrev pub KeyedTurn : Setup → Turn → Type 0
KeyedTurn s turn = Keeps s turn.place

turn_keyed : (h : History) (legal : IsLegal h) (turn : Turn) → TurnAt h turn → KeyedTurn h.setup turn
turn_keyed h legal turn at = search (rules, kept_at)

pub turns_keyed : (h : History) → IsLegal h → (call : Call) (reply : Option Reply) → Reaches h call reply → EachTurn (KeyedTurn h.setup) call.turns
turns_keyed h legal call reply reaches = each_weaker (TurnAt h) (KeyedTurn h.setup) (turn_keyed h legal) call.turns (reached_turns h call reply reaches)

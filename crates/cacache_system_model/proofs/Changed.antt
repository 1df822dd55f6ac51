-- What a step leaves fixed on a system and on a disk that mirrors it is alike.
use Rattle.std.proofs.Common.{◌≡◌, ◌⊎◌, inl, inr, ◌||◌, not, ℕ, Bool, true, false, cond, if◌then◌else◌, List, [], Option, None, Some, refl, sym, ap, subst, ◌∙◌}
use Rattle.std.specs.Prelude.{Result, Ok, Err, unwrap_or}
use Rattle.cacache_core.specs.{declared.errors.Fault.{Fault}, Paths.{Names, names_of}}
use Rattle.cacache_store.specs.{declared.store.plain.PlainTemp.{PlainTemp}, Plain.{PlainStep, PlainAnswer}}
use Rattle.cacache_store.specs.declared.store.step.Step.TheVariants as steps
use Rattle.cacache_disk.{specs.{declared.node.Node.{Node, TheVariants.{Folder, File, Link}}, Tree.{Tree, look, same_path, bytes_of}, LedTo.{leads}}, proofs.Maps.{same_path-true}}
use Rattle.cacache_loss.specs.{declared.fixing.{Fixing.{Fixing}, Place.{Place}}, Fixing.{Fixed, synced, place_now, is_at, is_child_of, same_node, same_thing, moves_file, writes_at, rewrites_at, opened_if, refixed, moved_fixing, moved_to, renamed, file_after, name_after, changed, temp_synced, file_synced, folder_synced, is_synced, fixed_after}}
use Rattle.cacache_loss.proofs.Reaching.{bytes_same}
use Rattle.cacache_system_model.specs.Mirrors.{hollow, Mirrors, IsNoTemp, SparesOpen}
use Rattle.cacache_system_model.proofs.{Mirroring.{shapes, leads_same, look_same_at}, Alike.{AlikePlace, AlikeWas, AlikeFixed, now_alike}, Touching.{Touched, rests, apart, comes, goes, arrives, grows}}

-- ---- nodes that are the same

self_same : (o : Option Node) → same_node o o ≡ true
self_same (Some (File bytes)) = bytes_same bytes
self_same (Some (Link target)) = bytes_same target
self_same o = refl

-- whether a thing is the same goes by the shape
thing_hollow : (a b : Option Node) → same_thing a b ≡ same_node (hollow a) (hollow b)
thing_hollow None None = refl
thing_hollow None (Some Folder) = refl
thing_hollow None (Some (File bytes)) = refl
thing_hollow None (Some (Link target)) = refl
thing_hollow (Some Folder) None = refl
thing_hollow (Some Folder) (Some Folder) = refl
thing_hollow (Some Folder) (Some (File bytes)) = refl
thing_hollow (Some Folder) (Some (Link target)) = refl
thing_hollow (Some (File bytes)) None = refl
thing_hollow (Some (File bytes)) (Some Folder) = refl
thing_hollow (Some (File bytes)) (Some (File others)) = refl
thing_hollow (Some (File bytes)) (Some (Link target)) = refl
thing_hollow (Some (Link target)) None = refl
thing_hollow (Some (Link target)) (Some Folder) = refl
thing_hollow (Some (Link target)) (Some (File bytes)) = refl
thing_hollow (Some (Link target)) (Some (Link other)) = refl

things_same : (a b c e : Option Node) → hollow c ≡ hollow a → hollow e ≡ hollow b → same_thing c e ≡ same_thing a b
things_same a b c e old new =
    thing_hollow c e ∙ ap (λ (x : Option Node). same_node x (hollow e)) old ∙ ap (same_node (hollow a)) new ∙ sym (thing_hollow a b)

-- the same node is the same thing
node_thing : (a b : Option Node) → same_node a b ≡ true → same_thing a b ≡ true
node_thing (Some (File bytes)) None is = is
node_thing (Some (File bytes)) (Some Folder) is = is
node_thing (Some (File bytes)) (Some (File others)) is = refl
node_thing (Some (File bytes)) (Some (Link target)) is = is
node_thing a b is = is

none_first : (b e : Option Node) → hollow e ≡ hollow b → same_node None e ≡ same_node None b
none_first b e new = things_same None b None e refl new

none_second : (a c : Option Node) → hollow c ≡ hollow a → same_node c None ≡ same_node a None
none_second a c old = second c ∙ things_same a None c None old refl ∙ sym (second a)
  where
    second : (o : Option Node) → same_node o None ≡ same_thing o None
    second (Some Folder) = refl
    second o = refl

hollow_none : (o : Option Node) → hollow o ≡ None → o ≡ None
hollow_none None is = refl
hollow_none (Some Folder) is = absurd cc
hollow_none o is = absurd cc

-- ---- what is fixed of one path

-- a file that was opened is no longer whole, whether or not its bytes changed
opened_same : (node other thing : Bool) (f : Fixing) → (node ≡ true → thing ≡ true) → (other ≡ true → thing ≡ true) → refixed false other thing (opened_if true f) ≡ refixed false node thing (opened_if true f)
opened_same true true thing f one two = refl
opened_same true false true f one two = refl
opened_same false true true f one two = refl
opened_same false false thing f one two = refl
opened_same true false false f one two = absurd (let wrong : false ≡ true = one refl in cc)
opened_same false true false f one two = absurd (let wrong : false ≡ true = two refl in cc)

moved_here : (c : Bool) (a b x y : Fixing) → b ≡ a → (c ≡ false → y ≡ x) → cond c b y ≡ cond c a x
moved_here true a b x y from same = from
moved_here false a b x y from same = same refl

moved_same : (mv : Option (Names × Names)) (f g : Fixed) (q : Names) (x y : Fixing) → ((q : Names) → g.files q ≡ f.files q) → (moved_to mv q ≡ false → y ≡ x) → moved_fixing mv g q y ≡ moved_fixing mv f q x
moved_same None f g q x y files same = same refl
moved_same (Some (from, to)) f g q x y files same = moved_here (same_path q to) (f.files from) (g.files from) x y (files from) same

renamed_alike : (c o : Bool) (p r : Place) (a b : Option Place) → AlikePlace o p r → AlikeWas o a b → AlikeWas o (renamed c p a) (renamed c r b)
renamed_alike true o p r None None now was = now
renamed_alike true o p r (Some a) (Some b) now was = was
renamed_alike true o p r (Some a) None now was = absurd was
renamed_alike true o p r None (Some b) now was = absurd was
renamed_alike false o p r a b now was = was

-- ---- a step that is no sync

module _ (own temps later : Names → Bool) (t d new left : Tree) (f g : Fixed) (step : PlainStep) (said told : PlainAnswer) where
  module _ (before : Mirrors temps t d) (afterwards : Mirrors later new left) (q : Names) where
    rested : look new q ≡ look t q → later q ≡ temps q → look left q ≡ look d q
    rested same open_file =
        afterwards.same q
        ∙ ap (λ (b : Bool). if b then hollow (look new q) else look new q) open_file
        ∙ ap (λ (o : Option Node). if temps q then hollow o else o) same
        ∙ sym (before.same q)

    nodes_same : Touched temps later t new step said q
        → (moved_to (moves_file step said) q ≡ true) ⊎ ((writes_at step q ≡ true) ⊎ (same_node (look d q) (look left q) ≡ same_node (look t q) (look new q)))
    nodes_same (rests same open_file) =
        inr (inr (ap (same_node (look d q)) (rested same open_file) ∙ self_same (look d q) ∙ sym (ap (same_node (look t q)) same ∙ self_same (look t q))))
    nodes_same (apart none still) =
        inr (inr (ap (λ (o : Option Node). same_node o (look left q)) (look_same_at temps t d q before none) ∙ ap (same_node (look t q)) (look_same_at later new left q afterwards still)))
    nodes_same (comes none) =
        inr (inr (ap (λ (o : Option Node). same_node o (look left q)) (hollow_none (look d q) (shapes temps t d before q ∙ ap hollow none))
        ∙ none_first (look new q) (look left q) (shapes later new left afterwards q) ∙ ap (λ (o : Option Node). same_node o (look new q)) (sym none)))
    nodes_same (goes none) =
        inr (inr (ap (same_node (look d q)) (hollow_none (look left q) (shapes later new left afterwards q ∙ ap hollow none))
        ∙ none_second (look t q) (look d q) (shapes temps t d before q) ∙ ap (same_node (look t q)) (sym none)))
    nodes_same (arrives to) = inl to
    nodes_same (grows here) = inr (inl here)

    thing_same : same_thing (look d q) (look left q) ≡ same_thing (look t q) (look new q)
    thing_same = things_same (look t q) (look new q) (look d q) (look left q) (shapes temps t d before q) (shapes later new left afterwards q)

  -- a file that isn't written anew
  abbrev refixed_by : Bool → Bool → Bool → Fixing → Fixing
  refixed_by written node thing fixing = refixed false node thing (opened_if written fixing)

  refixed_same : (written node other thing : Bool) (fixing : Fixing) → (node ≡ true → thing ≡ true) → (other ≡ true → thing ≡ true) → (moved : Bool)
      → (moved ≡ true) ⊎ ((written ≡ true) ⊎ (other ≡ node)) → moved ≡ false → refixed_by written other thing fixing ≡ refixed_by written node thing fixing
  refixed_same written node other thing fixing one two moved (inl to) at = absurd (let wrong : true ≡ false = sym to ∙ at in cc)
  refixed_same written node other thing fixing one two moved (inr (inl here)) at =
      ap (λ (b : Bool). refixed_by b other thing fixing) here ∙ opened_same node other thing fixing one two ∙ ap (λ (b : Bool). refixed_by b node thing fixing) (sym here)
  refixed_same written node other thing fixing one two moved (inr (inr same)) at = ap (λ (b : Bool). refixed_by written b thing fixing) same

  module _ (before : Mirrors temps t d) (afterwards : Mirrors later new left) (keeps : (q : Names) → temps q ≡ true → own q ≡ true) (alike : AlikeFixed own f g)
      (whole : (t : Tree) (q : Names) → rewrites_at t step q ≡ false) (moves : moves_file step told ≡ moves_file step said) where
    file_alike : (q : Names) → Touched temps later t new step said q → file_after g d left step told q ≡ file_after f t new step said q
    file_alike q touched =
        let node = same_node (look t q) (look new q) in
        let other = same_node (look d q) (look left q) in
        let thing = same_thing (look t q) (look new q) in
        let same = thing_same before afterwards q in
        let written = writes_at step q in
        ap (λ (x : Option (Names × Names)). moved_fixing x g q (refixed (rewrites_at d step q) other (same_thing (look d q) (look left q)) (opened_if written (g.files q)))) moves
        ∙ ap (λ (b : Bool). moved_fixing (moves_file step said) g q (refixed b other (same_thing (look d q) (look left q)) (opened_if written (g.files q)))) (whole d q)
        ∙ ap (λ (b : Bool). moved_fixing (moves_file step said) g q (refixed_by written other b (g.files q))) same
        ∙ ap (λ (x : Fixing). moved_fixing (moves_file step said) g q (refixed_by written other thing x)) (alike.files q)
        ∙ moved_same (moves_file step said) f g q (refixed_by written node thing (f.files q)) (refixed_by written other thing (f.files q)) alike.files
        (refixed_same written node other thing (f.files q) (node_thing (look t q) (look new q)) (λ is. sym same ∙ node_thing (look d q) (look left q) is)
        (moved_to (moves_file step said) q) (nodes_same before afterwards q touched))
        ∙ ap (λ (b : Bool). moved_fixing (moves_file step said) f q (refixed b node thing (opened_if written (f.files q)))) (sym (whole t q))

    name_alike : (q : Names) → AlikeWas (own q) (name_after f t new step said q) (name_after g d left step told q)
    name_alike q =
        let flag = moved_to (moves_file step said) q || not (same_thing (look t q) (look new q)) in
        let same : (moved_to (moves_file step told) q || not (same_thing (look d q) (look left q))) ≡ flag
        = ap (λ (x : Option (Names × Names)). moved_to x q || not (same_thing (look d q) (look left q))) moves
        ∙ ap (λ (b : Bool). moved_to (moves_file step said) q || not b) (thing_same before afterwards q) in
        subst (λ (b : Bool). AlikeWas (own q) (name_after f t new step said q) (renamed b (place_now d g q) (g.names q))) (sym same)
        (renamed_alike flag (own q) (place_now t f q) (place_now d g q) (f.names q) (g.names q) (now_alike own temps t d f g before keeps alike q) (alike.names q))

    pub changed_alike : ((q : Names) → Touched temps later t new step said q) → AlikeFixed own (changed f t new step said) (changed g d left step told)
    changed_alike touched = record { files = λ q. file_alike q (touched q); names = name_alike }

-- ---- a sync

module _ (own : Names → Bool) (f g : Fixed) (alike : AlikeFixed own f g) where
  done_alike : (said told : Bool) (x y : Fixed) → told ≡ said → AlikeFixed own x y → AlikeFixed own (cond said x f) (cond told y g)
  done_alike said told x y same later = subst (λ (b : Bool). AlikeFixed own (cond said x f) (cond b y g)) (sym same) (both said)
    where
      both : (c : Bool) → AlikeFixed own (cond c x f) (cond c y g)
      both true = later
      both false = alike

  synced_same : (c : Bool) (bytes others : List ℕ) (q : Names) → (c ≡ true → others ≡ bytes) → cond c (synced others) (g.files q) ≡ cond c (synced bytes) (f.files q)
  synced_same true bytes others q same = ap synced (same refl)
  synced_same false bytes others q same = alike.files q

  pub temp_alike : (temp : PlainTemp) → AlikeFixed own (temp_synced f temp) (temp_synced g temp)
  temp_alike temp = record {
    files = λ q. synced_same (is_at (names_of temp.path) q) (unwrap_or temp.bytes []) (unwrap_or temp.bytes []) q (λ is. refl);
    names = alike.names;
  }

  led_bytes : (temps : Names → Bool) (t d : Tree) (r : Result Names Fault) (q : Names) → Mirrors temps t d → IsNoTemp temps r → is_at r q ≡ true → bytes_of (look d q) ≡ bytes_of (look t q)
  led_bytes temps t d (Ok names) q m spares at = ap bytes_of (look_same_at temps t d q m (ap temps (same_path-true q names at) ∙ spares))
  led_bytes temps t d (Err fault) q m spares at = absurd (let wrong : false ≡ true = at in cc)

  pub synced_file_alike : (temps : Names → Bool) (t d : Tree) (p : List ℕ) → Mirrors temps t d → IsNoTemp temps (leads t p) → AlikeFixed own (file_synced f t p) (file_synced g d p)
  synced_file_alike temps t d p m spares = record {
    files = λ q.
        ap (λ (r : Result Names Fault). cond (is_at r q) (synced (bytes_of (look d q))) (g.files q)) (leads_same t d (shapes temps t d m) p)
        ∙ synced_same (is_at (leads t p) q) (bytes_of (look t q)) (bytes_of (look d q)) q (led_bytes temps t d (leads t p) q m spares);
    names = alike.names;
  }

  child_alike : (c o : Bool) (a b : Option Place) → AlikeWas o a b → AlikeWas o (cond c None a) (cond c None b)
  child_alike true o a b was = tt
  child_alike false o a b was = was

  pub folder_alike : (p : List ℕ) → AlikeFixed own (folder_synced f p) (folder_synced g p)
  folder_alike p = record { files = alike.files; names = λ q. child_alike (is_child_of (names_of p) q) (own q) (f.names q) (g.names q) (alike.names q) }

-- ---- any step

-- what a step leaves fixed, on trees that mirror each other before and after it
pub fixed_alike : (own temps later : Names → Bool) (t d new left : Tree) (f g : Fixed) (step : PlainStep) (said told : PlainAnswer) → Mirrors temps t d → Mirrors later new left
    → ((q : Names) → temps q ≡ true → own q ≡ true) → AlikeFixed own f g → ((t : Tree) (q : Names) → rewrites_at t step q ≡ false) → moves_file step told ≡ moves_file step said
    → is_synced told ≡ is_synced said → SparesOpen temps t step → ((q : Names) → Touched temps later t new step said q)
    → AlikeFixed own (fixed_after f t new step said) (fixed_after g d left step told)
fixed_alike own temps later t d new left f g (steps.SyncTemp temp) said told before afterwards keeps alike whole moves done spares touched =
    done_alike own f g alike (is_synced said) (is_synced told) (temp_synced f temp) (temp_synced g temp) done (temp_alike own f g alike temp)
fixed_alike own temps later t d new left f g (steps.SyncFile p) said told before afterwards keeps alike whole moves done spares touched =
    done_alike own f g alike (is_synced said) (is_synced told) (file_synced f t p) (file_synced g d p) done (synced_file_alike own f g alike temps t d p before spares)
fixed_alike own temps later t d new left f g (steps.SyncDir p) said told before afterwards keeps alike whole moves done spares touched =
    done_alike own f g alike (is_synced said) (is_synced told) (folder_synced f p) (folder_synced g p) done (folder_alike own f g alike p)
fixed_alike own temps later t d new left f g step said told before afterwards keeps alike whole moves done spares touched =
    changed_alike own temps later t d new left f g step said told before afterwards keeps alike whole moves touched

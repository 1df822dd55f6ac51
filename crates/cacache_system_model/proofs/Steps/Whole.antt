-- Files that are read whole.
use Rattle.std.proofs.Common.{◌≡◌, ◌⊎◌, ◌==◌, ◌+◌, ℕ, Bool, true, false, if◌then◌else◌, List, [], ◌∷◌, ◌++◌, length, take, drop, refl, sym, ap, subst, ◌∙◌, ⊎_elim, inl, inr, take-append-drop, zero-add}
use Rattle.std.specs.Prelude.{Option, Some, Result, Ok, Err}
use Rattle.std_io.specs.declared.io.kind.ErrorKind.{ErrorKind}
use Rattle.std_io.specs.declared.io.kind.ErrorKind.TheVariants as kind
use Rattle.cacache_core.specs.{Errors.{fault_of}, declared.errors.Fault.{Fault, TheVariants.{IsADirectory}}, Paths.{Names}}
use Rattle.cacache_store.specs.declared.store.step.Step.TheVariants as steps
use Rattle.cacache_store.specs.declared.store.answer.Answer.TheVariants as answers
use Rattle.cacache_store.specs.Plain.{PlainAnswer}
use Rattle.cacache_disk.specs.{declared.{luck.Luck.TheVariants.{Plain}, node.Node.{Node, TheVariants.{Folder, File, Link}}}, Tree.{Tree, look}, LedTo.{found, file_at}, Apply.{apply, unless, readable}}
use Rattle.cacache_system.specs.declared.call.SystemCall.TheVariants as asks
use Rattle.cacache_system.specs.{declared.call.{CallItem.{CallItem}, CallResult.{CallResult}}, CallsOf.{over, taking_memory, opening_whole, reading_front, front_known, measuring, reading_rest, interrupts, after, Ends, Runs}}
use Rattle.cacache_system.specs.declared.call.CallResult.TheVariants as says
use Rattle.cacache_system_model.specs.{Machine.{under, OpenFile, node_of, Machine, IsRefused, ReadsFile, ShowsNode, ShowsPlace, unread}, Calls.{EachCall}, Laws.{outcome, Leads, IsDone}, StepLaws.{ReadAllAgrees}}
use Rattle.cacache_system_model.proofs.{Refusing.{same_outcome}, Leading.{Way, Claim, over_leads, call_leads}, Claims.{way_of, claim_of, cases_of, agrees_of, taking_leads, claim_plain, claim_broken, claim_memory}, Steps.{Opening.{OpenedOn, PathOpens, path_leads, newly_open, said_leads, on_open}, Looking.{table_fails, no_file, file_there, folder_there, link_there}, Reading.{drop_taken}}}

-- What becomes of the first read of a file: it gave the front, it failed, or a signal came and it may be given up.
abbrev FrontTried : Way → Claim → Machine → ℕ → ℕ → CallResult → Machine → Type 0
FrontTried R P n size number said l =
    ((front : List ℕ) × (said ≡ says.Bytes front) × Leads R (front_known size front number) l P)
    ⊎ ((why : ErrorKind) × (said ≡ says.Failed why)
    × (((interrupts why ≡ true) × (l ≡ n) × P (says.Failed kind.Interrupted) n) ⊎ ((interrupts why ≡ false) × P (says.Failed why) l)))

front_ends : (again : Bool) (size number : ℕ) (end : CallResult) (n m : Machine) (P : Claim) → Ends (reading_front again size number) end → n ≡ m → (again ≡ true → P (says.Failed kind.Interrupted) n) → P end m
front_ends true size number end n m P ends same holds = subst (λ (x : Machine). P end x) same (subst (λ (e : CallResult). P e n) (sym ends) (holds refl))
front_ends false size number end n m P ends same holds = absurd ends

front_on : (R : Way) (size number : ℕ) (n l : Machine) (P : Claim) (items : List CallItem) (again : Bool) (said end : CallResult) (last : Machine) → FrontTried R P n size number said l
    → (l ≡ n → P (says.Failed kind.Interrupted) n → Runs (reading_front true size number) items end → EachCall R n items last → P end last)
    → Runs (after (reading_front again size number) said) items end → EachCall R l items last → P end last
front_on R size number n l P items again said end last (inl (front, same, leads)) more runs each =
    leads items end last (subst (λ (r : CallResult). Runs (after (reading_front again size number) r) items end) same runs) each
front_on R size number n l P items again said end last (inr (why, same, inl (is, stays, given_up))) more runs each =
    let failed = subst (λ (r : CallResult). Runs (after (reading_front again size number) r) items end) same runs in
    more stays given_up (subst (λ (c : Bool). Runs (if c then reading_front true size number else over (says.Failed why)) items end) is failed)
    (subst (λ (x : Machine). EachCall R x items last) stays each)
front_on R size number n l P items again said end last (inr (why, same, inr (is, holds))) more runs each =
    let failed = subst (λ (r : CallResult). Runs (after (reading_front again size number) r) items end) same runs in
    over_leads R (says.Failed why) l P holds items end last (subst (λ (c : Bool). Runs (if c then reading_front true size number else over (says.Failed why)) items end) is failed) each

front_leads : (R : Way) (size number : ℕ) (n : Machine) (P : Claim) (again : Bool) → (again ≡ true → P (says.Failed kind.Interrupted) n)
    → ((said : CallResult) (l : Machine) → R n (asks.Read number size) said l → FrontTried R P n size number said l) → Leads R (reading_front again size number) n P
front_leads R size number n P again given_up tries [] end m runs each = front_ends again size number end n m P runs each given_up
front_leads R size number n P again given_up tries (item ∷ items) end m runs (next, happens, others) =
    let asked : Some (asks.Read number size) ≡ Some item.call = runs.0 in
    let same : item.call ≡ asks.Read number size = cc in
    front_on R size number n next P items again item.result end m (tries item.result next (subst (λ c. R n c item.result next) same happens))
    (λ stays gone more each. front_leads R size number n P true (λ e. gone) tries items end m more each) runs.1 others

apply_all : (t : Tree) (path : List ℕ) (r : Result (List ℕ) Fault) → file_at t path IsADirectory ≡ r → apply t (steps.ReadAll path) Plain ≡ unless r t (λ bytes. outcome (answers.Bytes bytes) t)
unfolding apply
apply_all t path r is = ap (λ (x : Result (List ℕ) Fault). unless x t (λ bytes. outcome (answers.Bytes bytes) t)) is

-- a file of a machine is open, and so many bytes were read from it
record ReadSoFar (m l : Machine) (number : ℕ) (names : Names) (read : ℕ) : Type 0 where
  pub tree : l.tree ≡ m.tree
  pub file : l.files number ≡ Some (record { place = under names; read = read })

-- no signal has the kind of a tree's fault
never_interrupted : (why : ErrorKind) (fault : Fault) → fault_of why ≡ fault → fault ≡ IsADirectory → interrupts why ≡ false
never_interrupted kind.Interrupted fault of is = absurd cc
never_interrupted _ fault of is = refl

module _ (b : Bool) (m : Machine) (path : List ℕ) (done : b ≡ false → IsDone m (steps.ReadAll path)) (number : ℕ) (names : Names) (is : found m.tree path ≡ Ok names) where
  -- a folder can't be read
  folder_refused : (l n : Machine) (said : CallResult) → look m.tree names ≡ Some Folder → l.tree ≡ m.tree → IsRefused IsADirectory l said n
      → (why : ErrorKind) × (said ≡ says.Failed why) × claim_of b m (steps.ReadAll path) (says.Failed why) n
  folder_refused l n said stands tree (why, same, of, memory, stays) = (
    why,
    same,
    claim_plain b m (steps.ReadAll path) done (says.Failed why) n
        (apply_all m.tree path (Err IsADirectory) (folder_there m.tree path IsADirectory names is stands)
        ∙ table_fails (steps.ReadAll path) IsADirectory why m n refl of memory (ap (λ (x : Machine). x.tree) stays ∙ tree)),
  )

  all_read : (bytes front rest : List ℕ) (l : Machine) → look m.tree names ≡ Some (File bytes) → front ++ rest ≡ bytes → l.tree ≡ m.tree
      → Leads (way_of b) (taking_memory (over (says.Bytes (front ++ rest)))) l (claim_of b m (steps.ReadAll path))
  all_read bytes front rest l stands whole tree =
      taking_leads (way_of b) (over (says.Bytes (front ++ rest))) l (claim_of b m (steps.ReadAll path)) (claim_memory b m (steps.ReadAll path) done l refl tree)
      (over_leads (way_of b) (says.Bytes (front ++ rest)) l (claim_of b m (steps.ReadAll path))
      (claim_plain b m (steps.ReadAll path) done (says.Bytes (front ++ rest)) l
      (apply_all m.tree path (Ok bytes) (file_there m.tree path IsADirectory names bytes is stands)
      ∙ same_outcome (answers.Bytes bytes) (answers.Bytes (front ++ rest)) m.tree l.tree (ap (λ (x : List ℕ). let a : PlainAnswer = answers.Bytes x in a) (sym whole)) (sym tree))))

  rest_read : (node : Node) (front : List ℕ) (l n : Machine) (said : CallResult) → look m.tree names ≡ Some node → ReadSoFar m l number names (length front)
      → ((bytes : List ℕ) → node ≡ File bytes → front ++ drop (length front) bytes ≡ bytes)
      → ReadsFile (λ bytes. bytes) number (record { place = under names; read = length front }) (Some node) l said n
      → Leads (way_of b) (after (reading_rest front number) said) n (claim_of b m (steps.ReadAll path))
  rest_read Folder front l n said stands ready fits reads =
      let refused = folder_refused l n said stands ready.tree reads in
      said_leads b (reading_rest front number) said (says.Failed refused.0) n (claim_of b m (steps.ReadAll path)) refused.1
      (over_leads (way_of b) (says.Failed refused.0) n (claim_of b m (steps.ReadAll path)) refused.2)
  rest_read (File bytes) front l n said stands ready fits (same, became) =
      said_leads b (reading_rest front number) said (says.Bytes (drop (length front) bytes)) n (claim_of b m (steps.ReadAll path)) same
      (all_read bytes front (drop (length front) bytes) n stands (fits bytes refl) (became.0 ∙ ready.tree))
  rest_read (Link target) front l n said stands ready fits reads = absurd (link_there m.tree path names target is stands)

  -- what is left is read
  rest_leads : (node : Node) (front : List ℕ) (l : Machine) → look m.tree names ≡ Some node → ReadSoFar m l number names (length front)
      → ((bytes : List ℕ) → node ≡ File bytes → front ++ drop (length front) bytes ≡ bytes) → Leads (way_of b) (reading_rest front number) l (claim_of b m (steps.ReadAll path))
  rest_leads node front l stands ready fits =
      call_leads (way_of b) (reading_rest front number) (asks.ReadRest number) l (claim_of b m (steps.ReadAll path)) refl (λ end never. absurd never) (λ said n happens.
      ⊎_elim
      (λ (most, all, well).
      let reads = on_open l n number (record { place = under names; read = length front }) said (λ f. ReadsFile (λ bytes. bytes) number f (node_of l.tree f.place) l) ready.file well in
      let here : look l.tree names ≡ Some node = ap (λ (t : Tree). look t names) ready.tree ∙ stands in
      rest_read node front l n said stands ready fits (subst (λ (o : Option Node). ReadsFile (λ bytes. bytes) number (record { place = under names; read = length front }) o l said n) here reads))
      (λ (broke, why, same, fine, part, left).
      said_leads b (reading_rest front number) said (says.Failed why) n (claim_of b m (steps.ReadAll path)) same
      (over_leads (way_of b) (says.Failed why) n (claim_of b m (steps.ReadAll path))
      (claim_broken b m (steps.ReadAll path) done why n broke refl fine (ap (λ (x : Machine). x.tree) left ∙ ready.tree))))
      (cases_of b l (asks.ReadRest number) said n happens))

  some_leads : (node : Node) (front : List ℕ) (l : Machine) → look m.tree names ≡ Some node → ReadSoFar m l number names (length front)
      → ((bytes : List ℕ) → node ≡ File bytes → front ++ drop (length front) bytes ≡ bytes)
      → Leads (way_of b) (taking_memory (reading_rest front number)) l (claim_of b m (steps.ReadAll path))
  some_leads node front l stands ready fits =
      taking_leads (way_of b) (reading_rest front number) l (claim_of b m (steps.ReadAll path)) (claim_memory b m (steps.ReadAll path) done l refl ready.tree)
      (rest_leads node front l stands ready fits)

  -- a file from which a full front was read is asked for its size
  size_leads : (node : Node) (front : List ℕ) (l : Machine) → look m.tree names ≡ Some node → ReadSoFar m l number names (length front)
      → ((bytes : List ℕ) → node ≡ File bytes → front ++ drop (length front) bytes ≡ bytes) → Leads (way_of b) (measuring front number) l (claim_of b m (steps.ReadAll path))
  size_leads node front l stands ready fits =
      call_leads (way_of b) (measuring front number) (asks.StatFile number) l (claim_of b m (steps.ReadAll path)) refl (λ end never. absurd never) (λ said n happens.
      ⊎_elim
      (λ (most, all, well).
      let shown : ShowsNode names l said n = on_open l n number (record { place = under names; read = length front }) said (λ file. ShowsPlace file.place l) ready.file well in
      said_leads b (measuring front number) said (says.Info shown.0) n (claim_of b m (steps.ReadAll path)) shown.1
      (subst (λ (x : Machine). Leads (way_of b) (taking_memory (reading_rest front number)) x (claim_of b m (steps.ReadAll path))) (sym shown.3)
      (some_leads node front l stands ready fits)))
      (λ (broke, why, same, fine, part, left).
      said_leads b (measuring front number) said (says.Failed why) n (claim_of b m (steps.ReadAll path)) same
      (over_leads (way_of b) (says.Failed why) n (claim_of b m (steps.ReadAll path))
      (claim_broken b m (steps.ReadAll path) done why n broke refl fine (ap (λ (x : Machine). x.tree) left ∙ ready.tree))))
      (cases_of b l (asks.StatFile number) said n happens))

  known_leads : (node : Node) (size : ℕ) (front : List ℕ) (l : Machine) (c : Bool) → look m.tree names ≡ Some node → ReadSoFar m l number names (length front)
      → ((bytes : List ℕ) → node ≡ File bytes → front ++ drop (length front) bytes ≡ bytes)
      → Leads (way_of b) (if c then measuring front number else taking_memory (reading_rest front number)) l (claim_of b m (steps.ReadAll path))
  known_leads node size front l true stands ready fits = size_leads node front l stands ready fits
  known_leads node size front l false stands ready fits = some_leads node front l stands ready fits

  front_read : (node : Node) (size : ℕ) (n l : Machine) (said : CallResult) (most : Option ℕ) → look m.tree names ≡ Some node → OpenedOn m n number names
      → ReadsFile (take (readable most size)) number (unread names) (Some node) n said l → FrontTried (way_of b) (claim_of b m (steps.ReadAll path)) n size number said l
  unfolding folder_refused
  front_read Folder size n l said most stands open_on reads =
      let refused = folder_refused n l said stands open_on.tree reads in
      inr (refused.0, refused.1, inr (never_interrupted reads.0 IsADirectory reads.2 refl, refused.2))
  front_read (File bytes) size n l said most stands open_on (same, became) =
      let front = take (readable most size) (drop 0 bytes) in
      inl (
        front,
        same,
        known_leads (File bytes) size front l (length front == size) stands
            (record {
              tree = became.0 ∙ open_on.tree;
              file = ap (λ (f : ℕ → Option OpenFile). f number) became.1 ∙ newly_open n.files number (record { place = under names; read = 0 + length front }) ∙ ap (λ (k : ℕ). Some (record { place = under names; read = k })) (zero-add (length front));
            })
            (λ other same. let e : bytes ≡ other = cc in ap (λ (x : List ℕ). front ++ x) (ap (drop (length front)) (sym e) ∙ drop_taken bytes (readable most size)) ∙ take-append-drop (readable most size) bytes ∙ e),
      )
  front_read (Link target) size n l said most stands open_on reads = absurd (link_there m.tree path names target is stands)

  broken_front : (why : ErrorKind) (c : Bool) (n l : Machine) → interrupts why ≡ c → l ≡ n → claim_of b m (steps.ReadAll path) (says.Failed kind.Interrupted) n → claim_of b m (steps.ReadAll path) (says.Failed why) l
      → ((interrupts why ≡ true) × (l ≡ n) × claim_of b m (steps.ReadAll path) (says.Failed kind.Interrupted) n) ⊎ ((interrupts why ≡ false) × claim_of b m (steps.ReadAll path) (says.Failed why) l)
  broken_front why true n l is stays given_up holds = inl (is, stays, given_up)
  broken_front why false n l is stays given_up holds = inr (is, holds)

  front_so : (node : Node) (size : ℕ) (n : Machine) → look m.tree names ≡ Some node → OpenedOn m n number names → Leads (way_of b) (reading_front false size number) n (claim_of b m (steps.ReadAll path))
  front_so node size n stands open_on =
      front_leads (way_of b) size number n (claim_of b m (steps.ReadAll path)) false (λ e. absurd cc) (λ said l happens.
      ⊎_elim
      (λ (most, all, well).
      let reads = on_open n l number (unread names) said (λ f. ReadsFile (take (readable most size)) number f (node_of n.tree f.place) n) open_on.file well in
      let here : look n.tree names ≡ Some node = ap (λ (t : Tree). look t names) open_on.tree ∙ stands in
      front_read node size n l said most stands open_on (subst (λ (o : Option Node). ReadsFile (take (readable most size)) number (unread names) o n said l) here reads))
      (λ (broke, why, same, fine, part, left).
      inr (
        why,
        same,
        broken_front why (interrupts why) n l refl left
            (claim_broken b m (steps.ReadAll path) done kind.Interrupted n broke refl refl open_on.tree)
            (claim_broken b m (steps.ReadAll path) done why l broke refl fine (ap (λ (x : Machine). x.tree) left ∙ open_on.tree)),
      ))
      (cases_of b n (asks.Read number size) said l happens))

whole_opens : (b : Bool) (m : Machine) (path : List ℕ) → (b ≡ false → IsDone m (steps.ReadAll path)) → PathOpens b m (opening_whole path) path (claim_of b m (steps.ReadAll path))
whole_opens b m path done = record {
  wanted = refl;
  never = λ end ends. ends;
  fails = λ why. refl;
  refuses = λ fault why is of memory. claim_plain b m (steps.ReadAll path) done (says.Failed why) m
      (apply_all m.tree path (Err fault) (no_file m.tree path IsADirectory fault is) ∙ table_fails (steps.ReadAll path) fault why m m refl of memory refl);
  breaks = λ why n broke fine stays synced. claim_broken b m (steps.ReadAll path) done why n broke refl fine stays;
  opens = λ number names node n is stands open_on. front_so b m path done number names is node 2048 n stands open_on;
}

pub read_all_agrees : ReadAllAgrees
read_all_agrees m hint path = agrees_of m hint (steps.ReadAll path) (λ b done. path_leads b m (opening_whole path) path (claim_of b m (steps.ReadAll path)) (whole_opens b m path done))

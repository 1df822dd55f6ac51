-- Lines that are appended, and temporary files that are written.
use Rattle.std.proofs.Common.{◌≡◌, ◌||◌, ◌&&◌, not, if◌then◌else◌, ℕ, min, Bool, true, false, cond, List, [], ◌++◌, length, take, refl, sym, ap, subst, ◌∙◌, ⊎_elim, inl, inr, arith, append-nil, true≢false, take_all}
use Rattle.std.specs.Prelude.{Option, None, Some, Result, Ok, Err, option_map}
use Rattle.std.specs.FinMap as map
use Rattle.std_io.specs.declared.io.kind.ErrorKind.{ErrorKind}
use Rattle.std_io.specs.declared.io.kind.ErrorKind.TheVariants as kind
use Rattle.cacache_core.specs.{Errors.{fault_of}, declared.errors.Fault.{Fault}, Paths.{Names}}
use Rattle.cacache_store.specs.declared.store.step.Step.TheVariants as steps
use Rattle.cacache_store.specs.declared.store.answer.Answer.TheVariants as answers
use Rattle.cacache_store.specs.Plain.{PlainAnswer}
use Rattle.cacache_disk.specs.{declared.{luck.Luck.TheVariants.{Plain, Fail}, node.Node.{Node, TheVariants.{Folder, File, Link}}}, Tree.{Tree, look, put, bytes_of, same_path}, LedTo.{leads, writable, where_no_folder}, Apply.{apply, unless, if_missing, taken, lengthened, grown, left_by, fault_told}}
use Rattle.cacache_disk.proofs.{Maps.{total, only, put_same}, PutNodes.{look-put}, Roots.{same_self}, FoundNodes.{and_then_ok}}
use Rattle.cacache_system.specs.declared.call.SystemCall.TheVariants as asks
use Rattle.cacache_system.specs.{declared.call.CallResult.{CallResult}, CallsOf.{trying, appending, interrupts, was_interrupted, after}, Seen.{NumberedTemp}, AnswersOf.{misses, refuses_memory, leaves_a_part}}
use Rattle.cacache_system.specs.declared.call.CallResult.TheVariants as says
use Rattle.cacache_system_model.specs.{Machine.{Place, under, OpenFile, node_of, Machine, HasTree, Grows, OpensIf, unread, with_empty}, Calls.{GoesWell, OccursSomehow, did_nothing, PartWritten, part_opened, LeavesWritten, LeavesPart}, Laws.{bytes_in, step_on, outcome, led_to, Leads, IsDone}, Writing.{WritesAll, WritesSome, WriteAgrees}, StepLaws.{StillStands, AppendAgrees}}
use Rattle.cacache_system_model.proofs.{Refusing.{same_outcome, failed, refused_on, never_missing, failing_apply, broken_part}, Leading.{over_leads, call_leads, trying_leads}, Claims.{way_of, claim_of, luck_of, Well, cases_of, agrees_of, claim_plain, claim_taken, claim_lucky, claim_broken}, Trying.{SaidWell, tried_so}, Steps.{Opening.{newly_open, said_leads, on_open, file_under}, Looking.{table_fails}}, Views.{leads_no_link}}

-- ---- trees

pub look_same : (t : Tree) (p : Names) (node : Node) → look (put t p node) p ≡ Some node
look_same t p node = look-put t p node p ∙ ap (λ (b : Bool). cond b (Some node) (look t p)) (same_self p)

twice_put : (a b : Node) (o : Option Node) (e : Bool) → cond e (Some b) (cond e (Some a) o) ≡ cond e (Some b) o
twice_put a b o true = refl
twice_put a b o false = refl

-- what is put twice at one path
pub put_put : (t : Tree) (p : Names) (a b : Node) → put (put t p a) p b ≡ put t p b
put_put t p a b = map.same_map total only _ _ (λ q.
    look-put (put t p a) p b q ∙ ap (cond (same_path q p) (Some b)) (look-put t p a q) ∙ twice_put a b (look t q) (same_path q p) ∙ sym (look-put t p b q))

lengthened_empty : (t : Tree) (names : Names) (more : List ℕ) (o : Option Node) → look t names ≡ o
    → lengthened (if_missing o (put t names (File [])) t) names more ≡ lengthened t names more
lengthened_empty t names more None is =
    ap (λ (n : Option Node). put (put t names (File [])) names (File (bytes_of n ++ more))) (look_same t names (File []))
    ∙ put_put t names (File []) (File ([] ++ more))
    ∙ ap (λ (n : Option Node). put t names (File (bytes_of n ++ more))) (sym is)
lengthened_empty t names more (Some node) is = refl

-- a file that got no bytes
pub lengthened_none : (t : Tree) (names : Names) (bytes : List ℕ) → look t names ≡ Some (File bytes) → lengthened t names [] ≡ t
lengthened_none t names bytes is =
    ap (λ (o : Option Node). put t names (File (bytes_of o ++ []))) is
    ∙ ap (λ (l : List ℕ). put t names (File l)) (append-nil bytes)
    ∙ put_same t names (File bytes) (sym is)

no_more_at : (t : Tree) (names : Names) (o : Option Node) → look t names ≡ o → where_no_folder o names ≡ Ok names → ((target : List ℕ) → o ≡ Some (Link target) → ⊥)
    → lengthened t names [] ≡ if_missing o (put t names (File [])) t
no_more_at t names None is fits none = ap (λ (o : Option Node). put t names (File (bytes_of o ++ []))) is
no_more_at t names (Some Folder) is fits none = absurd cc
no_more_at t names (Some (File bytes)) is fits none = lengthened_none t names bytes is
no_more_at t names (Some (Link target)) is fits none = absurd (none target refl)

no_folder_names : (o : Option Node) (names n : Names) → where_no_folder o names ≡ Ok n → names ≡ n
no_folder_names (Some Folder) names n is = absurd cc
no_folder_names o names n is = cc

-- if a path can be written, it leads, and no folder is there
pub writable_at : (t : Tree) (path : List ℕ) (names : Names) → writable t path ≡ Ok names → (leads t path ≡ Ok names) × (where_no_folder (look t names) names ≡ Ok names)
unfolding writable
writable_at t path names is =
    let f = and_then_ok (leads t path) (λ n. where_no_folder (look t n) n) names is in
    let same = no_folder_names (look t f.0) f.0 names f.2 in
    (f.1 ∙ ap (λ (n : Names). let r : Result Names Fault = Ok n in r) same, subst (λ (n : Names). where_no_folder (look t n) n ≡ Ok names) same f.2)

-- a file that was opened to append and got no bytes
no_more : (t : Tree) (path : List ℕ) (names : Names) → writable t path ≡ Ok names → lengthened t names [] ≡ with_empty t names
no_more t path names is =
    let at = writable_at t path names is in
    no_more_at t names (look t names) refl at.1 (leads_no_link t path names at.0)

take_nothing : (bytes : List ℕ) → take (taken (Some 0) bytes) bytes ≡ []
take_nothing bytes = ap (λ (n : ℕ). take n bytes) (let e : min 0 (length bytes) ≡ 0 = omega arith in e)

-- ---- a line is appended

apply_append : (most : Option ℕ) (t : Tree) (path bytes : List ℕ) (r : Result Names Fault) → writable t path ≡ r
    → apply t (steps.Append path bytes) (luck_of most) ≡ unless r t (λ names. outcome (answers.Took (taken most bytes)) (lengthened t names (take (taken most bytes) bytes)))
unfolding apply
apply_append None t path bytes r is = ap (λ (x : Result Names Fault). unless x t (λ names. outcome (answers.Took (length bytes)) (lengthened t names (take (length bytes) bytes)))) is
apply_append (Some most) t path bytes r is = ap (λ (x : Result Names Fault). unless x t (λ names. outcome (answers.Took (taken (Some most) bytes)) (lengthened t names (take (taken (Some most) bytes) bytes)))) is

part_appended : (t : Tree) (path bytes : List ℕ) (names : Names) (part : ℕ) → writable t path ≡ Ok names → left_by t (steps.Append path bytes) (Some part) ≡ lengthened t names (take (taken (Some part) bytes) bytes)
part_appended t path bytes names part is = ap (λ (r : Result Names Fault). (unless r t (λ names. outcome (answers.Took (taken (Some part) bytes)) (lengthened t names (take (taken (Some part) bytes) bytes)))).1) is

-- a write that a signal interrupts leaves nothing
pub stopped : (why : ErrorKind) (part : Option ℕ) (number : ℕ) (bytes : List ℕ) (n l : Machine) → interrupts why ≡ true → LeavesPart n (asks.Write number bytes) why part l → l ≡ n
stopped why part number bytes n l is left =
    subst (λ (c : Bool). LeavesWritten c number bytes part n l) (let e : did_nothing why ≡ true = ap (λ (c : Bool). c || refuses_memory why) is in e) left

-- the file of an append was opened
record Appending (m n : Machine) (number : ℕ) (names : Names) : Type 0 where
  pub tree : n.tree ≡ with_empty m.tree names
  pub file : n.files number ≡ Some (unread names)

module _ (b : Bool) (m : Machine) (path bytes : List ℕ) (done : b ≡ false → IsDone m (steps.Append path bytes)) where
  -- a part of the line was left
  part_so : (names : Names) (why : ErrorKind) (l : Machine) (part : ℕ) → writable m.tree path ≡ Ok names → b ≡ false → misses why ≡ false
      → l.tree ≡ lengthened m.tree names (take (taken (Some part) bytes) bytes) → claim_of b m (steps.Append path bytes) (says.Failed why) l
  part_so names why l part is broke fine left =
      claim_lucky b m (steps.Append path bytes) done (says.Failed why) l broke (λ d.
      broken_part (steps.Append path bytes) why (says.Failed why) m l (Some part) refl fine (left ∙ sym (part_appended m.tree path bytes names part is)) (λ whole. absurd (true≢false whole)) d)

  -- nothing of the line was left
  none_so : (names : Names) (why : ErrorKind) (l : Machine) → writable m.tree path ≡ Ok names → b ≡ false → misses why ≡ false
      → l.tree ≡ with_empty m.tree names → claim_of b m (steps.Append path bytes) (says.Failed why) l
  none_so names why l is broke fine left =
      part_so names why l 0 is broke fine (left ∙ sym (no_more m.tree path names is) ∙ ap (lengthened m.tree names) (sym (take_nothing bytes)))

  broke_written : (c : Bool) (number : ℕ) (names : Names) (why : ErrorKind) (part : Option ℕ) (n l : Machine) → writable m.tree path ≡ Ok names → Appending m n number names → b ≡ false → misses why ≡ false
      → LeavesWritten c number bytes part n l → claim_of b m (steps.Append path bytes) (says.Failed why) l
  broke_written true number names why part n l is ready broke fine left = none_so names why l is broke fine (ap (λ (x : Machine). x.tree) left ∙ ready.tree)
  broke_written false number names why None n l is ready broke fine left =
      none_so names why l is broke fine ((subst (λ (o : Option OpenFile). PartWritten o bytes None n l) ready.file left).0 ∙ ready.tree)
  broke_written false number names why (Some part) n l is ready broke fine left =
      part_so names why l part is broke fine
      ((subst (λ (o : Option OpenFile). PartWritten o bytes (Some part) n l) ready.file left).0
      ∙ ap (λ (t : Tree). lengthened t names (take (taken (Some part) bytes) bytes)) ready.tree
      ∙ lengthened_empty m.tree names (take (taken (Some part) bytes) bytes) (look m.tree names) refl)

  written_well : (number : ℕ) (names : Names) (n : Machine) → writable m.tree path ≡ Ok names → Appending m n number names → (said : CallResult) (l : Machine) → Well b n (asks.Write number bytes) said l
      → SaidWell (claim_of b m (steps.Append path bytes)) said l
  written_well number names n is ready said l (most, all, well) =
      let writes = on_open n l number (unread names) said (λ f said l. (said ≡ says.Count (taken most bytes)) × Grows f.place (take (taken most bytes) bytes) n l) ready.file well in
      record {
        is = says.Count (taken most bytes);
        same = writes.0;
        goes_on = refl;
        holds = claim_taken b m (steps.Append path bytes) done most (says.Count (taken most bytes)) l all
            (apply_append most m.tree path bytes (Ok names) is
            ∙ ap (outcome (answers.Took (taken most bytes)))
            (sym (writes.1.0 ∙ ap (λ (t : Tree). lengthened t names (take (taken most bytes) bytes)) ready.tree
            ∙ lengthened_empty m.tree names (take (taken most bytes) bytes) (look m.tree names) refl)));
      }

  line_leads : (number : ℕ) (names : Names) (n : Machine) → writable m.tree path ≡ Ok names → Appending m n number names → Leads (way_of b) (trying false (asks.Write number bytes)) n (claim_of b m (steps.Append path bytes))
  line_leads number names n is ready =
      trying_leads (way_of b) (asks.Write number bytes) n (claim_of b m (steps.Append path bytes))
      (tried_so b n (asks.Write number bytes) (claim_of b m (steps.Append path bytes)) (written_well number names n is ready)
      (λ broke. none_so names kind.Interrupted n is broke refl ready.tree)
      (λ why part l interrupted left. stopped why part number bytes n l interrupted left)
      (λ why part l broke fine left. broke_written (did_nothing why) number names why part n l is ready broke fine left))

  append_opened : (r : Result Names Fault) (said : CallResult) (n : Machine) → writable m.tree path ≡ r → OpensIf r (with_empty m.tree) m said n
      → Leads (way_of b) (after (appending path bytes) said) n (claim_of b m (steps.Append path bytes))
  append_opened (Ok names) said n is (number, same, fresh, became) =
      said_leads b (appending path bytes) said (says.Opened number) n (claim_of b m (steps.Append path bytes)) same
      (line_leads number names n is (record {
        tree = became.0;
        file = ap (λ (f : ℕ → Option OpenFile). f number) became.1 ∙ newly_open m.files number (unread names);
      }))
  append_opened (Err fault) said n is (why, same, of, memory, stays) =
      said_leads b (appending path bytes) said (says.Failed why) n (claim_of b m (steps.Append path bytes)) same
      (over_leads (way_of b) (says.Failed why) n (claim_of b m (steps.Append path bytes))
      (claim_plain b m (steps.Append path bytes) done (says.Failed why) n
      (apply_append None m.tree path bytes (Err fault) is ∙ table_fails (steps.Append path bytes) fault why m n refl of memory (ap (λ (x : Machine). x.tree) stays))))

  -- an opening that failed, and may have made the file
  broke_opened : (r : Result Names Fault) (why : ErrorKind) (part : Option ℕ) (l : Machine) → writable m.tree path ≡ r → b ≡ false → misses why ≡ false
      → l.tree ≡ part_opened r part m.tree → claim_of b m (steps.Append path bytes) (says.Failed why) l
  broke_opened (Ok names) why (Some part) l is broke fine left = none_so names why l is broke fine left
  broke_opened (Ok names) why None l is broke fine left = claim_broken b m (steps.Append path bytes) done why l broke refl fine left
  broke_opened (Err fault) why part l is broke fine left = claim_broken b m (steps.Append path bytes) done why l broke refl fine left

  append_leads : Leads (way_of b) (appending path bytes) m (claim_of b m (steps.Append path bytes))
  append_leads =
      call_leads (way_of b) (appending path bytes) (asks.OpenToAppend path) m (claim_of b m (steps.Append path bytes)) refl (λ end never. absurd never) (λ said n happens.
      ⊎_elim
      (λ (most, all, well). append_opened (writable m.tree path) said n refl well)
      (λ (broke, why, same, fine, part, left).
      said_leads b (appending path bytes) said (says.Failed why) n (claim_of b m (steps.Append path bytes)) same
      (over_leads (way_of b) (says.Failed why) n (claim_of b m (steps.Append path bytes))
      (broke_opened (writable m.tree path) why part n refl broke fine left.0)))
      (cases_of b m (asks.OpenToAppend path) said n happens))

pub append_agrees : AppendAgrees
append_agrees m hint path bytes = agrees_of m hint (steps.Append path bytes) (λ b done. append_leads b m path bytes done)

-- ---- a temporary file is written

abbrev wrote : NumberedTemp → Option (List ℕ) → ℕ → PlainAnswer
wrote temp bytes count = answers.Wrote (record { path = temp.path; bytes = bytes }) count

apply_write : (most : Option ℕ) (t : Tree) (temp : NumberedTemp) (held : Option (List ℕ)) (old more : List ℕ) → held ≡ Some old
    → (apply t (steps.Write (record { path = temp.path; bytes = held }) more) (luck_of most)).0 ≡ wrote temp (Some (old ++ take (taken most more) more)) (taken most more)
unfolding apply
apply_write None t temp held old more is = ap (grown (record { path = temp.path; bytes = held }) more (length more)) is
apply_write (Some most) t temp held old more is = ap (grown (record { path = temp.path; bytes = held }) more (taken (Some most) more)) is

-- the file that is open under a number
module _ (m : Machine) (temp : NumberedTemp) (names : Names) (bytes more : List ℕ) (ready : StillStands m temp names bytes) where
  temp_file : (f : OpenFile) × (m.files temp.number ≡ Some f) × (f.place ≡ under names)
  temp_file = file_under (m.files temp.number) (under names) ready.opened

  held : option_map (bytes_in m) (m.files temp.number) ≡ Some bytes
  held =
      ap (option_map (bytes_in m)) temp_file.1 ∙ ap (λ (p : Place). Some (bytes_of (node_of m.tree p))) temp_file.2 ∙ ap (λ (o : Option Node). Some (bytes_of o)) ready.stands

  held_after : (l : Machine) (part : List ℕ) → l.tree ≡ lengthened m.tree names part → l.files ≡ m.files → option_map (bytes_in l) (l.files temp.number) ≡ Some (bytes ++ part)
  held_after l part tree files =
      ap (λ (g : ℕ → Option OpenFile). option_map (bytes_in l) (g temp.number)) files ∙ ap (option_map (bytes_in l)) temp_file.1
      ∙ ap (λ (p : Place). Some (bytes_of (node_of l.tree p))) temp_file.2
      ∙ ap (λ (t : Tree). Some (bytes_of (look t names))) tree
      ∙ ap (λ (o : Option Node). Some (bytes_of o)) (look_same m.tree names (File (bytes_of (look m.tree names) ++ part)))
      ∙ ap (λ (o : Option Node). Some (bytes_of o ++ part)) ready.stands

  -- a write that succeeded
  wrote_so : (most : Option ℕ) (l : Machine) → l.tree ≡ lengthened m.tree names (take (taken most more) more) → l.files ≡ m.files
      → outcome (apply m.tree (step_on m (steps.Write temp more)) (luck_of most)).0 (lengthened m.tree names (take (taken most more) more)) ≡ led_to (steps.Write temp more) (says.Count (taken most more)) l
  wrote_so most l tree files =
      same_outcome (apply m.tree (step_on m (steps.Write temp more)) (luck_of most)).0 (wrote temp (option_map (bytes_in l) (l.files temp.number)) (taken most more)) (lengthened m.tree names (take (taken most more) more)) l.tree
      (apply_write most m.tree temp (option_map (bytes_in m) (m.files temp.number)) bytes more held
      ∙ ap (λ (o : Option (List ℕ)). wrote temp o (taken most more)) (sym (held_after l (take (taken most more) more) tree files))) (sym tree)

  write_done : IsDone m (steps.Write temp more)
  write_done = ap fault_told (apply_write None m.tree temp (option_map (bytes_in m) (m.files temp.number)) bytes more held)

  well_written : (most : Option ℕ) (said : CallResult) (l : Machine) → GoesWell most m (asks.Write temp.number more) said l
      → (said ≡ says.Count (taken most more)) × HasTree m (lengthened m.tree names (take (taken most more) more)) l
  well_written most said l well =
      subst (λ (p : Place). (said ≡ says.Count (taken most more)) × Grows p (take (taken most more) more) m l) temp_file.2
      (on_open m l temp.number temp_file.0 said (λ f said l. (said ≡ says.Count (taken most more)) × Grows f.place (take (taken most more) more) m l) temp_file.1 well)

  write_plainly : Leads (GoesWell None) (trying false (asks.Write temp.number more)) m (WritesAll m temp names more)
  write_plainly =
      trying_leads (GoesWell None) (asks.Write temp.number more) m (WritesAll m temp names more) (λ said l well.
      let w = well_written None said l well in
      inr (
        ap was_interrupted w.0,
        subst (λ (r : CallResult). WritesAll m temp names more r l) (sym w.0)
            (ap (λ (x : List ℕ). outcome (apply m.tree (step_on m (steps.Write temp more)) Plain).0 (lengthened m.tree names x)) (sym (take_all (length more) more (omega arith)))
            ∙ wrote_so None l w.1.0 w.1.1),
      ))

  -- a write that failed, and left a part done
  failed_write : (why : ErrorKind) (part : ℕ) (l : Machine) → misses why ≡ false → refuses_memory why ≡ false → l.tree ≡ lengthened m.tree names (take part more) → WritesSome m temp names more (says.Failed why) l
  failed_write why part l fine memory tree =
      inl (
        Fail (fault_of why) None,
        part,
        same_outcome (apply m.tree (step_on m (steps.Write temp more)) (Fail (fault_of why) None)).0 (failed (fault_of why)) (lengthened m.tree names (take part more)) l.tree
            (ap (λ (r : PlainAnswer × Tree). r.0) (failing_apply m.tree (step_on m (steps.Write temp more)) (fault_of why) None write_done) ∙ ap failed (never_missing why fine)) (sym tree)
            ∙ ap (λ (a : PlainAnswer). outcome a l.tree) (sym (refused_on (steps.Write temp more) why l memory)),
      )

  nothing_written : (why : ErrorKind) (c : Bool) (l : Machine) → misses why ≡ false → refuses_memory why ≡ c → l.tree ≡ m.tree → WritesSome m temp names more (says.Failed why) l
  nothing_written why false l fine memory stays = failed_write why 0 l fine memory (stays ∙ sym (lengthened_none m.tree names bytes ready.stands))
  nothing_written why true l fine memory stays = inr (ap (λ (c : Bool). if c && not (leaves_a_part (steps.Write temp more)) then answers.NoMemory (steps.Write temp more) else answers.Failed (fault_of why)) memory, stays)

  part_failed : (why : ErrorKind) (part : Option ℕ) (l : Machine) → misses why ≡ false → refuses_memory why ≡ false → LeavesWritten false temp.number more part m l → WritesSome m temp names more (says.Failed why) l
  part_failed why None l fine memory left = nothing_written why false l fine memory (subst (λ (o : Option OpenFile). PartWritten o more None m l) temp_file.1 left).0
  part_failed why (Some part) l fine memory left =
      failed_write why (taken (Some part) more) l fine memory
      (subst (λ (p : Place). Grows p (take (taken (Some part) more) more) m l) temp_file.2
      (subst (λ (o : Option OpenFile). PartWritten o more (Some part) m l) temp_file.1 left)).0

  broke_write : (why : ErrorKind) (i c : Bool) (part : Option ℕ) (l : Machine) → misses why ≡ false → interrupts why ≡ i → refuses_memory why ≡ c → LeavesWritten (i || c) temp.number more part m l
      → WritesSome m temp names more (says.Failed why) l
  broke_write why false false part l fine interrupted memory left = part_failed why part l fine memory left
  broke_write why false true part l fine interrupted memory left = nothing_written why true l fine memory (ap (λ (x : Machine). x.tree) left)
  broke_write why true c part l fine interrupted memory left = nothing_written why c l fine memory (ap (λ (x : Machine). x.tree) left)

  write_lucky : Leads OccursSomehow (trying false (asks.Write temp.number more)) m (WritesSome m temp names more)
  write_lucky =
      trying_leads OccursSomehow (asks.Write temp.number more) m (WritesSome m temp names more)
      (tried_so false m (asks.Write temp.number more) (WritesSome m temp names more)
      (λ said l (most, all, well).
      let w = well_written most said l well in
      record {
        is = says.Count (taken most more);
        same = w.0;
        goes_on = refl;
        holds = inl (luck_of most, taken most more, wrote_so most l w.1.0 w.1.1);
      })
      (λ broke. nothing_written kind.Interrupted false m refl refl refl)
      (λ why part l interrupted left. stopped why part temp.number more m l interrupted left)
      (λ why part l broke fine left. broke_write why (interrupts why) (refuses_memory why) part l fine refl refl left))

pub write_agrees : WriteAgrees
write_agrees m hint temp names bytes more ready = record {
  plainly = write_plainly m temp names bytes more ready;
  breaking = write_lucky m temp names bytes more ready;
}

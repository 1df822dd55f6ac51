-- What a command promises of its reply, it promises of what both say: no promise looks at a JSON value.
use native.Mathlib.Omega.{arith}
use Rattle.std.proofs.Common.{◌≡◌, List, Option, Result}
use Rattle.cacache_core.specs.declared.errors.Error.{Error}
use Rattle.cacache_entry.specs.Bucket.{Found}
use Rattle.cacache_calls.specs.{declared.{command.{Command.{Command}, How.{How, TheVariants.{Copy, Reflink, HardLink}}}, reply.Reply.{Reply, TheVariants.{Stored, Read, LookedUp, Exists, Copied, Listed, Done, Refused}}}, State.{Site}, Promises.{Answers, Exports}, Runs.{plain_reply}}
use Rattle.cacache_calls.specs.declared.command.Command.TheVariants as commands
use Rattle.cacache_calls.specs.declared.command.Source.TheVariants as sources
use Rattle.cacache_threads.specs.Said.{said_command, said_reply}

-- ---- another found entry, or another listing

no_found : {X : Type 0} (how : How) (f : Option Found) → Exports how (LookedUp f) → X
no_found Copy f h = absurd h
no_found Reflink f h = let no : LookedUp f ≡ Done = h in absurd cc
no_found HardLink f h = let no : LookedUp f ≡ Done = h in absurd cc

found_kept : (site : Site) (c : Command) (f g : Option Found) → Answers site c (LookedUp f) → Answers site c (LookedUp g)
found_kept site (commands.Insert i) f g h = let no : LookedUp f ≡ Stored _ = h in absurd cc
found_kept site (commands.Find key) f g h = tt
found_kept site (commands.Export (sources.Key key) e) f g h = no_found e.how f h
found_kept site (commands.Export (sources.Hash i) e) f g h = no_found e.how f h.0
found_kept site command f g h = grind arith

abbrev Items : Type 0
Items = List (Result Found Error)

no_items : {X : Type 0} (how : How) (l : Items) → Exports how (Listed l) → X
no_items Copy l h = absurd h
no_items Reflink l h = let no : Listed l ≡ Done = h in absurd cc
no_items HardLink l h = let no : Listed l ≡ Done = h in absurd cc

items_kept : (site : Site) (c : Command) (l m : Items) → Answers site c (Listed l) → Answers site c (Listed m)
items_kept site (commands.Insert i) l m h = let no : Listed l ≡ Stored _ = h in absurd cc
items_kept site commands.Ls l m h = tt
items_kept site (commands.Export (sources.Key key) e) l m h = no_items e.how l h
items_kept site (commands.Export (sources.Hash i) e) l m h = no_items e.how l h.0
items_kept site command l m h = grind arith

-- ---- what both say

reply_said : (site : Site) (c : Command) (r : Reply) → Answers site c (plain_reply r) → Answers site c (plain_reply (said_reply r))
reply_said site c (Stored i) h = h
reply_said site c (Read bytes) h = h
reply_said site c (LookedUp f) h = found_kept site c f _ h
reply_said site c (Exists there) h = h
reply_said site c (Copied n) h = h
reply_said site c (Listed items) h = items_kept site c _ _ h
reply_said site c Done h = h
reply_said site c (Refused e) h = h

command_said : (site : Site) (c : Command) (r : Reply) → Answers site c r → Answers site (said_command c) r
command_said site (commands.Put p) (Stored i) h = (h.0, record { integrity = h.1.integrity; size = h.1.size })
command_said site (commands.Put p) (Refused e) h = h
command_said site (commands.Put p) (Read bytes) h = h
command_said site (commands.Put p) (LookedUp f) h = h
command_said site (commands.Put p) (Exists there) h = h
command_said site (commands.Put p) (Copied n) h = h
command_said site (commands.Put p) (Listed items) h = h
command_said site (commands.Put p) Done h = h
command_said site (commands.Link l) (Stored i) h = (h.0, (h.1.0, (h.1.1.0, record { integrity = h.1.1.1.integrity; size = h.1.1.1.size })))
command_said site (commands.Link l) (Refused e) h = h
command_said site (commands.Link l) (Read bytes) h = h
command_said site (commands.Link l) (LookedUp f) h = h
command_said site (commands.Link l) (Exists there) h = h
command_said site (commands.Link l) (Copied n) h = h
command_said site (commands.Link l) (Listed items) h = h
command_said site (commands.Link l) Done h = h
command_said site command r h = h

pub said_answers : (site : Site) (c : Command) (r : Reply) → Answers site c (plain_reply r) → Answers site (said_command c) (plain_reply (said_reply r))
said_answers site c r h = command_said site c (plain_reply (said_reply r)) (reply_said site c r h)

-- What checked exports and links read before they made anything.
use Rattle.std.specs.Prelude.{◌≡◌, ℕ, List, [], ◌∷◌, ◌++◌, Ok, Some, true, length}
use Rattle.cacache_core.specs.{declared.integrity.digest.Hash.{Hash}, Integrity.{Meets}}
use Rattle.cacache_store.specs.{declared.store.plain.PlainFile.{PlainFile}, Plain.{PlainAnswer}}
use Rattle.cacache_store.specs.declared.store.step.Step.TheVariants as steps
use Rattle.cacache_store.specs.declared.store.answer.Answer.TheVariants as answers
use Rattle.cacache_entry.specs.Bucket.{Found}
use Rattle.cacache_calls.specs.declared.command.Command.TheVariants as commands
use Rattle.cacache_calls.specs.{declared.{command.{Source.{Source}, Export.{Export}, Link.{Link}}, reply.Reply.{Reply, TheVariants.{Copied, Refused}}, target.Target.{Target}}, Linking.{link_target, with_size, commit_for}, Steps.{content_path}, Promises.{Stores}, Replies.{BeginsWithBucket, bucket_shown, lookup}, Runs.{Moves, Runs}, State.{Site}, Table.{opening}}
use Rattle.cacache_calls.specs.declared.command.Source.TheVariants as sources

-- the moves begin with reads of the file to its end, which returned these bytes
abbrev pub Gives : PlainFile → List ℕ → Moves → Type 0
Gives file bytes ((steps.Read f max, answers.Got g []) ∷ moves) = (f ≡ file) × (bytes ≡ [])
Gives file bytes ((steps.Read f max, answers.Got g (b ∷ bs)) ∷ moves) =
    (f ≡ file) × (more : List ℕ) × (bytes ≡ (b ∷ bs) ++ more) × Gives g more moves
Gives file bytes moves = ⊥

-- the moves begin by opening the file and reading it to its end; P holds of its bytes
abbrev pub ReadsWhole : List ℕ → (List ℕ → Type 0) → Moves → Type 0
ReadsWhole path P moves =
    (file : PlainFile) × (bytes : List ℕ) × (more : Moves)
    × (moves ≡ (steps.Open path, answers.File file) ∷ more) × Gives file bytes more × P bytes

-- ---- checked exports

-- a copy returns the count of these bytes
abbrev pub CountsAs : List ℕ → Reply → Type 0
CountsAs bytes (Copied n) = n ≡ length bytes
CountsAs bytes r = Unit {0}

-- the call read the whole content, and its bytes match the integrity
abbrev pub VerifiesContent : List ℕ → List Hash → Moves → Reply → Type 0
VerifiesContent cache i moves r =
    ReadsWhole (content_path cache i) (λ bytes. Meets i bytes × CountsAs bytes r) moves

-- with a key, the moves begin with the lookup that finds the content
abbrev pub Verifies : List ℕ → Source → Moves → Reply → Type 0
Verifies cache (sources.Hash i) moves r = VerifiesContent cache i moves r
Verifies cache (sources.Key key) moves r =
    (t : PlainAnswer) × (more : Moves) × BeginsWithBucket cache key t more moves
    × (found : Found) × (lookup key (bucket_shown t) ≡ Ok (Some found))
    × VerifiesContent cache found.integrity more r

-- P holds unless the call was refused
abbrev pub UnlessRefused : Type 0 → Reply → Type 0
UnlessRefused P (Refused e) = Unit {0}
UnlessRefused P r = P

-- ---- links

-- the call got the target's size, then read all of it: the link stores the bytes that it read, of that size
abbrev pub LinksWhole : Target ℕ → Moves → Reply → Type 0
LinksWhole t moves r =
    (n : ℕ) × (more : Moves) × (moves ≡ (steps.Size t.path, answers.Length n) ∷ more)
    × ReadsWhole t.path (λ bytes. Stores (commit_for (with_size t n) bytes) r) more

-- ---- laws

-- a checked export that isn't refused verified what it opened
abbrev pub ExportsVerify : Type 0
ExportsVerify =
    (site : Site) (source : Source) (e : Export) (moves : Moves) (r : Reply)
    → e.checked ≡ true → Runs (opening site (commands.Export source e)) moves r
    → UnlessRefused (Verifies site.cache source moves r) r

-- a link that isn't refused read its whole target
abbrev pub LinksReadWhole : Type 0
LinksReadWhole =
    (site : Site) (l : Link) (moves : Moves) (r : Reply)
    → Runs (opening site (commands.Link l)) moves r
    → UnlessRefused (LinksWhole (link_target site l) moves r) r

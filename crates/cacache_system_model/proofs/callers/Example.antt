-- A call that asks for a content, on any machine with a cache.
use Rattle.std.proofs.{lemmas.Grind.{common_steps}, Common.{◌≡◌, inl, inr, ◌≤◌, ◌^◌, ◌+◌, ℕ, true, false, List, [], ◌∷◌, Option, None, Some, Result, Ok, Err, length, refl, sym, ap, subst, ◌∙◌, arith}}
use Rattle.std.specs.Prelude.{IfSome}
use Rattle.std_io.specs.declared.io.kind.ErrorKind.TheVariants as kind
use Rattle.cacache_core.specs.{declared.{errors.{Fault.{Fault}, Error.TheVariants.{OutOfMemory}}, integrity.digest.Hash.{Hash}}, Paths.{Names}}
use Rattle.cacache_store.specs.declared.store.step.Step.TheVariants as store
use Rattle.cacache_store.specs.declared.store.answer.Answer.TheVariants as answers
use Rattle.cacache_store.specs.Plain.{PlainAnswer}
use Rattle.cacache_disk.specs.{declared.{luck.Luck.TheVariants.{Plain}, node.Node.{Node, TheVariants.{Folder, File, Link}}}, Tree.{look, kind_of}, LedTo.{found}}
use Rattle.cacache_system.specs.{declared.call.{FileInfo.{FileInfo}, CallResult.{CallResult}}, Seen.{item}, AnswersOf.{no_hint, answer_of, refuses_memory}}
use Rattle.cacache_system.specs.declared.call.SystemCall.TheVariants as asks
use Rattle.cacache_system.specs.declared.call.CallResult.TheVariants as says
use Rattle.cacache_system_model.specs.{Machine.{Machine, is_regular, Describes, ShowsEnd}, Chains.{StepMade}, callers.{Made.{now_left}, Seen.{answer_seen}, Example.{QuestionsCanBe}}}
use Rattle.cacache_system_model.proofs.Saying.{Sayable, found_say}
use Rattle.cacache_calls.specs.{declared.{carried.Content.{Content}, reply.Reply.{Reply, TheVariants.{Exists, Refused}}}, State.{asking}, Steps.{content_path}, Table.{after}}
use Rattle.cacache_history.specs.{Setup.{Setup}, History.{Ends}}

-- ---- what the system can say

abbrev Said : Result Names Fault → Machine → Type 0
Said r m = (said : CallResult) × ShowsEnd r m said m × (said ≡ says.Failed kind.OutOfMemory → ⊥)

abbrev size_of : Node → ℕ
size_of Folder = 0
size_of (File bytes) = length bytes
size_of (Link target) = 0

abbrev info_of : Node → ℕ × ℕ → FileInfo
info_of node inode = record { kind = kind_of node; regular = is_regular node; size = size_of node; inode = inode.0; device = inode.1; mode = 0; owner = 0; group = 0 }

described : (node : Node) (inode : ℕ × ℕ) → Describes node inode (info_of node inode)
described node inode = grind (arith, common_steps)

no_failure : (info : FileInfo) → says.Info info ≡ says.Failed kind.OutOfMemory → ⊥
no_failure info e = cc

node_said : (m : Machine) (names : Names) (o : Option Node) → look m.tree names ≡ o → Said (Ok names) m
node_said m names None is =
    let info = info_of Folder (m.inodes names) in
    (says.Info info, (info, refl, subst (λ (o : Option Node). IfSome o (λ node. Describes node (m.inodes names) info)) (sym is) tt, refl), no_failure info)
node_said m names (Some node) is =
    let info = info_of node (m.inodes names) in
    (says.Info info, (info, refl, subst (λ (o : Option Node). IfSome o (λ x. Describes x (m.inodes names) info)) (sym is) (described node (m.inodes names)), refl), no_failure info)

end_said : (m : Machine) (r : Result Names Fault) → Sayable r → Said r m
end_said m (Ok names) can = node_said m names (look m.tree names) refl
end_said m (Err fault) (why, is, memory) = (
  says.Failed why,
  (why, refl, is, memory, refl),
  λ e.
      let same : why ≡ kind.OutOfMemory = cc in
      let no : true ≡ false = sym (ap refuses_memory same) ∙ memory in
      cc,
)

-- ---- what the call answers

asking_ends : (k : Content) (a : PlainAnswer) → (reply : Option Reply) × Ends (after (asking k) a) reply
asking_ends k (answers.There b) = (Some (Exists b), inl refl)
asking_ends k (answers.NoMemory step) = (Some (Refused OutOfMemory), inl refl)
asking_ends k a = (Some (Exists false), inl refl)

abbrev content_of : Setup → List Hash → Content
content_of s i = record { cache = s.cache; integrity = i }

abbrev asking_step : Setup → List Hash → Machine → CallResult → StepMade
asking_step s i m said = record {
  before = m;
  after = m;
  step = store.Exists (content_path s.cache i);
  hint = no_hint;
  items = item (asks.Stat (content_path s.cache i)) said ∷ [];
  end = said;
}

pub questions_can_be : QuestionsCanBe
questions_can_be s m cache i within integrity fewer =
    let g = end_said m (found m.tree (content_path s.cache i)) (found_say m.tree (content_path s.cache i)) in
    let r = asking_ends (content_of s i) (answer_seen (answer_of (store.Exists (content_path s.cache i)) g.0)) in
    let few : (now_left s cache.past).begun + 1 ≤ 2 ^ 64 = omega (arith, fewer) in (
      asking_step s i m g.0,
      r.0,
      (
        (within, refl, tt, integrity, few),
        (
          record {
            state = asking (content_of s i);
            stands = refl;
            wanted = refl;
            held = tt;
            spares = tt;
            here = refl;
            runs = (refl, refl);
            each = (m, (Plain, g.1), refl);
            luck = inr (inl (tt, (m, g.1, refl), g.2));
            hint = tt;
            clean = λ left. left;
            fits = tt;
            over = r.1;
          },
          tt,
        ),
      ),
    )

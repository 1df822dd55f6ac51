-- Calls that only look answer on the tree of the log, and one tree gives one answer.
use Rattle.std.proofs.Common.{◌≡◌, ◌⊎◌, inl, inr, [], ◌∷◌, Some, None, sym, ap, subst, ◌∙◌}
use Rattle.cacache_store.specs.Plain.{PlainStep, PlainAnswer}
use Rattle.cacache_disk.specs.{declared.luck.Luck.TheVariants.{Plain}, Tree.{Tree}, Apply.{apply}, Replay.{tree_of}}
use Rattle.cacache_calls.specs.{declared.reply.Reply.{Reply}, State.{State, Site, over}, Table.{after, opening, wants}, Runs.{Moves, Runs}}
use Rattle.cacache_laws.{proofs.{Calls.InParts.{logs_lead}, trees.Logged.{looked}}, specs.trees.Answers.{AnsweredBy, AnswersAgree, IsMemory, LooksAnswer}}

pub looks_answer : LooksAnswer
looks_answer cache command r old new looks c =
    let site : Site = record { cache = cache; base = c.base; number = c.number } in
    (looked site (tree_of old) command r c.ran.0 looks c.ran.1 (logs_lead old new c.ran.0 c.ran.2 c.logged).0).0

-- ---- two runs

Agree : Reply → Reply → Type 0
Agree r other = (r ≡ other) ⊎ (IsMemory r ⊎ IsMemory other)

-- a run that is over makes no step
over_ends : (s : State) (r other : Reply) (m : PlainStep × PlainAnswer) (moves : Moves) → s ≡ over r → Runs s (m ∷ moves) other → ⊥
over_ends s r other m moves e run = let wrong : None ≡ Some m.0 = ap wants (sym e) ∙ run.0 in cc

runs_agree : (t : Tree) (s : State) (xs ys : Moves) (r other : Reply) → Runs s xs r → AnsweredBy t xs → Runs s ys other → AnsweredBy t ys → Agree r other
unfolding Agree
runs_agree t s [] [] r other (inl e) a (inl f) b = inl (let same : over r ≡ over other = sym e ∙ f in cc)
runs_agree t s [] ys r other (inr e) a run b = inr (inl e)
runs_agree t s [] (n ∷ ys) r other (inl e) a run b = absurd (over_ends s r other n ys e run)
runs_agree t s (m ∷ xs) [] r other run a (inl f) b = absurd (over_ends s other r m xs f run)
runs_agree t s (m ∷ xs) (n ∷ ys) r other run a more b =
    let both : Some m.0 ≡ Some n.0 = sym run.0 ∙ more.0 in
    let step : m.0 ≡ n.0 = cc in
    let answer : n.1 ≡ m.1 = b.0 ∙ ap (λ x. (apply t x Plain).0) (sym step) ∙ sym a.0 in
    runs_agree t (after s m.1) xs ys r other run.2 a.1 (subst (λ x. Runs (after s x) ys other) answer more.2) b.1
runs_agree t s xs [] r other run a (inr f) b = inr (inr f)

pub answers_agree : AnswersAgree
unfolding Agree
answers_agree site t command r other a b = runs_agree t (opening site command) a.0 b.0 r other a.1 a.2 b.1 b.2

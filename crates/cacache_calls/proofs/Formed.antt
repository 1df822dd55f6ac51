-- The entries that a command or a commit may add are well-formed, because those of their key and options are.
use Rattle.std.{proofs.Common.{◌≡◌, ℕ, ◌<◌, ◌^◌, List, Option, None, Some, sym, subst, ◌∙◌, arith}, specs.Prelude.{IsUtf8}}
use Rattle.cacache_core.specs.declared.integrity.digest.Hash.{Hash}
use Rattle.cacache_entry.{specs.FittingEntries.{IsUtf8IfAny, AreBytes, IsJson}, proofs.WellRead.{IsJson-null}}
use Rattle.cacache_calls.specs.{declared.{carried.Commit.{Commit}, command.Options.{Options}}, Sound.{FormsCommand, FormsCommit, FormsEntries}, Inserting.{given_text, given_size, refused_cause}, State.{Site}}
use Rattle.cacache_calls.proofs.Telling.{integrity_utf8}
use Rattle.cacache_calls.specs.declared.command.Link as links
use Rattle.cacache_calls.specs.declared.command.Insert as inserts
use Rattle.cacache_calls.specs.declared.command.Delete as deletes
use Rattle.cacache_calls.specs.declared.command.Command.TheVariants as commands

text_utf8 : (o : Option (List Hash)) → IsUtf8IfAny (given_text o)
text_utf8 None = tt
text_utf8 (Some i) = integrity_utf8 i

some_key : (P : List ℕ → Type 0) (a b : List ℕ) → Some a ≡ Some b → P a → P b
some_key P a b e h = let same : a ≡ b = cc in subst P same h

-- its parts have what each value of their types has
pub forms : (key : List ℕ) (moment : ℕ) (o : Options) → IsUtf8 key → IsJson o.metadata → AreBytes o.raw_metadata → FormsEntries key moment o
forms key moment o utf8 json raw = λ integrity size spelled small written.
    record { key = utf8; integrity = spelled; size = small; metadata = json; raw_metadata = raw }

pub of_commit : (c : Commit) (key : List ℕ) → c.key ≡ Some key → c.count < 2 ^ 64 → ((moment : ℕ) → FormsEntries key moment c.options) → FormsCommit c
unfolding refused_cause
of_commit c key is small forms = λ k e written.
    some_key (λ k. FormsEntries k c.moment c.options) key k (sym is ∙ e) (forms c.moment) _ _ (integrity_utf8 _) small written

pub of_insert : (site : Site) (i : inserts.Insert) → given_size i.options.size < 2 ^ 64 → ((moment : ℕ) → FormsEntries i.key moment i.options) → FormsCommand site (commands.Insert i)
unfolding refused_cause
of_insert site i small forms = λ written. forms i.moment _ _ (text_utf8 i.options.integrity) small written

pub of_link : (site : Site) (l : links.Link) (key : List ℕ) → l.key ≡ Some key → ((moment : ℕ) → FormsEntries key moment l.options) → FormsCommand site (commands.Link l)
unfolding refused_cause
of_link site l key is forms = λ bytes small k e written.
    some_key (λ k. FormsEntries k l.moment l.options) key k (sym is ∙ e) (forms l.moment) _ _ (integrity_utf8 _) small written

pub of_delete : (site : Site) (d : deletes.Delete) → IsUtf8 d.key → FormsCommand site (commands.Delete d)
of_delete site d utf8 = λ written. record { key = utf8; integrity = tt; size = omega arith; metadata = IsJson-null; raw_metadata = tt }

-- Calls that are on their way have numbers that differ, and so have their temporary files.
use Rattle.std.proofs.{lemmas.{Grind.{common_steps}, List.{append_cancel_left}}, Common.{rules, ◌≡◌, ◌<◌, ◌≤◌, ◌^◌, ◌+◌, ◌==◌, ℕ, Bool, false, cond, List, [], ◌∷◌, ◌++◌, Option, None, Some, Ok, option_map, ap, subst, arith}}
use Rattle.cacache_core.specs.Paths.{Names, home_of, names_below, names_of, joined, temp_names}
use Rattle.cacache_core.proofs.{JoinedNames.{joined_texts_name}, PathTexts.{paths_differ}, ProperNames.{names_are_proper}}
use Rattle.cacache_disk.{specs.{declared.luck.Luck.{Luck}, Tree.{Tree}}, proofs.Maps.{same_path-true}}
use Rattle.cacache_calls.specs.{declared.reply.Reply.{Reply}, Steps.{temp_path}}
use Rattle.cacache_history.specs.{declared.record.Record.{Record, TheVariants.{Began, Moved, Stopped}}, Setup.{Setup}, History.{Call, Made, Now, initial, call_after, now_after, replayed, unless_over}}
use Rattle.cacache_loss.specs.Fixing.{is_at}

-- ---- paths of temporary files

pub temps_named : (cache : List ℕ) (n : ℕ) → names_of (temp_path cache n) ≡ names_below (home_of cache) (temp_names n)
unfolding temp_path
temps_named cache n = joined_texts_name cache (temp_names n) (names_are_proper.temporaries n) (omega arith)

pub same_number : (cache : List ℕ) (folder : Names) (n m : ℕ) → n < 2 ^ 64 → m < 2 ^ 64 → folder ++ temp_names n ≡ folder ++ temp_names m → n ≡ m
same_number cache folder n m few less e =
    (paths_differ.temporaries cache n m few less).0 (ap (joined cache) (append_cancel_left folder (temp_names n) (temp_names m) e))

apart_below : (cache : List ℕ) (home : Option Names) (n m : ℕ) (q : Names) → n < 2 ^ 64 → m < 2 ^ 64 → (n ≡ m → ⊥) → names_below home (temp_names n) ≡ Ok q
    → is_at (names_below home (temp_names m)) q ≡ false
apart_below cache home n m q few less apart e = grind (arith, same_number, same_path-true)

-- those of two numbers name two paths
pub temps_apart : (cache : List ℕ) (n m : ℕ) (p r : List ℕ) (q : Names) → n < 2 ^ 64 → m < 2 ^ 64 → (n ≡ m → ⊥) → p ≡ temp_path cache n → r ≡ temp_path cache m
    → names_of p ≡ Ok q → is_at (names_of r) q ≡ false
temps_apart cache n m p r q few less apart from to e = search (rules, temps_named, apart_below)

-- ---- numbers

abbrev number_of : Option Call → Option ℕ
number_of None = None
number_of (Some call) = Some call.number

abbrev IsBelow : ℕ → Option ℕ → Type 0
IsBelow begun None = Unit {0}
IsBelow begun (Some n) = n < begun

abbrev AreApart : Option ℕ → Option ℕ → Type 0
AreApart None b = Unit {0}
AreApart (Some n) None = Unit {0}
AreApart (Some n) (Some m) = n ≡ m → ⊥

-- each number was given out, and no two calls have one
pub record Numbered (w : Now) : Type 0 where
  pub below : (k : ℕ) → IsBelow w.begun (number_of (w.calls k))
  pub apart : (j k : ℕ) → (j ≡ k → ⊥) → AreApart (number_of (w.calls j)) (number_of (w.calls k))

-- a caller has the same number, or none
abbrev Keeps : Option ℕ → Option ℕ → Type 0
Keeps None old = Unit {0}
Keeps (Some n) old = old ≡ Some n

keeps_below : (begun : ℕ) (new old : Option ℕ) → Keeps new old → IsBelow begun old → IsBelow begun new
keeps_below begun new old keeps h = grind (arith, common_steps)

keeps_apart : (new old other before : Option ℕ) → Keeps new old → Keeps other before → AreApart old before → AreApart new other
keeps_apart new old other before keeps same h = grind (arith, common_steps)

kept_numbered : (w new : Now) → new.begun ≡ w.begun → ((k : ℕ) → Keeps (number_of (new.calls k)) (number_of (w.calls k))) → Numbered w → Numbered new
kept_numbered w new same keeps h = search (rules, keeps_below, keeps_apart)

keeps_self : (o : Option ℕ) → Keeps o o
keeps_self o = grind (arith, common_steps)

set_keeps : (calls : ℕ → Option Call) (caller k : ℕ) (b : Bool) (call : Option Call) → (k == caller) ≡ b → Keeps (number_of call) (number_of (calls caller))
    → Keeps (number_of (cond b call (calls k))) (number_of (calls k))
set_keeps calls caller k b call is keeps = grind (arith, keeps_self)

moved_number : (t : Tree) (luck : Luck) (made : Option Made) (reply : Option Reply) (o : Option Call) → Keeps (number_of (unless_over reply (option_map (call_after t luck made) o))) (number_of o)
moved_number t luck made reply o = grind (arith, common_steps)

-- ---- a call that begins

more_below : (begun : ℕ) (o : Option ℕ) → IsBelow begun o → IsBelow (begun + 1) o
more_below begun o h = grind (arith, common_steps)

apart_new : (begun : ℕ) (o : Option ℕ) → IsBelow begun o → AreApart (Some begun) o
apart_new begun o h = grind (arith, common_steps)

new_apart : (begun : ℕ) (o : Option ℕ) → IsBelow begun o → AreApart o (Some begun)
new_apart begun o h = grind (arith, common_steps)

module _ (w : Now) (caller : ℕ) (call : Call) (is : call.number ≡ w.begun) (h : Numbered w) where
  began_below : (k : ℕ) (b : Bool) → IsBelow (w.begun + 1) (number_of (cond b (Some call) (w.calls k)))
  began_below k b = grind (arith, more_below)

  began_apart : (j k : ℕ) (a b : Bool) → (j ≡ k → ⊥) → (j == caller) ≡ a → (k == caller) ≡ b
      → AreApart (number_of (cond a (Some call) (w.calls j))) (number_of (cond b (Some call) (w.calls k)))
  began_apart j k a b differ e f = grind (arith, apart_new, new_apart)

-- ---- places of a history

pub next_numbered : (s : Setup) (w : Now) (r : Record) → Numbered w → Numbered (now_after s w r)
next_numbered s w r h = grind (arith, began_below, began_apart, kept_numbered, set_keeps, moved_number)

-- no fewer calls began after more records
pub more_begun : (s : Setup) (w : Now) (records : List Record) → w.begun ≤ (replayed s w records).begun
more_begun s w [] = omega arith
more_begun s w (Began caller command ∷ records) = omega (arith, more_begun s (now_after s w (Began caller command)) records)
more_begun s w (Moved caller luck made reply ∷ records) = more_begun s (now_after s w (Moved caller luck made reply)) records
more_begun s w (Stopped caller ∷ records) = more_begun s (now_after s w (Stopped caller)) records

-- ---- calls by their callers

pub first_numbered : (s : Setup) → Numbered (initial s)
first_numbered s = record { below = λ k. tt; apart = λ j k differ. tt }

module _ (w : Now) (h : Numbered w) where
  pub number_below : (k : ℕ) (a : Call) → w.calls k ≡ Some a → a.number < w.begun
  number_below k a is = subst (λ o. IsBelow w.begun (number_of o)) is (h.below k)

  pub numbers_apart : (j k : ℕ) (a b : Call) → (j ≡ k → ⊥) → w.calls j ≡ Some a → w.calls k ≡ Some b → a.number ≡ b.number → ⊥
  numbers_apart j k a b differ is here =
      subst (λ o. AreApart (Some a.number) (number_of o)) here (subst (λ o. AreApart (number_of o) (number_of (w.calls k))) is (h.apart j k differ))
